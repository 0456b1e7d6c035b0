use Rattle.std.proofs.Common.{◌∙◌}
use Rattle.allot.proofs.Facts.{is_placed, placed_at}
use Rattle.allot.proofs.Moving.{first_fits, taker_places, room_to_wait, place_within_brews, has_next, moved_considered}
use Rattle.allot.proofs.run.Run.move_on.Goals as goal

pub unwrap-place-requires : goal.unwrap-place-requires
unwrap-place-requires g c = is_placed c.place.ensures (taker_places c.requires c.from-brew.ensures)

pub next_brew-requires-clause-place : goal.next_brew-requires-clause-place
next_brew-requires-clause-place g c = place_within_brews c.requires c.from-brew.ensures (c.from.ensures ∙ placed_at c.place.ensures c.unwrap-place.ensures)

pub unwrap-next-requires : goal.unwrap-next-requires
unwrap-next-requires g c = has_next c.requires c.from-brew.ensures (c.from.ensures ∙ placed_at c.place.ensures c.unwrap-place.ensures) c.next_brew.result c.next_brew.ensures

pub wait-requires : goal.wait-requires
wait-requires g c = (first_fits c.requires.state, room_to_wait c.requires)

pub returns : goal.returns
returns g c = moved_considered c.requires c.from-brew.ensures (c.from.ensures ∙ placed_at c.place.ensures c.unwrap-place.ensures) c.next_brew.ensures c.unwrap-next.ensures c.wait.ensures
