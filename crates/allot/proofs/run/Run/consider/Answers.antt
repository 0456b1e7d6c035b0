use Rattle.std.proofs.Common.{sym, arith}
use Rattle.std.proofs.lemmas.Bool.{ltb-true, ltb-false}
use Rattle.allot.proofs.Facts.{is_placed, placed_at}
use Rattle.allot.proofs.Moving.{first_fits, brew_places, its_brew_fits, refused_next, held_considered}
use Rattle.allot.proofs.run.Run.consider.Goals as goal

pub unwrap-place-requires : goal.unwrap-place-requires
unwrap-place-requires g c = is_placed c.place.ensures (brew_places c.requires c.from-brew.ensures)

pub has_lot-requires : goal.has_lot-requires
has_lot-requires g c = its_brew_fits c.requires c.from-brew.ensures

pub hold-requires : goal.hold-requires
hold-requires g c =
    let lot = ltb-true _ _ (sym c.if-has_lot.ensures) in
    (first_fits c.requires, its_brew_fits c.requires c.from-brew.ensures, omega (arith, lot, c.args.market.now.choice.now.figures.few_lots))

pub move_on-requires-else-is_behind : goal.move_on-requires-else-is_behind
move_on-requires-else-is_behind g c = refused_next c.requires c.from-brew.ensures (placed_at c.place.ensures c.unwrap-place.ensures) (ltb-false _ _ (sym c.if-has_lot.ensures)) (ltb-false _ _ (sym c.if-is_behind.ensures))

pub returns-then-has_lot : goal.returns-then-has_lot
returns-then-has_lot g c = held_considered c.requires c.from-brew.ensures (placed_at c.place.ensures c.unwrap-place.ensures) (ltb-true _ _ (sym c.if-has_lot.ensures)) c.hold.ensures
