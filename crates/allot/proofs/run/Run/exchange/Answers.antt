use Rattle.std.proofs.Common.{refl, ◌∙◌, arith}
use Rattle.allot.proofs.Facts.{placed_at}
use Rattle.allot.proofs.Moving.{stands_at_a_brew, has_last, last_fits, some_held, exchange_next}
use Rattle.allot.proofs.run.Run.exchange.Goals as goal

pub unwrap-requires : goal.unwrap-requires
unwrap-requires g c = has_last c.requires.before c.from-brew.ensures c.requires.full

pub taker_at-refused-requires-clause-brew : goal.taker_at-refused-requires-clause-brew
taker_at-refused-requires-clause-brew g c = stands_at_a_brew c.requires.before c.from-brew.ensures

pub taker_at-refused-requires-clause-place : goal.taker_at-refused-requires-clause-place
taker_at-refused-requires-clause-place g c = omega (arith, last_fits c.requires.before c.from-brew.ensures (c.from-last.ensures ∙ placed_at refl c.unwrap.ensures) c.requires.full)

pub last_held-requires-clause-places : goal.last_held-requires-clause-places
last_held-requires-clause-places g c = omega (arith, last_fits c.requires.before c.from-brew.ensures (c.from-last.ensures ∙ placed_at refl c.unwrap.ensures) c.requires.full)

pub unwrap-before-requires : goal.unwrap-before-requires
unwrap-before-requires g c = some_held c.requires.before c.from-brew.ensures (c.from-last.ensures ∙ placed_at refl c.unwrap.ensures) c.requires.full c.taker_at-refused.ensures c.last_held.result c.last_held.ensures

pub returns-clause-refused : goal.returns-clause-refused
returns-clause-refused g c =
    exchange_next c.requires.before c.from-brew.ensures (c.from-last.ensures ∙ placed_at refl c.unwrap.ensures) c.requires.full c.taker_at-refused.ensures c.last_held.ensures c.unwrap-before.ensures refl refl refl
