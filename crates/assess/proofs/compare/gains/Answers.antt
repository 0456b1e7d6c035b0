use Rattle.std.proofs.Common.{arith}
use Rattle.std.proofs.lemmas.Bool.{lt-ltb}
use Rattle.tally.proofs.Tallies.{tally_some}
use Rattle.assess.proofs.Gains.{gains_less, gains_equal}
use Rattle.assess.proofs.compare.gains.Goals as goal
use Rattle.assess.proofs.compare.gains.Goals.{in-Less, in-Equal}

pub returns-in-Greater : goal.returns-in-Greater
returns-in-Greater g c = tally_some _ c.args.n c.loop-taker.taker (omega arith) (lt-ltb _ _ c.in-Greater.ensures)

pub loop-taker-preserved : goal.loop-taker-preserved
loop-taker-preserved g c =
    elim c.match-standing.branch [
      | in-Less w ↦ gains_less c.loop-taker.invariant w.in-Less.ensures w.higher-is
      | in-Equal w ↦ gains_equal c.loop-taker.invariant w.in-Equal.ensures w.higher-is
    ]
