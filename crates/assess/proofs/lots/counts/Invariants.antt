use Rattle.assess.specs.Lots.{CountsTo}
use Rattle.assess.proofs.lots.counts.Given as goal

abbrev pub invariant-loop-entry : goal.invariant-loop-entry
invariant-loop-entry l = CountsTo l.brews l.allotment l.entry-index l.counts
