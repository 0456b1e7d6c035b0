use Rattle.choices.specs.Lists.{GatheredTo}
use Rattle.choices.proofs.choice.makes.gather.Given as goal

abbrev pub invariant-loop-k : goal.invariant-loop-k
invariant-loop-k l = GatheredTo l.fn.figures.brews l.list l.k l.set
