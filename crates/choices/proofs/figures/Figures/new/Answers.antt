use Rattle.std.proofs.Common.{arith}
use Rattle.std.proofs.lemmas.Bool.Decides.{nat_tests}
use Rattle.choices.proofs.figures.Figures.new.Goals as goal

-- Answered so that each of the other limits is a goal of its own.
pub invariant_of-result-clause-some_opened : goal.invariant_of-result-clause-some_opened
invariant_of-result-clause-some_opened c = grind (arith, nat_tests)
