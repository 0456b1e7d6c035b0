use Rattle.fair.proofs.Settling.{passed_fair_and_unbettered}
use Rattle.fair.proofs.proposals.passed_is_fair_and_unbettered.Goals as goal

pub returns : goal.returns
returns c = passed_fair_and_unbettered
