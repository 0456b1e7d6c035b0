use Rattle.fair.proofs.Comparing.{best_is_unique}
use Rattle.fair.proofs.acceptance.best_fair_is_unique.Goals as goal

pub returns : goal.returns
returns c = best_is_unique
