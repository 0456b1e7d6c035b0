use Rattle.fair_examples.proofs.Rows.{worked}
use Rattle.fair_examples.proofs.worked_rounds.Goals as goal

pub returns : goal.returns
returns c = worked
