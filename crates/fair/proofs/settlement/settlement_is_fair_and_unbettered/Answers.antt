use Rattle.fair.proofs.Settling.{settlement_fair_and_unbettered}
use Rattle.fair.proofs.settlement.settlement_is_fair_and_unbettered.Goals as goal

pub returns : goal.returns
returns c = settlement_fair_and_unbettered
