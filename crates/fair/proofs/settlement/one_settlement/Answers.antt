use Rattle.fair.proofs.Settling.{settlement_exists, settlement_unique}
use Rattle.fair.proofs.settlement.one_settlement.Goals as goal

pub returns : goal.returns
returns c = λ w sound house choice. (_, settlement_exists w sound house choice, λ b settled. settlement_unique w sound house choice b _ settled (settlement_exists w sound house choice))
