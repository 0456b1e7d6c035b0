use Rattle.fair.proofs.Settling.{too_few_claimants}
use Rattle.fair.proofs.settlement.too_few_claimants.Goals as goal

pub returns : goal.returns
returns c = λ w sound held feasible. too_few_claimants w sound held feasible.names_brews
