use Rattle.fair.proofs.Feasibles.{feasible_over_an_ordinal}
use Rattle.fair.proofs.choices.feasible_is_over_a_choice.Goals as goal

pub returns : goal.returns
returns c = λ w sound. feasible_over_an_ordinal w sound.limits
