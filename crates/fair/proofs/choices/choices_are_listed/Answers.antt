use Rattle.fair.proofs.Listing.{choices_listed}
use Rattle.fair.proofs.choices.choices_are_listed.Goals as goal

pub returns : goal.returns
returns c = choices_listed
