use Rattle.allot.proofs.Moving.{finished}
use Rattle.allot.proofs.run.Run.ends_in_acceptance.Goals as goal

pub returns : goal.returns
returns g c = finished c.requires.before c.requires.none
