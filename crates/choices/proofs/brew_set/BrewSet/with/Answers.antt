use Rattle.std.proofs.Common.{refl}
use Rattle.choices.proofs.Adding.{added}
use Rattle.choices.proofs.brew_set.BrewSet.with.Goals as goal

pub returns : goal.returns
returns c = added c.args.self c.args.brew c.requires.low c.requires.high c.requires.new _ refl refl
