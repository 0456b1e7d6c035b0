use Rattle.fair.proofs.Envying.{fair_without_envies, without_envies_fair}
use Rattle.fair.proofs.envies.fair_without_envies.Goals as goal

pub returns : goal.returns
returns c = λ w a named. (fair_without_envies w a, without_envies_fair w a named)
