use Rattle.std.proofs.Common.{length}
use Rattle.line.specs.Waiting.{held}
use Rattle.worked.proofs.print_envies.Given as goal

abbrev pub decreases-loop-envy : goal.decreases-loop-envy
decreases-loop-envy g l = length (held l.line l.slots)
