use Rattle.std.proofs.Common.{◌+◌}
use Rattle.std.specs.Option.{option_map_or}
use Rattle.choices.specs.declared.choice.Choice.{Choice}
use Rattle.worked.proofs.print_choices.Given as goal

-- each choice is kept as a lower number than the one before it
abbrev pub decreases-loop-next : goal.decreases-loop-next
decreases-loop-next g l = option_map_or (λ (c : Choice). c.bits + 1) l.next 0
