use Rattle.std.proofs.Common.{◌-◌, filter}
use Rattle.std.specs.Fmt.{HasWritten, IsPlainFormatter}
use Rattle.std.specs.List.{range_with_len}
use Rattle.choices.specs.Chosen.{brews_of}
use Rattle.fair.specs.Choices.{among}
use Rattle.worked.specs.Printed.{spaced}
use Rattle.worked.proofs.text.OpenedDisplay.fmt.Given as goal

abbrev pub invariant-loop-brew : goal.invariant-loop-brew
invariant-loop-brew g l = IsPlainFormatter l.initial.f → HasWritten g.W.Write.write_str_gives l.initial.f (spaced (filter (among (brews_of l.self.0.now)) (range_with_len 1 (l.brew-counter - 1)))) l.f
