use Rattle.std.proofs.Common.{◌≡◌}
use Rattle.choices.specs.Order.{choices_below}
use Rattle.choices.proofs.choice.order.highest_below.Given as goal

abbrev pub invariant-loop-lower : goal.invariant-loop-lower
invariant-loop-lower l = choices_below l.figures l.lower ≡ choices_below l.figures l.bits
