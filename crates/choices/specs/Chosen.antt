-- What a choice is: its brews, and what the calls on it answer.
use Rattle.std.specs.Prelude.{ℕ, List}
use Rattle.choices.specs.declared.choice.Choice.{Choice}
use Rattle.choices.specs.Bits.{brews_in}

-- the brews of a choice, ascending
abbrev pub brews_of : Choice → List ℕ
brews_of c = brews_in 0 c.figures.brews c.bits
