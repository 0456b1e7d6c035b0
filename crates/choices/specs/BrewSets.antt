-- A set of a round's brews, and what it is after a brew is put in.
use Rattle.std.specs.Prelude.{◌≡◌, ℕ, ◌+◌, Bool, not, ◌&&◌, ◌||◌, List, length, ◌==◌}
use Rattle.orders.specs.Books.{within}
use Rattle.fair.specs.Choices.{among}
use Rattle.choices.specs.declared.brew_set.BrewSet.{BrewSet}
use Rattle.choices.specs.Bits.{brews_in}

-- the brews of a set, ascending
abbrev pub members : BrewSet → List ℕ
members s = brews_in 0 s.brews s.bits

-- a brew of the round that a set has not yet
abbrev pub is_new : BrewSet → ℕ → Bool
is_new s brew = within brew s.brews && not (among (members s) brew)

-- A set after a brew is added that it had not.
pub record Added (before : BrewSet) (brew : ℕ) (after : BrewSet) : Type 0 where
  pub round : after.brews ≡ before.brews
  pub larger : length (members after) ≡ length (members before) + 1
  pub held : (c : ℕ) → among (members after) c ≡ (brew == c || among (members before) c)
