-- The search for a taker with a just envy.
use Rattle.std.specs.Prelude.{ℕ, ◌-◌, Bool, ◌&&◌, List, Some, None, Option, nat_lt}
use Rattle.std.specs.Option.{unwrap_or}
use Rattle.orders.specs.Books.{Meaning, place_in}
use Rattle.fair.specs.Allotments.{brew_of, Fair}
use Rattle.fair.specs.Markets.{Market, favours, prefers}
use Rattle.fair.specs.Proposals.{Envious, Lowest}

-- a chooser of the book ranks one item above another; a missing place is 0
abbrev pub ranks_above : Meaning → (chooser item other : ℕ) → Bool
ranks_above book chooser item other = nat_lt (unwrap_or (place_in book chooser item) 0) (unwrap_or (place_in book chooser other) 0)

-- taker s justly envies taker t the brew that t has
abbrev pub envies_rival : Market → List ℕ → ℕ → ℕ → Bool
envies_rival w a s t = prefers w s (brew_of a t) (brew_of a s) && favours w (brew_of a t) s t

-- The lowest taker with a just envy, or none, and then the list is fair.
abbrev pub LowestEnvious : Market → List ℕ → Option ℕ → Type 0
LowestEnvious w a (Some k) = Lowest w.figures.takers (λ j. Envious w a (j - 1)) k
LowestEnvious w a None = Fair w a
