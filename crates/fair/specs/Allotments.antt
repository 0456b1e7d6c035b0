-- Allotments: what makes one feasible, fair, better than another, and best over a choice.
use Rattle.std.specs.Prelude.{◌≡◌, ℕ, ◌<◌, ◌≤◌, Bool, false, ◌&&◌, ◌||◌, ◌⊎◌, List, length, ◌==◌, nat_eq, nat_lt, slice_index}
use Rattle.std.specs.List.{range_with_len}
use Rattle.tally.specs.Tally.{tally, sum_below, total}
use Rattle.fair.specs.Markets.{Market, lots_of, prefers, favours, IsBrew}
use Rattle.fair.specs.Choices.{among}

-- An allotment is the list of the takers' brews. The brew of taker s:
abbrev pub brew_of : List ℕ → ℕ → ℕ
brew_of a s = slice_index a s

-- how many takers have brew c
abbrev pub takers_with : Market → List ℕ → ℕ → ℕ
takers_with w a c = tally (λ s. nat_eq (brew_of a s) c) w.figures.takers

-- Every taker has one of the round's brews.
pub record NamesBrews (w : Market) (a : List ℕ) : Type 0 where
  pub each : length a ≡ w.figures.takers
  pub known : (s : ℕ) → s < w.figures.takers → IsBrew w (brew_of a s)

-- Brew c has no taker, or one for each of its lots.
abbrev pub FullOrClosed : Market → List ℕ → ℕ → Type 0
FullOrClosed w a c = (takers_with w a c ≡ 0) ⊎ (takers_with w a c ≡ lots_of w.figures c)

pub record Feasible (w : Market) (a : List ℕ) : Type 0 where
  pub names_brews : NamesBrews w a
  pub full : (c : ℕ) → FullOrClosed w a c

-- The brews that have takers are just those of the list.
abbrev pub Over : Market → List ℕ → List ℕ → Type 0
Over w cs a = (c : ℕ) → nat_lt 0 (takers_with w a c) ≡ among cs c

-- Taker s justly envies taker t over brew c: t has c, s ranks c above the brew it has, and c ranks s above t.
abbrev pub justly_envies : Market → List ℕ → ℕ → ℕ → ℕ → Bool
justly_envies w a s t c = brew_of a t == c && (prefers w s c (brew_of a s) && favours w c s t)

-- No taker justly envies another.
abbrev pub Fair : Market → List ℕ → Type 0
Fair w a = (s t c : ℕ) → s < w.figures.takers → t < w.figures.takers → justly_envies w a s t c ≡ false

-- how many just envies there are, each a taker, a brew and a rival who has it
abbrev pub envies : Market → List ℕ → ℕ
envies w a = sum_below (λ s. total (λ c. tally (λ t. justly_envies w a s t c) w.figures.takers) (range_with_len 1 w.figures.brews)) w.figures.takers

-- No taker ranks its brew in a lower than its brew in b.
abbrev pub NoneLower : Market → List ℕ → List ℕ → Type 0
NoneLower w a b = (s : ℕ) → s < w.figures.takers → w.brew_place s (brew_of a s) ≤ w.brew_place s (brew_of b s)

-- how many takers rank their brew in a higher than their brew in b
abbrev pub gains : Market → List ℕ → List ℕ → ℕ
gains w a b = tally (λ s. prefers w s (brew_of a s) (brew_of b s)) w.figures.takers

-- a is better than b: no taker is lower, and at least one is higher.
pub record Better (w : Market) (a b : List ℕ) : Type 0 where
  pub none_lower : NoneLower w a b
  pub some_higher : 1 ≤ gains w a b

-- Feasible and fair, over just the brews of the list.
pub record FairOver (w : Market) (cs a : List ℕ) : Type 0 where
  pub feasible : Feasible w a
  pub over : Over w cs a
  pub fair : Fair w a

-- The same, and for every taker at least as high as any other such allotment.
pub record BestFair (w : Market) (cs a : List ℕ) : Type 0 where
  pub fair_over : FairOver w cs a
  pub best : (b : List ℕ) → FairOver w cs b → NoneLower w a b

-- how many takers have brew c or rank it above their own
abbrev pub claimants : Market → List ℕ → ℕ → ℕ
claimants w a c = tally (λ s. (brew_of a s == c) || prefers w s c (brew_of a s)) w.figures.takers
