-- The tests of a proposed list, in their order, and what each names.
use Rattle.std.specs.Prelude.{◌≡◌, ℕ, ◌-◌, ◌<◌, ◌≤◌, true, false, List, length}
use Rattle.orders.specs.Books.{within}
use Rattle.fair.specs.Markets.{Market, IsBrew}
use Rattle.fair.specs.Choices.{choices, choice_at}
use Rattle.fair.specs.Allotments.{brew_of, NamesBrews, FullOrClosed, Feasible, justly_envies, Fair, BestFair, NoneLower, Better}

-- k is the lowest of 1 to n of which P holds
pub record Lowest (n : ℕ) (P : ℕ → Type 0) (k : ℕ) : Type 0 where
  pub low : 1 ≤ k
  pub high : k ≤ n
  pub holds : P k
  pub not_before : (j : ℕ) → 1 ≤ j → j < k → P j → ⊥

-- taker s has no brew of the round
abbrev pub Brewless : Market → List ℕ → ℕ → Type 0
Brewless w a s = within (brew_of a s) w.figures.brews ≡ false

-- taker s has a just envy
abbrev pub Envious : Market → List ℕ → ℕ → Type 0
Envious w a s = (t : ℕ) × (c : ℕ) × (t < w.figures.takers) × (justly_envies w a s t c ≡ true)

-- taker s is lower than in the house's best fair allotment
abbrev pub LowerThanHouse : Market → List ℕ → List ℕ → ℕ → Type 0
LowerThanHouse w house a s = (b : List ℕ) × BestFair w house b × (w.brew_place s (brew_of b s) < w.brew_place s (brew_of a s))

-- no taker is
abbrev pub NotLowerThanHouse : Market → List ℕ → List ℕ → Type 0
NotLowerThanHouse w house a = (b : List ℕ) → BestFair w house b → NoneLower w a b

-- the best fair allotment over the choice at index i is better
abbrev pub BetterOver : Market → List ℕ → ℕ → Type 0
BetterOver w a i = (d : List ℕ) × BestFair w (choice_at w.figures i) d × Better w d a

-- The list passes all five tests.
pub record Passes (w : Market) (house a : List ℕ) : Type 0 where
  pub names_brews : NamesBrews w a
  pub full : (c : ℕ) → IsBrew w c → FullOrClosed w a c
  pub fair : Fair w a
  pub not_lower : NotLowerThanHouse w house a
  pub not_bettered : (i : ℕ) → i < length (choices w.figures) → BetterOver w a i → ⊥

-- A list passes, or one test is the first that it fails: by its length or the lowest taker without a brew of the round,
-- by the lowest brew, the lowest taker twice, or the lowest ordinal. Takers and ordinals are told by number, from 1.
pub data Verdict : Type 0 where
  Passed : Verdict
  WrongLength : Verdict
  NoBrew : (taker : ℕ) → Verdict
  NotFull : (brew : ℕ) → Verdict
  Envies : (taker : ℕ) → Verdict
  Lower : (taker : ℕ) → Verdict
  Bettered : (ordinal : ℕ) → Verdict

abbrev pub Judged : Market → List ℕ → List ℕ → Verdict → Type 0
Judged w house a Passed = Passes w house a
Judged w house a WrongLength = length a ≡ w.figures.takers → ⊥
Judged w house a (NoBrew t) = (length a ≡ w.figures.takers) × Lowest w.figures.takers (λ k. Brewless w a (k - 1)) t
Judged w house a (NotFull c) = NamesBrews w a × Lowest w.figures.brews (λ k. FullOrClosed w a k → ⊥) c
Judged w house a (Envies t) = Feasible w a × Lowest w.figures.takers (λ k. Envious w a (k - 1)) t
Judged w house a (Lower t) = Feasible w a × Fair w a × Lowest w.figures.takers (λ k. LowerThanHouse w house a (k - 1)) t
Judged w house a (Bettered o) = Feasible w a × Fair w a × NotLowerThanHouse w house a × Lowest (length (choices w.figures)) (λ k. BetterOver w a (k - 1)) o
