-- The choices of a round: which brews are open.
use Rattle.std.specs.Prelude.{◌≡◌, ℕ, zero, suc, ◌<◌, ◌≤◌, Bool, false, ◌||◌, ◌⊎◌, List, [], ◌∷◌, ◌++◌, map, length, ◌==◌, slice_index_or}
use Rattle.std.specs.List.{range_with_len}
use Rattle.fair.specs.Markets.{Figures}

-- brew c is one of the list
abbrev pub among : List ℕ → ℕ → Bool
among [] c = false
among (d ∷ ds) c = d == c || among ds c

-- numbers above low and up to high, each above the one before
abbrev pub Ascending : ℕ → ℕ → List ℕ → Type 0
Ascending low high [] = Unit {0}
Ascending low high (c ∷ cs) = (low < c) × (c ≤ high) × Ascending c high cs

-- A choice: as many different brews as are to be opened, written ascending.
pub record IsChoice (f : Figures) (cs : List ℕ) : Type 0 where
  pub size : length cs ≡ f.opened
  pub ascending : Ascending 0 f.brews cs

-- One list comes before another: compared number by number from the front.
abbrev pub Before : List ℕ → List ℕ → Type 0
Before [] [] = ⊥
Before [] (d ∷ ds) = Unit {0}
Before (c ∷ cs) [] = ⊥
Before (c ∷ cs) (d ∷ ds) = (c < d) ⊎ ((c ≡ d) × Before cs ds)

-- the parts of a list with k entries: first those that begin with its first entry
abbrev pub picks : ℕ → List ℕ → List (List ℕ)
picks zero cs = [] ∷ []
picks (suc k) [] = []
picks (suc k) (c ∷ cs) = map (λ ds. c ∷ ds) (picks k cs) ++ picks (suc k) cs

abbrev pub choices : Figures → List (List ℕ)
choices f = picks f.opened (range_with_len 1 f.brews)

-- the choice with the ordinal i + 1
abbrev pub choice_at : Figures → ℕ → List ℕ
choice_at f i = slice_index_or (choices f) i []

-- A list of lists has each choice exactly once, and nothing else, in order.
pub record ListsTheChoices (f : Figures) (css : List (List ℕ)) : Type 0 where
  pub choices_only : (i : ℕ) → i < length css → IsChoice f (slice_index_or css i [])
  pub each : (cs : List ℕ) → IsChoice f cs → (i : ℕ) × (i < length css) × (slice_index_or css i [] ≡ cs)
  pub once : (i j : ℕ) → i < length css → j < length css → slice_index_or css i [] ≡ slice_index_or css j [] → i ≡ j
  pub in_order : (i j : ℕ) → i < j → j < length css → Before (slice_index_or css i []) (slice_index_or css j [])
