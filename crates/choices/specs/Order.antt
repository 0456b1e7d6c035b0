-- The order of the choices, and of the numbers that stand for them.
use Rattle.std.specs.Prelude.{◌≡◌, ℕ, zero, suc, ◌+◌, ◌-◌, ◌^◌, ◌<◌, ◌≤◌, Bool, cond, List, [], ◌∷◌, length, Some, None, Option, ◌==◌, count_by, count_ones}
use Rattle.std.specs.List.{range_with_len}
use Rattle.fair.specs.Choices.{choices, choice_at}
use Rattle.fair.specs.Markets.{Figures as Fair}
use Rattle.choices.specs.declared.choice.Choice.{Choice}
use Rattle.choices.specs.declared.figures.Figures.{Figures}
use Rattle.choices.specs.Chosen.{brews_of}
use Rattle.choices.specs.Rounds.{figures_of}

-- a list is the choice at index i
abbrev pub StandsAt : Fair → ℕ → List ℕ → Type 0
StandsAt f i cs = (i < length (choices f)) × (choice_at f i ≡ cs)

-- The first choice of a round, which has one.
abbrev pub FirstOf : Figures → Choice → Type 0
FirstOf f c = (c.figures ≡ f) × StandsAt (figures_of f) 0 (brews_of c)

-- The choice behind another, none behind the last. Its number is lower, so that going on comes to an end.
abbrev pub NextOf : Choice → Option Choice → Type 0
NextOf c (Some d) = (d.figures ≡ c.figures) × (d.bits < c.bits) × ((i : ℕ) → StandsAt (figures_of c.figures) i (brews_of c) → StandsAt (figures_of c.figures) (i + 1) (brews_of d))
NextOf c None = (i : ℕ) → StandsAt (figures_of c.figures) i (brews_of c) → length (choices (figures_of c.figures)) ≡ i + 1

-- Its ordinal counts from 1.
abbrev pub OrdinalOf : Choice → ℕ → Type 0
OrdinalOf c r = (1 ≤ r) × StandsAt (figures_of c.figures) (r - 1) (brews_of c)

-- The numbers behind the calls: the higher number is the earlier choice.

-- a number below 2 ^ f.brews stands for a choice of the round: it has a one for each brew that is opened
abbrev pub is_choice : Figures → ℕ → Bool
is_choice f bits = count_ones bits == f.opened

-- the numbers below b that pass a test, the highest first
abbrev pub passing : (ℕ → Bool) → ℕ → List ℕ
passing p zero = []
passing p (suc b) = cond (p b) (b ∷ passing p b) (passing p b)

-- the numbers below b that stand for choices
abbrev pub choices_below : Figures → ℕ → List ℕ
choices_below f = passing (is_choice f)

-- the first of them, as a choice
abbrev pub HighestBelow : Figures → ℕ → Option Choice → Type 0
HighestBelow f b (Some c) = (c.figures ≡ f) × (c.bits < b) × (choices_below f b ≡ c.bits ∷ choices_below f c.bits)
HighestBelow f b None = choices_below f b ≡ []

-- how many numbers from b on stand for choices
abbrev pub choices_from : Figures → ℕ → ℕ
choices_from f b = count_by (is_choice f) (range_with_len b (2 ^ f.brews - b))
