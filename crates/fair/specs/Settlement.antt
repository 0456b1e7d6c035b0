-- The settlement: one pass over all choices, holding what is better.
use Rattle.std.specs.Prelude.{◌≡◌, ℕ, zero, suc, ◌⊎◌, List, length}
use Rattle.fair.specs.Markets.{Market}
use Rattle.fair.specs.Choices.{choices, choice_at}
use Rattle.fair.specs.Allotments.{Feasible, Fair, FairOver, BestFair, NoneLower, gains, Better}

-- With h held and d the best fair allotment over the choice that comes, e is held from then on.
abbrev pub HeldNext : Market → List ℕ → List ℕ → List ℕ → Type 0
HeldNext w h d e = (Better w d h × (e ≡ d)) ⊎ ((Better w d h → ⊥) × (e ≡ h))

-- What is held after the first i choices, from the house choice on.
abbrev pub Held : Market → List ℕ → ℕ → List ℕ → Type 0
Held w house zero e = BestFair w house e
Held w house (suc i) e = (h : List ℕ) × (d : List ℕ) × Held w house i h × BestFair w (choice_at w.figures i) d × HeldNext w h d e

abbrev pub Settlement : Market → List ℕ → List ℕ → Type 0
Settlement w house a = Held w house (length (choices w.figures)) a

-- The gains of an allotment are n: so many takers rank their brew higher than in the house's best fair allotment.
abbrev pub Gains : Market → List ℕ → List ℕ → ℕ → Type 0
Gains w house a n = (b : List ℕ) × BestFair w house b × (gains w a b ≡ n)

-- Feasible and fair, for every taker at least as high as any feasible fair allotment over the house's brews,
-- and no feasible fair allotment, over whatever brews, is better.
pub record FairAndUnbettered (w : Market) (house a : List ℕ) : Type 0 where
  pub feasible : Feasible w a
  pub fair : Fair w a
  pub house_not_higher : (b : List ℕ) → FairOver w house b → NoneLower w a b
  pub none_better : (b : List ℕ) → Feasible w b → Fair w b → Better w b a → ⊥
