-- Small rounds worked by hand, as facts about the definitions.
use Rattle.std.specs.Prelude.{◌≡◌, ℕ, ◌+◌, ◌-◌, cond, List, [], ◌∷◌, length, Some, None, ◌==◌, slice_index, slice_index_or}
use Rattle.orders.specs.Books.{Meaning, Sound}
use Rattle.cards.specs.Worked.{WorkedCards}
use Rattle.tally.specs.Tally.{position}
use Rattle.fair.specs.Markets.{Figures, InLimits, Market, SoundMarket}
use Rattle.fair.specs.Choices.{IsChoice}
use Rattle.fair.specs.Allotments.{BestFair, claimants, envies}
use Rattle.fair.specs.Acceptance.{deferred_acceptance}
use Rattle.fair.specs.Settlement.{Settlement, Gains}
use Rattle.fair.specs.Proposals.{Passed, WrongLength, NoBrew, NotFull, Envies, Lower, Bettered, Judged}
use Rattle.fair.specs.FromBooks.{Complete}

abbrev pub list3 : ℕ → ℕ → ℕ → List ℕ
list3 a b c = a ∷ b ∷ c ∷ []

abbrev pub list5 : ℕ → ℕ → ℕ → ℕ → ℕ → List ℕ
list5 a b c d e = a ∷ b ∷ list3 c d e

abbrev pub list6 : ℕ → ℕ → ℕ → ℕ → ℕ → ℕ → List ℕ
list6 a b c d e f = a ∷ list5 b c d e f

-- the place of x in the list, from 1, or 0 where it does not stand there
abbrev pub place_of : List ℕ → ℕ → ℕ
place_of xs x = position (λ k. slice_index xs k) x (length xs)

-- The market of two tables: the brews in the order of each taker, and the takers' numbers in the order of each brew.
abbrev pub in_orders : Figures → List (List ℕ) → List (List ℕ) → Market
in_orders f xs ys = record { figures = f; brew_place = λ s c. place_of (slice_index_or xs s []) c; taker_place = λ c s. place_of (slice_index_or ys (c - 1) []) (s + 1) }

-- Six takers and five brews, of which three are opened with two lots each.
abbrev pub six_takers : Market
six_takers = in_orders (record { brews = 5; opened = 3; lots = 2; takers = 6 })
    (list5 4 1 2 3 5 ∷ list5 1 5 4 3 2 ∷ list5 4 2 3 1 5 ∷ list5 5 4 1 3 2 ∷ list5 5 2 1 3 4 ∷ list5 2 1 4 5 3 ∷ [])
    (list6 1 4 5 6 2 3 ∷ list6 6 3 5 2 1 4 ∷ list6 2 5 1 3 4 6 ∷ list6 1 3 6 4 5 2 ∷ list6 4 2 3 5 6 1 ∷ [])

-- Three takers and three brews with one lot each.
abbrev pub three_takers : Market
three_takers = in_orders (record { brews = 3; opened = 3; lots = 1; takers = 3 })
    (list3 2 1 3 ∷ list3 1 3 2 ∷ list3 1 2 3 ∷ [])
    (list3 1 2 3 ∷ list3 2 3 1 ∷ list3 3 1 2 ∷ [])

-- Six takers and three brews with two lots each.
abbrev pub three_brews : Market
three_brews = in_orders (record { brews = 3; opened = 3; lots = 2; takers = 6 })
    (list3 2 1 3 ∷ list3 2 1 3 ∷ list3 1 2 3 ∷ list3 1 2 3 ∷ list3 1 2 3 ∷ list3 1 2 3 ∷ [])
    (list6 1 2 5 6 3 4 ∷ list6 3 4 1 2 5 6 ∷ list6 3 4 1 2 5 6 ∷ [])

-- One taker, one brew, one lot, and a book for either side.
abbrev pub one_of_each : Figures
one_of_each = record { brews = 1; opened = 1; lots = 1; takers = 1 }

abbrev pub single : Meaning
single = record { choosers = 1; items = 1; order = λ k. cond (k == 1) (Some (1 ∷ [])) None }

pub record WorkedRounds : Type 0 where
  -- the six takers
  pub six_sound : SoundMarket six_takers
  pub house_123 : IsChoice six_takers.figures (list3 1 2 3)
  pub accepted_123 : deferred_acceptance six_takers (list3 1 2 3) ≡ list6 1 3 2 1 3 2
  pub best_123 : BestFair six_takers (list3 1 2 3) (list6 1 3 2 1 3 2)
  pub accepted_124 : deferred_acceptance six_takers (list3 1 2 4) ≡ list6 4 1 4 1 2 2
  pub best_124 : BestFair six_takers (list3 1 2 4) (list6 4 1 4 1 2 2)
  pub accepted_125 : deferred_acceptance six_takers (list3 1 2 5) ≡ list6 1 1 2 5 5 2
  pub best_125 : BestFair six_takers (list3 1 2 5) (list6 1 1 2 5 5 2)
  pub settled_123 : Settlement six_takers (list3 1 2 3) (list6 4 1 4 1 2 2)
  pub gains_123 : Gains six_takers (list3 1 2 3) (list6 4 1 4 1 2 2) 4
  pub settled_125 : Settlement six_takers (list3 1 2 5) (list6 1 1 2 5 5 2)
  pub gains_125 : Gains six_takers (list3 1 2 5) (list6 1 1 2 5 5 2) 0
  pub settled_345 : Settlement six_takers (list3 3 4 5) (list6 4 1 4 5 5 1)
  pub gains_345 : Gains six_takers (list3 3 4 5) (list6 4 1 4 5 5 1) 3
  -- proposals to them, with the house's brews 1, 2 and 3
  pub bettered : Judged six_takers (list3 1 2 3) (list6 1 3 2 1 3 2) (Bettered 2)
  pub passed : Judged six_takers (list3 1 2 3) (list6 1 1 2 5 5 2) Passed
  pub gains_passed : Gains six_takers (list3 1 2 3) (list6 1 1 2 5 5 2) 3
  pub lower : Judged six_takers (list3 1 2 3) (list6 4 1 4 5 5 1) (Lower 6)
  pub not_full : Judged six_takers (list3 1 2 3) (list6 1 1 1 1 1 1) (NotFull 1)
  pub no_brew : Judged six_takers (list3 1 2 3) (list6 1 1 1 1 1 6) (NoBrew 6)
  pub short : Judged six_takers (list3 1 2 3) (list5 1 1 1 1 1) WrongLength
  -- nobody claims brew 3 when the settlement is held
  pub no_claimants : claimants six_takers (list6 4 1 4 1 2 2) 3 ≡ 0
  -- the three takers
  pub three_sound : SoundMarket three_takers
  pub accepted_three : deferred_acceptance three_takers (list3 1 2 3) ≡ list3 1 3 2
  pub best_three : BestFair three_takers (list3 1 2 3) (list3 1 3 2)
  -- the three brews
  pub brews_sound : SoundMarket three_brews
  pub envious : Judged three_brews (list3 1 2 3) (list6 2 2 1 1 3 3) (Envies 5)
  pub four_envies : envies three_brews (list6 2 2 1 1 3 3) ≡ 4
  -- the books of the single taker and the single brew
  pub single_sound : Sound single
  pub one_in_limits : InLimits one_of_each
  pub single_complete : Complete one_of_each single single
  -- cards
  pub cards : WorkedCards
