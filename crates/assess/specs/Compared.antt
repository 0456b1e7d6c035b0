-- Comparing two lists by the places of the takers' brews.
use Rattle.std.specs.Prelude.{◌≡◌, ℕ, ◌+◌, ◌<◌, ◌≤◌, List, Some, None, Option, nat_lt}
use Rattle.std.specs.declared.cmp.Ordering.{Ordering}
use Rattle.std.specs.Ordering.{MatchOrdering}
use Rattle.std.specs.Option.{unwrap_or}
use Rattle.orders.specs.Books.{Meaning, place_in}
use Rattle.fair.specs.Allotments.{brew_of}
use Rattle.tally.specs.Tally.{tally}

-- the place of the brew that taker s has in a list, in the takers' book
abbrev pub own_place : Meaning → List ℕ → ℕ → ℕ
own_place takers_book a s = unwrap_or (place_in takers_book (s + 1) (brew_of a s)) 0

-- how taker s stands in a, compared with b
abbrev pub Stands : Meaning → List ℕ → List ℕ → ℕ → Ordering → Type 0
Stands takers_book a b s r = MatchOrdering r (own_place takers_book a s < own_place takers_book b s) (own_place takers_book a s ≡ own_place takers_book b s) (own_place takers_book b s < own_place takers_book a s)

-- how many of the first n takers rank their brew in a higher than their brew in b
abbrev pub gains_to : Meaning → List ℕ → List ℕ → ℕ → ℕ
gains_to takers_book a b n = tally (λ s. nat_lt (own_place takers_book a s) (own_place takers_book b s)) n

-- The gains from b to a of the first n takers, or none where one of them is lower in a than in b.
abbrev pub GainsWithoutLoss : Meaning → List ℕ → List ℕ → ℕ → Option ℕ → Type 0
GainsWithoutLoss takers_book a b n (Some higher) = (gains_to takers_book b a n ≡ 0) × (higher ≡ gains_to takers_book a b n)
GainsWithoutLoss takers_book a b n None = 1 ≤ gains_to takers_book b a n
