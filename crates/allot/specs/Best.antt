-- What asking for the best fair allotment over a choice answers, and what the list holds then.
use Rattle.std.specs.Prelude.{◌≡◌, ℕ, List, length, Ok, Err, Result, ◌≢◌}
use Rattle.orders.specs.Books.{Meaning}
use Rattle.fair.specs.Markets.{Figures}
use Rattle.fair.specs.Acceptance.{deferred_acceptance}
use Rattle.fair.specs.FromBooks.{Complete, market_of}
use Rattle.allot.specs.declared.fault.AllotFault.{AllotFault}
use Rattle.allot.specs.declared.fault.AllotFault.TheVariants.{Incomplete, Length}

-- It is written exactly when the books are complete for the figures and the list has a place for each taker. The list
-- comes first; refused, it is as it was.
abbrev pub BestFairWritten : Figures → (takers_book brews_book : Meaning) → (cs before : List ℕ) → Result (Unit {0}) AllotFault → (after : List ℕ) → Type 0
BestFairWritten f takers_book brews_book cs before (Ok _) after = Complete f takers_book brews_book × (length before ≡ f.takers) × (after ≡ deferred_acceptance (market_of f takers_book brews_book) cs)
BestFairWritten f takers_book brews_book cs before (Err Incomplete) after = (length before ≡ f.takers) × (Complete f takers_book brews_book → ⊥) × (after ≡ before)
BestFairWritten f takers_book brews_book cs before (Err Length) after = (length before ≢ f.takers) × (after ≡ before)
