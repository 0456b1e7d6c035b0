-- What an order book means and what each call on one does to that meaning.
use Rattle.std.specs.Prelude.{◌≡◌, ℕ, ◌-◌, ◌*◌, ◌<◌, ◌≤◌, Bool, true, false, cond, ◌&&◌, List, length, Some, None, Ok, Err, Option, Result, ◌==◌, nat_le, slice_index}
use Rattle.std.specs.Option.{option_map}
use Rattle.orders.specs.declared.fault.CardFault.{CardFault}
use Rattle.orders.specs.declared.fault.BookFault.{BookFault}
use Rattle.orders.specs.declared.fault.BookFault.TheVariants.{Size, Chooser, Card}
use Rattle.orders.specs.Refusals.{book_refusal}
use Rattle.refusal.specs.Told.{told}

-- k is one of 1 to n
abbrev pub within : ℕ → ℕ → Bool
within k n = nat_le 1 k && nat_le k n

-- An order of the items, as the list of their places in item order:
-- each item has a place from 1 (best) to the number of items, and no two the same.
pub record IsOrder (items : ℕ) (places : List ℕ) : Type 0 where
  pub each : length places ≡ items
  pub low : (i : ℕ) → i < items → 1 ≤ slice_index places i
  pub high : (i : ℕ) → i < items → slice_index places i ≤ items
  pub apart : (i j : ℕ) → i < items → j < items → slice_index places i ≡ slice_index places j → i ≡ j

-- A book: how many choosers and items it has, and the order of each chooser, by number from 1, or none yet.
pub record Meaning : Type 0 where
  pub choosers : ℕ
  pub items : ℕ
  pub order : ℕ → Option (List ℕ)

-- How a kind of book reads a card: from the number of items, the chooser and the card's bytes to an order or a fault.
abbrev pub Reading : Type 0
Reading = ℕ → ℕ → List ℕ → Result (List ℕ) CardFault

abbrev pub ReadsOrders : Reading → Type 0
ReadsOrders reading = (items chooser : ℕ) (card places : List ℕ) → reading items chooser card ≡ Ok places → IsOrder items places

-- the choosers and items a book can be cleared to
abbrev pub fits : ℕ → ℕ → Bool
fits choosers items = within choosers 432 && (within items 432 && nat_le (choosers * items) 6912)

-- a book of that many choosers and items in which nobody has an order
abbrev pub blank : ℕ → ℕ → Meaning
blank choosers items = record { choosers = choosers; items = items; order = λ _. None }

-- the same book but for the order of one chooser
abbrev pub entered : Meaning → ℕ → List ℕ → Meaning
entered book chooser places = record { choosers = book.choosers; items = book.items; order = λ k. cond (k == chooser) (Some places) (book.order k) }

-- the place of an item, by number from 1, with a chooser
abbrev pub place_in : Meaning → ℕ → ℕ → Option ℕ
place_in book chooser item = cond (within chooser book.choosers && within item book.items) (option_map (λ places. slice_index places (item - 1)) (book.order chooser)) None

-- what a book answers to a chooser's card, whose reading is given
abbrev pub of_chooser : ℕ → Result (List ℕ) CardFault → Result (List ℕ) BookFault
of_chooser chooser (Ok places) = Ok places
of_chooser chooser (Err fault) = Err (Card (record { chooser = chooser; fault = fault }))

-- what a book makes of a card: a chooser out of range comes first, then the kind reads
abbrev pub read_card : Reading → Meaning → ℕ → List ℕ → Result (List ℕ) BookFault
read_card reading book chooser card = cond (within chooser book.choosers) (of_chooser chooser (reading book.items chooser card)) (Err Chooser)

-- Reading a card into a row of places: what the card is read as, the row before, the answer and the row after.
abbrev pub ReadInto : Result (List ℕ) CardFault → List ℕ → Result (Unit {0}) CardFault → List ℕ → Type 0
ReadInto reading before (Ok _) after = reading ≡ Ok after
ReadInto reading before (Err fault) after = (reading ≡ Err fault) × (after ≡ before)

-- Clearing a book: what it answers, with the book before and after.
abbrev pub Cleared : ℕ → ℕ → Meaning → Result (Unit {0}) BookFault → Meaning → Type 0
Cleared choosers items before (Ok _) after = (fits choosers items ≡ true) × (after ≡ blank choosers items)
Cleared choosers items before (Err fault) after = (fits choosers items ≡ false) × (fault ≡ Size) × (book_refusal fault ≡ told 4 0) × (after ≡ before)

-- Entering a card.
abbrev pub Entered : Reading → ℕ → List ℕ → Meaning → Result (Unit {0}) BookFault → Meaning → Type 0
Entered reading chooser card before (Ok _) after = (places : List ℕ) × (read_card reading before chooser card ≡ Ok places) × (after ≡ entered before chooser places)
Entered reading chooser card before (Err fault) after = (read_card reading before chooser card ≡ Err fault) × (within chooser before.choosers ≡ false → book_refusal fault ≡ told 5 0) × (after ≡ before)

-- What every book keeps.
pub record Sound (book : Meaning) : Type 0 where
  pub few_choosers : book.choosers ≤ 432
  pub few_items : book.items ≤ 432
  pub some_items : 1 ≤ book.choosers → 1 ≤ book.items
  pub few_places : book.choosers * book.items ≤ 6912
  pub in_range : (chooser : ℕ) (places : List ℕ) → book.order chooser ≡ Some places → within chooser book.choosers ≡ true
  pub orders : (chooser : ℕ) (places : List ℕ) → book.order chooser ≡ Some places → IsOrder book.items places
