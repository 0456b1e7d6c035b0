-- Who stands at each place of the orders of a book, as a table with a row for each chooser: what stands at place p + 1
-- of the order of chooser k + 1 is found at k * items + p.
use Rattle.std.specs.Prelude.{◌≡◌, ℕ, ◌+◌, ◌-◌, ◌*◌, ◌<◌, ◌≤◌, true, List, Some, None, Option, length, slice_index}
use Rattle.std.specs.Option.{unwrap_or}
use Rattle.orders.specs.Books.{Meaning, place_in, within}
use Rattle.fair.specs.Markets.{Market}
use Rattle.fair.specs.Choices.{among}

-- the place of an item with a chooser, or 0 where it is absent
abbrev pub place_of : Meaning → ℕ → ℕ → ℕ
place_of book chooser item = unwrap_or (place_in book chooser item) 0

abbrev pub Ranks : Meaning → List ℕ → Type 0
Ranks book table = (k p : ℕ) → k < book.choosers → p < book.items
    → (within (slice_index table (k * book.items + p)) book.items ≡ true) × (place_of book (k + 1) (slice_index table (k * book.items + p)) ≡ p + 1)

-- where item y + 1 of chooser k + 1 belongs
abbrev pub spot : Meaning → ℕ → ℕ → ℕ
spot book k y = k * book.items + (place_of book (k + 1) (y + 1) - 1)

-- The table has the items of the first k choosers, and the first x items of the next one, where they belong.
pub record RankedTo (book : Meaning) (k x : ℕ) (table : List ℕ) : Type 0 where
  pub long : book.choosers * book.items ≤ length table
  pub rows : (j y : ℕ) → j < k → y < book.items → slice_index table (spot book j y) ≡ y + 1
  pub row : (y : ℕ) → y < x → slice_index table (spot book k y) ≡ y + 1

-- Brew d is the first of the list behind the given place in the order of taker s, or none is.
abbrev pub NextAfter : Market → ℕ → List ℕ → ℕ → Option ℕ → Type 0
NextAfter w s cs place (Some d) = (among cs d ≡ true) × (place < w.brew_place s d) × ((e : ℕ) → among cs e ≡ true → place < w.brew_place s e → w.brew_place s d ≤ w.brew_place s e)
NextAfter w s cs place None = (e : ℕ) → among cs e ≡ true → w.brew_place s e ≤ place
