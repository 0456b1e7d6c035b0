-- What the program is asked, and what it answers.
use Rattle.std.specs.Prelude.{◌≡◌, ℕ, cond, List, [], ◌∷◌, Some, None, Ok, Err, codes, Option, Result, ◌≢◌}
use Rattle.std.specs.List.{flat_map, range_with_len}
use Rattle.cards.specs.Readings.{list_reading, points_reading}
use Rattle.orders.specs.Books.{Meaning, Reading, blank, entered, fits, place_in, read_card}
use Rattle.orders.specs.declared.fault.BookFault.{BookFault}
use Rattle.orders.specs.declared.fault.BookFault.TheVariants.{Size}
use Rattle.readcard.specs.declared.answer.Kind.{Kind}
use Rattle.readcard.specs.declared.answer.Kind.TheVariants.{List as ListKind, Points as PointsKind}
use Rattle.readcard.specs.declared.answer.UnknownKind.{UnknownKind}
use Rattle.readcard.specs.declared.line.Line.{Line}
use Rattle.readcard.specs.declared.line.Line.TheVariants.{Ok as OkLine, Place, Refused}

-- the word by which a kind is asked for
abbrev pub Named : List ℕ → Result Kind UnknownKind → Type 0
Named word (Ok ListKind) = word ≡ codes "list"
Named word (Ok PointsKind) = word ≡ codes "points"
Named word (Err _) = (word ≢ codes "list") × (word ≢ codes "points")

abbrev pub reading_of : Kind → Reading
reading_of ListKind = list_reading
reading_of PointsKind = points_reading

-- what a book makes of the card of its only chooser
abbrev pub sole_reading : Reading → ℕ → List ℕ → Result (List ℕ) BookFault
sole_reading reading items card = cond (fits 1 items) (read_card reading (blank 1 items) 1 card) (Err Size)

-- the answer, with the book before and after: refused for its size it stays, refused for the card it is blank
abbrev pub SoleCard : Reading → ℕ → List ℕ → Meaning → Result (Unit {0}) BookFault → Meaning → Type 0
SoleCard reading items card before (Ok _) after = (places : List ℕ) × (sole_reading reading items card ≡ Ok places) × (after ≡ entered (blank 1 items) 1 places)
SoleCard reading items card before (Err fault) after = (sole_reading reading items card ≡ Err fault) × (after ≡ cond (fits 1 items) (blank 1 items) before)

abbrev pub place_line : ℕ → Option ℕ → List Line
place_line item (Some place) = Place item place ∷ []
place_line item None = []

-- `ok`, and then a line for each of the first n items that has a place with chooser 1
abbrev pub lines_in : Meaning → ℕ → List Line
lines_in book n = OkLine ∷ flat_map (λ item. place_line item (place_in book 1 item)) (range_with_len 1 n)

abbrev pub lines_of : ℕ → Result (List ℕ) BookFault → List Line
lines_of items (Ok places) = lines_in (entered (blank 1 items) 1 places) items
lines_of items (Err fault) = Refused fault ∷ []

-- all that is printed of a card
abbrev pub answer_of : Reading → ℕ → List ℕ → List Line
answer_of reading items card = lines_of items (sole_reading reading items card)
