-- A book into which cards are entered, one for each chooser in order.
use Rattle.std.specs.Prelude.{◌≡◌, ℕ, suc, cond, List, [], ◌∷◌, length, Ok, Err, Result}
use Rattle.orders.specs.Books.{Meaning, Reading, blank, entered, fits, read_card}
use Rattle.orders.specs.declared.fault.BookFault.{BookFault}
use Rattle.orders.specs.declared.fault.BookFault.TheVariants.{Size}

-- what follows where there is no refusal
abbrev pub then : Result (List ℕ) BookFault → (List ℕ → Result Meaning BookFault) → Result Meaning BookFault
then (Ok places) rest = rest places
then (Err fault) rest = Err fault

-- a book with the cards entered for the choosers behind the first k, or the first refusal
abbrev pub filled_from : Reading → Meaning → ℕ → List (List ℕ) → Result Meaning BookFault
filled_from reading book k [] = Ok book
filled_from reading book k (card ∷ cards) = then (read_card reading book (suc k) card) (λ places. filled_from reading (entered book (suc k) places) (suc k) cards)

-- all cards entered into a blank book with a chooser for each, where the sizes are those of a book
abbrev pub filled : Reading → (items : ℕ) → List (List ℕ) → Result Meaning BookFault
filled reading items cards = cond (fits (length cards) items) (filled_from reading (blank (length cards) items) 0 cards) (Err Size)

abbrev pub Filled : Reading → (items : ℕ) → List (List ℕ) → Result (Unit {0}) BookFault → Meaning → Type 0
Filled reading items cards (Ok _) after = filled reading items cards ≡ Ok after
Filled reading items cards (Err fault) after = filled reading items cards ≡ Err fault
