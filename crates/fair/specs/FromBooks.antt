-- The market of two order books: in one the takers rank the brews, in the other the brews rank the takers.
use Rattle.std.specs.Prelude.{◌≡◌, ℕ, ◌+◌, true, List, Some}
use Rattle.std.specs.Option.{unwrap_or}
use Rattle.orders.specs.Books.{Meaning, place_in, within}
use Rattle.fair.specs.Markets.{Figures, Market}

abbrev pub market_of : Figures → Meaning → Meaning → Market
market_of f takers_book brews_book = record { figures = f; brew_place = λ s c. unwrap_or (place_in takers_book (s + 1) c) 0; taker_place = λ c s. unwrap_or (place_in brews_book c (s + 1)) 0 }

-- Every chooser of the book has an order.
abbrev pub AllOrdered : Meaning → Type 0
AllOrdered book = (k : ℕ) → within k book.choosers ≡ true → (places : List ℕ) × (book.order k ≡ Some places)

-- The books are of the round's sizes, and every taker and every brew has an order.
pub record Complete (f : Figures) (takers_book brews_book : Meaning) : Type 0 where
  pub a_taker_each : takers_book.choosers ≡ f.takers
  pub of_brews : takers_book.items ≡ f.brews
  pub a_brew_each : brews_book.choosers ≡ f.brews
  pub of_takers : brews_book.items ≡ f.takers
  pub takers_ordered : AllOrdered takers_book
  pub brews_ordered : AllOrdered brews_book
