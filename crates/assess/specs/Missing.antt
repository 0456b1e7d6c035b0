-- The search for a chooser without an order.
use Rattle.std.specs.Prelude.{◌≡◌, ℕ, Some, None, Option}
use Rattle.orders.specs.Books.{Meaning}
use Rattle.fair.specs.FromBooks.{AllOrdered}
use Rattle.fair.specs.Proposals.{Lowest}

abbrev pub Orderless : Meaning → ℕ → Type 0
Orderless book k = book.order k ≡ None

-- The lowest chooser of the book without an order, or none where every chooser has one.
abbrev pub WithoutOrder : Meaning → Option ℕ → Type 0
WithoutOrder book (Some k) = Lowest book.choosers (Orderless book) k
WithoutOrder book None = AllOrdered book
