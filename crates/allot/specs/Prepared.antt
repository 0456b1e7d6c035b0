-- What is known of two prepared books.
use mathlib.Core.HLevel.{Σ_prop_path}
use Rattle.std.specs.Prelude.{◌≡◌, ℕ, List, Some, Option}
use Rattle.std.proofs.Props.{props}
use Rattle.orders.specs.Books.{Meaning, Sound}
use Rattle.fair.specs.Markets.{Figures}
use Rattle.fair.specs.FromBooks.{Complete}
use Rattle.acceptance.specs.Rankings.{Ranks}
use Rattle.allot.specs.declared.ranking.Ranking.{Ranking}

-- The ranking is that of a sound book.
pub record IsRankingOf (book : Meaning) (ranking : Ranking) : Type 0 where
  pub sound : Sound book
  pub wide : ranking.items ≡ book.items
  pub ranks : Ranks book ranking.table

-- an order is there in one way at most, and books are complete in one way at most
order-prop : (order : Option (List ℕ)) → IsProp ((places : List ℕ) × (order ≡ Some places))
order-prop order (p, e) (q, d) = Σ_prop_path (λ x. Prim.hlevel props) Prim.cc

pub Complete-prop : (f : Figures) (takers_book brews_book : Meaning) → IsProp (Complete f takers_book brews_book)
Complete-prop f takers_book brews_book = Prim.hlevel (order-prop, props)
