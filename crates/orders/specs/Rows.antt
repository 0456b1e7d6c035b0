-- The rows of a table of places. The row of a chooser, by number from 1, holds that chooser's order,
-- or begins with 0 where there is none yet.
use Rattle.std.specs.Prelude.{◌≡◌, ℕ, ◌+◌, ◌-◌, ◌*◌, ◌≤◌, cond, ◌&&◌, List, Some, None, Option, nat_lt, slice_index, slice_range}
use Rattle.orders.specs.Books.{IsOrder, within}

-- the sizes of a table: those of a book, or neither choosers nor items
pub record WithinLimits (choosers items : ℕ) : Type 0 where
  pub few_choosers : choosers ≤ 432
  pub few_items : items ≤ 432
  pub some_items : 1 ≤ choosers → 1 ≤ items
  pub few_places : choosers * items ≤ 6912

abbrev pub row_of : ℕ → List ℕ → ℕ → List ℕ
row_of items places chooser = let start = (chooser - 1) * items in slice_range places start (start + items)

-- the order that a table holds for a chooser
abbrev pub order_at : ℕ → ℕ → List ℕ → ℕ → Option (List ℕ)
order_at choosers items places chooser =
    let row = row_of items places chooser in
    cond (within chooser choosers && nat_lt 0 (slice_index row 0)) (Some row) None

abbrev pub HoldsOrders : ℕ → ℕ → List ℕ → Type 0
HoldsOrders choosers items places = (chooser : ℕ) (order : List ℕ) → order_at choosers items places chooser ≡ Some order → IsOrder items order
