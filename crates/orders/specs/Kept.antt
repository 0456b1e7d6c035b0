-- What a table says of the orders that it keeps.
use Rattle.std.specs.Prelude.{◌≡◌, ℕ, true, false, List, Some, None, nat_lt, slice_index}
use Rattle.std.proofs.Common.{⊎_elim}
use Rattle.std.proofs.lemmas.Bool.{cases_Bool, and_left, cond-false}
use Rattle.orders.specs.Books.{Sound, within}
use Rattle.orders.specs.Rows.{order_at, row_of}
use Rattle.orders.specs.Tables.{table_meaning}
use Rattle.orders.specs.declared.table.OrderTable.{OrderTable}

-- only a chooser of the table has an order
listed : (choosers items : ℕ) (places : List ℕ) (chooser : ℕ) (order : List ℕ) → order_at choosers items places chooser ≡ Some order → within chooser choosers ≡ true
listed choosers items places chooser order e =
    ⊎_elim (λ (t : within chooser choosers ≡ true). t)
    (λ (f : within chooser choosers ≡ false).
    let row = row_of items places chooser in
    let none : order_at choosers items places chooser ≡ None = cond-false _ _ _ (and_left _ (nat_lt 0 (slice_index row 0)) f) in
    cc)
    (cases_Bool (within chooser choosers))

pub table_sound : (table : OrderTable) → Sound (table_meaning table)
table_sound table = record {
  few_choosers = table.sizes.few_choosers;
  few_items = table.sizes.few_items;
  some_items = table.sizes.some_items;
  few_places = table.sizes.few_places;
  in_range = listed table.choosers table.items table.places;
  orders = table.orders;
}
