-- A table in which one row is written over by an order.
use Rattle.std.specs.Prelude.{◌≡◌, ℕ, zero, suc, ◌+◌, ◌-◌, ◌*◌, ◌<◌, ◌≤◌, Bool, true, false, cond, ◌&&◌, List, length, take, drop, Some, None, ◌==◌, ◌≢◌, nat_lt, slice_index, slice_range, refl}
use Rattle.std.specs.Option.{option_map}
use Rattle.std.proofs.Common.{sym, ap, subst, ◌∙◌, ⊎_elim, add-mul, add-zero, mul-le-mul_right, arith, rules}
use Rattle.std.proofs.Math.Nat.{add-sub_cancel_left}
use borrow.Rule.Slice.PartMut.{put_mid}
use Rattle.std.proofs.lemmas.Slice.{between_is, take-put_mid_below, overwrites}
use Rattle.std.proofs.lemmas.List.{places, get_or-take, get_or-drop}
use Rattle.std.proofs.lemmas.Bool.{cases_eq, cases_order, cases_Bool, lt-ltb, eq-eqb, ne_eqb, and_from, and_left, and_parts, ltb-true, cond-true, cond-false}
use Rattle.std.proofs.lemmas.Bool.Decides.{nat_tests}
use Rattle.orders.specs.Books.{IsOrder, place_in, within}
use Rattle.orders.specs.Rows.{HoldsOrders, order_at, row_of}
use Rattle.orders.specs.Tables.{table_meaning}
use Rattle.orders.specs.declared.table.OrderTable.{OrderTable}

-- a row ends before the next one begins
pub row_end : (c d items : ℕ) → c < d → c * items + items ≤ d * items
row_end c d items h = omega (arith, add-mul c 1 items, mul-le-mul_right {m = c + 1} {n = d} items (omega arith))

-- a chooser's row, counted from 0
pub row_inside : (k n : ℕ) → within k n ≡ true → k - 1 < n
row_inside k n h = grind (arith, nat_tests)

-- the rows of a list whose part from start to end is written over
module _ (start end : ℕ) (xs new : List ℕ) (inside : end ≤ length xs) (each : start + length new ≡ end) where
  abbrev after : List ℕ
  after = put_mid start (end - start) xs new

  own_part : slice_range after start end ≡ new
  own_part = search (rules, overwrites)

  part_before : (i j : ℕ) → j ≤ start → slice_range after i j ≡ slice_range xs i j
  part_before i j h = between_is after i j ∙ ap (drop i) (take-put_mid_below start (end - start) xs new j h (omega arith)) ∙ sym (between_is xs i j)

  part_behind : (i j : ℕ) → end ≤ i → slice_range after i j ≡ slice_range xs i j
  part_behind i j h = search (rules, overwrites)

  length_written : length after ≡ length xs
  length_written = search (rules, places)

-- The row of a chooser is written over by an order of the items.
module _ (choosers items chooser : ℕ) (xs new : List ℕ) (known : within chooser choosers ≡ true) (room : choosers * items ≤ length xs) (order : IsOrder items new) (some : 0 < items) where
  abbrev start : ℕ
  start = (chooser - 1) * items

  abbrev end : ℕ
  end = start + items

  abbrev written : List ℕ
  written = put_mid start (end - start) xs new

  inside : end ≤ length xs
  inside = omega (arith, row_end (chooser - 1) choosers items (row_inside chooser choosers known))

  each : start + length new ≡ end
  each = ap (λ n. start + n) order.each

  other_row : (k : ℕ) → within k choosers ≡ true → (k ≢ chooser) → row_of items written k ≡ row_of items xs k
  other_row k listed other =
      let first = (k - 1) * items in
      ⊎_elim (λ (e : k - 1 ≡ chooser - 1). absurd (other (grind (arith, nat_tests))))
      (⊎_elim
      (λ (l : k - 1 < chooser - 1). part_before start end xs new inside each first (first + items) (row_end (k - 1) (chooser - 1) items l))
      (λ (l : chooser - 1 < k - 1). part_behind start end xs new inside each first (first + items) (row_end (chooser - 1) (k - 1) items l)))
      (cases_order (k - 1) (chooser - 1))

  own_order : order_at choosers items written chooser ≡ Some new
  own_order =
      rw (own_part start end xs new inside each)
      (cond-true _ _ _ (and_from _ _ known (lt-ltb 0 _ (omega (arith, order.low 0 some)))))

  other_order : (k : ℕ) → (k ≢ chooser) → order_at choosers items written k ≡ order_at choosers items xs k
  other_order k other =
      ⊎_elim (λ (listed : within k choosers ≡ true). rw (other_row k listed other))
      (λ (none : within k choosers ≡ false). cond-false _ _ _ (and_left _ _ none) ∙ sym (cond-false _ _ _ (and_left _ _ none)))
      (cases_Bool (within k choosers))

  -- the table then holds the new order for the chooser, and for any other what it held
  written_orders : (k : ℕ) → order_at choosers items written k ≡ cond (k == chooser) (Some new) (order_at choosers items xs k)
  written_orders k =
      ⊎_elim (λ (e : k ≡ chooser). rw (e, own_order) (sym (cond-true _ _ _ (eq-eqb chooser chooser refl))))
      (λ (other : k ≡ chooser → ⊥). other_order k other ∙ sym (cond-false _ _ _ (ne_eqb k chooser other)))
      (cases_eq k chooser)

  written_held : HoldsOrders choosers items xs → HoldsOrders choosers items written
  written_held held k places e =
      ⊎_elim (λ (own : k ≡ chooser). let is = own_order in let same : new ≡ places = cc in subst (IsOrder items) same order)
      (λ (other : k ≡ chooser → ⊥). held k places (sym (other_order k other) ∙ e))
      (cases_eq k chooser)

-- What holds of a table once a chooser's row is written over by an order.
pub record Rewritten (table : OrderTable) (chooser : ℕ) (row after : List ℕ) : Type 0 where
  pub long : length after ≡ 6912
  pub held : HoldsOrders table.choosers table.items after
  pub orders : (k : ℕ) → order_at table.choosers table.items after k ≡ cond (k == chooser) (Some row) ((table_meaning table).order k)

-- a chooser's row lies within the table
pub row_fits : (table : OrderTable) (chooser : ℕ) → within chooser table.choosers ≡ true → (chooser - 1) * table.items + table.items ≤ 6912
row_fits table chooser known =
    omega (arith, table.sizes.few_places, row_end (chooser - 1) table.choosers table.items (row_inside chooser table.choosers known))

-- part is what the part of the table holds then; its length is as the code has it, its end less its start
pub rewritten : (table : OrderTable) (chooser : ℕ) (row part : List ℕ) → within chooser table.choosers ≡ true → IsOrder table.items row → part ≡ row →
    let start = (chooser - 1) * table.items in
    Rewritten table chooser row (put_mid start (start + table.items - start) table.places part)
rewritten table chooser row part known order is =
    let items = table.items in
    let start = (chooser - 1) * items in
    let room : table.choosers * items ≤ length table.places = omega (arith, table.long, table.sizes.few_places) in
    let some : 0 < items = table.sizes.some_items (grind (arith, nat_tests)) in
    let fits = inside table.choosers items chooser table.places row known room order some in
    rw is
    record {
      long = length_written start (start + items) table.places row fits (ap (λ n. start + n) order.each) ∙ table.long;
      held = written_held table.choosers items chooser table.places row known room order some table.orders;
      orders = written_orders table.choosers items chooser table.places row known room order some;
    }

-- the row of a chooser, and its first place, by the list itself
row_taken : (items : ℕ) (xs : List ℕ) (chooser : ℕ) → row_of items xs chooser ≡ take items (drop ((chooser - 1) * items) xs)
row_taken items xs chooser = let start = (chooser - 1) * items in ap (λ n. take n (drop start xs)) (add-sub_cancel_left start items)

row_first : (items : ℕ) (xs : List ℕ) (chooser : ℕ) → 0 < items → slice_index (row_of items xs chooser) 0 ≡ slice_index xs ((chooser - 1) * items)
row_first items xs chooser some =
    let start = (chooser - 1) * items in
    ap (λ ys. slice_index ys 0) (row_taken items xs chooser)
    ∙ get_or-take items (drop start xs) 0 0 some
    ∙ get_or-drop start xs 0 0
    ∙ ap (λ k. slice_index xs k) (add-zero start)

-- the place that the table holds
pub place_kept : (choosers items : ℕ) (xs : List ℕ) (chooser item : ℕ) → within chooser choosers ≡ true → within item items ≡ true → 0 < slice_index xs ((chooser - 1) * items)
    → place_in (record { choosers = choosers; items = items; order = order_at choosers items xs }) chooser item ≡ Some (slice_index xs ((chooser - 1) * items + (item - 1)))
place_kept choosers items xs chooser item known listed begun =
    let start = (chooser - 1) * items in
    let inside : item - 1 < items = row_inside item items listed in
    let head = row_first items xs chooser (omega (arith, inside)) in
    let order = cond-true _ (Some (row_of items xs chooser)) None (and_from _ _ known (lt-ltb 0 _ (omega (arith, head, begun)))) in
    cond-true _ _ _ (and_from _ _ known listed)
    ∙ ap (option_map (λ places. slice_index places (item - 1))) order
    ∙ ap (λ ys. Some (slice_index ys (item - 1))) (row_taken items xs chooser)
    ∙ ap Some (get_or-take items (drop start xs) (item - 1) 0 inside ∙ get_or-drop start xs (item - 1) 0)

-- What the list has of an order that the table holds.
pub record Row (choosers items : ℕ) (xs : List ℕ) (chooser : ℕ) (places : List ℕ) : Type 0 where
  pub listed : within chooser choosers ≡ true
  pub begun : 0 < slice_index xs ((chooser - 1) * items)
  pub is : take items (drop ((chooser - 1) * items) xs) ≡ places

-- a row that is begun has an item
row_some : (items : ℕ) (xs : List ℕ) (chooser : ℕ) → 0 < slice_index (row_of items xs chooser) 0 → 0 < items
row_some zero xs chooser begun = let none = ap (λ ys. slice_index ys 0) (row_taken 0 xs chooser) in absurd (omega (arith, begun, none))
row_some (suc n) xs chooser begun = omega arith

pub row_kept : (choosers items : ℕ) (xs : List ℕ) (chooser : ℕ) (places : List ℕ) → order_at choosers items xs chooser ≡ Some places → Row choosers items xs chooser places
row_kept choosers items xs chooser places e =
    let row = row_of items xs chooser in
    let test : Bool = within chooser choosers && nat_lt 0 (slice_index row 0) in
    ⊎_elim
    (λ (t : test ≡ true).
    let parts = and_parts _ _ t in
    let first = ltb-true 0 _ parts.1 in
    let found : Some row ≡ Some places = sym (cond-true _ _ _ t) ∙ e in
    let same : row ≡ places = cc in
    record {
      listed = parts.0;
      begun = omega (arith, first, row_first items xs chooser (row_some items xs chooser first));
      is = sym (row_taken items xs chooser) ∙ same;
    })
    (λ (f : test ≡ false).
    let none : None ≡ Some places = sym (cond-false _ (Some row) None f) ∙ e in
    absurd (cc))
    (cases_Bool test)
