-- A table of who stands at each place, filled item by item.
use Rattle.std.proofs.Common.{◌≡◌, ℕ, ◌+◌, ◌-◌, ◌*◌, ◌<◌, ◌≤◌, true, List, get_or, set, Some, unwrap_or, sym, ap, ◌∙◌, subst, ⊎_elim, arith}
use Rattle.std.specs.Option.{option_map}
use Rattle.std.proofs.lemmas.List.{length-set, get_or-set_same, get_or-set_other}
use Rattle.std.proofs.lemmas.Bool.{cases_eq, and_from, cond-true}
use Rattle.std.proofs.lemmas.Bool.Decides.{nat_tests}
use Rattle.orders.specs.Books.{Meaning, Sound, IsOrder, place_in, within}
use Rattle.orders.proofs.Written.{row_end}
use Rattle.tally.specs.Tally.{position}
use Rattle.tally.proofs.Positions.{position_le, position_is, all_stand}
use Rattle.fair.specs.FromBooks.{AllOrdered}
use Rattle.acceptance.specs.Rankings.{place_of, Ranks, spot, RankedTo}

module _ {book : Meaning} (sound : Sound book) (ordered : AllOrdered book) where
  module _ (k : ℕ) (l : k < book.choosers) where
    chooser : within (k + 1) book.choosers ≡ true
    chooser = grind (arith, nat_tests)

    abbrev places : List ℕ
    places = (ordered (k + 1) chooser).0

    is : book.order (k + 1) ≡ Some places
    is = (ordered (k + 1) chooser).1

    order : IsOrder book.items places
    order = sound.orders (k + 1) places is

    place_present : (y : ℕ) → y < book.items → place_in book (k + 1) (y + 1) ≡ Some (get_or places y 0)
    place_present y m =
        let item : within (y + 1) book.items ≡ true = grind (arith, nat_tests) in
        let back : y + 1 - 1 ≡ y = omega arith in
        cond-true _ _ _ (and_from _ _ chooser item) ∙ ap (option_map (λ ps. get_or ps (y + 1 - 1) 0)) is ∙ ap (λ j. Some (get_or places j 0)) back

    place_is : (y : ℕ) → y < book.items → place_of book (k + 1) (y + 1) ≡ get_or places y 0
    place_is y m = ap (λ o. unwrap_or o 0) (place_present y m)

    pub place_low : (y : ℕ) → y < book.items → 1 ≤ place_of book (k + 1) (y + 1)
    place_low y m = omega (arith, place_is y m, order.low y m)

    pub place_high : (y : ℕ) → y < book.items → place_of book (k + 1) (y + 1) ≤ book.items
    place_high y m = omega (arith, place_is y m, order.high y m)

    pub place_apart : (y z : ℕ) → y < book.items → z < book.items → place_of book (k + 1) (y + 1) ≡ place_of book (k + 1) (z + 1) → y ≡ z
    place_apart y z m n e = order.apart y z m n (sym (place_is y m) ∙ e ∙ place_is z n)

    -- every place is some item's
    pub place_taken : (p : ℕ) → p < book.items → (y : ℕ) × (y < book.items) × (place_of book (k + 1) (y + 1) ≡ p + 1)
    place_taken p m =
        let some = all_stand f book.items different p m in
        let y = position f (p + 1) book.items - 1 in
        (y, omega (arith, position_le f (p + 1) book.items), position_is f (p + 1) book.items some)
      where
        f : ℕ → ℕ
        f y = place_of book (k + 1) (y + 1)

        different : (y : ℕ) → y < book.items → (1 ≤ f y) × (f y ≤ book.items) × (position f (f y) y ≡ 0)
        different y n = (
          place_low y n,
          place_high y n,
          ⊎_elim (λ (e : position f (f y) y ≡ 0). e)
              (λ (ne : position f (f y) y ≡ 0 → ⊥).
              let below = position_le f (f y) y in
              let earlier : position f (f y) y - 1 < y = omega arith in
              absurd (omega (arith, place_apart (position f (f y) y - 1) y (omega arith) n (position_is f (f y) y (omega arith)))))
              (cases_eq (position f (f y) y) 0),
        )

    -- a chooser's row
    pub spot_inside : (y : ℕ) → y < book.items → (k * book.items ≤ spot book k y) × (spot book k y < k * book.items + book.items)
    spot_inside y m = (omega arith, omega (arith, place_low y m, place_high y m))

    pub spot_below : (y : ℕ) → y < book.items → spot book k y < book.choosers * book.items
    spot_below y m = omega (arith, (spot_inside y m).1, row_end k book.choosers book.items l)

  -- one item more
  pub ranked_more : (k x : ℕ) (table : List ℕ) → k < book.choosers → x < book.items → RankedTo book k x table → RankedTo book k (x + 1) (set table (spot book k x) (x + 1))
  ranked_more k x table l m ranked = record {
    long = omega (arith, ranked.long, length-set table (spot book k x) (x + 1));
    rows = λ j y below n.
        let apart : spot book j y ≡ spot book k x → ⊥ = λ e. omega (arith, (spot_inside j (omega arith) y n).1, (spot_inside k l x m).0, row_end j k book.items below) in
        get_or-set_other table (spot book k x) (spot book j y) (x + 1) 0 apart ∙ ranked.rows j y below n;
    row = λ y n.
        ⊎_elim (λ (e : y ≡ x). subst (λ z. get_or (set table (spot book k x) (x + 1)) (spot book k z) 0 ≡ z + 1) (sym e) (get_or-set_same table (spot book k x) (x + 1) 0 (omega (arith, spot_below k l x m, ranked.long))))
        (λ (ne : y ≡ x → ⊥).
        let before : y < x = omega arith in
        let apart : spot book k y ≡ spot book k x → ⊥ =
        λ e. ne (place_apart k l y x (omega arith) m (omega (arith, place_low k l y (omega arith), place_low k l x m))) in
        get_or-set_other table (spot book k x) (spot book k y) (x + 1) 0 apart ∙ ranked.row y before)
        (cases_eq y x);
  }

  -- a row is full
  pub ranked_row : (k : ℕ) (table : List ℕ) → RankedTo book k book.items table → RankedTo book (k + 1) 0 table
  ranked_row k table ranked = record {
    long = ranked.long;
    rows = λ j y below n.
        ⊎_elim (λ (e : j ≡ k). subst (λ i. get_or table (spot book i y) 0 ≡ y + 1) (sym e) (ranked.row y n)) (λ (ne : j ≡ k → ⊥). ranked.rows j y (omega arith) n) (cases_eq j k);
    row = λ y n. absurd (omega arith);
  }

  -- all rows are
  pub ranked_all : (table : List ℕ) → RankedTo book book.choosers 0 table → Ranks book table
  ranked_all table ranked k p l m =
      let (y, n, e) = place_taken k l p m in
      let here : k * book.items + p ≡ spot book k y = omega arith in
      let found : get_or table (k * book.items + p) 0 ≡ y + 1 = ap (λ j. get_or table j 0) here ∙ ranked.rows k y l n in
      (subst (λ x. within x book.items ≡ true) (sym found) (grind (arith, nat_tests)), ap (place_of book (k + 1)) found ∙ e)
