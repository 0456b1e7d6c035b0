-- A chooser has an order exactly when it has a place for the first item.
use Rattle.std.proofs.Common.{◌≡◌, ℕ, ◌+◌, ◌-◌, ◌<◌, ◌≤◌, Bool, true, false, cond, ◌&&◌, List, get_or, is_none, is_some, Some, None, Option, sym, refl, ap, ◌∙◌, subst, ⊎_elim, Decides, arith}
use Rattle.std.specs.Option.{option_map}
use Rattle.std.proofs.lemmas.Bool.{and_from, both_ways, cases_eq, cond-true}
use Rattle.std.proofs.lemmas.Bool.Decides.{nat_tests}
use Rattle.orders.specs.Books.{Meaning, Sound, place_in, within}
use Rattle.fair.specs.FromBooks.{AllOrdered}
use Rattle.fair.specs.Proposals.{Lowest}
use Rattle.assess.specs.Missing.{Orderless, WithoutOrder}

abbrev pub HasOrder : Meaning → ℕ → Type 0
HasOrder book k = (places : List ℕ) × (book.order k ≡ Some places)

module _ (book : Meaning) where
  not_both : (k : ℕ) → HasOrder book k → Orderless book k → ⊥
  not_both k has lacks = both_ways true (ap is_some (sym has.1 ∙ lacks)) refl

  with_place : (b : Bool) (o : Option (List ℕ)) → is_some (cond b (option_map (λ places. get_or places (1 - 1) 0) o) None) ≡ true → (places : List ℕ) × (o ≡ Some places)
  with_place true (Some places) some = (places, refl)
  with_place true None some = cc
  with_place false o some = cc

  has_order : (k : ℕ) → is_some (place_in book k 1) ≡ true → HasOrder book k
  has_order k = with_place (within k book.choosers && within 1 book.items) (book.order k)

  orderless : Sound book → (k : ℕ) (o : Option (List ℕ)) → book.order k ≡ o → is_some (place_in book k 1) ≡ false → o ≡ None
  orderless sound k None is none = refl
  orderless sound k (Some places) is none =
      let chooser = sound.in_range k places is in
      let some : 1 ≤ book.choosers = grind (arith, nat_tests) in
      let more : 1 ≤ book.items = sound.some_items some in
      let item : within 1 book.items ≡ true = grind (arith, nat_tests) in
      let place : place_in book k 1 ≡ Some (get_or places (1 - 1) 0) = cond-true _ _ _ (and_from _ _ chooser item) ∙ ap (option_map (λ ps. get_or ps (1 - 1) 0)) is in
      absurd (both_ways true (sym (ap is_some place) ∙ none) refl)

  -- each of the choosers below n has one
  abbrev EachBelow : ℕ → Type 0
  EachBelow n = (k : ℕ) → 1 ≤ k → k < n → HasOrder book k

  pub each_more : (n : ℕ) → EachBelow n → is_some (place_in book n 1) ≡ true → EachBelow (n + 1)
  each_more n each some k low high =
      ⊎_elim
      (λ (e : k ≡ n). has_order k (subst (λ j. is_some (place_in book j 1) ≡ true) (sym e) some))
      (λ (ne : k ≡ n → ⊥). each k low (omega arith))
      (cases_eq k n)

  pub all_ordered : (n : ℕ) → n ≡ book.choosers → EachBelow (n + 1) → AllOrdered book
  all_ordered n all each k chooser = each k (grind (arith, nat_tests)) (grind (arith, nat_tests))

  pub first_orderless : Sound book → (n : ℕ) → 1 ≤ n → n ≤ book.choosers → EachBelow n → is_some (place_in book n 1) ≡ false → Lowest book.choosers (Orderless book) n
  first_orderless sound n low high each none =
      record { low = low; high = high; holds = orderless sound n (book.order n) refl none; not_before = λ k above before. not_both k (each k above before) }

  -- a chooser without an order is one of the book's
  not_all : (k : ℕ) → Lowest book.choosers (Orderless book) k → AllOrdered book → ⊥
  not_all k lowest all = not_both k (all k (grind (arith, nat_tests))) lowest.holds

  pub all_ordered_decided : (r : Option ℕ) → WithoutOrder book r → Decides (is_none r) (AllOrdered book)
  all_ordered_decided (Some k) lowest = (λ t. absurd (both_ways false refl t), λ all. absurd (not_all k lowest all))
  all_ordered_decided None all = (λ _. all, λ _. refl)
