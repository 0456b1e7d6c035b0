-- One entry of a written list, behind entries that are good: the fault it makes, or the places once it is read.
use Rattle.std.proofs.Common.{◌≡◌, ℕ, ◌+◌, ◌-◌, ◌<◌, ◌≤◌, true, false, eqb, List, length, get_or, set, Some, ap, ◌∙◌, subst, arith}
use Rattle.std.proofs.lemmas.Bool.Decides.{nat_tests}
use Rattle.orders.specs.Books.{within}
use Rattle.orders.specs.declared.fault.CardFault.TheVariants.{OutOfRange, Repeated}
use Rattle.tally.specs.Tally.{position}
use Rattle.tally.proofs.Positions.{position_more}
use Rattle.cards.specs.Readings.{entry_at, first_fault}
use Rattle.cards.specs.Steps.{ListedTo}
use Rattle.cards.specs.Faults.{first_more, first_out, first_repeats}

module _ (items k item : ℕ) (card places : List ℕ) (is : item ≡ entry_at card k) (listed : ListedTo items card k places) where
  pub out_of_range : k < items → within item items ≡ false → first_fault items card items ≡ Some (OutOfRange (k + 1))
  out_of_range l outside = first_out items card k items l listed.good (subst (λ e. within e items ≡ false) is outside)

  module _ (known : within item items ≡ true) where
    inside : within (entry_at card k) items ≡ true
    inside = subst (λ e. within e items ≡ true) is known

    named : item - 1 + 1 ≡ entry_at card k
    named = let one_up : item - 1 + 1 ≡ item = grind (arith, nat_tests) in one_up ∙ is

    found : get_or places (item - 1) 0 ≡ position (entry_at card) (entry_at card k) k
    found = listed.held (item - 1) (grind (arith, nat_tests)) ∙ ap (λ x. position (entry_at card) x k) named

    pub repeated : k < items → eqb (get_or places (item - 1) 0) 0 ≡ false → first_fault items card items ≡ Some (Repeated (k + 1))
    repeated l old =
        let some : 0 < get_or places (item - 1) 0 = grind (arith, nat_tests) in
        first_repeats items card k items l listed.good inside (omega (arith, found))

    pub listed_more : items ≤ length places → eqb (get_or places (item - 1) 0) 0 ≡ true → ListedTo items card (k + 1) (set places (item - 1) (k + 1))
    listed_more room new =
        let none : get_or places (item - 1) 0 ≡ 0 = grind (arith, nat_tests) in
        let low : item - 1 < items = grind (arith, nat_tests) in
        record {
          good = first_more items card k listed.good inside (omega (arith, found));
          held = λ i h. position_more (entry_at card) places i k (item - 1) named (omega arith) (listed.held i h);
        }
