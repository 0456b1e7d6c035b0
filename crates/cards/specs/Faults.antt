-- What is wrong with an entry of a written list, and the first bad entry.
use Rattle.std.specs.Prelude.{◌≡◌, ℕ, zero, suc, ◌+◌, ◌<◌, ◌≤◌, true, false, List, Some, None, Option, refl}
use Rattle.std.proofs.Common.{sym, ap, subst, ◌∙◌, ⊎_elim, add-one, arith}
use Rattle.std.proofs.Math.Nat.{eq-zero-or-pos}
use Rattle.std.proofs.lemmas.Bool.{cases_Bool, cases_eq}
use Rattle.std.proofs.lemmas.Bool.Decides.{nat_tests}
use Rattle.std.specs.Option.{option_or}
use Rattle.orders.specs.Books.{within}
use Rattle.orders.specs.declared.fault.CardFault.{CardFault}
use Rattle.orders.specs.declared.fault.CardFault.TheVariants.{OutOfRange, Repeated}
use Rattle.tally.specs.Tally.{position}
use Rattle.cards.specs.Readings.{entry_at, entry_fault, first_fault}

module _ (items : ℕ) (card : List ℕ) where
  abbrev before : ℕ → ℕ
  before k = position (entry_at card) (entry_at card k) k

  entry_good : (k : ℕ) → within (entry_at card k) items ≡ true → before k ≡ 0 → entry_fault items card k ≡ None
  entry_good k inside new = grind (arith, nat_tests)

  entry_out : (k : ℕ) → within (entry_at card k) items ≡ false → entry_fault items card k ≡ Some (OutOfRange (k + 1))
  entry_out k outside = grind (arith, nat_tests)

  entry_repeats : (k : ℕ) → within (entry_at card k) items ≡ true → 0 < before k → entry_fault items card k ≡ Some (Repeated (k + 1))
  entry_repeats k inside old = grind (arith, nat_tests)

  pub first_more : (k : ℕ) → first_fault items card k ≡ None → within (entry_at card k) items ≡ true → before k ≡ 0 → first_fault items card (k + 1) ≡ None
  first_more k none inside new =
      rw (add-one k) (ap (λ o. option_or o (entry_fault items card k)) none ∙ entry_good k inside new)

  first_at : (k n : ℕ) (fault : CardFault) → k < n → first_fault items card k ≡ None → entry_fault items card k ≡ Some fault → first_fault items card n ≡ Some fault
  first_at k zero fault l none bad = absurd (omega arith)
  first_at k (suc n) fault l none bad =
      ⊎_elim
      (λ (e : k ≡ n). subst (λ j. option_or (first_fault items card j) (entry_fault items card j) ≡ Some fault) e (ap (λ o. option_or o (entry_fault items card k)) none ∙ bad))
      (λ (ne : k ≡ n → ⊥).
      let m : k < n = omega arith in
      ap (λ o. option_or o (entry_fault items card n)) (first_at k n fault m none bad))
      (cases_eq k n)

  pub first_out : (k n : ℕ) → k < n → first_fault items card k ≡ None → within (entry_at card k) items ≡ false → first_fault items card n ≡ Some (OutOfRange (k + 1))
  first_out k n l none outside = first_at k n _ l none (entry_out k outside)

  pub first_repeats : (k n : ℕ) → k < n → first_fault items card k ≡ None → within (entry_at card k) items ≡ true → 0 < before k → first_fault items card n ≡ Some (Repeated (k + 1))
  first_repeats k n l none inside old = first_at k n _ l none (entry_repeats k inside old)

  -- where the first of two is none, and both together are
  first_part : (x y : Option CardFault) → option_or x y ≡ None → (x ≡ None) × (y ≡ None)
  first_part None y e = (refl, e)
  first_part (Some fault) y e = absurd (cc)

  good_entry : (k : ℕ) → entry_fault items card k ≡ None → (1 ≤ entry_at card k) × (entry_at card k ≤ items) × (before k ≡ 0)
  good_entry k e =
      ⊎_elim
      (λ (inside : within (entry_at card k) items ≡ true).
      ⊎_elim (λ (new : before k ≡ 0). (grind (arith, nat_tests), grind (arith, nat_tests), new))
      (λ (old : 0 < before k). let bad = entry_repeats k inside old in absurd (cc))
      (eq-zero-or-pos (before k)))
      (λ (outside : within (entry_at card k) items ≡ false). let bad = entry_out k outside in absurd (cc))
      (cases_Bool (within (entry_at card k) items))

  -- a list without a fault: each entry is in range and differs from those before it
  pub good_entries : (n : ℕ) → first_fault items card n ≡ None → (k : ℕ) → k < n → (1 ≤ entry_at card k) × (entry_at card k ≤ items) × (before k ≡ 0)
  good_entries zero e k l = absurd (omega arith)
  good_entries (suc n) e k l =
      let parts = first_part (first_fault items card n) (entry_fault items card n) e in
      ⊎_elim
      (λ (is : k ≡ n). subst (λ j. (1 ≤ entry_at card j) × (entry_at card j ≤ items) × (before j ≡ 0)) (sym is) (good_entry n parts.1))
      (λ (ne : k ≡ n → ⊥). good_entries n parts.0 k (omega arith))
      (cases_eq k n)
