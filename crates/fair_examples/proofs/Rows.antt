-- The rows are computed, and the theorems make the defined results of what is computed.
use Rattle.std.proofs.Common.{◌≡◌, ℕ, ◌<◌, ◌≤◌, true, eqb, List, [], ◌∷◌, length, get_or, Some, None, sym, refl, subst, ⊎_elim, arith}
use Rattle.std.proofs.lemmas.Bool.{cases_eq, eq-eqb, ne_eqb, cond-true, cond-false}
use Rattle.std.proofs.lemmas.Bool.Decides.{nat_tests}
use Rattle.orders.specs.Books.{IsOrder, Sound, within}
use Rattle.fair.specs.Markets.{Figures, Market, SoundMarket}
use Rattle.fair.specs.Choices.{IsChoice, choices}
use Rattle.fair.specs.Allotments.{gains, BestFair}
use Rattle.fair.specs.Acceptance.{deferred_acceptance}
use Rattle.fair.specs.Settlement.{Settlement, Gains}
use Rattle.fair.specs.Proposals.{Verdict, Passed, WrongLength, NoBrew, NotFull, Envies, Lower, Bettered, Judged}
use Rattle.fair.specs.FromBooks.{AllOrdered}
use Rattle.fair.proofs.Rounds.{acceptance_is_best}
use Rattle.fair.proofs.Settling.{held_after, settlement_exists}
use Rattle.fair.proofs.Verdicts.{judge, judged}
use Rattle.fair_examples.specs.Worked.{list3, list5, list6, six_takers, three_takers, three_brews, single, WorkedRounds}
use Rattle.fair_examples.proofs.Tables.{six_takers_sound, three_takers_sound, three_brews_sound}

module _ (w : Market) (sound : SoundMarket w) (cs : List ℕ) (choice : IsChoice w.figures cs) where
  best_row : (a : List ℕ) → deferred_acceptance w cs ≡ a → BestFair w cs a
  best_row a computed = subst (BestFair w cs) computed (acceptance_is_best w sound cs choice)

  settled_row : (a : List ℕ) → held_after w cs (length (choices w.figures)) ≡ a → Settlement w cs a
  settled_row a computed = subst (Settlement w cs) computed (settlement_exists w sound cs choice)

  gains_row : (a : List ℕ) (n : ℕ) → gains w a (deferred_acceptance w cs) ≡ n → Gains w cs a n
  gains_row a n computed = (deferred_acceptance w cs, acceptance_is_best w sound cs choice, computed)

  judged_row : (a : List ℕ) (v : Verdict) → judge w cs a ≡ v → Judged w cs a v
  judged_row a v computed = subst (Judged w cs a) computed (judged w sound cs a choice)

choice3 : (f : Figures) → f.opened ≡ 3 → (c d e : ℕ) → 0 < c → c < d → d < e → e ≤ f.brews → IsChoice f (list3 c d e)
choice3 f three c d e first second third last = record { size = sym three; ascending = (omega arith, omega arith, (omega arith, omega arith, (omega arith, omega arith, tt))) }

house_123 : IsChoice six_takers.figures (list3 1 2 3)
house_123 = choice3 six_takers.figures refl 1 2 3 (omega arith) (omega arith) (omega arith) (omega arith)

house_124 : IsChoice six_takers.figures (list3 1 2 4)
house_124 = choice3 six_takers.figures refl 1 2 4 (omega arith) (omega arith) (omega arith) (omega arith)

house_125 : IsChoice six_takers.figures (list3 1 2 5)
house_125 = choice3 six_takers.figures refl 1 2 5 (omega arith) (omega arith) (omega arith) (omega arith)

house_345 : IsChoice six_takers.figures (list3 3 4 5)
house_345 = choice3 six_takers.figures refl 3 4 5 (omega arith) (omega arith) (omega arith) (omega arith)

three_123 : IsChoice three_takers.figures (list3 1 2 3)
three_123 = choice3 three_takers.figures refl 1 2 3 (omega arith) (omega arith) (omega arith) (omega arith)

brews_123 : IsChoice three_brews.figures (list3 1 2 3)
brews_123 = choice3 three_brews.figures refl 1 2 3 (omega arith) (omega arith) (omega arith) (omega arith)

proposed : (a : List ℕ) (v : Verdict) → judge six_takers (list3 1 2 3) a ≡ v → Judged six_takers (list3 1 2 3) a v
proposed = judged_row six_takers six_takers_sound (list3 1 2 3) house_123

-- the only order of the single book is that of chooser 1
single_order : (k : ℕ) (places : List ℕ) → single.order k ≡ Some places → (k ≡ 1) × (places ≡ 1 ∷ [])
single_order k places e =
    ⊎_elim
    (λ (one : k ≡ 1). let some : single.order k ≡ Some (1 ∷ []) = cond-true (eqb k 1) _ _ (eq-eqb k 1 one) in (one, cc))
    (λ (other : k ≡ 1 → ⊥). let none : single.order k ≡ None = cond-false (eqb k 1) _ _ (ne_eqb k 1 other) in let z : ◌≡◌ {A = ℕ} 0 1 = cc in absurd (omega arith))
    (cases_eq k 1)

only_place : IsOrder 1 (1 ∷ [])
only_place = record { each = refl; low = first (λ n. 1 ≤ n) (omega arith); high = first (λ n. n ≤ 1) (omega arith); apart = λ i j l m _. omega arith }
  where
    first : (P : ℕ → Type 0) → P 1 → (i : ℕ) → i < 1 → P (get_or (1 ∷ []) i 0)
    first P one i l = let only : 0 ≡ i = omega arith in subst (λ k. P (get_or (1 ∷ []) k 0)) only one

single_sound : Sound single
single_sound = record {
  few_choosers = omega arith;
  few_items = omega arith;
  some_items = λ _. omega arith;
  few_places = omega arith;
  in_range = λ k places e. subst (λ n. within n 1 ≡ true) (sym (single_order k places e).0) refl;
  orders = λ k places e. subst (IsOrder 1) (sym (single_order k places e).1) only_place;
}

all_ordered : AllOrdered single
all_ordered k chooser = (1 ∷ [], cond-true (eqb k 1) _ _ (eq-eqb k 1 (grind (arith, nat_tests))))

pub worked : WorkedRounds
worked = record {
  six_sound = six_takers_sound;
  house_123 = house_123;
  accepted_123 = refl;
  best_123 = best_row six_takers six_takers_sound (list3 1 2 3) house_123 _ refl;
  accepted_124 = refl;
  best_124 = best_row six_takers six_takers_sound (list3 1 2 4) house_124 _ refl;
  accepted_125 = refl;
  best_125 = best_row six_takers six_takers_sound (list3 1 2 5) house_125 _ refl;
  settled_123 = settled_row six_takers six_takers_sound (list3 1 2 3) house_123 _ refl;
  gains_123 = gains_row six_takers six_takers_sound (list3 1 2 3) house_123 (list6 4 1 4 1 2 2) 4 refl;
  settled_125 = settled_row six_takers six_takers_sound (list3 1 2 5) house_125 _ refl;
  gains_125 = gains_row six_takers six_takers_sound (list3 1 2 5) house_125 (list6 1 1 2 5 5 2) 0 refl;
  settled_345 = settled_row six_takers six_takers_sound (list3 3 4 5) house_345 _ refl;
  gains_345 = gains_row six_takers six_takers_sound (list3 3 4 5) house_345 (list6 4 1 4 5 5 1) 3 refl;
  bettered = proposed (list6 1 3 2 1 3 2) (Bettered 2) refl;
  passed = proposed (list6 1 1 2 5 5 2) Passed refl;
  gains_passed = gains_row six_takers six_takers_sound (list3 1 2 3) house_123 (list6 1 1 2 5 5 2) 3 refl;
  lower = proposed (list6 4 1 4 5 5 1) (Lower 6) refl;
  not_full = proposed (list6 1 1 1 1 1 1) (NotFull 1) refl;
  no_brew = proposed (list6 1 1 1 1 1 6) (NoBrew 6) refl;
  short = proposed (list5 1 1 1 1 1) WrongLength refl;
  no_claimants = refl;
  three_sound = three_takers_sound;
  accepted_three = refl;
  best_three = best_row three_takers three_takers_sound (list3 1 2 3) three_123 _ refl;
  brews_sound = three_brews_sound;
  envious = judged_row three_brews three_brews_sound (list3 1 2 3) brews_123 (list6 2 2 1 1 3 3) (Envies 5) refl;
  four_envies = refl;
  single_sound = single_sound;
  one_in_limits = omega arith;
  single_complete = record { a_taker_each = refl; of_brews = refl; a_brew_each = refl; of_takers = refl; takers_ordered = all_ordered; brews_ordered = all_ordered };
  cards = record { list = refl; repeated = refl; above = refl; short = refl; points = refl; empty = refl };
}
