-- The line of those who wait: one leaves it, and one goes behind the others.
use Rattle.std.proofs.Common.{◌≡◌, ℕ, zero, suc, ◌+◌, ◌<◌, ◌≤◌, Bool, true, false, eqb, List, [], ◌∷◌, ◌++◌, length, set, sym, refl, ◌∙◌, subst, ⊎_elim, arith}
use Rattle.std.specs.List.{range_with_len}
use Rattle.std.proofs.lemmas.List.FromFn.{length-range_with_len}
use Rattle.std.proofs.lemmas.List.{length-set, length_push, get_or-set_same, get_or-set_other}
use Rattle.std.proofs.lemmas.Bool.{cases_Bool, both_ways, eq-eqb, ne_eqb, or_left}
use Rattle.std.proofs.lemmas.Bool.Decides.{nat_tests}
use Rattle.tally.specs.Tally.{tally}
use Rattle.tally.proofs.Tallies.{tally_one_more, tally_same, tally_always, tally_le}
use Rattle.fair.specs.Choices.{among}
use Rattle.fair.proofs.Choosing.{among_first, among_later, among_cases, among_each}
use Rattle.acceptance.specs.Running.{waits_at, Distinct, Waits}

-- the list turned by one has the same entries, each once
among_turned : (xs : List ℕ) (x t : ℕ) → among (xs ++ x ∷ []) t ≡ among (x ∷ xs) t
among_turned [] x t = refl
among_turned (y ∷ xs) x t = let rest = among_turned xs x t in grind (arith, nat_tests)

distinct_turned : (xs : List ℕ) (x : ℕ) → Distinct (x ∷ xs) → Distinct (xs ++ x ∷ [])
distinct_turned [] x h = (refl, tt)
distinct_turned (y ∷ xs) x h =
    let turned = among_turned xs x y in
    let other : eqb x y ≡ false = ne_eqb x y (λ e. both_ways _ h.0 (or_left (eqb y x) (among xs x) (eq-eqb y x (sym e)))) in
    let rest : among xs x ≡ false = grind (arith, nat_tests, h.0) in
    (turned ∙ grind (arith, nat_tests, h.1.0), distinct_turned xs x (rest, h.1.1))

-- marking one that is not marked, and taking a mark away
abbrev marks : List Bool → ℕ → ℕ
marks waiting n = tally (waits_at waiting) n

module _ (waiting : List Bool) (n s : ℕ) (l : s < n) (each : n ≤ length waiting) where
  pub now_set : (b : Bool) → waits_at (set waiting s b) s ≡ b
  now_set b = get_or-set_same waiting s b false (omega arith)

  pub marks_unset : waits_at waiting s ≡ true → marks waiting n ≡ marks (set waiting s false) n + 1
  marks_unset mark =
      tally_one_more (waits_at (set waiting s false)) (waits_at waiting) n s l (now_set false) mark
      (λ k _ ne. get_or-set_other waiting s k false false ne)

  pub marks_set : waits_at waiting s ≡ false → marks (set waiting s true) n ≡ marks waiting n + 1
  marks_set mark =
      tally_one_more (waits_at waiting) (waits_at (set waiting s true)) n s l mark (now_set true)
      (λ k _ ne. sym (get_or-set_other waiting s k true false ne))

module _ {n : ℕ} {waiting : List Bool} {s : ℕ} {rest : List ℕ} (waits : Waits n waiting (s ∷ rest)) where
  pub first_taker : s < n
  first_taker = waits.takers s (among_first s rest)

  pub first_marked : waits_at waiting s ≡ true
  first_marked = waits.marked s (among_first s rest)

  not_first : (t : ℕ) → among rest t ≡ true → t ≡ s → ⊥
  not_first t h e = both_ways _ waits.once.0 (subst (λ k. among rest k ≡ true) e h)

  -- the first one leaves the line and is marked no more
  pub leaves : Waits n (set waiting s false) rest
  leaves = record {
    each = omega (arith, waits.each, length-set waiting s false);
    as_many = omega (arith, waits.as_many, marks_unset waiting n s first_taker waits.each first_marked);
    takers = λ t h. waits.takers t (among_later s t rest h);
    marked = λ t h. get_or-set_other waiting s t false false (not_first t h) ∙ waits.marked t (among_later s t rest h);
    once = waits.once.1;
  }

  -- it goes behind all others instead
  pub turns : Waits n waiting (rest ++ s ∷ [])
  turns = record {
    each = waits.each;
    as_many = length_push rest s ∙ omega (arith, waits.as_many);
    takers = λ t h. waits.takers t (sym (among_turned rest s t) ∙ h);
    marked = λ t h. waits.marked t (sym (among_turned rest s t) ∙ h);
    once = distinct_turned rest s waits.once;
  }

  -- there is a place for it
  pub room_behind : length rest < n
  room_behind = omega (arith, waits.as_many, tally_le (waits_at waiting) n)

-- one that is not marked is marked, and stands in front of the line
pub enters : {n : ℕ} {waiting : List Bool} {line : List ℕ} → Waits n waiting line → (t : ℕ) → t < n → waits_at waiting t ≡ false → Waits n (set waiting t true) (t ∷ line)
enters {n} {waiting} {line} waits t l unmarked =
    let apart : (u : ℕ) → among line u ≡ true → u ≡ t → ⊥ = λ u h e. both_ways _ unmarked (subst (λ k. waits_at waiting k ≡ true) e (waits.marked u h)) in
    record {
      each = omega (arith, waits.each, length-set waiting t true);
      as_many = omega (arith, waits.as_many, marks_set waiting n t l waits.each unmarked);
      takers = among_each (λ u. u < n) t line l waits.takers;
      marked = among_each (λ u. waits_at (set waiting t true) u ≡ true) t line (now_set waiting n t l waits.each true)
          (λ u h. get_or-set_other waiting t u true false (apart u h) ∙ waits.marked u h);
      once = (⊎_elim (λ (h : among line t ≡ true). absurd (apart t h refl)) (λ (h : among line t ≡ false). h) (cases_Bool (among line t)), waits.once);
    }

-- at the start everybody is marked and in line
among_from : (low n t : ℕ) → among (range_with_len low n) t ≡ true → (low ≤ t) × (t < low + n)
among_from low zero t h = absurd (both_ways false refl h)
among_from low (suc n) t h =
    ⊎_elim (λ (e : low ≡ t). (omega arith, omega arith))
    (λ (later : among (range_with_len (low + 1) n) t ≡ true). let r = among_from (low + 1) n t later in (omega arith, omega arith))
    (among_cases low t (range_with_len (low + 1) n) h)

distinct_counting : (low n : ℕ) → Distinct (range_with_len low n)
distinct_counting low zero = tt
distinct_counting low (suc n) = (
  ⊎_elim (λ (h : among (range_with_len (low + 1) n) low ≡ true). absurd (omega (arith, among_from (low + 1) n low h))) (λ (h : among (range_with_len (low + 1) n) low ≡ false). h)
      (cases_Bool (among (range_with_len (low + 1) n) low)),
  distinct_counting (low + 1) n,
)

pub all_wait : (n : ℕ) (waiting : List Bool) → n ≤ length waiting → ((t : ℕ) → t < n → waits_at waiting t ≡ true) → Waits n waiting (range_with_len 0 n)
all_wait n waiting each all = record {
  each = each;
  as_many = length-range_with_len 0 n ∙ sym (tally_same (waits_at waiting) (λ _. true) n all ∙ tally_always n);
  takers = λ t h. omega (arith, among_from 0 n t h);
  marked = λ t h. all t (omega (arith, among_from 0 n t h));
  once = distinct_counting 0 n;
}
