-- The counts of a list, one entry more.
use Rattle.std.proofs.Common.{◌≡◌, ℕ, ◌+◌, ◌-◌, ◌<◌, ◌≤◌, Bool, true, false, eqb, List, length, get_or, set, take, sym, add-one, add-suc, add-zero, zero-add, zero, suc, ap, ◌∙◌, ⊎_elim, arith}
use Rattle.std.proofs.lemmas.List.{get_or-set_same, get_or-set_other, get_or-take, get_or_default, length-set, length-take}
use Rattle.std.proofs.Math.ListN.{get_or-eq_default}
use Rattle.std.proofs.lemmas.Bool.{cases_eq, eq-eqb, ne_eqb}
use Rattle.std.proofs.lemmas.Bool.Decides.{nat_tests}
use Rattle.std.specs.List.{enumerate_from}
use Rattle.std.proofs.lemmas.List.FromFn.{get_or-enumerate_from, length-enumerate_from}
use Rattle.tally.specs.Tally.{tally}
use Rattle.tally.proofs.Tallies.{tally_le, tally_more_yes, tally_more_no}
use Rattle.fair.specs.Allotments.{brew_of}
use Rattle.orders.specs.Books.{within}
use Rattle.assess.specs.Lots.{CountsTo}

module _ {brews : ℕ} {a : List ℕ} {n : ℕ} {counts : List ℕ} (before : CountsTo brews a n counts) (few : brews ≤ 16) where
  -- entry s is brew c
  abbrev is : ℕ → ℕ → Bool
  is c s = eqb (brew_of a s) c

  pub count_le : (c : ℕ) → 1 ≤ c → c ≤ brews → get_or counts (c - 1) 0 ≤ n
  count_le c low high =
      let brew : within c brews ≡ true = grind (arith, nat_tests) in
      omega (arith, before.count c brew, tally_le (is c) n)

  -- an entry that is no brew
  pub not_counted : (brew next : ℕ) → brew ≡ brew_of a n → (1 ≤ brew → brew ≤ brews → ⊥) → next ≡ n + 1 → CountsTo brews a next counts
  not_counted brew next named out step =
      record {
        each = before.each;
        count = λ c known.
            let other : brew_of a n ≡ c → ⊥ = λ e. out (grind (arith, nat_tests)) (grind (arith, nat_tests)) in
            before.count c known ∙ sym (ap (tally (is c)) step ∙ tally_more_no (is c) n (ne_eqb _ _ other));
        beyond = before.beyond;
      }

  -- an entry that is one
  pub counted : (brew next : ℕ) → brew ≡ brew_of a n → 1 ≤ brew → brew ≤ brews → next ≡ n + 1 → CountsTo brews a next (set counts (brew - 1) (get_or counts (brew - 1) 0 + 1))
  counted brew next named low high step =
      let x = get_or counts (brew - 1) 0 + 1 in
      let inside : brew - 1 < length counts = omega (arith, before.each) in
      record {
        each = length-set counts (brew - 1) x ∙ before.each;
        count = λ c known.
            ⊎_elim
            (λ (e : c ≡ brew).
            let same : get_or (set counts (brew - 1) x) (c - 1) 0 ≡ x = ap (λ k. get_or (set counts (brew - 1) x) (k - 1) 0) e ∙ get_or-set_same counts (brew - 1) x 0 inside in
            let old : get_or counts (brew - 1) 0 ≡ tally (is c) n = ap (λ k. get_or counts (k - 1) 0) (sym e) ∙ before.count c known in
            omega (arith, same, old, ap (tally (is c)) step, tally_more_yes (is c) n (eq-eqb _ _ (sym named ∙ sym e))))
            (λ (ne : c ≡ brew → ⊥).
            let apart : c - 1 ≡ brew - 1 → ⊥ = λ e. ne (grind (arith, nat_tests)) in
            get_or-set_other counts (brew - 1) (c - 1) x 0 apart ∙ before.count c known ∙ sym (ap (tally (is c)) step ∙ tally_more_no (is c) n (ne_eqb _ _ (λ e. ne (sym e ∙ sym named)))))
            (cases_eq c brew);
        beyond = λ i past. get_or-set_other counts (brew - 1) i x 0 (λ e. omega (arith, e)) ∙ before.beyond i past;
      }

-- the entry that comes next of the first n
pub next_entry : (a : List ℕ) (n i x : ℕ) → (i < length (take n a)) × (x ≡ get_or (take n a) i x) → (i < n) × (x ≡ brew_of a i)
next_entry a n i x here =
    let within : i < n = omega (arith, here.0, length-take n a) in
    let inside : i < length a = omega (arith, here.0, length-take n a) in
    (within, here.1 ∙ get_or-take n a i x within ∙ get_or_default a i x 0 inside)

-- the same of an iterator that numbers them
pub next_numbered : (a : List ℕ) (n i k x : ℕ) → (i < length (enumerate_from 0 (take n a))) × ((k, x) ≡ get_or (enumerate_from 0 (take n a)) i (k, x)) → (k ≡ i) × ((i < n) × (x ≡ brew_of a i))
next_numbered a n i k x here =
    let inside : i < length (take n a) = omega (arith, here.0, length-enumerate_from 0 (take n a)) in
    let same : (k, x) ≡ (0 + i, get_or (take n a) i x) = here.1 ∙ get_or-enumerate_from 0 (take n a) i (k, x) inside in
    (ap (λ (p : ℕ × ℕ). p.0) same ∙ zero-add i, next_entry a n i x (inside, ap (λ (p : ℕ × ℕ). p.1) same))

-- a test that fails from i on passes no more often
tally_past : (p : ℕ → Bool) (i n : ℕ) → ((k : ℕ) → i ≤ k → k < i + n → p k ≡ false) → tally p (i + n) ≡ tally p i
tally_past p i zero none = ap (tally p) (add-zero i)
tally_past p i (suc n) none =
    ap (tally p) (add-suc i n) ∙ ap (tally p) (sym (add-one (i + n))) ∙ tally_more_no p (i + n) (none (i + n) (omega arith) (omega arith)) ∙ tally_past p i n (λ k l m. none k l (omega arith))

-- the numbers past the end of the list are of no brew
pub all_counted : {brews : ℕ} {a : List ℕ} {i : ℕ} {counts : List ℕ} (n : ℕ) → i ≡ length (take n a) → CountsTo brews a i counts → CountsTo brews a n counts
all_counted {a = a} {i = i} n all before =
    let rest : n ≡ i + (n - i) = omega (arith, all, length-take n a) in
    record {
      each = before.each;
      count = λ c known.
          let past : (k : ℕ) → i ≤ k → k < i + (n - i) → eqb (brew_of a k) c ≡ false =
          λ k l m. ne_eqb _ _ (λ e. let none : brew_of a k ≡ 0 = get_or-eq_default a 0 (omega (arith, all, length-take n a)) in grind (arith, nat_tests)) in
          before.count c known ∙ sym (ap (tally (λ s. eqb (brew_of a s) c)) rest ∙ tally_past _ i (n - i) past);
      beyond = before.beyond;
    }
