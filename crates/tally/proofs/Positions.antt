-- Laws of places in a finite sequence, and that n different values among n are all of them.
use Rattle.std.proofs.Common.{◌≡◌, ℕ, zero, suc, ◌+◌, ◌-◌, ◌<◌, ◌≤◌, Bool, true, false, ltb, List, length, get_or, set, sym, ap, ◌∙◌, ⊎_elim, add-one, arith}
use Rattle.std.proofs.lemmas.List.{get_or-set_same, get_or-set_other}
use Rattle.std.proofs.lemmas.Bool.{cases_eq, eq-eqb, ne_eqb, cond-true, cond-false, lt-ltb, le-ltb, ltb-true}
use Rattle.tally.specs.Tally.{tally, position}
use Rattle.tally.proofs.Tallies.{tally_never, tally_one_more, tally_full}

module _ (f : ℕ → ℕ) where
  pub position_here : (x n : ℕ) → f n ≡ x → position f x (suc n) ≡ suc n
  position_here x n e = cond-true _ _ _ (eq-eqb (f n) x e)

  pub position_past : (x n : ℕ) → (f n ≡ x → ⊥) → position f x (suc n) ≡ position f x n
  position_past x n ne = cond-false _ _ _ (ne_eqb (f n) x ne)

  pub position_le : (x n : ℕ) → position f x n ≤ n
  position_le x zero = omega arith
  position_le x (suc n) =
      ⊎_elim (λ (e : f n ≡ x). omega (arith, position_here x n e))
      (λ (ne : f n ≡ x → ⊥). omega (arith, position_past x n ne, position_le x n)) (cases_eq (f n) x)

  -- what stands at the place of x is x
  pub position_is : (x n : ℕ) → 0 < position f x n → f (position f x n - 1) ≡ x
  position_is x zero h = absurd (omega arith)
  position_is x (suc n) h =
      ⊎_elim
      (λ (e : f n ≡ x). ap f (omega (arith, position_here x n e)) ∙ e)
      (λ (ne : f n ≡ x → ⊥).
      let same = position_past x n ne in
      ap (λ k. f (k - 1)) same ∙ position_is x n (omega (arith, same, h)))
      (cases_eq (f n) x)

  -- x + 1 stands somewhere before n
  abbrev stands : ℕ → ℕ → Bool
  stands n x = ltb 0 (position f (x + 1) n)

  -- n different values from 1 to m are n of them
  pub count_different : (m n : ℕ) → ((k : ℕ) → k < n → (1 ≤ f k) × (f k ≤ m) × (position f (f k) k ≡ 0)) → tally (stands n) m ≡ n
  count_different m zero each = tally_never m
  count_different m (suc n) each =
      let last = each n (omega arith) in
      let y = f n - 1 in
      let back : y + 1 ≡ f n = omega (arith, last.0) in
      let before : stands n y ≡ false = le-ltb 0 _ (omega (arith, ap (λ x. position f x n) back, last.2)) in
      let after : stands (suc n) y ≡ true = lt-ltb 0 _ (omega (arith, position_here (y + 1) n (sym back))) in
      let rest : (k : ℕ) → k < m → (k ≡ y → ⊥) → stands n k ≡ stands (suc n) k =
      λ k l ne. ap (ltb 0) (sym (position_past (k + 1) n (λ e. ne (omega (arith, e, back))))) in
      omega (arith, tally_one_more (stands n) (stands (suc n)) m y (omega (arith, last.0, last.1)) before after rest, count_different m n (λ k l. each k (omega arith)))

  -- n different values from 1 to n are all of them
  pub all_stand : (n : ℕ) → ((k : ℕ) → k < n → (1 ≤ f k) × (f k ≤ n) × (position f (f k) k ≡ 0)) → (x : ℕ) → x < n → 1 ≤ position f (x + 1) n
  all_stand n each x l = ltb-true 0 _ (tally_full (stands n) n (count_different n n each) x l)

  -- A table that holds the place of each value from 1 on, one entry more: the value at k gets the place k + 1.
  pub position_more : (xs : List ℕ) (i k y : ℕ) → y + 1 ≡ f k → y < length xs → get_or xs i 0 ≡ position f (i + 1) k → get_or (set xs y (k + 1)) i 0 ≡ position f (i + 1) (k + 1)
  position_more xs i k y named within held =
      ⊎_elim
      (λ (e : i ≡ y).
      let here : position f (i + 1) (suc k) ≡ suc k = position_here (i + 1) k (omega (arith, named, e)) in
      rw (add-one k) (ap (λ j. get_or (set xs y (suc k)) j 0) e ∙ get_or-set_same xs y (suc k) 0 within ∙ sym here))
      (λ (ne : i ≡ y → ⊥).
      let past : position f (i + 1) (suc k) ≡ position f (i + 1) k = position_past (i + 1) k (λ e. ne (omega (arith, named, e))) in
      rw (add-one k) (get_or-set_other xs y i (suc k) 0 ne ∙ held ∙ sym past))
      (cases_eq i y)
