-- Counting those that pass a test by their rank, lower ranks being better.
use Rattle.std.proofs.Common.{◌≡◌, ℕ, zero, suc, ◌+◌, ◌<◌, ◌≤◌, Bool, true, false, ◌&&◌, ltb, sym, ap, ◌∙◌, ⊎_elim, arith, below_more}
use Rattle.std.proofs.lemmas.Bool.{cases_Bool, cases_lt, both_ways, lt-ltb, le-ltb, ltb-true, and_parts, and_from, and_left, and_right}
use Rattle.tally.specs.Tally.{tally}
use Rattle.tally.proofs.Tallies.{one, tally_mono, tally_fails, tally_none, tally_one_more}

one_more : (P : ℕ → Type 0) (n : ℕ) → ((k : ℕ) → k < n → P k) → P n → (k : ℕ) → k < suc n → P k
one_more P n below here k l = below_more P n below here k (omega arith)

module _ (p : ℕ → Bool) (rank : ℕ → ℕ) where
  -- t passes and has the highest rank of those below n that do
  pub record Greatest (n t : ℕ) : Type 0 where
    pub below : t < n
    pub passes : p t ≡ true
    pub highest : (u : ℕ) → u < n → p u ≡ true → rank u ≤ rank t

  pub greatest : (n : ℕ) → 1 ≤ tally p n → (t : ℕ) × Greatest n t
  greatest zero some = absurd (omega arith)
  greatest (suc n) some =
      ⊎_elim
      (λ (e : p n ≡ true). ⊎_elim (λ (before : 0 < tally p n). higher e (greatest n before)) (λ (none : tally p n ≤ 0). only e (omega arith)) (cases_lt 0 (tally p n)))
      (λ (e : p n ≡ false). earlier e (greatest n (omega (arith, ap one e))))
      (cases_Bool (p n))
    where
      earlier : p n ≡ false → (t : ℕ) × Greatest n t → (t : ℕ) × Greatest (suc n) t
      earlier e g =
          (g.0, record { below = omega (arith, g.1.below); passes = g.1.passes; highest = one_more _ n g.1.highest (λ t. absurd (both_ways (p n) e t)) })

      only : p n ≡ true → tally p n ≡ 0 → (t : ℕ) × Greatest (suc n) t
      only e none =
          (n, record { below = omega arith; passes = e; highest = one_more _ n (λ u l t. absurd (both_ways (p u) (tally_none p n none u l) t)) (λ _. omega arith) })

      higher : p n ≡ true → (t : ℕ) × Greatest n t → (t : ℕ) × Greatest (suc n) t
      higher e g =
          ⊎_elim
          (λ (l : rank g.0 < rank n).
          (n, record { below = omega arith; passes = e; highest = one_more _ n (λ u m t. omega (arith, g.1.highest u m t)) (λ _. omega arith) }))
          (λ (l : rank n ≤ rank g.0).
          (g.0, record { below = omega (arith, g.1.below); passes = g.1.passes; highest = one_more _ n g.1.highest (λ _. l) }))
          (cases_lt (rank g.0) (rank n))

  -- how many of those below n that pass have a rank below r
  abbrev pub ranked : ℕ → ℕ → ℕ
  ranked n r = tally (λ t. p t && ltb (rank t) r) n

  -- of these, those that have fewer than m below themselves
  abbrev pub front : ℕ → ℕ → ℕ → ℕ → Bool
  front n m r t = (p t && ltb (rank t) r) && ltb (ranked n (rank t)) m

  -- Where m or more pass with a rank below r, m or more of them have fewer than m below themselves.
  pub front_stays : (n m r : ℕ) → m ≤ ranked n r → m ≤ tally (front n m r) n
  front_stays n m zero h =
      let none : ranked n 0 ≡ 0 = tally_fails _ n (λ k l. and_right (p k) _ (le-ltb (rank k) 0 (omega arith))) in
      omega (arith, h)
  front_stays n m (suc r) h =
      ⊎_elim
      (λ (l : ranked n r < m).
      let all : ranked n (suc r) ≤ tally (front n m (suc r)) n =
      tally_mono _ (front n m (suc r)) n (λ k b t. and_from _ _ t (lt-ltb _ _ (omega (arith, ranked_mono (rank k) r (omega (arith, ltb-true _ _ (and_parts (p k) _ t).1)))))) in
      omega arith)
      (λ (l : m ≤ ranked n r).
      let more : tally (front n m r) n ≤ tally (front n m (suc r)) n =
      tally_mono (front n m r) (front n m (suc r)) n (λ k b t.
      let both = and_parts (p k && ltb (rank k) r) (ltb (ranked n (rank k)) m) t in
      and_from _ _ (wider k r (suc r) (omega arith) both.0) both.1) in
      omega (arith, front_stays n m r l))
      (cases_lt (ranked n r) m)
    where
      wider : (k q r : ℕ) → q ≤ r → (p k && ltb (rank k) q) ≡ true → (p k && ltb (rank k) r) ≡ true
      wider k q r l t = let both = and_parts (p k) _ t in and_from _ _ both.0 (lt-ltb _ _ (omega (arith, ltb-true _ _ both.1)))

      ranked_mono : (q r : ℕ) → q ≤ r → ranked n q ≤ ranked n r
      ranked_mono q r l = tally_mono _ _ n (λ k b t. wider k q r l t)

  -- Where more than m pass, with different ranks, one of them has m or more below itself.
  pub crowded : (n m : ℕ) → ((t u : ℕ) → t < n → u < n → p t ≡ true → p u ≡ true → rank t ≡ rank u → t ≡ u) → m < tally p n → (t : ℕ) × (t < n) × (p t ≡ true) × (m ≤ ranked n (rank t))
  crowded n m apart more =
      (last.0, last.1.below, last.1.passes, omega (arith, count))
    where
      last : (t : ℕ) × Greatest n t
      last = greatest n (omega arith)

      others : (k : ℕ) → k < n → (k ≡ last.0 → ⊥) → (p k && ltb (rank k) (rank last.0)) ≡ p k
      others k l ne =
          ⊎_elim
          (λ (e : p k ≡ true).
          let below : rank k < rank last.0 =
          ⊎_elim (λ (m : rank k < rank last.0). m)
          (λ (m : rank last.0 ≤ rank k). absurd (ne (apart k last.0 l last.1.below e last.1.passes (omega (arith, last.1.highest k l e)))))
          (cases_lt (rank k) (rank last.0)) in
          and_from _ _ e (lt-ltb _ _ below) ∙ sym e)
          (λ (e : p k ≡ false). and_left _ _ e ∙ sym e)
          (cases_Bool (p k))

      count : tally p n ≡ ranked n (rank last.0) + 1
      count = tally_one_more _ p n last.0 last.1.below (and_right _ _ (le-ltb (rank last.0) (rank last.0) (omega arith))) last.1.passes others
