-- Laws of counting.
use Rattle.std.proofs.Common.{◌≡◌, ℕ, zero, suc, ◌+◌, ◌<◌, ◌≤◌, Bool, true, false, cond, ◌||◌, sym, refl, ap, ◌∙◌, ⊎_elim, add-one, arith}
use Rattle.std.proofs.lemmas.Bool.{cases_Bool, cases_eq, both_ways}
use Rattle.tally.specs.Tally.{tally}

abbrev pub one : Bool → ℕ
one b = cond {A = ℕ} b 1 0

one_mono : (x y : Bool) → (x ≡ true → y ≡ true) → one x ≤ one y
one_mono false y h = omega arith
one_mono true true h = omega arith
one_mono true false h = absurd (both_ways false refl (h refl))

pub tally_mono : (p q : ℕ → Bool) (n : ℕ) → ((k : ℕ) → k < n → p k ≡ true → q k ≡ true) → tally p n ≤ tally q n
tally_mono p q zero h = omega arith
tally_mono p q (suc n) h = omega (arith, one_mono (p n) (q n) (h n (omega arith)), tally_mono p q n (λ k l. h k (omega arith)))

-- a test that passes wherever another does, and once more, counts more
pub tally_strict : (p q : ℕ → Bool) (n y : ℕ) → y < n → p y ≡ false → q y ≡ true → ((k : ℕ) → k < n → p k ≡ true → q k ≡ true) → tally p n < tally q n
tally_strict p q zero y l fails passes h = omega arith
tally_strict p q (suc n) y l fails passes h =
    let below : (k : ℕ) → k < n → p k ≡ true → q k ≡ true = λ k m. h k (omega arith) in
    ⊎_elim
    (λ (e : y ≡ n).
    let pn : one (p n) ≡ 0 = ap (λ k. one (p k)) (sym e) ∙ ap one fails in
    let qn : one (q n) ≡ 1 = ap (λ k. one (q k)) (sym e) ∙ ap one passes in
    omega (arith, tally_mono p q n below))
    (λ (ne : y ≡ n → ⊥).
    omega (arith, one_mono (p n) (q n) (h n (omega arith)), tally_strict p q n y (omega arith) fails passes below))
    (cases_eq y n)

pub tally_always : (n : ℕ) → tally (λ _. true) n ≡ n
tally_always zero = refl
tally_always (suc n) = omega (arith, tally_always n)

pub tally_never : (n : ℕ) → tally (λ _. false) n ≡ 0
tally_never zero = refl
tally_never (suc n) = omega (arith, tally_never n)

-- a test that fails somewhere counts fewer than all
pub tally_below : (p : ℕ → Bool) (n y : ℕ) → y < n → p y ≡ false → tally p n < n
tally_below p n y l fails = omega (arith, tally_always n, tally_strict p (λ _. true) n y l fails refl (λ _ _ _. refl))

-- a test that counts all passes everywhere
pub tally_full : (p : ℕ → Bool) (n : ℕ) → tally p n ≡ n → (k : ℕ) → k < n → p k ≡ true
tally_full p n full k l =
    ⊎_elim (λ (t : p k ≡ true). t) (λ (f : p k ≡ false). absurd (omega (arith, tally_below p n k l f))) (cases_Bool (p k))

pub tally_same : (p q : ℕ → Bool) (n : ℕ) → ((k : ℕ) → k < n → p k ≡ q k) → tally p n ≡ tally q n
tally_same p q zero h = refl
tally_same p q (suc n) h = omega (arith, ap one (h n (omega arith)), tally_same p q n (λ k l. h k (omega arith)))

-- two tests that differ only in that the second passes at y
pub tally_one_more : (p q : ℕ → Bool) (n y : ℕ) → y < n → p y ≡ false → q y ≡ true → ((k : ℕ) → k < n → (k ≡ y → ⊥) → p k ≡ q k) → tally q n ≡ tally p n + 1
tally_one_more p q zero y l fails passes h = absurd (omega arith)
tally_one_more p q (suc n) y l fails passes h =
    ⊎_elim
    (λ (e : y ≡ n).
    let pn : one (p n) ≡ 0 = ap (λ k. one (p k)) (sym e) ∙ ap one fails in
    let qn : one (q n) ≡ 1 = ap (λ k. one (q k)) (sym e) ∙ ap one passes in
    omega (arith, tally_same p q n (λ k m. h k (omega arith) (λ z. omega arith))))
    (λ (ne : y ≡ n → ⊥).
    let m : y < n = omega arith in
    omega (arith, ap one (h n (omega arith) (λ z. ne (sym z))), tally_one_more p q n y m fails passes (λ k z. h k (omega arith))))
    (cases_eq y n)

one_apart : (x y : Bool) → (x ≡ true → y ≡ false) → one x + one y ≡ one (x || y)
one_apart false y h = omega arith
one_apart true y h = omega (arith, ap one (h refl))

-- two tests that never both pass
pub tally_apart : (p q : ℕ → Bool) (n : ℕ) → ((k : ℕ) → k < n → p k ≡ true → q k ≡ false) → tally p n + tally q n ≡ tally (λ k. p k || q k) n
tally_apart p q zero h = refl
tally_apart p q (suc n) h = omega (arith, one_apart (p n) (q n) (h n (omega arith)), tally_apart p q n (λ k l. h k (omega arith)))

-- a loop's step
pub tally_more_yes : (p : ℕ → Bool) (n : ℕ) → p n ≡ true → tally p (n + 1) ≡ tally p n + 1
tally_more_yes p n e = rw add-one (omega (arith, ap one e))

pub tally_more_no : (p : ℕ → Bool) (n : ℕ) → p n ≡ false → tally p (n + 1) ≡ tally p n
tally_more_no p n e = rw add-one (omega (arith, ap one e))

-- a test that passes somewhere counts one at least
pub tally_some : (p : ℕ → Bool) (n k : ℕ) → k < n → p k ≡ true → 1 ≤ tally p n
tally_some p n k l t = omega (arith, tally_never n, tally_strict (λ _. false) p n k l refl t (λ j m e. absurd (both_ways false refl e)))

pub tally_fails : (p : ℕ → Bool) (n : ℕ) → ((k : ℕ) → k < n → p k ≡ false) → tally p n ≡ 0
tally_fails p n fails = tally_same p (λ _. false) n fails ∙ tally_never n

-- a test that counts none fails everywhere
pub tally_none : (p : ℕ → Bool) (n : ℕ) → tally p n ≡ 0 → (k : ℕ) → k < n → p k ≡ false
tally_none p n none k l =
    ⊎_elim (λ (t : p k ≡ true). absurd (omega (arith, tally_some p n k l t))) (λ (f : p k ≡ false). f) (cases_Bool (p k))

pub tally_le : (p : ℕ → Bool) (n : ℕ) → tally p n ≤ n
tally_le p n = omega (arith, tally_always n, tally_mono p (λ _. true) n (λ _ _ _. refl))
