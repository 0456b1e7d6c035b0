-- Laws of adding up over the numbers below a bound.
use Rattle.std.proofs.Common.{◌≡◌, ℕ, zero, suc, ◌*◌, ◌<◌, ◌≤◌, refl, ap, subst, ⊎_elim, arith}
use Rattle.std.proofs.lemmas.Bool.{cases_eq}
use Rattle.tally.specs.Tally.{sum_below}

pub sum_mono : (f g : ℕ → ℕ) (n : ℕ) → ((k : ℕ) → k < n → f k ≤ g k) → sum_below f n ≤ sum_below g n
sum_mono f g zero h = omega arith
sum_mono f g (suc n) h = omega (arith, h n (omega arith), sum_mono f g n (λ k l. h k (omega arith)))

pub sum_strict : (f g : ℕ → ℕ) (n y : ℕ) → y < n → f y < g y → ((k : ℕ) → k < n → f k ≤ g k) → sum_below f n < sum_below g n
sum_strict f g zero y l less h = absurd (omega arith)
sum_strict f g (suc n) y l less h =
    ⊎_elim
    (λ (e : y ≡ n). omega (arith, subst (λ k. f k < g k) e less, sum_mono f g n (λ k m. h k (omega arith))))
    (λ (ne : y ≡ n → ⊥). omega (arith, h n (omega arith), sum_strict f g n y (omega arith) less (λ k m. h k (omega arith))))
    (cases_eq y n)

pub sum_le : (f : ℕ → ℕ) (m n : ℕ) → ((k : ℕ) → k < n → f k ≤ m) → sum_below f n ≤ n * m
sum_le f m zero h = omega arith
sum_le f m (suc n) h = omega (arith, h n (omega arith), sum_le f m n (λ k l. h k (omega arith)))

pub sum_none : (f : ℕ → ℕ) (n : ℕ) → ((k : ℕ) → k < n → f k ≡ 0) → sum_below f n ≡ 0
sum_none f zero h = refl
sum_none f (suc n) h = omega (arith, h n (omega arith), sum_none f n (λ k l. h k (omega arith)))

pub sum_part : (f : ℕ → ℕ) (n k : ℕ) → k < n → f k ≤ sum_below f n
sum_part f zero k l = absurd (omega arith)
sum_part f (suc n) k l =
    ⊎_elim (λ (e : k ≡ n). omega (arith, ap f e)) (λ (ne : k ≡ n → ⊥). omega (arith, sum_part f n k (omega arith))) (cases_eq k n)
