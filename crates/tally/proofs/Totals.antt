-- Laws of adding up over a list.
use Rattle.std.proofs.Common.{◌≡◌, ℕ, ◌*◌, ◌<◌, ltb, ◌⊎◌, List, [], ◌∷◌, length, filter, refl, ap, ⊎_elim, arith}
use Rattle.std.proofs.lemmas.Bool.{cond-true, cond-false, lt-ltb, le-ltb}
use Rattle.tally.specs.Tally.{total}

pub total_constant : (k : ℕ) (xs : List ℕ) → total (λ _. k) xs ≡ k * length xs
total_constant k [] = omega arith
total_constant k (x ∷ xs) = omega (arith, total_constant k xs)

pub total_none : (f : ℕ → ℕ) (xs : List ℕ) → ((x : ℕ) → f x ≡ 0) → total f xs ≡ 0
total_none f [] h = refl
total_none f (x ∷ xs) h = omega (arith, h x, total_none f xs h)

-- where each is nothing or k, the total counts those that are something
pub total_all_or_nothing : (f : ℕ → ℕ) (k : ℕ) (xs : List ℕ) → 0 < k → ((x : ℕ) → (f x ≡ 0) ⊎ (f x ≡ k)) → total f xs ≡ k * length (filter (λ x. ltb 0 (f x)) xs)
total_all_or_nothing f k [] pos each = omega arith
total_all_or_nothing f k (x ∷ xs) pos each =
    let rest = total_all_or_nothing f k xs pos each in
    let kept = filter (λ y. ltb 0 (f y)) xs in
    ⊎_elim (λ (nothing : f x ≡ 0). omega (arith, ap (λ ys. k * length ys) (cond-false (ltb 0 (f x)) (x ∷ kept) kept (le-ltb 0 (f x) (omega arith)))))
    (λ (all : f x ≡ k). omega (arith, ap (λ ys. k * length ys) (cond-true (ltb 0 (f x)) (x ∷ kept) kept (lt-ltb 0 (f x) (omega arith)))))
    (each x)
