-- Counting and adding up, below a number or over a list, and the place of a value in a finite sequence. All compute.
use Rattle.std.specs.Prelude.{ℕ, zero, suc, ◌+◌, Bool, cond, List, [], ◌∷◌, ◌==◌}

-- how many of 0 .. n - 1 pass the test
abbrev pub tally : (ℕ → Bool) → ℕ → ℕ
tally p zero = 0
tally p (suc n) = cond {A = ℕ} (p n) 1 0 + tally p n

-- where x stands in f 0 .. f (n - 1), counted from 1, or 0 where it does not; the last place where it stands more than once
abbrev pub position : (ℕ → ℕ) → ℕ → ℕ → ℕ
position f x zero = 0
position f x (suc n) = cond {A = ℕ} (f n == x) (suc n) (position f x n)

-- f 0 + .. + f (n - 1)
abbrev pub sum_below : (ℕ → ℕ) → ℕ → ℕ
sum_below f zero = 0
sum_below f (suc n) = f n + sum_below f n

-- the sum of f over the entries of a list
abbrev pub total : (ℕ → ℕ) → List ℕ → ℕ
total f [] = 0
total f (x ∷ xs) = f x + total f xs
