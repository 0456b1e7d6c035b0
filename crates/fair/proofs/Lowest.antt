-- Searching 1 to n for the lowest number of which something holds.
use Rattle.std.proofs.Common.{◌≡◌, ℕ, zero, suc, ◌≤◌, Bool, true, false, cond, Decides, refl, subst, ⊎_elim, arith}
use Rattle.std.proofs.lemmas.Bool.{both_ways, cases_eq}
use Rattle.fair.specs.Proposals.{Lowest}

-- the first number, or the second where the first is 0
abbrev or_else : ℕ → ℕ → ℕ
or_else zero k = k
or_else (suc r) k = suc r

-- the lowest of 1 to n that passes the test, or 0
abbrev pub lowest : (ℕ → Bool) → ℕ → ℕ
lowest p zero = 0
lowest p (suc n) = or_else (lowest p n) (cond {A = ℕ} (p (suc n)) (suc n) 0)

-- P holds of none of 1 to n
abbrev pub Clear : ℕ → (ℕ → Type 0) → Type 0
Clear n P = (k : ℕ) → 1 ≤ k → k ≤ n → P k → ⊥

-- What a search for the lowest finds: 0 where there is none.
abbrev pub Found : ℕ → (ℕ → Type 0) → ℕ → Type 0
Found n P zero = Clear n P
Found n P (suc k) = Lowest n P (suc k)

found_more : (P : ℕ → Type 0) (n r : ℕ) (b : Bool) → Decides b (P (suc n)) → Found n P r → Found (suc n) P (or_else r (cond {A = ℕ} b (suc n) 0))
found_more P n (suc r) b here l = record { low = l.low; high = omega arith; holds = l.holds; not_before = l.not_before }
found_more P n zero true here clear = record { low = omega arith; high = omega arith; holds = here.0 refl; not_before = λ j low before. clear j low (omega arith) }
found_more P n zero false here clear = λ k low high h.
    ⊎_elim
    (λ (e : k ≡ suc n). both_ways false refl (here.1 (subst P e h)))
    (λ (ne : k ≡ suc n → ⊥). clear k low (omega arith) h)
    (cases_eq k (suc n))

pub lowest_found : (p : ℕ → Bool) (P : ℕ → Type 0) (n : ℕ) → ((k : ℕ) → 1 ≤ k → k ≤ n → Decides (p k) (P k)) → Found n P (lowest p n)
lowest_found p P zero decides = λ k low high _. omega arith
lowest_found p P (suc n) decides = found_more P n (lowest p n) (p (suc n)) (decides (suc n) (omega arith) (omega arith)) (lowest_found p P n (λ k low high. decides k low (omega arith)))
