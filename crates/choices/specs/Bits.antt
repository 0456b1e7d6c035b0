-- A set of brews kept as the bits of one number.
use Rattle.std.specs.Prelude.{ℕ, zero, suc, ◌+◌, ◌-◌, ◌^◌, cond, List, [], ◌∷◌, nat_le}

-- the brews from low + 1 to low + n that a number below 2 ^ n stands for: the highest bit is for the first
abbrev pub brews_in : ℕ → ℕ → ℕ → List ℕ
brews_in low zero bits = []
brews_in low (suc n) bits = cond (nat_le (2 ^ n) bits) ((low + 1) ∷ brews_in (low + 1) n (bits - 2 ^ n)) (brews_in (low + 1) n bits)
