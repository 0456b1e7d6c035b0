-- How a refusal is told.
use Rattle.std.specs.Prelude.{ℕ, List, ◌++◌, codes, decimal}
use Rattle.refusal.specs.declared.Refusal.{Refusal}

abbrev pub told : ℕ → ℕ → Refusal
told n p = record { number = n; place = p }

-- the bytes that are printed: the number, ` at `, and the place
abbrev pub refusal_text : Refusal → List ℕ
refusal_text refusal = decimal refusal.number ++ (codes " at " ++ decimal refusal.place)
