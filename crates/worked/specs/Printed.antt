-- The bytes of the lines that are printed, less the line's end.
use Rattle.std.specs.Prelude.{ℕ, List, ◌++◌, codes, decimal}
use Rattle.std.specs.List.{flat_map}
use Rattle.assess.specs.declared.envy.Envy.{Envy}

-- each number behind a space
abbrev pub spaced : List ℕ → List ℕ
spaced = flat_map (λ x. codes " " ++ decimal x)

abbrev pub allotment_line : List ℕ → List ℕ
allotment_line a = codes "allotment" ++ spaced a

abbrev pub envy_line : Envy → List ℕ
envy_line envy = codes "envy taker " ++ (decimal envy.taker ++ (codes " brew " ++ (decimal envy.brew ++ (codes " rival " ++ decimal envy.rival))))
