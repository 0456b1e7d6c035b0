-- The line of a choice: its brews and its best fair allotment.
use Rattle.std.specs.Prelude.{◌≡◌, ℕ, List, ◌++◌, take, Some, None, codes, Option}
use Rattle.choices.specs.Chosen.{brews_of}
use Rattle.orders.specs.Books.{Meaning}
use Rattle.fair.specs.Markets.{Figures}
use Rattle.fair.specs.Acceptance.{deferred_acceptance}
use Rattle.fair.specs.FromBooks.{Complete, market_of}
use Rattle.worked.specs.Printed.{spaced}
use Rattle.worked.specs.declared.lines.ChoiceLine.{ChoiceLine}

abbrev pub choice_line : List ℕ → List ℕ → List ℕ
choice_line cs a = codes "choice" ++ (spaced cs ++ (codes " best fair" ++ spaced a))

-- the bytes that are printed
abbrev pub line_bytes : ChoiceLine → List ℕ
line_bytes line = choice_line (brews_of line.choice) (take line.choice.figures.takers line.allotment)

-- There is a line exactly when the books are complete.
abbrev pub ChoiceTold : Figures → (takers_book brews_book : Meaning) → (cs : List ℕ) → Option ChoiceLine → Type 0
ChoiceTold f t b cs (Some line) = Complete f t b × (line_bytes line ≡ choice_line cs (deferred_acceptance (market_of f t b) cs))
ChoiceTold f t b cs None = Complete f t b → ⊥
