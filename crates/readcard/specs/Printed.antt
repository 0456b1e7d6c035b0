-- The bytes of each line that is printed, less the line's end.
use Rattle.std.specs.Prelude.{ℕ, List, ◌++◌, codes, decimal}
use Rattle.refusal.specs.Told.{refusal_text}
use Rattle.orders.specs.Refusals.{book_refusal}
use Rattle.readcard.specs.declared.line.Line.{Line}
use Rattle.readcard.specs.declared.line.Line.TheVariants.{Ok, Place, Refused}

abbrev pub printed : Line → List ℕ
printed Ok = codes "ok"
printed (Place item place) = codes "item " ++ (decimal item ++ (codes " place " ++ decimal place))
printed (Refused fault) = codes "refused " ++ refusal_text (book_refusal fault)
