use Rattle.std.proofs.Common.{◌≡◌, length}
use Rattle.cards.specs.Steps.{ListedTo, bytes_of, items_of}
use Rattle.cards.proofs.written_list.places_of.Given as goal

abbrev pub invariant-loop-k : goal.invariant-loop-k
invariant-loop-k l = (length l.places ≡ 432) × ListedTo (items_of l.card) (bytes_of l.card) l.k l.places
