use Rattle.std.proofs.Common.{◌≡◌, length}
use Rattle.acceptance.specs.Rankings.{RankedTo}
use Rattle.allot.proofs.ranking.Ranking.of.Given as goal

abbrev pub invariant-loop-chooser : goal.invariant-loop-chooser
invariant-loop-chooser g l = (length l.table ≡ 6912) × RankedTo (g.B.OrderBook.meaning l.book) l.chooser 0 l.table
