use Rattle.acceptance.specs.Rankings.{RankedTo}
use Rattle.allot.proofs.ranking.rank_row.Given as goal

abbrev pub invariant-loop-item : goal.invariant-loop-item
invariant-loop-item g l = RankedTo (g.B.OrderBook.meaning l.book) l.chooser l.item l.table
