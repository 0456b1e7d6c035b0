use Rattle.assess.proofs.Gains.{Counted}
use Rattle.assess.proofs.compare.gains.Given as goal

abbrev pub invariant-loop-taker : goal.invariant-loop-taker
invariant-loop-taker g l = Counted (g.T.OrderBook.meaning l.takers) l.a l.b l.taker l.higher
