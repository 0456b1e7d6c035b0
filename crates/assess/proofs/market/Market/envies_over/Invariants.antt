use Rattle.std.proofs.Common.{◌≤◌, length}
use Rattle.assess.specs.EnvyList.{OffersAll, envies_over}
use Rattle.assess.specs.Markets.{market_in}
use Rattle.assess.proofs.market.Market.envies_over.Given as goal

abbrev pub invariant-loop-rival : goal.invariant-loop-rival
invariant-loop-rival g l =
    OffersAll (envies_over (market_in g.T.OrderBook.meaning g.B.OrderBook.meaning l.self) l.allotment l.taker l.brew (length l.yielded)) l.count l.initial.line l.initial.slots l.line l.slots
    × (l.count ≤ length l.yielded)
