use Rattle.std.proofs.Common.{◌*◌, ◌≤◌, length}
use Rattle.assess.specs.Markets.{market_in}
use Rattle.assess.specs.EnvyList.{OffersAll, envies_of, gathered}
use Rattle.assess.proofs.market.Market.envies.Given as goal

abbrev pub invariant-loop-taker : goal.invariant-loop-taker
invariant-loop-taker g l =
    let w = market_in g.T.OrderBook.meaning g.B.OrderBook.meaning l.self in
    OffersAll (gathered (envies_of w l.allotment) (length l.yielded)) l.count l.initial.line l.initial.slots l.line l.slots
    × (l.count ≤ length l.yielded * 6912)
