use Rattle.std.proofs.Common.{◌+◌, ◌-◌, ◌*◌, ◌≤◌}
use Rattle.assess.specs.EnvyList.{OffersAll, envies_over, gathered}
use Rattle.assess.specs.Markets.{market_in}
use Rattle.assess.proofs.market.Market.envies_of.Given as goal

abbrev pub invariant-loop-brew : goal.invariant-loop-brew
invariant-loop-brew g l =
    let w = market_in g.T.OrderBook.meaning g.B.OrderBook.meaning l.self in
    OffersAll (gathered (λ k. envies_over w l.allotment l.taker (k + 1) w.figures.takers) (l.brew - 1)) l.count l.initial.line l.initial.slots l.line l.slots
    × (l.count ≤ (l.brew - 1) * 432)
