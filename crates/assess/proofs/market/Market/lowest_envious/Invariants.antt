use Rattle.std.proofs.Common.{◌≡◌, ℕ, ◌<◌, None}
use Rattle.assess.specs.Markets.{market_in}
use Rattle.assess.proofs.Rivals.{EnviesNone}
use Rattle.assess.proofs.market.Market.lowest_envious.Given as goal

abbrev pub invariant-loop-rival : goal.invariant-loop-rival
invariant-loop-rival g l = (l.found ≡ None) × EnviesNone (market_in g.T.OrderBook.meaning g.B.OrderBook.meaning l.self) l.allotment l.rival l.taker

abbrev pub invariant-takers : goal.invariant-takers
invariant-takers g l =
    (l.found ≡ None)
    × ((s : ℕ) → s < l.taker → EnviesNone (market_in g.T.OrderBook.meaning g.B.OrderBook.meaning l.self) l.allotment l.takers s)
