use Rattle.std.proofs.Common.{sym, arith, below_more}
use Rattle.assess.specs.Markets.{market_in}
use Rattle.assess.proofs.Rivals.{lowest_envious}
use Rattle.assess.proofs.market.Market.lowest_envious.Goals as goal

pub loop-rival-preserved : goal.loop-rival-preserved
loop-rival-preserved g c = (c.loop-rival.invariant.0, below_more _ _ c.loop-rival.invariant.1 (sym c.if-envies_rival.ensures))

pub takers-preserved : goal.takers-preserved
takers-preserved g c = (c.loop-rival.invariant.0, below_more _ _ c.takers.invariant.1 (λ t l. c.loop-rival.invariant.1 t (omega arith)))

pub returns-then-envies_rival : goal.returns-then-envies_rival
returns-then-envies_rival g c =
    lowest_envious (market_in g.T.OrderBook.meaning g.B.OrderBook.meaning c.args.self.now) c.args.allotment.now c.takers.taker c.loop-rival.rival
    c.number.result c.number.ensures (omega arith) (omega arith) (sym c.if-envies_rival.ensures) (λ j l t m. c.takers.invariant.1 j l t (omega arith))
