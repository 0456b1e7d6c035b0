use Rattle.std.proofs.Common.{refl, arith}
use Rattle.std.proofs.lemmas.Iterator.{YieldsList-from_slice, YieldsList-from_take}
use Rattle.std.proofs.lemmas.Iterator.Consumers.{YieldsList-end, YieldsList-from_enumerate, YieldsList-turn}
use Rattle.std.proofs.lemmas.List.{length_push}
use Rattle.assess.specs.EnvyList.{envies_of}
use Rattle.assess.specs.Markets.{market_in}
use Rattle.assess.proofs.Telling.{all_told, next_told, no_envies, told}
use Rattle.assess.proofs.market.Market.envies.Goals as goal

pub loop-taker-preserved : goal.loop-taker-preserved
loop-taker-preserved g c =
    let w = market_in g.T.OrderBook.meaning g.B.OrderBook.meaning c.args.self.now in
    let t = YieldsList-turn (YieldsList-from_enumerate (YieldsList-from_take w.figures.takers (YieldsList-from_slice c.args.allotment.now cc) cc) cc) c.loop-taker.yielded _ c.loop-taker.yielded_by _ _ (c.in-Some.taker, c.in-Some.field-0-1) c.in-Some.is c.next.ensures.steps in
    let step = length_push c.loop-taker.yielded (c.in-Some.taker, c.in-Some.field-0-1) in
    (next_told (envies_of w c.args.allotment.now) c.args.allotment.now w.figures.takers _ t step c.loop-taker.invariant.0 (λ has. c.envies_of-count.ensures.told), omega (arith, step))

pub returns : goal.returns
returns g c =
    let w = market_in g.T.OrderBook.meaning g.B.OrderBook.meaning c.args.self.now in
    let t = YieldsList-end (YieldsList-from_enumerate (YieldsList-from_take w.figures.takers (YieldsList-from_slice c.args.allotment.now cc) cc) cc) c.loop-taker.yielded _ c.loop-taker.yielded_by _ _ c.in-None.is c.next.ensures.steps in
    told w.figures.takers refl c.clear.ensures.begun (all_told (envies_of w c.args.allotment.now) c.args.allotment.now w.figures.takers _ (no_envies w.figures (g.T.OrderBook.meaning c.args.self.now.takers.now) (g.B.OrderBook.meaning c.args.self.now.brews.now) c.args.allotment.now) t.1 c.loop-taker.invariant.0)
