use Rattle.std.proofs.Common.{arith}
use Rattle.std.proofs.lemmas.Grind.{common_steps}
use Rattle.std.proofs.lemmas.Iterator.{YieldsList-from_slice, YieldsList-from_take}
use Rattle.std.proofs.lemmas.Iterator.Consumers.{YieldsList-end, YieldsList-from_enumerate, YieldsList-turn}
use Rattle.std.proofs.lemmas.List.{length_push}
use Rattle.assess.specs.EnvyList.{envy_over}
use Rattle.assess.specs.Markets.{market_in}
use Rattle.assess.proofs.Telling.{all_told, next_told, no_rival, passed_over}
use Rattle.assess.proofs.market.Market.envies_over.Goals as goal

pub returns-then-not-ranks_above-clause-told : goal.returns-then-not-ranks_above-clause-told
returns-then-not-ranks_above-clause-told g c =
    let w = market_in g.T.OrderBook.meaning g.B.OrderBook.meaning c.args.self.now in
    passed_over w c.args.allotment.now c.args.taker c.args.brew w.figures.takers c.args.line.now c.args.slots.now (grind arith)

pub loop-rival-preserved : goal.loop-rival-preserved
loop-rival-preserved g c =
    let w = market_in g.T.OrderBook.meaning g.B.OrderBook.meaning c.args.self.now in
    let t = YieldsList-turn (YieldsList-from_enumerate (YieldsList-from_take w.figures.takers (YieldsList-from_slice c.args.allotment.now cc) cc) cc) c.loop-rival.yielded _ c.loop-rival.yielded_by _ _ (c.in-Some.rival, c.in-Some.field-0-1) c.in-Some.is c.next.ensures.steps in
    let step = length_push c.loop-rival.yielded (c.in-Some.rival, c.in-Some.field-0-1) in
    (next_told (envy_over w c.args.allotment.now c.args.taker c.args.brew) c.args.allotment.now w.figures.takers _ t step c.loop-rival.invariant.0 (λ has. c.envy_over-count.ensures.told c.args.allotment.now (grind (arith, common_steps)) (grind (arith, common_steps))), omega (arith, step))

pub returns-clause-told : goal.returns-clause-told
returns-clause-told g c =
    let w = market_in g.T.OrderBook.meaning g.B.OrderBook.meaning c.args.self.now in
    let t = YieldsList-end (YieldsList-from_enumerate (YieldsList-from_take w.figures.takers (YieldsList-from_slice c.args.allotment.now cc) cc) cc) c.loop-rival.yielded _ c.loop-rival.yielded_by _ _ c.in-None.is c.next.ensures.steps in
    all_told (envy_over w c.args.allotment.now c.args.taker c.args.brew) c.args.allotment.now w.figures.takers _ (no_rival w c.args.allotment.now c.args.taker c.args.brew c.requires.2) t.1 c.loop-rival.invariant.0
