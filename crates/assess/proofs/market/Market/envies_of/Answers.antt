use Rattle.std.proofs.Common.{ℕ, ◌+◌, ◌-◌, arith}
use Rattle.assess.specs.EnvyList.{envies_over}
use Rattle.assess.specs.Markets.{market_in}
use Rattle.assess.proofs.Offering.{gathers_next}
use Rattle.assess.proofs.market.Market.envies_of.Goals as goal

pub loop-brew-preserved : goal.loop-brew-preserved
loop-brew-preserved g c =
    let w = market_in g.T.OrderBook.meaning g.B.OrderBook.meaning c.args.self.now in
    let over = λ (brew : ℕ). envies_over w c.args.allotment.now c.args.taker brew w.figures.takers in
    (gathers_next over c.loop-brew.brew (c.loop-brew.brew + 1 - 1) (omega arith) (omega arith) c.loop-brew.invariant.0 c.envies_over-count.ensures.told, omega arith)

pub returns-2-clause-told : goal.returns-2-clause-told
returns-2-clause-told g c =
    let w = market_in g.T.OrderBook.meaning g.B.OrderBook.meaning c.args.self.now in
    let over = λ (brew : ℕ). envies_over w c.args.allotment.now c.args.taker brew w.figures.takers in
    gathers_next over c.loop-brew.brew w.figures.brews (omega arith) (omega arith) c.loop-brew.invariant.0 c.envies_over-count.ensures.told
