use Rattle.std.proofs.Common.{rules}
use Rattle.choices.specs.Rounds.{figures_of}
use Rattle.assess.proofs.Gains.{better_by_gains}
use Rattle.assess.proofs.compare.is_better.Goals as goal

pub returns : goal.returns
returns g c =
    better_by_gains (figures_of c.args.figures.now) (g.T.OrderBook.meaning c.args.takers.now) c.args.a.now c.args.b.now c.takers.result c.takers.ensures
    c.gains.result c.is_some_and.result c.gains.ensures c.is_some_and.ensures (λ higher told. search rules)
