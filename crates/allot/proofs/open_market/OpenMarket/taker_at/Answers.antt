use Rattle.std.proofs.Common.{◌-◌, sym, subst}
use Rattle.allot.specs.OpenMarkets.{market_in, AtPlace}
use Rattle.allot.proofs.Facts.{taker_found}
use Rattle.allot.proofs.open_market.OpenMarket.taker_at.Goals as goal

pub returns : goal.returns
returns g c =
    let found = taker_found c.args.self.now c.args.brew c.args.place c.row.result.now c.requires.brew c.requires.place c.row.ensures in
    subst (λ x. AtPlace (market_in c.args.self.now) c.args.brew c.args.place (x - 1)) (sym c.from.ensures) found
