use Rattle.std.proofs.Common.{◌≡◌, true, false, drop, ◌∙◌, rules, tests}
use Rattle.std.proofs.lemmas.Iterator.{first_from_find, YieldsList-from_slice, YieldsList-from_map}
use Rattle.std.proofs.lemmas.Iterator.Consumers.{YieldsList-at}
use Rattle.std.proofs.lemmas.List.{map-id, take_rest}
use Rattle.fair.specs.Choices.{among}
use Rattle.allot.specs.OpenMarkets.{brews_opened}
use Rattle.allot.proofs.Facts.{brew_found}
use Rattle.allot.proofs.open_market.OpenMarket.next_brew.Goals as goal

pub returns : goal.returns
returns g c =
    let o = c.args.self.now in
    let cs = brews_opened o in
    brew_found o c.args.taker c.args.place c.row.result.now _ c.requires.taker c.requires.place c.row.ensures (map-id (drop c.args.place c.row.result.now)) c.find.result
    (first_from_find {v = λ d. d} _ _ c.find.result (λ d. among cs d ≡ true) (λ d. among cs d ≡ false) c.find.ensures.ran
    (YieldsList-from_map _ (λ d. d) (YieldsList-at c.map.ensures.source (YieldsList-from_slice (drop c.args.place c.row.result.now) (c.iter.ensures.rest ∙ take_rest c.row.result.now c.args.place))) c.map.ensures.closure (λ x r q k. search (rules, tests)))
    (λ x q k. search (rules, tests)) (λ x q k. search (rules, tests)))
