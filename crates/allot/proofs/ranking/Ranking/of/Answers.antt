use Rattle.std.proofs.Common.{◌≡◌, subst, arith}
use Rattle.orders.specs.Books.{Sound}
use Rattle.acceptance.specs.Rankings.{RankedTo}
use Rattle.acceptance.proofs.Ranking.{ranked_all}
use Rattle.allot.proofs.ranking.Ranking.of.Goals as goal

pub returns : goal.returns
returns g c =
    let book = g.B.OrderBook.meaning c.args.book.now in
    let sound : Sound book = g.met.B.OrderBook.sound c.args.book.now in
    let all : c.loop-chooser.chooser ≡ book.choosers = omega arith in
    record { sound = sound; wide = c.items.ensures; ranks = ranked_all sound c.requires _ (subst (λ k. RankedTo book k 0 c.loop-chooser.table) all c.loop-chooser.invariant.1) }
