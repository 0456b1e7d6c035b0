use Rattle.std.proofs.Common.{◌≡◌, ◌+◌, ◌-◌, ◌*◌, set, sym, ap, ◌∙◌, subst, arith}
use Rattle.orders.specs.Books.{Sound}
use Rattle.acceptance.specs.Rankings.{spot, RankedTo}
use Rattle.acceptance.proofs.Ranking.{place_low, ranked_more, ranked_row}
use Rattle.allot.proofs.Facts.{is_placed, placed_at}
use Rattle.allot.proofs.ranking.rank_row.Goals as goal

pub unwrap-place-requires : goal.unwrap-place-requires
unwrap-place-requires g c = is_placed c.place.ensures (place_low (g.met.B.OrderBook.sound c.args.book.now) c.requires.ordered c.args.chooser c.requires.before.0 c.loop-item.item (omega arith))

pub loop-item-preserved : goal.loop-item-preserved
loop-item-preserved g c =
    let book = g.B.OrderBook.meaning c.args.book.now in
    let sound : Sound book = g.met.B.OrderBook.sound c.args.book.now in
    let k = c.args.chooser in
    let x = c.loop-item.item in
    let is : k * c.items-items.result + (c.from.result - 1) ≡ spot book k x =
    ap (λ n. k * n + (c.from.result - 1)) c.items-items.ensures ∙ ap (λ p. k * book.items + (p - 1)) (c.from.ensures ∙ placed_at c.place.ensures c.unwrap-place.ensures) in
    subst (λ at. RankedTo book k (x + 1) (set c.loop-item.table at (x + 1))) (sym is)
    (ranked_more sound c.requires.ordered k x c.loop-item.table c.requires.before.0 (omega arith) c.loop-item.invariant)

pub returns : goal.returns
returns g c =
    let book = g.B.OrderBook.meaning c.args.book.now in
    let sound : Sound book = g.met.B.OrderBook.sound c.args.book.now in
    let all : c.loop-item.item ≡ book.items = omega arith in
    ranked_row sound c.requires.ordered c.args.chooser _ (subst (λ x. RankedTo book c.args.chooser x c.loop-item.table) all c.loop-item.invariant)
