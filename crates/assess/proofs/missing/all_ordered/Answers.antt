use Rattle.std.proofs.Common.{arith, is_none}
use Rattle.std.proofs.lemmas.Bool.Decides.{Decides-at}
use Rattle.std.proofs.lemmas.Grind.{common_steps}
use Rattle.assess.proofs.Ordered.{all_ordered_decided}
use Rattle.assess.proofs.missing.all_ordered.Goals as goal

pub returns : goal.returns
returns g c =
    let some = c.without_order.result in
    Decides-at c.is_none.result (is_none some) (grind (arith, common_steps)) (all_ordered_decided (g.B.OrderBook.meaning c.args.book.now) some c.without_order.ensures)
