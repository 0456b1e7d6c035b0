use Rattle.std.proofs.Common.{◌+◌, arith}
use Rattle.assess.proofs.Ordered.{each_more, first_orderless}
use Rattle.assess.proofs.missing.without_order.Goals as goal

pub returns-then-is_none : goal.returns-then-is_none
returns-then-is_none g c =
    first_orderless (g.B.OrderBook.meaning c.args.book.now) (g.met.B.OrderBook.sound c.args.book.now) (c.loop-k.k + 1) (omega arith) (omega arith) c.loop-k.invariant (grind arith)

pub loop-k-preserved : goal.loop-k-preserved
loop-k-preserved g c = each_more (g.B.OrderBook.meaning c.args.book.now) (c.loop-k.k + 1) c.loop-k.invariant (grind arith)
