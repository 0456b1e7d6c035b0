use Rattle.std.proofs.Common.{◌≡◌, ◌+◌, ◌-◌, ◌≤◌, vec_items}
use Rattle.readcard.specs.Asked.{lines_in}
use Rattle.readcard.proofs.answer.place_lines.Given as goal

abbrev pub invariant-loop-item : goal.invariant-loop-item
invariant-loop-item g l = record {
  within : l.item ≤ l.item-end + 1;
  lines : vec_items l.lines ≡ lines_in (g.B.OrderBook.meaning l.book) (l.item - 1);
}
