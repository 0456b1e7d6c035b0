use Rattle.std.proofs.Common.{ℕ, ◌+◌, ◌<◌, ◌≤◌}
use Rattle.assess.proofs.Ordered.{HasOrder}
use Rattle.assess.proofs.missing.without_order.Given as goal

abbrev pub invariant-loop-k : goal.invariant-loop-k
invariant-loop-k g l = (c : ℕ) → 1 ≤ c → c < l.k + 1 → HasOrder (g.B.OrderBook.meaning l.book) c
