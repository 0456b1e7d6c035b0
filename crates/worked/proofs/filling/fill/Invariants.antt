use Rattle.std.proofs.Common.{◌≡◌, drop, map}
use Rattle.worked.specs.Filled.{filled_from}
use Rattle.worked.proofs.filling.fill.Given as goal

abbrev pub invariant-loop-k : goal.invariant-loop-k
invariant-loop-k g l =
    filled_from (g.B.OrderBook.reading l.book) (g.B.OrderBook.meaning l.book) l.k (map (λ card. card.now) (drop l.k l.cards)) ≡ filled_from (g.B.OrderBook.reading l.initial.book) (g.B.OrderBook.meaning l.initial.book) 0 (map (λ card. card.now) l.cards)
