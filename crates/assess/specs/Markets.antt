-- The market that a round's figures and its two books make.
use Rattle.std.specs.Prelude.{Bool, ◌&&◌, ◌==◌}
use Rattle.orders.specs.Books.{Meaning}
use Rattle.fair.specs.FromBooks.{market_of}
use Rattle.fair.specs.Markets.{Figures, Market}
use Rattle.choices.specs.Rounds.{figures_of}
use Rattle.assess.specs.declared.market.Market.{Market as Books}

-- what the books mean is given for each kind of book
abbrev pub market_in : {T B : Type 0} → (T → Meaning) → (B → Meaning) → Books T B → Market
market_in takers brews m = market_of (figures_of m.figures) (takers m.takers.now) (brews m.brews.now)

-- the books have a chooser and an item for each taker and each brew of the round
abbrev pub sizes_fit : Figures → (takers_book brews_book : Meaning) → Bool
sizes_fit f t b = t.choosers == f.takers && (t.items == f.brews && (b.choosers == f.brews && b.items == f.takers))
