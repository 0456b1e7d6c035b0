-- The market of two prepared books and the brews of the choice to open.
use Rattle.std.specs.Prelude.{◌≡◌, ℕ, ◌+◌, ◌<◌, List}
use Rattle.orders.specs.declared.book.OrderBook.{Ghosts}
use Rattle.fair.specs.Markets.{Market}
use Rattle.fair.specs.FromBooks.{market_of}
use Rattle.choices.specs.Rounds.{figures_of}
use Rattle.choices.specs.Chosen.{brews_of}
use Rattle.allot.specs.declared.open_market.OpenMarket.{OpenMarket}

abbrev pub market_in : {T B : Type 0} {ts : Ghosts T} {bs : Ghosts B} → OpenMarket T B ts bs → Market
market_in {ts = ts} {bs = bs} o = market_of (figures_of o.choice.now.figures) (ts.meaning o.books.now.takers.now) (bs.meaning o.books.now.brews.now)

abbrev pub brews_opened : {T B : Type 0} {ts : Ghosts T} {bs : Ghosts B} → OpenMarket T B ts bs → List ℕ
brews_opened o = brews_of o.choice.now

-- taker t is at a place of the order of brew c, counted from 0
pub record AtPlace (w : Market) (c place t : ℕ) : Type 0 where
  pub taker : t < w.figures.takers
  pub there : w.taker_place c t ≡ place + 1
