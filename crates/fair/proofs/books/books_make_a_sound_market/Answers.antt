use Rattle.fair.proofs.FromBooks.{market_from_books}
use Rattle.fair.proofs.books.books_make_a_sound_market.Goals as goal

pub returns : goal.returns
returns c = market_from_books
