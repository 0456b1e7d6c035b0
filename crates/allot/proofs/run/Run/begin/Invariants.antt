use Rattle.std.proofs.Common.{ℕ, ◌<◌}
use Rattle.fair.specs.Allotments.{brew_of}
use Rattle.fair.proofs.Favourites.{IsFavourite}
use Rattle.allot.specs.OpenMarkets.{brews_opened, market_in}
use Rattle.allot.specs.Runs.{Fresh}
use Rattle.allot.proofs.run.Run.begin.Given as goal

abbrev pub invariant-loop-taker : goal.invariant-loop-taker
invariant-loop-taker g l = Fresh l.taker l.run × ((s : ℕ) → s < l.taker → IsFavourite (market_in l.market) s (brews_opened l.market) (brew_of l.stands s))
