use Rattle.acceptance.specs.Running.{work}
use Rattle.allot.specs.OpenMarkets.{brews_opened, market_in}
use Rattle.allot.specs.Runs.{in_line, State}
use Rattle.allot.proofs.run.Run.finish.Given as goal

abbrev pub invariant-loop-taker : goal.invariant-loop-taker
invariant-loop-taker g l = State l.market l.stands l.self (in_line l.self)

abbrev pub decreases-loop-taker : goal.decreases-loop-taker
decreases-loop-taker g l = work (market_in l.market) (brews_opened l.market) l.stands (in_line l.self)
