use Rattle.allot.specs.OpenMarkets.{market_in}
use Rattle.allot.specs.Runs.{NoneBehind}
use Rattle.allot.proofs.run.Run.last_held.Given as goal

abbrev pub invariant-loop-place : goal.invariant-loop-place
invariant-loop-place g l = NoneBehind (market_in l.market) l.stands l.self.waiting l.brew l.places l.place
