use Rattle.std.proofs.Common.{arith, rules}
use Rattle.choices.proofs.Lists.{gathered_more, gathered_all}
use Rattle.choices.proofs.choice.makes.gather.Goals as goal

pub loop-k-preserved : goal.loop-k-preserved
loop-k-preserved c =
    gathered_more c.args.figures.brews c.args.list.now c.loop-k.k c.loop-k.set c.insert.new.self c.loop-k-test.true c.loop-k.invariant
    (search rules) (search rules)

pub returns : goal.returns
returns c = gathered_all c.args.figures.brews c.args.list.now c.loop-k.k c.loop-k.set (omega arith) c.loop-k.invariant
