use Rattle.std.proofs.Common.{refl, arith}
use Rattle.line.proofs.Round.{joins}
use Rattle.line.proofs.ring.Line.put.Goals as goal

pub returns-clause-done : goal.returns-clause-done
returns-clause-done g c =
    joins c.args.self.now c.over-line.result _ c.args.slots.now c.args.x c.place.result
    c.over-line.ensures.same (omega arith) c.place.ensures refl refl refl
