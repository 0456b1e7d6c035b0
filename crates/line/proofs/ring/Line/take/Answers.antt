use Rattle.std.proofs.Common.{refl, arith}
use Rattle.line.proofs.Round.{leaves}
use Rattle.line.proofs.ring.Line.take.Goals as goal

pub returns : goal.returns
returns g c =
    leaves c.args.self.now c.over-line.result _ c.args.slots.now c.index-slots-place.result c.place.result
    c.over-line.ensures.same (omega arith) c.place.ensures c.index-slots-place.is refl c.place-2.ensures refl
