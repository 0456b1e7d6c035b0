use Rattle.std.proofs.Common.{refl, arith}
use Rattle.std.proofs.lemmas.List.{get_or-replicate}
use Rattle.cards.proofs.written_list.places_of.Goals as goal

pub loop-k-init : goal.loop-k-init
loop-k-init c = (refl, record { good = refl; held = λ i h. get_or-replicate 432 i 0 0 (omega arith) })
