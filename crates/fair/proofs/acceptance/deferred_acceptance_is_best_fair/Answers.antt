use Rattle.std.proofs.Common.{refl}
use Rattle.fair.proofs.Rounds.{acceptance_runs, acceptance_ends, acceptance_is_best}
use Rattle.fair.proofs.acceptance.deferred_acceptance_is_best_fair.Goals as goal

pub returns : goal.returns
returns c = record { runs = λ w sound cs choice. (_, acceptance_runs w sound cs choice, refl); ends = acceptance_ends; best = acceptance_is_best }
