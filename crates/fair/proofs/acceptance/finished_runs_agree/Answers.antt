use Rattle.fair.proofs.Comparing.{best_is_unique}
use Rattle.fair.proofs.Rounds.{finished_is_best, acceptance_is_best}
use Rattle.fair.proofs.acceptance.finished_runs_agree.Goals as goal

pub returns : goal.returns
returns c = λ w sound cs choice left run still. best_is_unique w sound cs _ _ (finished_is_best w sound cs choice left run still) (acceptance_is_best w sound cs choice)
