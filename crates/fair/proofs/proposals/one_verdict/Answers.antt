use Rattle.fair.proofs.Verdicts.{judge, judged, judged_once}
use Rattle.fair.proofs.proposals.one_verdict.Goals as goal

pub returns : goal.returns
returns c = λ w sound house choice a. (judge w house a, judged w sound house a choice, λ u right. judged_once w sound house a choice u _ right (judged w sound house a choice))
