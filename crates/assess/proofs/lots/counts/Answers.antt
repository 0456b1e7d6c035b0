use Rattle.std.proofs.Common.{◌≡◌, ℕ, ◌+◌, ◌<◌, List, length-take, refl, subst, sym, ◌∙◌, arith}
use Rattle.std.proofs.lemmas.Grind.{common_steps}
use Rattle.std.proofs.lemmas.List.{get_or-take}
use Rattle.fair.specs.Allotments.{brew_of}
use Rattle.assess.specs.Lots.{CountsTo}
use Rattle.assess.proofs.Counting.{all_counted, count_le, counted, not_counted}
use Rattle.assess.proofs.lots.counts.Goals as goal
use Rattle.assess.proofs.lots.counts.Goals.{then-contains, else-contains}

pub overflow_add-counts : goal.overflow_add-counts
overflow_add-counts c =
    omega (arith, c.requires.1, c.min.ensures, c.loop-entry-test.true, length-take c.min.result c.args.allotment.now, count_le c.loop-entry.invariant c.requires.0 c.from-brew.result (grind (arith, common_steps)) (grind (arith, common_steps)))

pub loop-entry-preserved : goal.loop-entry-preserved
loop-entry-preserved c =
    let a = c.args.allotment.now in
    let i = c.loop-entry.entry-index in
    let brew = c.from-brew.result in
    let here : i < c.min.result = omega (arith, c.loop-entry-test.true, length-take c.min.result a) in
    let named : brew ≡ brew_of a i = c.from-brew.ensures ∙ get_or-take c.min.result a i 0 here in
    let After = λ (after : List ℕ). CountsTo c.args.brews a (i + 1) after in
    elim c.if-contains.branch [
      | then-contains w ↦ subst After (sym w.counts-is) (counted c.loop-entry.invariant c.requires.0 brew (i + 1) named (grind (arith, common_steps)) (grind (arith, common_steps)) refl)
      | else-contains w ↦ subst After (sym w.counts-is) (not_counted c.loop-entry.invariant c.requires.0 brew (i + 1) named (λ low high. grind (arith, common_steps)) refl)
    ]

pub returns : goal.returns
returns c =
    let a = c.args.allotment.now in
    all_counted c.args.n (omega (arith, c.min.ensures, c.loop-entry-test.false, c.loop-entry.auto, length-take c.min.result a, length-take c.args.n a)) c.loop-entry.invariant
