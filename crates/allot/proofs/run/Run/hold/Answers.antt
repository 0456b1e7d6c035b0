use Rattle.std.proofs.Common.{◌≡◌, ◌+◌, set, get_or, unwrap_or, sym, refl, ap, ◌∙◌, arith}
use Rattle.std.proofs.Math.ListN.{get_or-map}
use Rattle.std.proofs.lemmas.List.{map-set}
use Rattle.allot.proofs.Facts.{farther}
use Rattle.allot.specs.Runs.{counts, lasts, none_held}
use Rattle.allot.proofs.run.Run.hold.Goals as goal

pub returns : goal.returns
returns c =
    let run = c.args.self.now in
    let brew = c.args.brew in
    let last : get_or (lasts run) brew 0 ≡ unwrap_or (get_or run.held brew none_held).last 0 = get_or-map (λ h. unwrap_or h.last 0) run.held brew none_held in
    record {
      free = refl;
      counted = map-set (λ h. h.count) run.held brew _ ∙ ap (λ n. set (counts run) brew (n + 1)) (sym (get_or-map (λ h. h.count) run.held brew none_held));
      noted = map-set (λ h. unwrap_or h.last 0) run.held brew _ ∙ ap (set (lasts run) brew) (grind (arith, farther (get_or run.held brew none_held).last c.args.place, last));
      line = refl;
    }
