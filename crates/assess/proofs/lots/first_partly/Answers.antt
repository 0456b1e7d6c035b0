use Rattle.std.proofs.Common.{◌≡◌, ℕ, ◌+◌, ◌-◌, ◌<◌, true, false, length, length-take, take, MatchOption, sym, subst, rules, tests, arith}
use Rattle.std.specs.List.{AllWithin, HoldsAt, slice_index}
use Rattle.std.proofs.lemmas.Bool.{both_ways}
use Rattle.std.proofs.lemmas.Iterator.{IsFirst-from_position, YieldsList-from_slice}
use Rattle.std.proofs.lemmas.List.{get_or-take}
use Rattle.assess.specs.Lots.{partly}
use Rattle.assess.proofs.lots.first_partly.Goals as goal

pub returns : goal.returns
returns c =
    let counts = c.args.counts.now in
    let lots = c.args.lots in
    let n = c.args.n in
    let brew = c.in_ok-brew.brew in
    let xs = take n counts in
    let Yes = λ (x : ℕ). partly lots x ≡ true in
    let No = λ (x : ℕ). partly lots x ≡ false in
    let first = IsFirst-from_position _ _ c.position.result Yes No c.position.ensures.ran (YieldsList-from_slice xs c.iter.ensures.rest) (λ x q k. search (rules, tests)) (λ x q k. search (rules, tests)) in
    let here = subst (λ r. MatchOption r (AllWithin No xs 0 (length xs)) (λ i. (i < length xs) × HoldsAt Yes xs i × AllWithin No xs 0 i)) c.in_ok-brew.was first in
    let inside : brew < n = omega (arith, here.0, length-take n counts) in
    let same = λ (i : ℕ) (l : i < n). get_or-take n counts i 0 l in
    let back : brew + 1 - 1 ≡ brew = omega arith in
    record {
      low = omega arith;
      high = omega arith;
      holds = subst (λ i. Yes (slice_index counts i)) (sym back) (subst Yes (same brew inside) (here.1 0));
      not_before = λ j low before yes. both_ways _ (subst No (same (j - 1) (omega arith)) (here.2 (j - 1) 0 (omega arith) (omega arith))) yes;
    }
