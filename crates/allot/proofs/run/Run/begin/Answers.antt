use Rattle.std.proofs.Common.{◌≡◌, length, ap, ◌∙◌, subst, arith}
use Rattle.std.proofs.lemmas.List.FromFn.{length-range_with_len}
use Rattle.allot.specs.Runs.{Fresh}
use Rattle.allot.proofs.Facts.{taker_fits}
use Rattle.allot.proofs.Moving.{has_first, stands_more, fresh_more, begun}
use Rattle.allot.proofs.run.Run.begin.Goals as goal

pub unwrap-requires : goal.unwrap-requires
unwrap-requires g c = has_first c.args.market.now c.loop-taker.taker (omega arith) c.next_brew.result c.next_brew.ensures

pub wait-requires : goal.wait-requires
wait-requires g c =
    let fits = taker_fits c.args.market.now c.loop-taker.taker (omega arith) in
    (fits, omega (arith, ap length c.loop-taker.invariant.0.all_in_line, length-range_with_len 0 c.loop-taker.taker))

pub loop-taker-preserved : goal.loop-taker-preserved
loop-taker-preserved g c = (
  fresh_more c.loop-taker.taker c.loop-taker.invariant.0 c.wait.ensures,
  stands_more c.args.market.now c.loop-taker.taker (omega arith) c.next_brew.result c.next_brew.ensures c.unwrap.ensures c.loop-taker.stands (omega arith) c.loop-taker.invariant.1,
)

pub returns : goal.returns
returns g c =
    let all : c.loop-taker.taker ≡ c.args.market.now.choice.now.figures.takers = omega arith in
    begun (c.loop-taker.auto.stands ∙ c.requires) (subst (λ n. Fresh n c.loop-taker.run) all c.loop-taker.invariant.0) (λ s l. c.loop-taker.invariant.1 s (omega arith))
