-- Every run of deferred acceptance keeps what Reached says of the brews that the takers apply to; and it ends, since each
-- refusal takes a brew from what a taker has left.
use Rattle.std.proofs.Common.{◌≡◌, ℕ, zero, suc, ◌-◌, ◌*◌, ◌<◌, ◌≤◌, Bool, true, false, cond, not, ◌&&◌, eqb, List, [], ◌∷◌, get_or, replicate, sym, ap, ◌∙◌, subst, inl, inr, ⊎_elim, arith}
use Rattle.std.proofs.lemmas.List.FromFn.{length-map-range_with_len, get_or-map-range_with_len}
use Rattle.std.proofs.lemmas.List.{get_or-replicate}
use Rattle.std.proofs.lemmas.Bool.{cases_Bool, cases_lt, lt-ltb, le-ltb, ltb-true, and_parts, and_from, and_right, cond-true, cond-false, not-true, not_from_false, both_ways, eq-eqb, ne_eqb, ltb-false}
use Rattle.std.proofs.lemmas.Bool.Decides.{same_from_decides}
use Rattle.tally.specs.Tally.{tally, sum_below, total}
use Rattle.tally.proofs.Tallies.{tally_strict, tally_none, tally_le}
use Rattle.tally.proofs.Sums.{sum_strict, sum_le}
use Rattle.tally.proofs.Ranks.{greatest}
use Rattle.fair.specs.Markets.{Market, SoundMarket, lots_of, prefers}
use Rattle.fair.specs.Choices.{among, IsChoice}
use Rattle.fair.specs.Allotments.{brew_of, BestFair}
use Rattle.fair.specs.Acceptance.{favourite, applications, without, after_refusals, refused, rounds, deferred_acceptance, NobodyRefused, SomeRefused, Run, begun, further}
use Rattle.fair.proofs.Choosing.{ascending_within, choice_within, choice_serves_all, among_first, among_kept}
use Rattle.fair.proofs.Favourites.{IsFavourite, favourite_or_none, IsNext}
use Rattle.fair.proofs.Reached.{Reached, Moves, reached_first, reached_further, refused_has_next, end_is_best}

same_tests : (x y : Bool) → (x ≡ true → y ≡ true) → (y ≡ true → x ≡ true) → x ≡ y
same_tests x y there back = same_from_decides {P = y ≡ true} x y (there, back) (λ h. h, λ h. h)

-- where some lots are to be given, there is a brew
some_brew : (f : ℕ → ℕ) (cs : List ℕ) → 1 ≤ total f cs → (c : ℕ) × (among cs c ≡ true)
some_brew f [] some = absurd (omega arith)
some_brew f (c ∷ cs) some = (c, among_first c cs)

-- how many brews of the choice taker s ranks below brew c
abbrev pub left_below : Market → List ℕ → ℕ → ℕ → ℕ
left_below w cs s c = tally (λ k. among cs (suc k) && prefers w s c (suc k)) w.figures.brews

-- the same for all takers together, each below the brew where it applies
abbrev pub brews_left : Market → List ℕ → List ℕ → ℕ
brews_left w cs a = sum_below (λ s. left_below w cs s (brew_of a s)) w.figures.takers

applied : (w : Market) (left : List (List ℕ)) (s : ℕ) → s < w.figures.takers → brew_of (applications w left) s ≡ favourite w s (get_or left s [])
applied w left s l = get_or-map-range_with_len (λ t. favourite w t (get_or left t [])) 0 w.figures.takers s s 0 l (omega arith)

after_round : (w : Market) (left : List (List ℕ)) (s : ℕ) → s < w.figures.takers → get_or (after_refusals w left (applications w left)) s [] ≡ cond (refused w (applications w left) s) (without (brew_of (applications w left) s) (get_or left s [])) (get_or left s [])
after_round w left s l = get_or-map-range_with_len _ 0 w.figures.takers s s [] l (omega arith)

round_refuses : (w : Market) (left : List (List ℕ)) → SomeRefused w left (after_refusals w left (applications w left))
round_refuses w left s l =
    ⊎_elim (λ (t : refused w (applications w left) s ≡ true). inr (t, after_round w left s l ∙ cond-true _ _ _ t))
    (λ (f : refused w (applications w left) s ≡ false). inl (after_round w left s l ∙ cond-false _ _ _ f))
    (cases_Bool (refused w (applications w left) s))

module _ (w : Market) (sound : SoundMarket w) (cs : List ℕ) (choice : IsChoice w.figures cs) where
  -- below the next brew of a taker's order there is less
  left_below_next : (s c d : ℕ) → IsNext w s cs c d → left_below w cs s d < left_below w cs s c
  left_below_next s c d next =
      let bounds : (1 ≤ d) × (d ≤ w.figures.brews) = ascending_within 0 w.figures.brews cs choice.ascending d next.listed in
      let number : suc (d - 1) ≡ d = omega arith in
      tally_strict (λ k. among cs (suc k) && prefers w s d (suc k)) (λ k. among cs (suc k) && prefers w s c (suc k)) w.figures.brews (d - 1) (omega arith)
      (and_right _ _ (le-ltb (w.brew_place s d) (w.brew_place s (suc (d - 1))) (omega (arith, ap (w.brew_place s) number))))
      (subst (λ e. (among cs e && prefers w s c e) ≡ true) (sym number) (and_from _ _ next.listed (lt-ltb _ _ next.below)))
      (λ k _ both.
      let parts = and_parts (among cs (suc k)) (prefers w s d (suc k)) both in
      and_from _ _ parts.0 (lt-ltb (w.brew_place s c) (w.brew_place s (suc k)) (omega (arith, next.below, ltb-true _ _ parts.1))))

  pub left_falls : (a b : List ℕ) → Moves w cs a b → (s : ℕ) → s < w.figures.takers → (brew_of a s ≡ brew_of b s → ⊥) → brews_left w cs b < brews_left w cs a
  left_falls a b step s l changed =
      sum_strict (λ t. left_below w cs t (brew_of b t)) (λ t. left_below w cs t (brew_of a t)) w.figures.takers s l
      (⊎_elim (λ (same : brew_of a s ≡ brew_of b s). absurd (changed same)) (λ (next : (refused w a s ≡ true) × IsNext w s cs (brew_of a s) (brew_of b s)). left_below_next s _ _ next.1) (step.stays_or_next s l))
      (λ t m.
      ⊎_elim (λ (same : brew_of a t ≡ brew_of b t). omega (arith, ap (left_below w cs t) same)) (λ (next : (refused w a t ≡ true) × IsNext w t cs (brew_of a t) (brew_of b t)). omega (arith, left_below_next t _ _ next.1)) (step.stays_or_next t m))

  numbers : (c : ℕ) → among cs c ≡ true → 1 ≤ c
  numbers c t = (ascending_within 0 w.figures.brews cs choice.ascending c t).0

  -- What a run knows: a taker has left just the brews of the choice that it does not rank above the one it applies to.
  pub record Standing (left : List (List ℕ)) : Type 0 where
    pub lists : (s c : ℕ) → s < w.figures.takers → among (get_or left s []) c ≡ (among cs c && not (prefers w s c (brew_of (applications w left) s)))
    pub reached : Reached w cs (applications w left)

  -- the favourite of what a taker has left, where that is something of the choice
  favourite_left : (left : List (List ℕ)) (s : ℕ) → s < w.figures.takers → ((c : ℕ) → among (get_or left s []) c ≡ true → among cs c ≡ true) → (c : ℕ) → among (get_or left s []) c ≡ true → IsFavourite w s (get_or left s []) (brew_of (applications w left) s)
  favourite_left left s l chosen c t =
      let of = favourite_or_none w s (get_or left s []) (λ d u. numbers d (chosen d u)) in
      subst (IsFavourite w s (get_or left s [])) (sym (applied w left s l)) (of.favourite (of.some c t))

  standing_first : Standing (replicate w.figures.takers cs)
  standing_first =
      record {
        lists = λ s c l. ap (λ ds. among ds c) (all s l) ∙ same_tests _ _ (λ t. and_from _ _ t (not_from_false _ (le-ltb _ _ ((first s l).highest c t)))) (λ both. (and_parts _ _ both).0);
        reached = reached_first w sound cs choice _ (length-map-range_with_len _ 0 w.figures.takers) first;
      }
    where
      all : (s : ℕ) → s < w.figures.takers → get_or (replicate w.figures.takers cs) s [] ≡ cs
      all s l = get_or-replicate w.figures.takers s cs [] l

      first : (s : ℕ) → s < w.figures.takers → IsFavourite w s cs (brew_of (applications w (replicate w.figures.takers cs)) s)
      first s l =
          let one = some_brew (lots_of w.figures) cs (omega (arith, choice_serves_all w.figures cs sound.limits choice)) in
          let back : (c : ℕ) → among cs c ≡ true → among (get_or (replicate w.figures.takers cs) s []) c ≡ true = λ c t. ap (λ ds. among ds c) (all s l) ∙ t in
          subst (λ ds. IsFavourite w s ds (brew_of (applications w (replicate w.figures.takers cs)) s)) (all s l)
          (favourite_left (replicate w.figures.takers cs) s l (λ c t. sym (ap (λ ds. among ds c) (all s l)) ∙ t) one.0 (back one.0 one.1))

  module _ (before : List (List ℕ)) (standing : Standing before) (after : List (List ℕ)) where
    abbrev a : List ℕ
    a = applications w before

    -- of a taker that is refused: it has left what it ranks below the brew that refuses it
    module _ (s : ℕ) (l : s < w.figures.takers) (refusal : refused w a s ≡ true) (loses : get_or after s [] ≡ without (brew_of a s) (get_or before s [])) where
      left_is : (c : ℕ) → among (get_or after s []) c ≡ (not (eqb c (brew_of a s)) && (among cs c && not (prefers w s c (brew_of a s))))
      left_is c = ap (λ ds. among ds c) loses ∙ among_kept (λ d. not (eqb d (brew_of a s))) (get_or before s []) c ∙ ap (λ t. not (eqb c (brew_of a s)) && t) (standing.lists s c l)

      left_listed : (c : ℕ) → among (get_or after s []) c ≡ true → among cs c ≡ true
      left_listed c t = (and_parts _ _ (and_parts (not (eqb c (brew_of a s))) _ (sym (left_is c) ∙ t)).1).0

      left_below_lem : (c : ℕ) → among (get_or after s []) c ≡ true → w.brew_place s (brew_of a s) < w.brew_place s c
      left_below_lem c t =
          let parts = and_parts (not (eqb c (brew_of a s))) _ (sym (left_is c) ∙ t) in
          let rest = and_parts (among cs c) _ parts.1 in
          let known = choice_within w.figures cs choice in
          let differ : w.brew_place s c ≡ w.brew_place s (brew_of a s) → ⊥ =
          λ e. both_ways _ (not-true _ parts.0) (eq-eqb c (brew_of a s) (sound.brews_apart s c (brew_of a s) l (known c rest.0) (known _ (standing.reached.chosen s l)) e)) in
          omega (arith, ltb-false (w.brew_place s c) (w.brew_place s (brew_of a s)) (not-true _ rest.1))

      below_left : (c : ℕ) → among cs c ≡ true → w.brew_place s (brew_of a s) < w.brew_place s c → among (get_or after s []) c ≡ true
      below_left c t below =
          left_is c ∙ and_from _ _ (not_from_false _ (ne_eqb c (brew_of a s) (λ e. omega (arith, ap (w.brew_place s) e)))) (and_from _ _ t (not_from_false _ (le-ltb _ _ (omega arith))))

      next : IsNext w s cs (brew_of a s) (brew_of (applications w after) s)
      next =
          let (d, some) = refused_has_next w sound cs choice a standing.reached s l refusal in
          let first = favourite_left after s l left_listed d (below_left d some.listed some.below) in
          record { listed = left_listed _ first.listed; below = left_below_lem _ first.listed; none_between = λ e t m. first.highest e (below_left e t m) }

      still_lists : (c : ℕ) → among (get_or after s []) c ≡ (among cs c && not (prefers w s c (brew_of (applications w after) s)))
      still_lists c =
          same_tests _ _
          (λ t. and_from _ _ (left_listed c t) (not_from_false _ (le-ltb _ _ (next.none_between c (left_listed c t) (left_below_lem c t)))))
          (λ both.
          let parts = and_parts (among cs c) _ both in
          below_left c parts.0 (omega (arith, next.below, ltb-false (w.brew_place s c) (w.brew_place s (brew_of (applications w after) s)) (not-true _ parts.1))))

    module _ (step : SomeRefused w before after) where
      keeps_brew : (s : ℕ) → s < w.figures.takers → get_or after s [] ≡ get_or before s [] → brew_of a s ≡ brew_of (applications w after) s
      keeps_brew s l same = applied w before s l ∙ ap (favourite w s) (sym same) ∙ sym (applied w after s l)

      pub run_moves : Moves w cs a (applications w after)
      run_moves =
          record {
            each = length-map-range_with_len _ 0 w.figures.takers;
            stays_or_next = λ s l.
                ⊎_elim (λ (same : get_or after s [] ≡ get_or before s []). inl (keeps_brew s l same))
                (λ (loses : (refused w a s ≡ true) × (get_or after s [] ≡ without (brew_of a s) (get_or before s []))). inr (loses.0, next s l loses.0 loses.1))
                (step s l);
          }

      standing_further : Standing after
      standing_further =
          record {
            lists = λ s c l.
                ⊎_elim
                (λ (same : get_or after s [] ≡ get_or before s []).
                ap (λ ds. among ds c) same ∙ standing.lists s c l ∙ ap (λ d. among cs c && not (prefers w s c d)) (keeps_brew s l same))
                (λ (loses : (refused w a s ≡ true) × (get_or after s [] ≡ without (brew_of a s) (get_or before s []))). still_lists s l loses.0 loses.1 c)
                (step s l);
            reached = reached_further w sound cs choice a standing.reached _ run_moves;
          }

  run_standing : {left : List (List ℕ)} → Run w cs left → Standing left
  run_standing begun = standing_first
  run_standing (further run step) = standing_further _ (run_standing run) _ step

  -- a round with a refusal leaves less
  round_falls : (before : List (List ℕ)) → Run w cs before → (s : ℕ) → s < w.figures.takers → refused w (applications w before) s ≡ true → brews_left w cs (applications w (after_refusals w before (applications w before))) < brews_left w cs (applications w before)
  round_falls before run s l refusal =
      let standing = run_standing run in
      let after = after_refusals w before (applications w before) in
      let moved = next before standing after s l refusal (after_round w before s l ∙ cond-true _ _ _ refusal) in
      left_falls _ _ (run_moves before standing after (round_refuses w before)) s l (λ same. omega (arith, moved.below, ap (w.brew_place s) same))

  -- enough rounds end in one without a refusal
  rounds_end : (k : ℕ) (before : List (List ℕ)) → Run w cs before → brews_left w cs (applications w before) ≤ k → Run w cs (rounds w k before) × NobodyRefused w (applications w (rounds w k before))
  rounds_end zero before run few =
      (run, λ s l. ⊎_elim (λ (t : refused w (applications w before) s ≡ true). absurd (omega (arith, round_falls before run s l t))) (λ (f : refused w (applications w before) s ≡ false). f) (cases_Bool (refused w (applications w before) s)))
  rounds_end (suc k) before run few =
      ⊎_elim
      (λ (some : 0 < tally (refused w (applications w before)) w.figures.takers).
      let one = greatest (refused w (applications w before)) (λ _. 0) w.figures.takers some in
      let falls = round_falls before run one.0 one.1.below one.1.passes in
      let rest = rounds_end k (after_refusals w before (applications w before)) (further run (round_refuses w before)) (omega arith) in
      subst Ended (sym (cond-true _ _ _ (lt-ltb 0 _ some))) rest)
      (λ (none : tally (refused w (applications w before)) w.figures.takers ≤ 0).
      subst Ended (sym (cond-false _ _ _ (le-ltb 0 _ none))) (run, tally_none (refused w (applications w before)) w.figures.takers (omega arith)))
      (cases_lt 0 (tally (refused w (applications w before)) w.figures.takers))
    where
      Ended : List (List ℕ) → Type 0
      Ended left = Run w cs left × NobodyRefused w (applications w left)

  abbrev last : List (List ℕ)
  last = rounds w (w.figures.takers * w.figures.brews) (replicate w.figures.takers cs)

  ended : Run w cs last × NobodyRefused w (applications w last)
  ended = rounds_end (w.figures.takers * w.figures.brews) (replicate w.figures.takers cs) begun (sum_le _ w.figures.brews w.figures.takers (λ s l. tally_le _ w.figures.brews))

  -- The textbook's rounds are a run, and end.
  pub acceptance_runs : Run w cs last
  acceptance_runs = ended.0

  pub acceptance_ends : NobodyRefused w (deferred_acceptance w cs)
  acceptance_ends = ended.1

  -- Every finished run ends in the best fair allotment.
  pub finished_is_best : (left : List (List ℕ)) → Run w cs left → NobodyRefused w (applications w left) → BestFair w cs (applications w left)
  finished_is_best left run still = end_is_best w sound cs choice (applications w left) (run_standing run).reached still

  pub acceptance_is_best : BestFair w cs (deferred_acceptance w cs)
  acceptance_is_best = finished_is_best last acceptance_runs acceptance_ends
