-- What deferred acceptance keeps of the list of the brews that the takers apply to, and why it ends in the best fair
-- allotment.
use Rattle.std.proofs.Common.{◌≡◌, ℕ, ◌<◌, ◌≤◌, Bool, true, false, not, ◌&&◌, eqb, ltb, leb, ◌⊎◌, List, length, sym, refl, ap, ◌∙◌, subst, inl, inr, ⊎_elim, arith}
use Rattle.std.proofs.lemmas.Bool.{cases_Bool, cases_eq, cases_lt, cases_order, both_ways, eq-eqb, eqb-true, lt-ltb, le-ltb, ltb-true, le-leb, leb-true, and_parts, and_from, and_right, not_from_true, not_from_false, ne_eqb}
use Rattle.tally.specs.Tally.{tally}
use Rattle.tally.proofs.Tallies.{tally_mono, tally_strict, tally_some, tally_fails, tally_below, tally_always, tally_same}
use Rattle.tally.proofs.Ranks.{front, front_stays, crowded}
use Rattle.fair.specs.Markets.{Market, SoundMarket, lots_of, prefers, favours, IsBrew}
use Rattle.fair.specs.Choices.{among, IsChoice}
use Rattle.fair.specs.Allotments.{brew_of, takers_with, Over, justly_envies, Fair, NoneLower, FairOver, BestFair}
use Rattle.fair.specs.Acceptance.{ahead, refused, NobodyRefused}
use Rattle.fair.proofs.Choosing.{choice_within, choice_serves_all, total_mono, total_squeeze, count_by_brew}
use Rattle.fair.proofs.Favourites.{IsFavourite, IsNext, next_or_last}

-- Everybody applies to a brew of the choice; a brew that has refused a taker has as many better applicants as lots;
-- and no feasible fair allotment over the choice gives a taker a brew that has refused it.
pub record Reached (w : Market) (cs a : List ℕ) : Type 0 where
  pub each : length a ≡ w.figures.takers
  pub chosen : (s : ℕ) → s < w.figures.takers → among cs (brew_of a s) ≡ true
  pub outranked : (s c : ℕ) → s < w.figures.takers → among cs c ≡ true → prefers w s c (brew_of a s) ≡ true → lots_of w.figures c ≤ ahead w a c s
  pub safe : (b : List ℕ) → FairOver w cs b → NoneLower w a b

-- A step of that list alone: a taker stays, or is refused and goes to the next brew of its order.
pub record Moves (w : Market) (cs a b : List ℕ) : Type 0 where
  pub each : length b ≡ w.figures.takers
  pub stays_or_next : (s : ℕ) → s < w.figures.takers → (brew_of a s ≡ brew_of b s) ⊎ ((refused w a s ≡ true) × IsNext w s cs (brew_of a s) (brew_of b s))

-- somebody's brew is one of those with takers
has_a_taker : (w : Market) (a : List ℕ) (s : ℕ) → s < w.figures.takers → 1 ≤ takers_with w a (brew_of a s)
has_a_taker w a s l = tally_some (λ t. eqb (brew_of a t) (brew_of a s)) w.figures.takers s l (eq-eqb _ _ refl)

pub over_chosen : (w : Market) (cs b : List ℕ) → Over w cs b → (s : ℕ) → s < w.figures.takers → among cs (brew_of b s) ≡ true
over_chosen w cs b over s l = sym (over (brew_of b s)) ∙ lt-ltb 0 _ (has_a_taker w b s l)

not_above_itself : (w : Market) (s c : ℕ) → favours w c s s ≡ false
not_above_itself w s c = le-ltb (w.taker_place c s) (w.taker_place c s) (omega arith)

module _ (w : Market) (sound : SoundMarket w) (cs : List ℕ) (choice : IsChoice w.figures cs) where
  abbrev takers : ℕ
  takers = w.figures.takers

  abbrev lots : ℕ → ℕ
  lots = lots_of w.figures

  known : (c : ℕ) → among cs c ≡ true → IsBrew w c
  known = choice_within w.figures cs choice

  -- a taker that gives two brews of the choice the same place speaks of one brew
  same_brew : (s c d : ℕ) → s < takers → among cs c ≡ true → among cs d ≡ true → w.brew_place s c ≡ w.brew_place s d → c ≡ d
  same_brew s c d l t u = sound.brews_apart s c d l (known c t) (known d u)

  pub reached_first : (a : List ℕ) → length a ≡ takers → ((s : ℕ) → s < takers → IsFavourite w s cs (brew_of a s)) → Reached w cs a
  reached_first a each first =
      record {
        each = each;
        chosen = λ s l. (first s l).listed;
        outranked = λ s c l t above. absurd (omega (arith, ltb-true _ _ above, (first s l).highest c t));
        safe = λ b fair s l. (first s l).highest (brew_of b s) (over_chosen w cs b fair.over s l);
      }

  -- A step leaves as many better applicants as lots: the front of a brew's applicants is not refused.
  ahead_stays : (a b : List ℕ) → Moves w cs a b → (c s : ℕ) → lots c ≤ ahead w a c s → lots c ≤ ahead w b c s
  ahead_stays a b step c s many =
      omega (arith, front_stays applies (w.taker_place c) takers (lots c) (w.taker_place c s) many, tally_mono ahead_kept (λ t. eqb (brew_of b t) c && favours w c t s) takers stays)
    where
      applies : ℕ → Bool
      applies t = eqb (brew_of a t) c

      ahead_kept : ℕ → Bool
      ahead_kept = front applies (w.taker_place c) takers (lots c) (w.taker_place c s)

      stays : (t : ℕ) → t < takers → ahead_kept t ≡ true → (eqb (brew_of b t) c && favours w c t s) ≡ true
      stays t l infront =
          let parts = and_parts (eqb (brew_of a t) c && favours w c t s) (ltb (ahead w a c t) (lots c)) infront in
          let here = and_parts (eqb (brew_of a t) c) (favours w c t s) parts.0 in
          let at : brew_of a t ≡ c = eqb-true _ _ here.0 in
          ⊎_elim
          (λ (same : brew_of a t ≡ brew_of b t). and_from _ _ (eq-eqb _ _ (sym same ∙ at)) here.1)
          (λ (moved : (refused w a t ≡ true) × IsNext w t cs (brew_of a t) (brew_of b t)).
          absurd (omega (arith, ltb-true _ _ parts.1, leb-true _ _ (subst (λ d. leb (lots d) (ahead w a d t) ≡ true) at moved.0))))
          (step.stays_or_next t l)

  module _ (a : List ℕ) (reached : Reached w cs a) where
    -- A brew that refuses a taker is given to it by no feasible fair allotment over the choice: the better applicants
    -- would have it too, one more than there are lots.
    not_given : (b : List ℕ) → FairOver w cs b → (s : ℕ) → s < takers → refused w a s ≡ true → brew_of b s ≡ brew_of a s → ⊥
    not_given b fair s l refusal same =
        ⊎_elim (λ (e : takers_with w b (brew_of a s) ≡ 0). omega (arith, more))
        (λ (e : takers_with w b (brew_of a s) ≡ lots (brew_of a s)). omega (arith, more, leb-true _ _ refusal))
        (fair.feasible.full (brew_of a s))
      where
        has_it : (t : ℕ) → t < takers → (eqb (brew_of a t) (brew_of a s) && favours w (brew_of a s) t s) ≡ true → eqb (brew_of b t) (brew_of a s) ≡ true
        has_it t m test =
            let parts = and_parts (eqb (brew_of a t) (brew_of a s)) (favours w (brew_of a s) t s) test in
            let at : brew_of a t ≡ brew_of a s = eqb-true _ _ parts.0 in
            ⊎_elim
            (λ (e : brew_of b t ≡ brew_of a s). eq-eqb _ _ e)
            (λ (ne : brew_of b t ≡ brew_of a s → ⊥).
            let differ : w.brew_place t (brew_of a t) ≡ w.brew_place t (brew_of b t) → ⊥ =
            λ e. ne (sym (same_brew t (brew_of a t) (brew_of b t) m (reached.chosen t m) (over_chosen w cs b fair.over t m) e) ∙ at) in
            let wants : w.brew_place t (brew_of a s) < w.brew_place t (brew_of b t) = omega (arith, reached.safe b fair t m, ap (w.brew_place t) at) in
            absurd (both_ways _ (fair.fair t s (brew_of a s) m l) (and_from _ _ (eq-eqb _ _ same) (and_from _ _ (lt-ltb _ _ wants) parts.1))))
            (cases_eq (brew_of b t) (brew_of a s))

        more : ahead w a (brew_of a s) s < takers_with w b (brew_of a s)
        more =
            tally_strict (λ t. eqb (brew_of a t) (brew_of a s) && favours w (brew_of a s) t s) (λ t. eqb (brew_of b t) (brew_of a s)) takers s l
            (and_right _ _ (not_above_itself w s (brew_of a s))) (eq-eqb _ _ same) has_it

    -- A refused taker has a next brew: else all lots of the choice would go to others.
    pub refused_has_next : (s : ℕ) → s < takers → refused w a s ≡ true → (d : ℕ) × IsNext w s cs (brew_of a s) d
    refused_has_next s l refusal =
        ⊎_elim
        (λ (next : (d : ℕ) × IsNext w s cs (brew_of a s) d). next)
        (λ (last : (e : ℕ) → among cs e ≡ true → w.brew_place s e ≤ w.brew_place s (brew_of a s)).
        let served = choice_serves_all w.figures cs sound.limits choice in
        let by_others = total_mono lots others cs (all_lots last) in
        let counted = count_by_brew (brew_of a) not_itself takers 0 w.figures.brews cs choice.ascending in
        let some_others = tally_mono (λ t. not_itself t && among cs (brew_of a t)) not_itself takers (λ t _ both. (and_parts (not_itself t) _ both).0) in
        absurd (omega (arith, tally_below not_itself takers s l (not_from_true _ (eq-eqb s s refl)))))
        (next_or_last w s cs (brew_of a s))
      where
        not_itself : ℕ → Bool
        not_itself t = not (eqb t s)

        others : ℕ → ℕ
        others c = tally (λ t. not_itself t && eqb (brew_of a t) c) takers

        ahead_others : (c : ℕ) → ahead w a c s ≤ others c
        ahead_others c = tally_mono (λ t. eqb (brew_of a t) c && favours w c t s) (λ t. not_itself t && eqb (brew_of a t) c) takers
            (λ t _ both.
            let parts = and_parts (eqb (brew_of a t) c) (favours w c t s) both in
            let differ : t ≡ s → ⊥ = λ e. both_ways _ (not_above_itself w s c) (subst (λ k. favours w c k s ≡ true) e parts.1) in
            and_from _ _ (not_from_false _ (ne_eqb t s differ)) parts.0)

        all_lots : ((e : ℕ) → among cs e ≡ true → w.brew_place s e ≤ w.brew_place s (brew_of a s)) → (c : ℕ) → among cs c ≡ true → lots c ≤ others c
        all_lots last c t =
            ⊎_elim
            (λ (e : c ≡ brew_of a s). omega (arith, ahead_others c, subst (λ d. lots d ≤ ahead w a d s) (sym e) (leb-true _ _ refusal)))
            (λ (ne : c ≡ brew_of a s → ⊥).
            let differ : w.brew_place s c ≡ w.brew_place s (brew_of a s) → ⊥ = λ e. ne (same_brew s c (brew_of a s) l t (reached.chosen s l) e) in
            let above : w.brew_place s c < w.brew_place s (brew_of a s) = omega (arith, last c t) in
            omega (arith, ahead_others c, reached.outranked s c l t (lt-ltb _ _ above)))
            (cases_eq c (brew_of a s))

    pub reached_further : (b : List ℕ) → Moves w cs a b → Reached w cs b
    reached_further b step =
        record { each = step.each; chosen = chosen; outranked = λ s c l t above. ahead_stays a b step c s (outranked s c l t (ltb-true _ _ above)); safe = safe }
      where
        chosen : (s : ℕ) → s < takers → among cs (brew_of b s) ≡ true
        chosen s l =
            ⊎_elim (λ (same : brew_of a s ≡ brew_of b s). subst (λ c. among cs c ≡ true) same (reached.chosen s l))
            (λ (next : (refused w a s ≡ true) × IsNext w s cs (brew_of a s) (brew_of b s)). next.1.listed)
            (step.stays_or_next s l)

        -- what refuses in the step, or has refused before it, had as many better applicants as lots
        outranked : (s c : ℕ) → s < takers → among cs c ≡ true → w.brew_place s c < w.brew_place s (brew_of b s) → lots c ≤ ahead w a c s
        outranked s c l t above =
            ⊎_elim (λ (same : brew_of a s ≡ brew_of b s). reached.outranked s c l t (lt-ltb _ _ (omega (arith, above, ap (w.brew_place s) same))))
            (λ (next : (refused w a s ≡ true) × IsNext w s cs (brew_of a s) (brew_of b s)).
            ⊎_elim
            (λ (e : w.brew_place s c ≡ w.brew_place s (brew_of a s)).
            let it : c ≡ brew_of a s = same_brew s c (brew_of a s) l t (reached.chosen s l) e in
            subst (λ d. lots d ≤ ahead w a d s) (sym it) (leb-true _ _ next.0))
            (λ (either : (w.brew_place s c < w.brew_place s (brew_of a s)) ⊎ (w.brew_place s (brew_of a s) < w.brew_place s c)).
            ⊎_elim (λ (before : w.brew_place s c < w.brew_place s (brew_of a s)). reached.outranked s c l t (lt-ltb _ _ before))
            (λ (behind : w.brew_place s (brew_of a s) < w.brew_place s c). absurd (omega (arith, next.1.none_between c t behind)))
            either)
            (cases_order (w.brew_place s c) (w.brew_place s (brew_of a s))))
            (step.stays_or_next s l)

        safe : (d : List ℕ) → FairOver w cs d → NoneLower w b d
        safe d fair s l =
            ⊎_elim (λ (same : brew_of a s ≡ brew_of b s). omega (arith, reached.safe d fair s l, ap (w.brew_place s) same))
            (λ (next : (refused w a s ≡ true) × IsNext w s cs (brew_of a s) (brew_of b s)).
            let given : among cs (brew_of d s) ≡ true = over_chosen w cs d fair.over s l in
            let differ : w.brew_place s (brew_of d s) ≡ w.brew_place s (brew_of a s) → ⊥ =
            λ e. not_given d fair s l next.0 (same_brew s (brew_of d s) (brew_of a s) l given (reached.chosen s l) e) in
            next.1.none_between (brew_of d s) given (omega (arith, reached.safe d fair s l)))
            (step.stays_or_next s l)

    module _ (still : NobodyRefused w a) where
      -- a brew of the choice has no more applicants than lots
      not_crowded : (c : ℕ) → among cs c ≡ true → takers_with w a c ≤ lots c
      not_crowded c t =
          ⊎_elim
          (λ (more : lots c < takers_with w a c).
          let last = crowded (λ s. eqb (brew_of a s) c) (w.taker_place c) takers (lots c) (λ s u l m _ _ e. sound.takers_apart c s u (known c t) l m e) more in
          let at : c ≡ brew_of a last.0 = sym (eqb-true _ _ last.2) in
          absurd (both_ways _ (still last.0 last.1) (subst (λ d. leb (lots d) (ahead w a d last.0) ≡ true) at (le-leb _ _ last.3))))
          (λ (few : takers_with w a c ≤ lots c). few)
          (cases_lt (lots c) (takers_with w a c))

      -- the applicants add up to the lots, so that each brew of the choice is full
      full : (c : ℕ) → among cs c ≡ true → takers_with w a c ≡ lots c
      full =
          let all : tally (λ s. among cs (brew_of a s)) takers ≡ takers = tally_same _ (λ _. true) takers reached.chosen ∙ tally_always takers in
          total_squeeze (takers_with w a) (lots) cs not_crowded
          (count_by_brew (brew_of a) (λ _. true) takers 0 w.figures.brews cs choice.ascending ∙ all ∙ sym (choice_serves_all w.figures cs sound.limits choice))

      closed : (c : ℕ) → among cs c ≡ false → takers_with w a c ≡ 0
      closed c f = tally_fails _ takers (λ s l. ne_eqb _ _ (λ e. both_ways _ f (subst (λ d. among cs d ≡ true) e (reached.chosen s l))))

      fair : Fair w a
      fair s t c l m =
          ⊎_elim
          (λ (envy : justly_envies w a s t c ≡ true).
          let has = and_parts (eqb (brew_of a t) c) _ envy in
          let wants = and_parts (prefers w s c (brew_of a s)) (favours w c s t) has.1 in
          let listed : among cs c ≡ true = subst (λ d. among cs d ≡ true) (eqb-true _ _ has.0) (reached.chosen t m) in
          let worse : favours w c t s ≡ false = le-ltb (w.taker_place c t) (w.taker_place c s) (omega (arith, ltb-true _ _ wants.1)) in
          let one_more : ahead w a c s < takers_with w a c =
          tally_strict (λ u. eqb (brew_of a u) c && favours w c u s) (λ u. eqb (brew_of a u) c) takers t m (and_right _ _ worse) has.0 (λ u _ both. (and_parts (eqb (brew_of a u) c) _ both).0) in
          absurd (omega (arith, reached.outranked s c l listed wants.0, full c listed)))
          (λ (none : justly_envies w a s t c ≡ false). none)
          (cases_Bool (justly_envies w a s t c))

      pub end_is_best : BestFair w cs a
      end_is_best =
          record {
            fair_over = record {
              feasible = record {
                names_brews = record { each = reached.each; known = λ s l. known (brew_of a s) (reached.chosen s l) };
                full = λ c. ⊎_elim (λ (t : among cs c ≡ true). inr (full c t)) (λ (f : among cs c ≡ false). inl (closed c f)) (cases_Bool (among cs c));
              };
              over = λ c.
                  ⊎_elim (λ (t : among cs c ≡ true). lt-ltb 0 _ (omega (arith, full c t, sound.limits.some_lots)) ∙ sym t) (λ (f : among cs c ≡ false). le-ltb 0 _ (omega (arith, closed c f)) ∙ sym f) (cases_Bool (among cs c));
              fair = fair;
            };
            best = reached.safe;
          }
