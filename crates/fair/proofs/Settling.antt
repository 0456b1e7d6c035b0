-- The settlement exists, is unique, and nothing feasible and fair is better; nor than a proposal that passes its tests.
use Rattle.std.proofs.Common.{◌≡◌, ℕ, zero, suc, ◌+◌, ◌<◌, ◌≤◌, true, false, cond, ◌||◌, eqb, List, length, sym, refl, ap, ◌∙◌, subst, inl, inr, ⊎_elim, add-one, arith}
use Rattle.std.proofs.lemmas.Bool.{cases_Bool, cases_eq, both_ways, eq-eqb, eqb-true, lt-ltb, ltb-true, or_left, or_right, cond-true, cond-false}
use Rattle.tally.proofs.Tallies.{tally_mono}
use Rattle.fair.specs.Markets.{Market, SoundMarket, lots_of, prefers}
use Rattle.fair.specs.Choices.{among, IsChoice, choices, choice_at}
use Rattle.fair.specs.Allotments.{brew_of, takers_with, NamesBrews, Feasible, Over, Fair, Better, BestFair, claimants}
use Rattle.fair.specs.Acceptance.{deferred_acceptance}
use Rattle.fair.specs.Settlement.{HeldNext, Held, Settlement, FairAndUnbettered}
use Rattle.fair.specs.Proposals.{NotLowerThanHouse, Passes}
use Rattle.fair.proofs.Comparing.{is_better, better_from_test, test_from_better, none_lower_trans, better_above, better_below, not_better_itself, best_is_unique}
use Rattle.fair.proofs.Listing.{choices_listed}
use Rattle.fair.proofs.Feasibles.{feasible_from_brews, feasible_over_an_ordinal}
use Rattle.fair.proofs.Rounds.{acceptance_is_best}

-- The settlement's steps as a computation.
abbrev pub held_next : Market → List ℕ → List ℕ → List ℕ
held_next w h d = cond (is_better w d h) d h

abbrev pub held_after : Market → List ℕ → ℕ → List ℕ
held_after w house zero = deferred_acceptance w house
held_after w house (suc i) = held_next w (held_after w house i) (deferred_acceptance w (choice_at w.figures i))

-- one step of the settlement's loop
pub held_next_lem : (w : Market) (h d : List ℕ) → HeldNext w h d (held_next w h d)
held_next_lem w h d =
    ⊎_elim (λ (t : is_better w d h ≡ true). inl (better_from_test w d h t, cond-true _ _ _ t))
    (λ (f : is_better w d h ≡ false). inr ((λ better. both_ways _ f (test_from_better w d h better)), cond-false _ _ _ f))
    (cases_Bool (is_better w d h))

-- a step has one outcome
held_next_unique : (w : Market) (h d a b : List ℕ) → HeldNext w h d a → HeldNext w h d b → a ≡ b
held_next_unique w h d a b first second =
    ⊎_elim
    (λ (took : Better w d h × (a ≡ d)).
    ⊎_elim (λ (other : Better w d h × (b ≡ d)). took.1 ∙ sym other.1) (λ (other : (Better w d h → ⊥) × (b ≡ h)). absurd (other.0 took.0)) second)
    (λ (kept : (Better w d h → ⊥) × (a ≡ h)).
    ⊎_elim (λ (other : Better w d h × (b ≡ d)). absurd (kept.0 other.0)) (λ (other : (Better w d h → ⊥) × (b ≡ h)). kept.1 ∙ sym other.1) second)
    first

module _ (w : Market) (sound : SoundMarket w) where
  abbrev count : ℕ
  count = length (choices w.figures)

  choice_at_lem : (i : ℕ) → i < count → IsChoice w.figures (choice_at w.figures i)
  choice_at_lem = (choices_listed w.figures).choices_only

  -- Where no best fair allotment over a choice is better than a, nothing feasible and fair is: it is over some choice,
  -- and the best fair allotment there is at least as high.
  pub none_better : (a : List ℕ) → ((i : ℕ) → i < count → (d : List ℕ) → BestFair w (choice_at w.figures i) d → Better w d a → ⊥) → (b : List ℕ) → Feasible w b → Fair w b → Better w b a → ⊥
  none_better a not_bettered b feasible fair better =
      let over = feasible_over_an_ordinal w sound.limits b feasible in
      let best = acceptance_is_best w sound (choice_at w.figures over.0) (choice_at_lem over.0 over.1) in
      not_bettered over.0 over.1 _ best (better_above w _ b a (best.best b (record { feasible = feasible; over = over.2; fair = fair })) better)

  -- A brew with fewer claimants than lots cannot be filled by takers who are no lower, so that no feasible allotment
  -- over a choice with it is better.
  pub too_few_claimants : (a : List ℕ) → NamesBrews w a → (cs : List ℕ) (c : ℕ) → among cs c ≡ true → claimants w a c < lots_of w.figures c → (b : List ℕ) → Feasible w b → Over w cs b → Better w b a → ⊥
  too_few_claimants a named cs c listed few b feasible over better =
      let claims : (s : ℕ) → s < w.figures.takers → eqb (brew_of b s) c ≡ true → (eqb (brew_of a s) c || prefers w s c (brew_of a s)) ≡ true =
      λ s l has.
      let at : brew_of b s ≡ c = eqb-true _ _ has in
      ⊎_elim (λ (e : brew_of a s ≡ c). or_left _ _ (eq-eqb _ _ e))
      (λ (ne : brew_of a s ≡ c → ⊥).
      let differ : w.brew_place s (brew_of a s) ≡ w.brew_place s (brew_of b s) → ⊥ =
      λ e. ne (sound.brews_apart s (brew_of a s) (brew_of b s) l (named.known s l) (feasible.names_brews.known s l) e ∙ at) in
      or_right _ _ (lt-ltb (w.brew_place s c) (w.brew_place s (brew_of a s)) (omega (arith, better.none_lower s l, ap (w.brew_place s) at))))
      (cases_eq (brew_of a s) c) in
      let no_more : takers_with w b c ≤ claimants w a c =
      tally_mono (λ s. eqb (brew_of b s) c) (λ s. eqb (brew_of a s) c || prefers w s c (brew_of a s)) w.figures.takers claims in
      let open_here : 0 < takers_with w b c = ltb-true 0 _ (over c ∙ listed) in
      ⊎_elim (λ (e : takers_with w b c ≡ 0). omega arith) (λ (e : takers_with w b c ≡ lots_of w.figures c). omega arith) (feasible.full c)

  module _ (house : List ℕ) (choice : IsChoice w.figures house) where
    -- The steps of a loop over the choices, at index i: the best fair allotment there is better, or not, or need not be
    -- known.
    pub held_takes : (i : ℕ) (h d : List ℕ) → Held w house i h → BestFair w (choice_at w.figures i) d → Better w d h → Held w house (i + 1) d
    held_takes i h d held best better = rw (add-one i) (h, d, held, best, inl (better, refl))

    pub held_keeps : (i : ℕ) (h d : List ℕ) → Held w house i h → BestFair w (choice_at w.figures i) d → (Better w d h → ⊥) → Held w house (i + 1) h
    held_keeps i h d held best not_better = rw (add-one i) (h, d, held, best, inr (not_better, refl))

    pub held_exists : (i : ℕ) → i ≤ count → Held w house i (held_after w house i)
    held_exists zero l = acceptance_is_best w sound house choice
    held_exists (suc i) l =
        (held_after w house i, deferred_acceptance w (choice_at w.figures i), held_exists i (omega arith), acceptance_is_best w sound _ (choice_at_lem i (omega arith)), held_next_lem w _ _)

    pub held_unique : (i : ℕ) (a b : List ℕ) → Held w house i a → Held w house i b → a ≡ b
    held_unique zero a b first second = best_is_unique w sound house a b first second
    held_unique (suc i) a b first second =
        let same_held = held_unique i _ _ second.2 first.2 in
        let same_best = best_is_unique w sound _ _ _ second.3 first.3 in
        held_next_unique w first.0 first.1 a b first.4
        (subst (λ d. HeldNext w first.0 d b) same_best (subst (λ h. HeldNext w h second.1 b) same_held second.4))

    pub settlement_exists : Settlement w house (held_after w house count)
    settlement_exists = held_exists count (omega arith)

    pub settlement_unique : (a b : List ℕ) → Settlement w house a → Settlement w house b → a ≡ b
    settlement_unique = held_unique count

    -- What is held after some choices: feasible, fair, nobody lower than in the house's best fair allotment,
    -- and none of the choices gone through has a better one.
    pub record HeldFacts (i : ℕ) (a : List ℕ) : Type 0 where
      pub feasible : Feasible w a
      pub fair : Fair w a
      pub not_lower : NotLowerThanHouse w house a
      pub not_bettered : (j : ℕ) → j < i → (d : List ℕ) → BestFair w (choice_at w.figures j) d → Better w d a → ⊥

    pub held_facts : (i : ℕ) (a : List ℕ) → Held w house i a → HeldFacts i a
    held_facts zero a best =
        record { feasible = best.fair_over.feasible; fair = best.fair_over.fair; not_lower = λ b other. best.best b other.fair_over; not_bettered = λ j l. absurd (omega arith) }
    held_facts (suc i) a (h, d, held, best, next) =
        let before = held_facts i h held in
        let this : (j : ℕ) (e : List ℕ) → j ≡ i → BestFair w (choice_at w.figures j) e → e ≡ d =
        λ j e here other. best_is_unique w sound _ e d (subst (λ k. BestFair w (choice_at w.figures k) e) here other) best in
        ⊎_elim
        (λ (took : Better w d h × (a ≡ d)).
        subst (HeldFacts (suc i)) (sym took.1)
        (record {
          feasible = best.fair_over.feasible;
          fair = best.fair_over.fair;
          not_lower = λ b other. none_lower_trans w d h b took.0.none_lower (before.not_lower b other);
          not_bettered = λ j l e other better.
              ⊎_elim (λ (here : j ≡ i). not_better_itself w d (subst (λ x. Better w x d) (this j e here other) better))
              (λ (earlier : j ≡ i → ⊥). before.not_bettered j (omega arith) e other (better_below w e d h better took.0.none_lower))
              (cases_eq j i);
        }))
        (λ (kept : (Better w d h → ⊥) × (a ≡ h)).
        subst (HeldFacts (suc i)) (sym kept.1)
        (record {
          feasible = before.feasible;
          fair = before.fair;
          not_lower = before.not_lower;
          not_bettered = λ j l e other better.
              ⊎_elim (λ (here : j ≡ i). kept.0 (subst (λ x. Better w x h) (this j e here other) better))
              (λ (earlier : j ≡ i → ⊥). before.not_bettered j (omega arith) e other better)
              (cases_eq j i);
        }))
        next

    -- What has been found feasible, fair, not lower and not bettered over any choice is not bettered at all.
    fair_and_unbettered : (a : List ℕ) → HeldFacts count a → FairAndUnbettered w house a
    fair_and_unbettered a facts =
        record {
          feasible = facts.feasible;
          fair = facts.fair;
          house_not_higher = λ b fair. none_lower_trans w a _ b (facts.not_lower _ (acceptance_is_best w sound house choice)) ((acceptance_is_best w sound house choice).best b fair);
          none_better = none_better a facts.not_bettered;
        }

    pub settlement_fair_and_unbettered : (a : List ℕ) → Settlement w house a → FairAndUnbettered w house a
    settlement_fair_and_unbettered a settled = fair_and_unbettered a (held_facts count a settled)

    pub passed_fair_and_unbettered : (a : List ℕ) → Passes w house a → FairAndUnbettered w house a
    passed_fair_and_unbettered a passes =
        fair_and_unbettered a
        (record {
          feasible = feasible_from_brews w a passes.names_brews passes.full;
          fair = passes.fair;
          not_lower = passes.not_lower;
          not_bettered = λ j l d best better. passes.not_bettered j l (d, best, better);
        })

    pub held_passes_over : (i : ℕ) (h : List ℕ) → i < count → Held w house i h → (c : ℕ) → among (choice_at w.figures i) c ≡ true → claimants w h c < lots_of w.figures c → Held w house (i + 1) h
    held_passes_over i h l held c listed few =
        let best = acceptance_is_best w sound (choice_at w.figures i) (choice_at_lem i l) in
        held_keeps i h _ held best
        (too_few_claimants h (held_facts i h held).feasible.names_brews _ c listed few _ best.fair_over.feasible best.fair_over.over)
