-- The loop that moves one refused taker at a time, over the list of the brews where the takers stand: how it starts
-- (Reached.reached_first), that a refused taker has a next brew (Reached.refused_has_next), a move, and the end.
use Rattle.std.proofs.Common.{◌≡◌, ℕ, ◌<◌, true, List, set, sym, ap, ◌∙◌, subst, inl, inr, ⊎_elim, arith}
use Rattle.std.proofs.lemmas.List.{length-set, get_or-set_same, get_or-set_other}
use Rattle.std.proofs.lemmas.Bool.{cases_eq}
use Rattle.fair.specs.Markets.{Market, SoundMarket}
use Rattle.fair.specs.Choices.{IsChoice}
use Rattle.fair.specs.Allotments.{brew_of}
use Rattle.fair.specs.Acceptance.{deferred_acceptance, refused, NobodyRefused}
use Rattle.fair.proofs.Favourites.{IsNext}
use Rattle.fair.proofs.Comparing.{best_is_unique}
use Rattle.fair.proofs.Reached.{Reached, Moves, reached_further, end_is_best}
use Rattle.fair.proofs.Rounds.{brews_left, left_falls, acceptance_is_best}

module _ (w : Market) (sound : SoundMarket w) (cs : List ℕ) (choice : IsChoice w.figures cs) (a : List ℕ) (reached : Reached w cs a) where
  module _ (s : ℕ) (l : s < w.figures.takers) (refusal : refused w a s ≡ true) (d : ℕ) (next : IsNext w s cs (brew_of a s) d) where
    now : brew_of (set a s d) s ≡ d
    now = get_or-set_same a s d 0 (omega (arith, reached.each))

    moves : Moves w cs a (set a s d)
    moves = record {
      each = length-set a s d ∙ reached.each;
      stays_or_next = λ t m.
          ⊎_elim
          (λ (e : t ≡ s). inr (subst (λ k. (refused w a k ≡ true) × IsNext w k cs (brew_of a k) (brew_of (set a s d) k)) (sym e) (refusal, subst (IsNext w s cs (brew_of a s)) (sym now) next)))
          (λ (ne : t ≡ s → ⊥). inl (sym (get_or-set_other a s t d 0 ne)))
          (cases_eq t s);
    }

    pub move : Reached w cs (set a s d)
    move = reached_further w sound cs choice a reached (set a s d) moves

    -- so that the loop ends
    pub move_falls : brews_left w cs (set a s d) < brews_left w cs a
    move_falls = left_falls w sound cs choice a (set a s d) moves s l (λ same. omega (arith, next.below, ap (w.brew_place s) (same ∙ now)))

  pub end : NobodyRefused w a → a ≡ deferred_acceptance w cs
  end still = best_is_unique w sound cs _ _ (end_is_best w sound cs choice a reached still) (acceptance_is_best w sound cs choice)
