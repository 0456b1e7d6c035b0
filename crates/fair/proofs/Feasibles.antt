-- A feasible allotment is over a choice: the brews that have takers are as many as are to be opened.
use Rattle.std.proofs.Common.{◌≡◌, ℕ, ◌*◌, ◌<◌, Bool, true, false, ◌&&◌, ltb, List, length, filter, sym, ◌∙◌, subst, inl, ⊎_elim, arith}
use native.Mathlib.Nat.{eq_of_mul-eq-mul_left}
use Rattle.std.specs.List.{range_with_len}
use Rattle.std.proofs.lemmas.Bool.{ne_eqb, both_ways, cases_Bool}
use Rattle.std.proofs.lemmas.Bool.Decides.{nat_tests}
use Rattle.orders.specs.Books.{within}
use Rattle.tally.specs.Tally.{total}
use Rattle.tally.proofs.Tallies.{tally_fails, tally_always, tally_same}
use Rattle.tally.proofs.Totals.{total_all_or_nothing}
use Rattle.fair.specs.Markets.{Market, InLimits, IsBrew}
use Rattle.fair.specs.Choices.{among, IsChoice, choices, choice_at}
use Rattle.fair.specs.Allotments.{brew_of, takers_with, NamesBrews, FullOrClosed, Feasible, Over}
use Rattle.fair.proofs.Choosing.{count_by_brew, among_kept, ascending_kept, among_all, ascending_all}
use Rattle.fair.proofs.Listing.{choices_listed}

pub no_brew_not_taken : (w : Market) (a : List ℕ) → NamesBrews w a → (c : ℕ) → within c w.figures.brews ≡ false → takers_with w a c ≡ 0
no_brew_not_taken w a named c e =
    tally_fails _ w.figures.takers (λ s l. ne_eqb (brew_of a s) c (λ same. both_ways (within c w.figures.brews) e (subst (IsBrew w) same (named.known s l))))

-- a list that fills each of the round's brews or leaves it closed
pub feasible_from_brews : (w : Market) (a : List ℕ) → NamesBrews w a → ((c : ℕ) → IsBrew w c → FullOrClosed w a c) → Feasible w a
feasible_from_brews w a named full =
    record {
      names_brews = named;
      full = λ c. ⊎_elim (full c) (λ (e : within c w.figures.brews ≡ false). inl (no_brew_not_taken w a named c e)) (cases_Bool (within c w.figures.brews));
    }

module _ (w : Market) (limits : InLimits w.figures) (a : List ℕ) (feasible : Feasible w a) where
  abbrev takers : ℕ
  takers = w.figures.takers

  abbrev brews : List ℕ
  brews = range_with_len 1 w.figures.brews

  abbrev taken : ℕ → Bool
  taken c = ltb 0 (takers_with w a c)

  -- all takers are counted, brew by brew
  served : total (takers_with w a) brews ≡ takers
  served =
      count_by_brew (brew_of a) (λ _. true) takers 0 w.figures.brews brews (ascending_all w.figures.brews)
      ∙ tally_same _ _ takers (λ s l. among_all w.figures.brews (brew_of a s) ∙ feasible.names_brews.known s l) ∙ tally_always takers

  taken_is_brew : (c : ℕ) → taken c ≡ (taken c && among brews c)
  taken_is_brew c = rw (among_all w.figures.brews c) (grind (arith, nat_tests, no_brew_not_taken w a feasible.names_brews c))

  pub feasible_over_a_choice : (cs : List ℕ) × IsChoice w.figures cs × Over w cs a
  feasible_over_a_choice =
      let cs = filter taken brews in
      let full : w.figures.lots * length cs ≡ w.figures.lots * w.figures.opened =
      sym (total_all_or_nothing (takers_with w a) w.figures.lots brews (omega arith) feasible.full) ∙ served ∙ limits.a_lot_each in (
        cs,
        record {
          size = eq_of_mul-eq-mul_left w.figures.lots (omega arith) (length cs) w.figures.opened full;
          ascending = ascending_kept taken 0 w.figures.brews brews (ascending_all w.figures.brews);
        },
        λ c. taken_is_brew c ∙ sym (among_kept taken brews c),
      )

  pub feasible_over_an_ordinal : (i : ℕ) × (i < length (choices w.figures)) × Over w (choice_at w.figures i) a
  feasible_over_an_ordinal =
      let (cs, choice, over) = feasible_over_a_choice in
      let (i, l, at) = (choices_listed w.figures).each cs choice in
      (i, l, subst (λ ds. Over w ds a) (sym at) over)
