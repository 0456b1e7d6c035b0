-- The count of just envies and fairness.
use Rattle.std.proofs.Common.{◌≡◌, ℕ, ◌≤◌, true, false, List, ◌∙◌, subst, ⊎_elim, arith}
use Rattle.std.specs.List.{range_with_len}
use Rattle.std.proofs.lemmas.Bool.{cases_Bool, eqb-true, and_parts}
use Rattle.tally.specs.Tally.{tally, total}
use Rattle.tally.proofs.Tallies.{tally_some, tally_fails}
use Rattle.tally.proofs.Totals.{total_none}
use Rattle.tally.proofs.Sums.{sum_none, sum_part}
use Rattle.fair.specs.Markets.{Market, IsBrew}
use Rattle.fair.specs.Allotments.{NamesBrews, justly_envies, Fair, envies}
use Rattle.fair.proofs.Choosing.{among_all, total_part}

module _ (w : Market) (a : List ℕ) where
  abbrev takers : ℕ
  takers = w.figures.takers

  -- the just envies of taker s over brew c, and all of taker s
  abbrev over : ℕ → ℕ → ℕ
  over s c = tally (λ t. justly_envies w a s t c) takers

  abbrev of_taker : ℕ → ℕ
  of_taker s = total (over s) (range_with_len 1 w.figures.brews)

  pub fair_without_envies : Fair w a → envies w a ≡ 0
  fair_without_envies fair =
      sum_none of_taker takers (λ s l. total_none (over s) (range_with_len 1 w.figures.brews) (λ c. tally_fails _ takers (λ t m. fair s t c l m)))

  pub without_envies_fair : NamesBrews w a → envies w a ≡ 0 → Fair w a
  without_envies_fair named none s t c l m =
      ⊎_elim
      (λ (envy : justly_envies w a s t c ≡ true).
      let brew : IsBrew w c = subst (IsBrew w) (eqb-true _ _ (and_parts _ _ envy).0) (named.known t m) in
      let counted : 1 ≤ over s c = tally_some (λ r. justly_envies w a s r c) takers t m envy in
      absurd (omega (arith, total_part (over s) (range_with_len 1 w.figures.brews) c (among_all w.figures.brews c ∙ brew), sum_part of_taker takers s l)))
      (λ (fair : justly_envies w a s t c ≡ false). fair)
      (cases_Bool (justly_envies w a s t c))
