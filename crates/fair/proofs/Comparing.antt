-- Laws of better, a test that computes it, and that a best fair allotment is unique.
use Rattle.std.proofs.Common.{◌≡◌, ℕ, ◌<◌, Bool, true, ◌&&◌, eqb, leb, List, sym, ◌∙◌, arith}
use Rattle.std.proofs.lemmas.List.{ext_get_or}
use Rattle.std.proofs.lemmas.Bool.{eq-eqb, eqb-true, le-leb, leb-true, le-ltb, lt-ltb, ltb-true, ltb-false, and_from, and_parts}
use Rattle.tally.proofs.Tallies.{tally_mono, tally_none, tally_fails}
use Rattle.fair.specs.Markets.{Market, SoundMarket, prefers}
use Rattle.fair.specs.Allotments.{brew_of, gains, NoneLower, Better, BestFair}

-- a is better than b: nobody gains from a to b, and somebody does from b to a
abbrev pub is_better : Market → List ℕ → List ℕ → Bool
is_better w a b = eqb (gains w b a) 0 && leb 1 (gains w a b)

module _ (w : Market) (a b : List ℕ) where
  pub better_from_test : is_better w a b ≡ true → Better w a b
  better_from_test t =
      let parts = and_parts _ _ t in
      record { none_lower = λ s l. ltb-false _ _ (tally_none _ w.figures.takers (eqb-true _ 0 parts.0) s l); some_higher = leb-true 1 _ parts.1 }

  pub test_from_better : Better w a b → is_better w a b ≡ true
  test_from_better better =
      and_from _ _ (eq-eqb _ 0 (tally_fails _ _ (λ s l. le-ltb _ _ (better.none_lower s l)))) (le-leb 1 _ better.some_higher)

module _ (w : Market) where
  pub none_lower_trans : (a b c : List ℕ) → NoneLower w a b → NoneLower w b c → NoneLower w a c
  none_lower_trans a b c first second s l = omega (arith, first s l, second s l)

  -- at least as high as something better is better
  pub better_above : (a b c : List ℕ) → NoneLower w a b → Better w b c → Better w a c
  better_above a b c above better =
      record {
        none_lower = none_lower_trans a b c above better.none_lower;
        some_higher = omega (arith, better.some_higher, tally_mono (λ s. prefers w s (brew_of b s) (brew_of c s)) (λ s. prefers w s (brew_of a s) (brew_of c s)) w.figures.takers (λ s l h. lt-ltb _ _ (omega (arith, above s l, ltb-true _ _ h))));
      }

  -- better than something is better than what is no higher
  pub better_below : (a b c : List ℕ) → Better w a b → NoneLower w b c → Better w a c
  better_below a b c better below =
      record {
        none_lower = none_lower_trans a b c better.none_lower below;
        some_higher = omega (arith, better.some_higher, tally_mono (λ s. prefers w s (brew_of a s) (brew_of b s)) (λ s. prefers w s (brew_of a s) (brew_of c s)) w.figures.takers (λ s l h. lt-ltb _ _ (omega (arith, below s l, ltb-true _ _ h))));
      }

  pub not_better_itself : (a : List ℕ) → Better w a a → ⊥
  not_better_itself a better = omega (arith, better.some_higher, tally_fails (λ s. prefers w s (brew_of a s) (brew_of a s)) w.figures.takers (λ s l. le-ltb _ _ (omega arith)))

  -- Over one choice there is one best fair allotment.
  pub best_is_unique : SoundMarket w → (cs a b : List ℕ) → BestFair w cs a → BestFair w cs b → a ≡ b
  best_is_unique sound cs a b first second =
      let names = λ (c : List ℕ) (best : BestFair w cs c). best.fair_over.feasible.names_brews in
      ext_get_or 0 a b ((names a first).each ∙ sym (names b second).each)
      (λ s l.
      let m : s < w.figures.takers = omega (arith, (names a first).each) in
      sound.brews_apart s (brew_of a s) (brew_of b s) m ((names a first).known s m) ((names b second).known s m)
      (omega (arith, first.best b second.fair_over s m, second.best a first.fair_over s m)))
