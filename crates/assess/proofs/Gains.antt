-- Counting gains, one taker more, and what the count tells.
use Rattle.std.proofs.Common.{◌≡◌, ℕ, ◌+◌, ◌<◌, ◌≤◌, Bool, false, ltb, List, Some, None, Option, Decides, sym, ap, ◌∙◌, subst, arith}
use Rattle.std.proofs.lemmas.Bool.{lt-ltb, le-ltb}
use Rattle.std.proofs.lemmas.Bool.Decides.{nat_tests}
use Rattle.std.specs.Option.{MatchOption}
use Rattle.tally.proofs.Tallies.{tally_more_yes, tally_more_no}
use Rattle.orders.specs.Books.{Meaning}
use Rattle.fair.specs.FromBooks.{market_of}
use Rattle.fair.specs.Markets.{Figures, Market}
use Rattle.fair.specs.Allotments.{gains, Better}
use Rattle.fair.proofs.Comparing.{is_better, better_from_test, test_from_better}
use Rattle.assess.specs.Compared.{own_place, gains_to, GainsWithoutLoss}

-- Of the first n takers none is lower in a than in b, and so many are higher.
pub record Counted (book : Meaning) (a b : List ℕ) (n higher : ℕ) : Type 0 where
  pub none_lower : gains_to book b a n ≡ 0
  pub gained : higher ≡ gains_to book a b n
  pub few : higher ≤ n

pub gains_less : {book : Meaning} {a b : List ℕ} {n higher next : ℕ} → Counted book a b n higher → own_place book a n < own_place book b n → next ≡ higher + 1 → Counted book a b (n + 1) next
gains_less {book} {a} {b} {n} before less is =
    record {
      none_lower = tally_more_no _ n (le-ltb _ _ (omega arith)) ∙ before.none_lower;
      gained = omega (arith, before.gained, tally_more_yes (λ s. ltb (own_place book a s) (own_place book b s)) n (lt-ltb _ _ less));
      few = omega (arith, before.few);
    }

pub gains_equal : {book : Meaning} {a b : List ℕ} {n higher next : ℕ} → Counted book a b n higher → own_place book a n ≡ own_place book b n → next ≡ higher → Counted book a b (n + 1) next
gains_equal {book} {a} {b} {n} before equal is =
    record {
      none_lower = tally_more_no _ n (le-ltb _ _ (omega arith)) ∙ before.none_lower;
      gained = omega (arith, before.gained, tally_more_no (λ s. ltb (own_place book a s) (own_place book b s)) n (le-ltb _ _ (omega arith)));
      few = omega (arith, before.few);
    }

module _ (w : Market) (a b : List ℕ) where
  decides : (r : Bool) → r ≡ is_better w a b → Decides r (Better w a b)
  decides r is = (λ t. better_from_test w a b (sym is ∙ t), λ better. is ∙ test_from_better w a b better)

module _ (f : Figures) (takers : Meaning) (a b : List ℕ) (n : ℕ) (all : n ≡ f.takers) where
  abbrev AllBooks : Bool → Type 0
  AllBooks r = (brews : Meaning) → Decides r (Better (market_of f takers brews) a b)

  -- a test that passes at a gain and fails where one is lower
  pub better_by_gains : (found : Option ℕ) (r : Bool) {Told : ℕ → Type 0} → GainsWithoutLoss takers a b n found → MatchOption found (r ≡ false) Told → ((higher : ℕ) → Told higher → r ≡ ltb 0 higher) → AllBooks r
  better_by_gains (Some higher) r counts told test brews =
      let none : gains (market_of f takers brews) b a ≡ 0 = sym (ap (gains_to takers b a) all) ∙ counts.0 in
      let is : higher ≡ gains (market_of f takers brews) a b = counts.1 ∙ ap (gains_to takers a b) all in
      let tested : r ≡ ltb 0 higher = test higher told in
      decides (market_of f takers brews) a b r (grind (arith, nat_tests))
  better_by_gains None r counts told test brews =
      let some : 1 ≤ gains (market_of f takers brews) b a = subst (λ k. 1 ≤ gains_to takers b a k) all counts in
      decides (market_of f takers brews) a b r (grind (arith, nat_tests))
