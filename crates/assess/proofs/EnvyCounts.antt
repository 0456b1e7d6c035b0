-- The list of just envies is as long as their count.
use Rattle.std.proofs.Common.{◌≡◌, ℕ, zero, suc, ◌+◌, Bool, true, false, cond, List, [], ◌∷◌, length, sym, refl, ap, ◌∙◌, zero-add, add-one, arith}
use Rattle.std.specs.List.{range_with_len}
use Rattle.std.proofs.lemmas.List.{length-append}
use Rattle.tally.specs.Tally.{tally, sum_below, total}
use Rattle.tally.proofs.Tallies.{one}
use Rattle.fair.specs.Allotments.{envies, justly_envies}
use Rattle.fair.specs.Markets.{Market}
use Rattle.assess.specs.EnvyList.{gathered, envy, envies_of, envy_list}
use Rattle.assess.specs.declared.envy.Envy.{Envy}

-- lists that are as long as f says
length-gathered : (f : ℕ → List Envy) (g : ℕ → ℕ) → ((k : ℕ) → length (f k) ≡ g k) → (n : ℕ) → length (gathered f n) ≡ sum_below g n
length-gathered f g each zero = refl
length-gathered f g each (suc n) = omega (arith, length-append (gathered f n) (f n), each n, length-gathered f g each n)

length_one : (b : Bool) (x : Envy) → length (cond b (x ∷ []) []) ≡ one b
length_one true x = refl
length_one false x = refl

length_passed : (p : ℕ → Bool) (f : ℕ → Envy) (n : ℕ) → length (gathered (λ t. cond (p t) (f t ∷ []) []) n) ≡ tally p n
length_passed p f zero = refl
length_passed p f (suc n) =
    omega (arith, length-append (gathered (λ t. cond (p t) (f t ∷ []) []) n) (cond (p n) (f n ∷ []) []), length_one (p n) (f n), length_passed p f n)

-- a sum from its first term on
sum_from_first : (f : ℕ → ℕ) (n : ℕ) → sum_below f (suc n) ≡ f 0 + sum_below (λ k. f (k + 1)) n
sum_from_first f zero = refl
sum_from_first f (suc n) = omega (arith, sum_from_first f n, ap f (add-one n))

sum_same : (f g : ℕ → ℕ) → ((k : ℕ) → f k ≡ g k) → (n : ℕ) → sum_below f n ≡ sum_below g n
sum_same f g each zero = refl
sum_same f g each (suc n) = omega (arith, each n, sum_same f g each n)

sum_counting : (f : ℕ → ℕ) (a n : ℕ) → total f (range_with_len a n) ≡ sum_below (λ k. f (k + a)) n
sum_counting f a zero = refl
sum_counting f a (suc n) =
    let rest : total f (range_with_len (a + 1) n) ≡ sum_below (λ k. f (k + 1 + a)) n =
    sum_counting f (a + 1) n ∙ sum_same _ _ (λ k. ap f (omega arith)) n in
    omega (arith, rest, sum_from_first (λ k. f (k + a)) n, ap f (zero-add a))

module _ (w : Market) (a : List ℕ) where
  envies_of_taker : (s : ℕ) → length (envies_of w a s) ≡ total (λ c. tally (λ t. justly_envies w a s t c) w.figures.takers) (range_with_len 1 w.figures.brews)
  envies_of_taker s =
      length-gathered _ (λ k. tally (λ t. justly_envies w a s t (k + 1)) w.figures.takers) (λ k. length_passed (λ t. justly_envies w a s t (k + 1)) (envy s (k + 1)) w.figures.takers) w.figures.brews
      ∙ sym (sum_counting (λ c. tally (λ t. justly_envies w a s t c) w.figures.takers) 1 w.figures.brews)

  pub length-envies : length (envy_list w a) ≡ envies w a
  length-envies = length-gathered (envies_of w a) _ envies_of_taker w.figures.takers
