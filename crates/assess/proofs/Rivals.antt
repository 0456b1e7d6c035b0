-- Taking the brew that each rival has for the brews that could be envied.
use Rattle.std.proofs.Common.{◌≡◌, ℕ, ◌+◌, ◌-◌, ◌<◌, true, false, ◌&&◌, List, sym, refl, ap, ◌∙◌, subst, ⊎_elim, arith}
use Rattle.std.proofs.lemmas.Bool.{and_left, and_parts, both_ways, cases_eq, eq-eqb, eqb-true, ne_eqb}
use Rattle.fair.specs.Allotments.{brew_of, justly_envies, Fair}
use Rattle.fair.specs.Markets.{Market}
use Rattle.fair.specs.Proposals.{Envious, Lowest}
use Rattle.assess.specs.Envying.{envies_rival}

-- taker s justly envies none of the first n takers
abbrev pub EnviesNone : Market → List ℕ → ℕ → ℕ → Type 0
EnviesNone w a n s = (t : ℕ) → t < n → envies_rival w a s t ≡ false

module _ (w : Market) (a : List ℕ) where
  abbrev takers : ℕ
  takers = w.figures.takers

  -- over the brew that the rival has, the envy is the test of the rival
  over_own : (s t : ℕ) → justly_envies w a s t (brew_of a t) ≡ envies_rival w a s t
  over_own s t = ap (λ b. b && envies_rival w a s t) (eq-eqb (brew_of a t) (brew_of a t) refl)

  envied : (s t c : ℕ) → justly_envies w a s t c ≡ true → envies_rival w a s t ≡ true
  envied s t c envy =
      let has : brew_of a t ≡ c = eqb-true _ _ (and_parts _ _ envy).0 in
      sym (over_own s t) ∙ subst (λ d. justly_envies w a s t d ≡ true) (sym has) envy

  not_envied : (s t c : ℕ) → envies_rival w a s t ≡ false → justly_envies w a s t c ≡ false
  not_envied s t c none =
      ⊎_elim
      (λ (has : brew_of a t ≡ c). subst (λ d. justly_envies w a s t d ≡ false) has (over_own s t ∙ none))
      (λ (ne : brew_of a t ≡ c → ⊥). and_left _ _ (ne_eqb _ _ ne))
      (cases_eq (brew_of a t) c)

  not_envious : (s : ℕ) → EnviesNone w a takers s → Envious w a s → ⊥
  not_envious s none envy = both_ways _ (none envy.0 envy.2) (envied s envy.0 envy.1 envy.3)

  -- a taker that envies a rival is the lowest with a just envy where those before it envy nobody
  pub lowest_envious : (s t k : ℕ) → k ≡ s + 1 → s < takers → t < takers → envies_rival w a s t ≡ true → ((j : ℕ) → j < s → EnviesNone w a takers j) → Lowest takers (λ j. Envious w a (j - 1)) k
  lowest_envious s t k number ls lt envy before =
      let here : s ≡ k - 1 = omega arith in
      record {
        low = omega arith;
        high = omega arith;
        holds = subst (Envious w a) here (t, brew_of a t, lt, over_own s t ∙ envy);
        not_before = λ j low less. not_envious (j - 1) (before (j - 1) (omega arith));
      }

  pub fair_without_rivals : ((s : ℕ) → s < takers → EnviesNone w a takers s) → Fair w a
  fair_without_rivals none = λ s t c ls lt. not_envied s t c (none s ls t lt)
