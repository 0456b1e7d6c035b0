-- Laws of the brews of a choice: what they are, and adding up and counting over them.
use Rattle.std.proofs.Common.{◌≡◌, ℕ, zero, suc, ◌+◌, ◌*◌, ◌<◌, ◌≤◌, Bool, true, false, ◌&&◌, eqb, leb, ◌⊎◌, List, [], ◌∷◌, filter, sym, refl, ap, ◌∙◌, subst, ⊎_elim, arith}
use Rattle.std.specs.List.{range_with_len}
use Rattle.std.proofs.lemmas.Bool.{cases_Bool, cond_both, eqb-true, eq-eqb, and_parts, and_right, or_left, or_right, both_ways}
use Rattle.std.proofs.lemmas.Bool.Decides.{nat_tests}
use Rattle.orders.specs.Books.{within}
use Rattle.tally.specs.Tally.{tally, total}
use Rattle.tally.proofs.Tallies.{tally_same, tally_fails, tally_apart}
use Rattle.tally.proofs.Totals.{total_constant}
use Rattle.fair.specs.Markets.{Figures, InLimits, lots_of}
use Rattle.fair.specs.Choices.{among, Ascending, IsChoice}

pub among_first : (c : ℕ) (cs : List ℕ) → among (c ∷ cs) c ≡ true
among_first c cs = or_left (eqb c c) (among cs c) (eq-eqb c c refl)

pub among_later : (d c : ℕ) (cs : List ℕ) → among cs c ≡ true → among (d ∷ cs) c ≡ true
among_later d c cs = or_right (eqb d c) (among cs c)

pub among_cases : (d c : ℕ) (cs : List ℕ) → among (d ∷ cs) c ≡ true → (d ≡ c) ⊎ (among cs c ≡ true)
among_cases d c cs h = grind (arith, nat_tests)

-- what holds of the first and of each of the rest holds of each
pub among_each : (P : ℕ → Type 0) (d : ℕ) (ds : List ℕ) → P d → ((c : ℕ) → among ds c ≡ true → P c) → (c : ℕ) → among (d ∷ ds) c ≡ true → P c
among_each P d ds first rest c h = ⊎_elim (λ (e : d ≡ c). subst P e first) (rest c) (among_cases d c ds h)

pub ascending_within : (low high : ℕ) (cs : List ℕ) → Ascending low high cs → (c : ℕ) → among cs c ≡ true → (low < c) × (c ≤ high)
ascending_within low high [] up c m = absurd (both_ways false refl m)
ascending_within low high (d ∷ ds) up c m =
    ⊎_elim (λ (e : d ≡ c). (omega arith, omega arith))
    (λ (later : among ds c ≡ true). let h = ascending_within d high ds up.2 c later in (omega arith, omega arith))
    (among_cases d c ds m)

pub below_not_among : (low high : ℕ) (cs : List ℕ) → Ascending low high cs → (c : ℕ) → c ≤ low → among cs c ≡ false
below_not_among low high cs up c le =
    ⊎_elim (λ (m : among cs c ≡ true). absurd (omega (arith, ascending_within low high cs up c m))) (λ (e : among cs c ≡ false). e) (cases_Bool (among cs c))

pub ascending_lower : (low above high : ℕ) (cs : List ℕ) → low ≤ above → Ascending above high cs → Ascending low high cs
ascending_lower low above high [] le up = tt
ascending_lower low above high (c ∷ cs) le up = (omega arith, up.1, up.2)

pub choice_within : (f : Figures) (cs : List ℕ) → IsChoice f cs → (c : ℕ) → among cs c ≡ true → within c f.brews ≡ true
choice_within f cs choice c m = let h = ascending_within 0 f.brews cs choice.ascending c m in grind (arith, nat_tests)

-- the lots of a choice's brews are one for each taker
pub choice_serves_all : (f : Figures) (cs : List ℕ) → InLimits f → IsChoice f cs → total (lots_of f) cs ≡ f.takers
choice_serves_all f cs limits choice = total_constant f.lots cs ∙ ap (λ k. f.lots * k) choice.size ∙ sym limits.a_lot_each

pub total_part : (f : ℕ → ℕ) (cs : List ℕ) (c : ℕ) → among cs c ≡ true → f c ≤ total f cs
total_part f [] c m = absurd (both_ways false refl m)
total_part f (d ∷ ds) c m =
    among_each (λ b. f b ≤ total f (d ∷ ds)) d ds (omega arith) (λ b t. omega (arith, total_part f ds b t)) c m

module _ (f g : ℕ → ℕ) where
  pub total_mono : (cs : List ℕ) → ((c : ℕ) → among cs c ≡ true → f c ≤ g c) → total f cs ≤ total g cs
  total_mono [] h = omega arith
  total_mono (d ∷ ds) h = omega (arith, h d (among_first d ds), total_mono ds (λ c m. h c (among_later d c ds m)))

  -- where each is no more and the totals are the same, each is the same
  pub total_squeeze : (cs : List ℕ) → ((c : ℕ) → among cs c ≡ true → f c ≤ g c) → total f cs ≡ total g cs → (c : ℕ) → among cs c ≡ true → f c ≡ g c
  total_squeeze [] h e c m = absurd (both_ways false refl m)
  total_squeeze (d ∷ ds) h e c m =
      let here : f d ≤ g d = h d (among_first d ds) in
      let rest : (c : ℕ) → among ds c ≡ true → f c ≤ g c = λ c m. h c (among_later d c ds m) in
      let more = total_mono ds rest in
      ⊎_elim (λ (same : d ≡ c). ap f (sym same) ∙ omega arith ∙ ap g same)
      (λ (later : among ds c ≡ true). total_squeeze ds rest (omega arith) c later)
      (among_cases d c ds m)

module _ (a : ℕ → ℕ) (p : ℕ → Bool) (n : ℕ) where
  -- Those that pass and have one of the brews are counted brew by brew.
  pub count_by_brew : (low high : ℕ) (cs : List ℕ) → Ascending low high cs → total (λ c. tally (λ t. p t && eqb (a t) c) n) cs ≡ tally (λ t. p t && among cs (a t)) n
  count_by_brew low high [] up = sym (tally_fails _ n (λ t l. and_right (p t) false refl))
  count_by_brew low high (c ∷ cs) up =
      let this : ℕ → Bool = λ t. p t && eqb (a t) c in
      let others : ℕ → Bool = λ t. p t && among cs (a t) in
      let apart : (t : ℕ) → t < n → this t ≡ true → others t ≡ false =
      λ t l here. and_right (p t) (among cs (a t)) (below_not_among c high cs up.2 (a t) (omega (arith, eqb-true (a t) c (and_parts (p t) _ here).1))) in
      ap (λ k. tally this n + k) (count_by_brew c high cs up.2) ∙ tally_apart this others n apart ∙ tally_same _ _ n (λ t l. grind (arith, nat_tests))

-- the brews of a list that pass

pub among_kept : (p : ℕ → Bool) (cs : List ℕ) (c : ℕ) → among (filter p cs) c ≡ (p c && among cs c)
among_kept p [] c = sym (and_right (p c) false refl)
among_kept p (d ∷ ds) c =
    let rest = among_kept p ds c in
    cond_both (p d) (d ∷ filter p ds) (filter p ds) (λ es. among es c ≡ (p c && among (d ∷ ds) c)) (λ passes. grind (arith, nat_tests)) (λ fails. grind (arith, nat_tests))

pub ascending_kept : (p : ℕ → Bool) (low high : ℕ) (cs : List ℕ) → Ascending low high cs → Ascending low high (filter p cs)
ascending_kept p low high [] up = tt
ascending_kept p low high (c ∷ cs) up =
    let rest = ascending_kept p c high cs up.2 in
    cond_both (p c) (c ∷ filter p cs) (filter p cs) (Ascending low high) (λ _. (up.0, up.1, rest)) (λ _. ascending_lower low c high (filter p cs) (omega arith) rest)

-- all brews

among_counting : (low n high c : ℕ) → low + n ≡ high → among (range_with_len (low + 1) n) c ≡ (leb (low + 1) c && leb c high)
among_counting low zero high c e = grind (arith, nat_tests)
among_counting low (suc n) high c e = let rest = among_counting (low + 1) n high c (omega arith) in grind (arith, nat_tests)

pub among_all : (n c : ℕ) → among (range_with_len 1 n) c ≡ within c n
among_all n c = among_counting 0 n n c (omega arith)

ascending_counting : (low n high : ℕ) → low + n ≡ high → Ascending low high (range_with_len (low + 1) n)
ascending_counting low zero high e = tt
ascending_counting low (suc n) high e = (omega arith, omega arith, ascending_counting (low + 1) n high (omega arith))

pub ascending_all : (n : ℕ) → Ascending 0 n (range_with_len 1 n)
ascending_all n = ascending_counting 0 n n (omega arith)
