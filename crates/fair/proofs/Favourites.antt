-- The favourite brew of a list, and the next one in a taker's order.
use Rattle.std.proofs.Common.{◌≡◌, ℕ, zero, suc, ◌<◌, ◌≤◌, true, false, ◌⊎◌, List, [], ◌∷◌, refl, inl, inr, ⊎_elim, arith}
use Rattle.std.proofs.lemmas.Bool.{cases_lt, both_ways, cond_both, ltb-true, ltb-false}
use Rattle.fair.specs.Markets.{Market, prefers}
use Rattle.fair.specs.Choices.{among}
use Rattle.fair.specs.Acceptance.{higher, favourite}
use Rattle.fair.proofs.Choosing.{among_first, among_later, among_each}

module _ (w : Market) (s : ℕ) where
  -- d is a brew of the list, and taker s ranks no brew of the list higher
  pub record IsFavourite (cs : List ℕ) (d : ℕ) : Type 0 where
    pub listed : among cs d ≡ true
    pub highest : (c : ℕ) → among cs c ≡ true → w.brew_place s d ≤ w.brew_place s c

  -- where the list has brews, this is their favourite
  pub record FavouriteOrNone (cs : List ℕ) (d : ℕ) : Type 0 where
    pub some : (c : ℕ) → among cs c ≡ true → 1 ≤ d
    pub favourite : 1 ≤ d → IsFavourite cs d

  with_one_more : (c : ℕ) (cs : List ℕ) (d : ℕ) → FavouriteOrNone cs d → IsFavourite (c ∷ cs) (higher w s c d)
  with_one_more c cs zero of =
      record {
        listed = among_first c cs;
        highest = among_each (λ b. w.brew_place s c ≤ w.brew_place s b) c cs (omega arith) (λ b t. absurd (omega (arith, of.some b t)));
      }
  with_one_more c cs (suc d) of =
      cond_both (prefers w s (suc d) c) (suc d) c (IsFavourite (c ∷ cs))
      (λ above.
      record {
        listed = among_later c (suc d) cs rest.listed;
        highest = among_each (λ b. w.brew_place s (suc d) ≤ w.brew_place s b) c cs (omega (arith, ltb-true _ _ above)) rest.highest;
      })
      (λ below.
      let lower = ltb-false (w.brew_place s (suc d)) (w.brew_place s c) below in
      record {
        listed = among_first c cs;
        highest = among_each (λ b. w.brew_place s c ≤ w.brew_place s b) c cs (omega arith) (λ b t. omega (arith, rest.highest b t));
      })
    where
      rest : IsFavourite cs (suc d)
      rest = of.favourite (omega arith)

  higher_some : (c d : ℕ) → 1 ≤ c → 1 ≤ higher w s c d
  higher_some c zero l = l
  higher_some c (suc d) l = cond_both (prefers w s (suc d) c) (suc d) c (λ k. 1 ≤ k) (λ _. omega arith) (λ _. l)

  pub favourite_or_none : (cs : List ℕ) → ((c : ℕ) → among cs c ≡ true → 1 ≤ c) → FavouriteOrNone cs (favourite w s cs)
  favourite_or_none [] numbers = record { some = λ c t. absurd (both_ways false refl t); favourite = λ l. absurd (omega arith) }
  favourite_or_none (c ∷ cs) numbers =
      let first : 1 ≤ c = numbers c (among_first c cs) in
      let rest = favourite_or_none cs (λ b t. numbers b (among_later c b cs t)) in
      record { some = λ _ _. higher_some c (favourite w s cs) first; favourite = λ _. with_one_more c cs (favourite w s cs) rest }

  -- d is the brew of the list that comes next after c in the order of taker s
  pub record IsNext (cs : List ℕ) (c d : ℕ) : Type 0 where
    pub listed : among cs d ≡ true
    pub below : w.brew_place s c < w.brew_place s d
    pub none_between : (e : ℕ) → among cs e ≡ true → w.brew_place s c < w.brew_place s e → w.brew_place s d ≤ w.brew_place s e

  -- the list has a brew next after c, or none below c
  abbrev NextOrLast : List ℕ → ℕ → Type 0
  NextOrLast cs c = ((d : ℕ) × IsNext cs c d) ⊎ ((e : ℕ) → among cs e ≡ true → w.brew_place s e ≤ w.brew_place s c)

  first_is_next : (c d : ℕ) (ds : List ℕ) → w.brew_place s c < w.brew_place s d → ((e : ℕ) → among ds e ≡ true → w.brew_place s c < w.brew_place s e → w.brew_place s d ≤ w.brew_place s e) → NextOrLast (d ∷ ds) c
  first_is_next c d ds l rest =
      let between : ℕ → Type 0 = λ e. w.brew_place s c < w.brew_place s e → w.brew_place s d ≤ w.brew_place s e in
      inl (d, record { listed = among_first d ds; below = l; none_between = among_each between d ds (λ _. omega arith) rest })

  later_is_next : (c d : ℕ) (ds : List ℕ) → (next : (n : ℕ) × IsNext ds c n) → (w.brew_place s c < w.brew_place s d → w.brew_place s next.0 ≤ w.brew_place s d) → NextOrLast (d ∷ ds) c
  later_is_next c d ds (n, next) first =
      let between : ℕ → Type 0 = λ e. w.brew_place s c < w.brew_place s e → w.brew_place s n ≤ w.brew_place s e in
      inl (n, record { listed = among_later d n ds next.listed; below = next.below; none_between = among_each between d ds first next.none_between })

  pub next_or_last : (cs : List ℕ) (c : ℕ) → NextOrLast cs c
  next_or_last [] c = inr (λ e t. absurd (both_ways false refl t))
  next_or_last (d ∷ ds) c =
      let rest = next_or_last ds c in
      ⊎_elim
      (λ (above : w.brew_place s c < w.brew_place s d).
      ⊎_elim
      (λ (next : (n : ℕ) × IsNext ds c n).
      ⊎_elim (λ (nearer : w.brew_place s d < w.brew_place s next.0). first_is_next c d ds above (λ e t m. omega (arith, next.1.none_between e t m)))
      (λ (farther : w.brew_place s next.0 ≤ w.brew_place s d). later_is_next c d ds next (λ _. farther))
      (cases_lt (w.brew_place s d) (w.brew_place s next.0)))
      (λ (last : (e : ℕ) → among ds e ≡ true → w.brew_place s e ≤ w.brew_place s c). first_is_next c d ds above (λ e t m. absurd (omega (arith, last e t))))
      rest)
      (λ (not_above : w.brew_place s d ≤ w.brew_place s c).
      ⊎_elim (λ (next : (n : ℕ) × IsNext ds c n). later_is_next c d ds next (λ m. absurd (omega arith)))
      (λ (last : (e : ℕ) → among ds e ≡ true → w.brew_place s e ≤ w.brew_place s c). inr (among_each (λ e. w.brew_place s e ≤ w.brew_place s c) d ds not_above last))
      rest)
      (cases_lt (w.brew_place s c) (w.brew_place s d))
