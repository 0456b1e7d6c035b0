-- The next brew of a choice in a taker's order, found by going through its row of the table.
use Rattle.std.proofs.Common.{◌≡◌, ℕ, ◌+◌, ◌-◌, ◌*◌, ◌<◌, ◌≤◌, true, false, List, length, get_or, Some, None, Option, MatchOption, refl, sym, ap, ◌∙◌, subst, ⊎_elim, arith}
use Rattle.std.specs.List.{AllWithin, HoldsAt}
use Rattle.std.proofs.lemmas.Bool.{cases_lt, both_ways, and_parts, leb-true}
use Rattle.orders.specs.Books.{Meaning, Sound, within}
use Rattle.fair.specs.Markets.{Figures, Market}
use Rattle.fair.specs.Choices.{among, IsChoice}
use Rattle.fair.specs.FromBooks.{market_of, Complete}
use Rattle.fair.proofs.Choosing.{choice_within}
use Rattle.fair.proofs.Favourites.{IsFavourite, IsNext}
use Rattle.acceptance.specs.Rankings.{place_of, Ranks, NextAfter}
use Rattle.acceptance.proofs.Ranking.{place_low, place_high, place_apart}

-- behind the place of the brew where the taker stands, if there is a next one
pub next_is : (w : Market) (s : ℕ) (cs : List ℕ) (c : ℕ) (r : Option ℕ) → NextAfter w s cs (w.brew_place s c) r → ((n : ℕ) × IsNext w s cs c n) → (d : ℕ) × (r ≡ Some d) × IsNext w s cs c d
next_is w s cs c None none (n, next) = absurd (omega (arith, none n next.listed, next.below))
next_is w s cs c (Some d) (listed, below, none_between) some = (d, refl, record { listed = listed; below = below; none_between = none_between })

-- from the front, where there is a brew with a place
pub favourite_is : (w : Market) (s : ℕ) (cs : List ℕ) (c : ℕ) (r : Option ℕ) → NextAfter w s cs 0 r → among cs c ≡ true → ((e : ℕ) → among cs e ≡ true → 1 ≤ w.brew_place s e) → (d : ℕ) × (r ≡ Some d) × IsFavourite w s cs d
favourite_is w s cs c None none listed placed = absurd (omega (arith, none c listed, placed c listed))
favourite_is w s cs c (Some d) (here, below, none_between) listed placed = (d, refl, record { listed = here; highest = λ e t. none_between e t (placed e t) })

module _ {f : Figures} {t b : Meaning} (sound : Sound t) (complete : Complete f t b) {cs : List ℕ} (choice : IsChoice f cs) (s : ℕ) (l : s < f.takers) where
  chooser : s < t.choosers
  chooser = omega (arith, complete.a_taker_each)

  -- a brew of the choice by its index
  bounds : (e : ℕ) → among cs e ≡ true → (1 ≤ e) × (e ≤ t.items)
  bounds e h =
      let parts = and_parts _ _ (choice_within f cs choice e h) in
      (leb-true 1 e parts.0, omega (arith, leb-true e f.brews parts.1, complete.of_brews))

  by_index : (P : ℕ → Type 0) → ((y : ℕ) → y < t.items → P (y + 1)) → (e : ℕ) → 1 ≤ e → e ≤ t.items → P e
  by_index P each e low high = let back : e - 1 + 1 ≡ e = omega arith in subst P back (each (e - 1) (omega arith))

  pub placed : (e : ℕ) → among cs e ≡ true → 1 ≤ place_of t (s + 1) e
  placed e h = by_index (λ x. 1 ≤ place_of t (s + 1) x) (place_low sound complete.takers_ordered s chooser) e (bounds e h).0 (bounds e h).1

  pub place_within : (e : ℕ) → among cs e ≡ true → place_of t (s + 1) e ≤ t.items
  place_within e h = by_index (λ x. place_of t (s + 1) x ≤ t.items) (place_high sound complete.takers_ordered s chooser) e (bounds e h).0 (bounds e h).1

  same_place : (x e : ℕ) → within x t.items ≡ true → among cs e ≡ true → place_of t (s + 1) x ≡ place_of t (s + 1) e → x ≡ e
  same_place x e h m =
      by_index (λ y. place_of t (s + 1) y ≡ place_of t (s + 1) e → y ≡ e)
      (λ y n.
      by_index (λ z. place_of t (s + 1) (y + 1) ≡ place_of t (s + 1) z → y + 1 ≡ z)
      (λ z o e. omega (arith, place_apart sound complete.takers_ordered s chooser y z n o e)) e (bounds e m).0 (bounds e m).1)
      x (leb-true 1 x (and_parts _ _ h).0) (leb-true x t.items (and_parts _ _ h).1)

  module _ (table : List ℕ) (ranks : Ranks t table) (from : ℕ) where
    abbrev entry : ℕ → ℕ
    entry p = get_or table (s * t.items + p) 0

    -- no brew of the choice stands from the given place up to another
    abbrev Passed : ℕ → Type 0
    Passed to = (i : ℕ) → from ≤ i → i < to → among cs (entry i) ≡ false

    farther : (p : ℕ) → p ≤ t.items → Passed p → (e : ℕ) → among cs e ≡ true → from < place_of t (s + 1) e → p < place_of t (s + 1) e
    farther p high passed e h behind =
        ⊎_elim (λ (yes' : p < place_of t (s + 1) e). yes')
        (λ (no' : place_of t (s + 1) e ≤ p).
        let i : ℕ = place_of t (s + 1) e - 1 in
        let stands = ranks s i chooser (omega arith) in
        let is : entry i ≡ e = same_place (entry i) e stands.0 h (omega (arith, stands.1)) in
        absurd (both_ways _ (passed i (omega arith) (omega arith)) (subst (λ x. among cs x ≡ true) (sym is) h)))
        (cases_lt p (place_of t (s + 1) e))

    abbrev w : Market
    w = market_of f t b

    found : (p d : ℕ) → from ≤ p → p < t.items → Passed p → entry p ≡ d → among cs d ≡ true → NextAfter w s cs from (Some d)
    found p d behind high passed is listed =
        let stands = ranks s p chooser high in
        let at : place_of t (s + 1) d ≡ p + 1 = ap (place_of t (s + 1)) (sym is) ∙ stands.1 in
        (listed, omega arith, λ e h m. omega (arith, farther p (omega arith) passed e h m))

    exhausted : Passed t.items → NextAfter w s cs from None
    exhausted passed e h =
        ⊎_elim (λ (behind : from < place_of t (s + 1) e). absurd (omega (arith, farther t.items (omega arith) passed e h behind, place_within e h)))
        (λ (front : place_of t (s + 1) e ≤ from). front)
        (cases_lt from (place_of t (s + 1) e))

    -- going through the rest of the row
    module _ (rest : List ℕ) (each : length rest + from ≡ t.items) (same : (i : ℕ) → i < length rest → get_or rest i 0 ≡ entry (from + i)) where
      passed_to : (k : ℕ) → k ≤ length rest → AllWithin (λ d. among cs d ≡ false) rest 0 k → Passed (from + k)
      passed_to k within none i behind before =
          let at : get_or rest (i - from) 0 ≡ entry i = same (i - from) (omega arith) ∙ ap entry (omega arith) in
          subst (λ d. among cs d ≡ false) at (none (i - from) 0 (omega arith) (omega arith))

      pub next_found : (r : Option ℕ) → MatchOption r (AllWithin (λ d. among cs d ≡ false) rest 0 (length rest))
          (λ d. (among cs d ≡ true) × (i : ℕ) × (i < length rest) × HoldsAt (λ x. x ≡ d) rest i × AllWithin (λ x. among cs x ≡ false) rest 0 i) → NextAfter w s cs from r
      next_found None none = exhausted (λ i behind before. passed_to (length rest) (omega arith) none i behind (omega arith))
      next_found (Some d) (listed, i, l, here, none) = found (from + i) d (omega arith) (omega arith) (passed_to i (omega arith) none) (sym (same i l) ∙ here 0) listed
