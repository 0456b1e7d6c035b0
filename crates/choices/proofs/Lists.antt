-- The brews that a list names, gathered entry by entry.
use Rattle.std.proofs.Common.{◌≡◌, ℕ, ◌+◌, ◌<◌, ◌≤◌, true, false, ◌||◌, List, [], ◌∷◌, ◌++◌, length, get_or, take, Ok, sym, refl, ap, ◌∙◌, subst, ⊎_elim, arith, below_more}
use Rattle.std.specs.List.{range_with_len}
use Rattle.std.proofs.lemmas.List.{take_all, take_more}
use Rattle.std.proofs.lemmas.Bool.{both_ways, cases_eq}
use Rattle.std.proofs.lemmas.Bool.Decides.{nat_tests}
use Rattle.orders.specs.Books.{within}
use Rattle.fair.specs.Choices.{among, Ascending}
use Rattle.fair.proofs.Choosing.{among_all, among_cases, among_first, among_kept, ascending_all, ascending_kept, ascending_within, below_not_among}
use Rattle.choices.specs.declared.brew_set.BrewSet.{BrewSet}
use Rattle.choices.specs.BrewSets.{Added, is_new, members}
use Rattle.choices.specs.Lists.{Gathered, GatheredTo}
use Rattle.choices.proofs.Sets.{brews_ascending, among_outside}

-- Ascending lists with the same entries are the same.

first_le : (x y high : ℕ) (ys : List ℕ) → Ascending y high ys → among (y ∷ ys) x ≡ true → y ≤ x
first_le x y high ys up m =
    ⊎_elim (λ (e : y ≡ x). omega arith) (λ (later : among ys x ≡ true). omega (arith, ascending_within y high ys up x later)) (among_cases y x ys m)

pub ascending_same : (low high : ℕ) (xs ys : List ℕ) → Ascending low high xs → Ascending low high ys → ((c : ℕ) → among xs c ≡ among ys c) → xs ≡ ys
ascending_same low high [] [] up up' same = refl
ascending_same low high [] (y ∷ ys) up up' same = absurd (both_ways _ (sym (same y)) (among_first y ys))
ascending_same low high (x ∷ xs) [] up up' same = absurd (both_ways _ (same x) (among_first x xs))
ascending_same low high (x ∷ xs) (y ∷ ys) up up' same =
    let down = first_le x y high ys up'.2 (sym (same x) ∙ among_first x xs) in
    let above = first_le y x high xs up.2 (same y ∙ among_first y ys) in
    let is : y ≡ x = omega arith in
    let up'' : Ascending x high ys = subst (λ d. Ascending d high ys) is up'.2 in
    let rest : (c : ℕ) → among xs c ≡ among ys c =
    λ c. ⊎_elim
    (λ (e : c ≡ x). below_not_among x high xs up.2 c (omega arith) ∙ sym (below_not_among x high ys up'' c (omega arith)))
    (λ (ne : c ≡ x → ⊥). let e = same c in grind (arith, nat_tests))
    (cases_eq c x) in
    ap (λ d. d ∷ xs) (sym is) ∙ ap (λ ds. y ∷ ds) (ascending_same x high xs ys up.2 up'' rest)

among-append : (xs ys : List ℕ) (c : ℕ) → among (xs ++ ys) c ≡ (among xs c || among ys c)
among-append [] ys c = refl
among-append (x ∷ xs) ys c = let e = among-append xs ys c in grind (arith, nat_tests)

module _ (brews : ℕ) (list : List ℕ) where
  pub gathered_none : (set : BrewSet) → set.brews ≡ brews → members set ≡ [] → GatheredTo brews list 0 set
  gathered_none set round none = record { good = λ j l. absurd (omega arith); round = round; size = ap length none; held = λ c. ap (λ xs. among xs c) none }

  pub gathered_more : (k : ℕ) (set after : BrewSet) → k < length list → GatheredTo brews list k set → is_new set (get_or list k 0) ≡ true → Added set (get_or list k 0) after → GatheredTo brews list (k + 1) after
  gathered_more k set after l so_far new more =
      let brew = get_or list k 0 in
      let same = so_far.held brew in
      let is = ap (within brew) so_far.round in
      record {
        good = below_more _ k so_far.good (grind (arith, nat_tests));
        round = more.round ∙ so_far.round;
        size = more.larger ∙ ap (λ n. n + 1) so_far.size;
        held = λ c.
            let e = so_far.held c in
            let f = more.held c in
            let g = ap (λ xs. among xs c) (take_more list k 0 l) ∙ among-append (take k list) (brew ∷ []) c in
            grind (arith, nat_tests);
      }

  pub gathered_all : (k : ℕ) (set : BrewSet) → k ≡ length list → GatheredTo brews list k set → Gathered brews list (Ok set)
  gathered_all k set end so_far =
      let whole = subst (λ n. GatheredTo brews list n set) end so_far in
      let up = subst (λ n. Ascending 0 n (members set)) whole.round (brews_ascending 0 set.brews set.brews set.bits (omega arith)) in (
        whole,
        ascending_same 0 brews _ _ up (ascending_kept (among list) 0 brews _ (ascending_all brews))
            (λ c.
            let e = whole.held c ∙ ap (λ xs. among xs c) (take_all (length list) list (omega arith)) in
            let f = among_kept (among list) (range_with_len 1 brews) c in
            let g = among_all brews c in
            let out : within c brews ≡ false → among (members set) c ≡ false = λ h. among_outside set.brews set.bits c (ap (within c) whole.round ∙ h) in
            grind (arith, nat_tests)),
      )
