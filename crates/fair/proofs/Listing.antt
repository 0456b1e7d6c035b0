-- The list of the choices has each choice once, and nothing else, in order.
use Rattle.std.proofs.Common.{◌≡◌, ℕ, zero, suc, ◌+◌, ◌<◌, ◌⊎◌, List, [], ◌∷◌, ◌++◌, map, length, get_or, sym, refl, ap, ◌∙◌, subst, inl, inr, ⊎_elim, arith}
use Rattle.std.specs.List.{range_with_len, ContainsAt as Has, AllByRecursion as All}
use Rattle.std.proofs.ByRecursion.{All-get_or, All-from_get_or, All-append, All-map, All-weaker, has_append_left, has_append_right}
use Rattle.std.proofs.lemmas.List.{length-map, get_or-map}
use Rattle.std.proofs.lemmas.Bool.{cases_eq, cases_order}
use Rattle.fair.specs.Markets.{Figures}
use Rattle.fair.specs.Choices.{Ascending, Before, picks, choices, choice_at, ListsTheChoices}
use Rattle.fair.proofs.Choosing.{ascending_lower}

-- k numbers above low and up to high, ascending
abbrev Picked : ℕ → ℕ → ℕ → List ℕ → Type 0
Picked low high k cs = (length cs ≡ k) × Ascending low high cs

-- nothing else

picks_only : (k n low high : ℕ) → low + n ≡ high → All (Picked low high k) (picks k (range_with_len (low + 1) n))
picks_only zero n low high e = ((refl, tt), tt)
picks_only (suc k) zero low high e = tt
picks_only (suc k) (suc n) low high e =
    let P = Picked low high (suc k) in
    let first : (ds : List ℕ) → Picked (low + 1) high k ds → P ((low + 1) ∷ ds) = λ ds h. (ap suc h.0, (omega arith, omega arith, h.1)) in
    let later : (ds : List ℕ) → Picked (low + 1) high (suc k) ds → P ds = λ ds h. (h.0, ascending_lower low (low + 1) high ds (omega arith) h.1) in
    All-append P _ _
    (All-map P (λ ds. (low + 1) ∷ ds) _ (All-weaker _ _ first _ (picks_only k n (low + 1) high (omega arith))))
    (All-weaker _ P later _ (picks_only (suc k) n (low + 1) high (omega arith)))

-- each choice

has_map : {X Y : Type 0} (f : X → Y) (xs : List X) (x : X) → Has xs x → Has (map f xs) (f x)
has_map f xs x (k, l, is) = (k, omega (arith, length-map xs f), λ d. get_or-map f xs k x d l ∙ ap f (is x))

picks_each : (k n low high : ℕ) → low + n ≡ high → (cs : List ℕ) → Picked low high k cs → Has (picks k (range_with_len (low + 1) n)) cs
picks_each zero n low high e [] (size, up) = (0, omega arith, λ d. refl)
picks_each zero n low high e (c ∷ cs) (size, up) = absurd (omega arith)
picks_each (suc k) n low high e [] (size, up) = absurd (omega arith)
picks_each (suc k) zero low high e (c ∷ cs) (size, up) = absurd (omega arith)
picks_each (suc k) (suc n) low high e (c ∷ cs) (size, up) =
    ⊎_elim
    (λ (first : c ≡ low + 1).
    let rest = picks_each k n (low + 1) high (omega arith) cs (omega arith, subst (λ d. Ascending d high cs) first up.2) in
    subst (λ d. Has (picks (suc k) (range_with_len (low + 1) (suc n))) (d ∷ cs)) (sym first) (has_append_left _ _ _ (has_map (λ ds. (low + 1) ∷ ds) _ cs rest)))
    (λ (later : c ≡ low + 1 → ⊥).
    has_append_right _ _ _ (picks_each (suc k) n (low + 1) high (omega arith) (c ∷ cs) (size, (omega arith, up.1, up.2))))
    (cases_eq c (low + 1))

-- in order

abbrev InOrder : List (List ℕ) → Type 0
InOrder [] = Unit {0}
InOrder (cs ∷ css) = All (Before cs) css × InOrder css

in_order_append : (xs ys : List (List ℕ)) → InOrder xs → InOrder ys → All (λ cs. All (Before cs) ys) xs → InOrder (xs ++ ys)
in_order_append [] ys up up' h = up'
in_order_append (x ∷ xs) ys up up' h = (All-append (Before x) xs ys up.0 h.0, in_order_append xs ys up.1 up' h.1)

in_order_map : (c : ℕ) (css : List (List ℕ)) → InOrder css → InOrder (map (λ ds. c ∷ ds) css)
in_order_map c [] up = tt
in_order_map c (cs ∷ css) up =
    (All-map (Before (c ∷ cs)) (λ ds. c ∷ ds) css (All-weaker (Before cs) _ (λ ds b. inr (refl, b)) css up.0), in_order_map c css up.1)

first_before : (c high k : ℕ) (ds es : List ℕ) → Picked c high (suc k) es → Before (c ∷ ds) es
first_before c high k ds [] h = absurd (omega (arith, h.0))
first_before c high k ds (e ∷ es) h = inl h.1.0

picks_in_order : (k n low high : ℕ) → low + n ≡ high → InOrder (picks k (range_with_len (low + 1) n))
picks_in_order zero n low high e = (tt, tt)
picks_in_order (suc k) zero low high e = tt
picks_in_order (suc k) (suc n) low high e =
    let without = picks (suc k) (range_with_len (low + 1 + 1) n) in
    let before : (ds : List ℕ) → All (Before ((low + 1) ∷ ds)) without =
    λ ds. All-weaker (Picked (low + 1) high (suc k)) _ (first_before (low + 1) high k ds) without (picks_only (suc k) n (low + 1) high (omega arith)) in
    in_order_append _ without (in_order_map (low + 1) _ (picks_in_order k n (low + 1) high (omega arith))) (picks_in_order (suc k) n (low + 1) high (omega arith))
    (All-map (λ cs. All (Before cs) without) (λ ds. (low + 1) ∷ ds) _ (All-from_get_or _ _ [] (λ i l. before _)))

in_order_get_or : (css : List (List ℕ)) → InOrder css → (i j : ℕ) → i < j → j < length css → Before (get_or css i []) (get_or css j [])
in_order_get_or [] up i j l m = absurd (omega arith)
in_order_get_or (cs ∷ css) up i zero l m = absurd (omega arith)
in_order_get_or (cs ∷ css) up zero (suc j) l m = All-get_or (Before cs) css j [] (omega arith) up.0
in_order_get_or (cs ∷ css) up (suc i) (suc j) l m = in_order_get_or css up.1 i j (omega arith) (omega arith)

-- once

not_before_itself : (cs : List ℕ) → Before cs cs → ⊥
not_before_itself [] b = b
not_before_itself (c ∷ cs) b = ⊎_elim (λ (l : c < c). omega arith) (λ (h : (c ≡ c) × Before cs cs). not_before_itself cs h.1) b

pub choices_listed : (f : Figures) → ListsTheChoices f (choices f)
choices_listed f = record {
  choices_only = λ i l.
      let h = All-get_or (Picked 0 f.brews f.opened) (choices f) i [] l (picks_only f.opened f.brews 0 f.brews (omega arith)) in
      record { size = h.0; ascending = h.1 };
  each = λ cs choice.
      let h = picks_each f.opened f.brews 0 f.brews (omega arith) cs (choice.size, choice.ascending) in
      (h.0, h.1, h.2 []);
  once = λ i j l m e.
      ⊎_elim (λ (same : i ≡ j). same)
      (λ (apart : (i < j) ⊎ (j < i)). absurd (⊎_elim
      (λ (less : i < j). not_before_itself (choice_at f j) (subst (λ cs. Before cs (choice_at f j)) e (in_order i j less m)))
      (λ (more : j < i). not_before_itself (choice_at f j) (subst (Before (choice_at f j)) e (in_order j i more l))) apart))
      (cases_order i j);
  in_order = in_order;
}
  where
    in_order : (i j : ℕ) → i < j → j < length (choices f) → Before (choice_at f i) (choice_at f j)
    in_order = in_order_get_or (choices f) (picks_in_order f.opened f.brews 0 f.brews (omega arith))
