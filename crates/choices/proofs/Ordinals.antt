-- Where a choice stands in the order of the choices, by its number.
use Rattle.std.proofs.Common.{◌≡◌, ℕ, zero, suc, ◌+◌, ◌-◌, ◌^◌, ◌<◌, ◌≤◌, Bool, true, false, cond, List, [], ◌∷◌, map, length, count_by, eqb, get_or, drop, Some, None, Option, sym, refl, ap, ◌∙◌, subst, ⊎_elim, arith}
use Rattle.std.specs.List.{range_with_len}
use Rattle.std.proofs.lemmas.List.{drop-drop, get_or-drop, get_or-map, length-append, length-drop, length-map}
use Rattle.std.proofs.lemmas.List.Sums.{sum_by-cons}
use Rattle.std.proofs.lemmas.Bool.{cases_Bool, cond-true, cond-false, eq-eqb}
use Rattle.std.proofs.lemmas.Bool.Decides.{nat_tests}
use Rattle.fair.specs.Choices.{choice_at, choices, picks}
use Rattle.fair.proofs.Listing.{choices_listed}
use Rattle.choices.specs.declared.choice.Choice.{Choice}
use Rattle.choices.specs.declared.figures.Figures.{Figures}
use Rattle.choices.specs.Bits.{brews_in}
use Rattle.choices.specs.Chosen.{brews_of}
use Rattle.choices.specs.Rounds.{figures_of}
use Rattle.choices.specs.Order.{choices_from, FirstOf, HighestBelow, NextOf, StandsAt, choices_below, is_choice, passing}
use Rattle.choices.proofs.Numbered.{length_ones, listed_map, picks_listed}

-- what is found below all numbers of a round is its first choice
abbrev pub FoundFirst : Figures → Option Choice → Type 0
FoundFirst f (Some c) = FirstOf f c
FoundFirst f None = ⊥

-- what stands where a part of a list begins
part_begins : (xs : List ℕ) (i b : ℕ) (rest : List ℕ) → drop i xs ≡ b ∷ rest → (i < length xs) × (get_or xs i 0 ≡ b) × (drop (i + 1) xs ≡ rest)
part_begins xs i b rest e =
    (omega (arith, length-drop i xs, ap length e), ap (λ k. get_or xs k 0) {x = i} {y = i + 0} (omega arith) ∙ sym (get_or-drop i xs 0 0) ∙ ap (λ ys. get_or ys 0 0) e, sym (drop-drop 1 i xs) ∙ ap (drop 1) e)

-- the numbers below m that pass a test: behind those from b on stand those below b

module _ (p : ℕ → Bool) where
  pub passing_yes : (b m : ℕ) → suc b ≡ m → p b ≡ true → passing p m ≡ b ∷ passing p b
  passing_yes b m is pass = ap (passing p) (sym is) ∙ cond-true _ _ _ pass

  pub passing_no : (b m : ℕ) → suc b ≡ m → p b ≡ false → passing p m ≡ passing p b
  passing_no b m is fail = ap (passing p) (sym is) ∙ cond-false _ _ _ fail

  abbrev Behind : ℕ → ℕ → ℕ → Type 0
  Behind b m k = (k + length (passing p b) ≡ length (passing p m)) × (drop k (passing p m) ≡ passing p b)

  behind_from : (n b m : ℕ) → b + n ≡ m → Behind b m (count_by p (range_with_len b n))
  behind_from zero b m e = let is : b ≡ m = omega arith in (omega (arith, ap (λ k. length (passing p k)) is), ap (passing p) (sym is))
  behind_from (suc n) b m e =
      let k = count_by p (range_with_len (b + 1) n) in
      let rest = behind_from n (b + 1) m (omega arith) in
      let step = sum_by-cons (λ x. cond (p x) 1 0) b (range_with_len (b + 1) n) in
      ⊎_elim
      (λ (pass : p b ≡ true).
      let e = passing_yes b (b + 1) (omega arith) pass in
      let one : k + 1 ≡ count_by p (range_with_len b (suc n)) = grind (arith, nat_tests) in
      subst (Behind b m) one (omega (arith, rest.0, ap length e), (part_begins (passing p m) k b (passing p b) (rest.1 ∙ e)).2))
      (λ (fail : p b ≡ false).
      let e = passing_no b (b + 1) (omega arith) fail in
      let none : k ≡ count_by p (range_with_len b (suc n)) = grind (arith, nat_tests) in
      subst (Behind b m) none (omega (arith, rest.0, ap length e), rest.1 ∙ e))
      (cases_Bool (p b))

-- a list has a part with as many entries or fewer
some_picks : (k n low : ℕ) → k ≤ n → 0 < length (picks k (range_with_len low n))
some_picks zero n low le = omega arith
some_picks (suc k) zero low le = absurd (omega arith)
some_picks (suc k) (suc n) low le =
    let firsts = picks k (range_with_len (low + 1) n) in
    let put = λ (ds : List ℕ). low ∷ ds in
    omega (arith, some_picks k n (low + 1) (omega arith), length-append (map put firsts) (picks (suc k) (range_with_len (low + 1) n)), length-map firsts put)

-- the choices of a round, by their numbers

module _ (f : Figures) where
  abbrev all : List ℕ
  all = choices_below f (2 ^ f.brews)

  numbered : choices (figures_of f) ≡ map (brews_in 0 f.brews) all
  numbered =
      picks_listed 0 f.brews f.opened
      ∙ listed_map (brews_in 0 f.brews) (is_choice f) f.opened (2 ^ f.brews) (λ b l. ap (λ n. eqb n f.opened) (sym (length_ones 0 f.brews b l)))

  as_many : length (choices (figures_of f)) ≡ length all
  as_many = ap length numbered ∙ length-map all (brews_in 0 f.brews)

  stands : (i b : ℕ) (rest : List ℕ) → drop i all ≡ b ∷ rest → StandsAt (figures_of f) i (brews_in 0 f.brews b)
  stands i b rest e =
      let h = part_begins all i b rest e in
      (omega (arith, h.0, as_many), ap (λ css. get_or css i []) numbered ∙ get_or-map (brews_in 0 f.brews) all i 0 [] h.0 ∙ ap (brews_in 0 f.brews) h.1)

  pub first : (found : Option Choice) → HighestBelow f (2 ^ f.brews) found → FoundFirst f found
  first (Some d) (same, below, e) =
      let h = stands 0 d.bits _ e in
      (same, (h.0, h.1 ∙ ap (λ g. brews_in 0 g.brews d.bits) (sym same)))
  first None none = omega (arith, some_picks f.opened f.brews 1 f.enough_brews, as_many, ap length none)

-- one choice and the next

module _ (c : Choice) where
  abbrev f : Figures
  f = c.figures

  abbrev At : ℕ → Type 0
  At i = StandsAt (figures_of f) i (brews_of c)

  here : (i : ℕ) × (i + suc (length (choices_below f c.bits)) ≡ length (all f)) × (drop i (all f) ≡ c.bits ∷ choices_below f c.bits)
  here =
      let h = behind_from (is_choice f) (2 ^ f.brews - suc c.bits) (suc c.bits) (2 ^ f.brews) (omega (arith, c.inside)) in
      let e = passing_yes (is_choice f) c.bits (suc c.bits) refl (eq-eqb _ _ (sym (length_ones 0 f.brews c.bits c.inside) ∙ c.size)) in
      (_, omega (arith, h.0, ap length e), h.1 ∙ e)

  stands_here : At here.0
  stands_here = stands f here.0 c.bits _ here.2

  only_here : (i : ℕ) → At i → i ≡ here.0
  only_here i at = (choices_listed (figures_of f)).once i here.0 at.0 stands_here.0 (at.1 ∙ sym stands_here.1)

  behind : drop (here.0 + 1) (all f) ≡ choices_below f c.bits
  behind = (part_begins (all f) here.0 c.bits _ here.2).2

  -- how many have the number of a choice or a higher one is its ordinal
  counting : choices_from f c.bits + length (choices_below f c.bits) ≡ length (all f)
  counting = (behind_from (is_choice f) (2 ^ f.brews - c.bits) c.bits (2 ^ f.brews) (omega (arith, c.inside))).0

  pub some_counted : 0 < choices_from f c.bits
  some_counted = omega (arith, counting, here.1)

  counted : (r : ℕ) → r ≡ choices_from f c.bits → At (r - 1)
  counted r e = let is : here.0 ≡ r - 1 = omega (arith, counting, here.1) in subst At is stands_here

  pub counted_inside : (r : ℕ) → r ≡ choices_from f c.bits → r - 1 < length (choices (figures_of f))
  counted_inside r e = (counted r e).0

  pub counted_stands : (r : ℕ) → r ≡ choices_from f c.bits → choice_at (figures_of f) (r - 1) ≡ brews_of c
  counted_stands r e = (counted r e).1

  pub next : (found : Option Choice) → HighestBelow f c.bits found → NextOf c found
  next (Some d) (same, below, e) =
      let h = stands f (here.0 + 1) d.bits _ (behind ∙ e) in (
        same,
        below,
        λ i at.
            let is : here.0 + 1 ≡ i + 1 = omega (arith, only_here i at) in
            subst (λ j. StandsAt (figures_of f) j (brews_of d)) is (h.0, h.1 ∙ ap (λ g. brews_in 0 g.brews d.bits) (sym same)),
      )
  next None none = λ i at.
      omega (arith, only_here i at, as_many f, stands_here.0, length-drop (here.0 + 1) (all f), ap length (behind ∙ none))
