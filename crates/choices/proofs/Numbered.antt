-- The choices in their order are those of the numbers, the highest first.
use Rattle.std.proofs.Common.{◌≡◌, ℕ, zero, suc, ◌+◌, ◌-◌, ◌*◌, ◌^◌, ◌<◌, ◌≤◌, Bool, true, false, cond, eqb, List, [], ◌∷◌, ◌++◌, map, length, sym, refl, ap, ◌∙◌, ⊎_elim, suc-add, pow-suc, arith}
use lib.Count.{ones, ones_cat, ones-ones}
use Rattle.std.specs.List.{range_with_len}
use Rattle.std.proofs.lemmas.Bool.{cases_Bool, cases_lt, cond-true, cond-false, ne_eqb}
use Rattle.std.proofs.lemmas.Bool.Decides.{nat_tests}
use Rattle.fair.specs.Choices.{picks}
use Rattle.choices.specs.Bits.{brews_in}
use Rattle.choices.specs.Order.{passing}
use Rattle.choices.proofs.Sets.{with_first, without_first}

double : (n : ℕ) → 2 ^ suc n ≡ 2 ^ n + 2 ^ n
double n = omega (arith, pow-suc 2 n)

-- a set has as many brews as its number has ones

one_more : (n r : ℕ) → r < 2 ^ n → ones (r + 2 ^ n) ≡ suc (ones r)
one_more n r l =
    let turned : r + 2 ^ n ≡ 1 * 2 ^ n + r = omega arith in
    ap ones turned ∙ ones_cat n 1 r l ∙ omega (arith, ones-ones 1)

pub length_ones : (low n bits : ℕ) → bits < 2 ^ n → length (brews_in low n bits) ≡ ones bits
length_ones low zero bits l = let none : bits ≡ 2 ^ 0 - 1 = omega arith in sym (ap ones none ∙ ones-ones 0)
length_ones low (suc n) bits l =
    ⊎_elim
    (λ (clear : bits < 2 ^ n). ap length (without_first low n bits clear) ∙ length_ones (low + 1) n bits clear)
    (λ (set : 2 ^ n ≤ bits).
    let r = bits - 2 ^ n in
    let less : r < 2 ^ n = omega (arith, double n) in
    let is : bits ≡ r + 2 ^ n = omega arith in
    ap (λ b. length (brews_in low (suc n) b)) is ∙ ap length (with_first low n r less) ∙ ap suc (length_ones (low + 1) n r less)
    ∙ sym (one_more n r less) ∙ ap ones (sym is))
    (cases_lt bits (2 ^ n))

-- F b for the numbers b below m at which it has k entries, the highest first
abbrev listed : (ℕ → List ℕ) → ℕ → ℕ → List (List ℕ)
listed F k zero = []
listed F k (suc m) = cond (eqb (length (F m)) k) (F m ∷ listed F k m) (listed F k m)

pub listed_map : (F : ℕ → List ℕ) (p : ℕ → Bool) (k m : ℕ) → ((b : ℕ) → b < m → p b ≡ eqb (length (F b)) k) → listed F k m ≡ map F (passing p m)
listed_map F p k zero same = refl
listed_map F p k (suc m) same =
    let here = same m (omega arith) in
    let rest = listed_map F p k m (λ b l. same b (omega arith)) in
    ⊎_elim
    (λ (yes : p m ≡ true). cond-true _ _ _ (sym here ∙ yes) ∙ ap (λ xs. F m ∷ xs) rest ∙ ap (map F) (sym (cond-true _ _ _ yes)))
    (λ (no : p m ≡ false). cond-false _ _ _ (sym here ∙ no) ∙ rest ∙ ap (map F) (sym (cond-false _ _ _ no)))
    (cases_Bool (p m))

listed_same : (F G : ℕ → List ℕ) (k m : ℕ) → ((b : ℕ) → b < m → F b ≡ G b) → listed F k m ≡ listed G k m
listed_same F G k zero same = refl
listed_same F G k (suc m) same =
    ap (λ xs. cond (eqb (length xs) k) (xs ∷ listed F k m) (listed F k m)) (same m (omega arith))
    ∙ ap (λ xss. cond (eqb (length (G m)) k) (G m ∷ xss) xss) (listed_same F G k m (λ b l. same b (omega arith)))

-- where F has one entry more from a on

module _ (F G : ℕ → List ℕ) (a c : ℕ) where
  listed_none : (m : ℕ) → ((b : ℕ) → b < m → F (b + a) ≡ c ∷ G b) → listed F 0 (m + a) ≡ listed F 0 a
  listed_none zero more = ap (listed F 0) (omega arith)
  listed_none (suc m) more =
      ap (listed F 0) (suc-add m a)
      ∙ cond-false _ _ _ (ne_eqb (length (F (m + a))) 0 (λ e. omega (arith, ap length (more m (omega arith)))))
      ∙ listed_none m (λ b l. more b (omega arith))

  listed_more : (k m : ℕ) → ((b : ℕ) → b < m → F (b + a) ≡ c ∷ G b) → listed F (suc k) (m + a) ≡ map (λ ds. c ∷ ds) (listed G k m) ++ listed F (suc k) a
  listed_more k zero more = ap (listed F (suc k)) (omega arith)
  listed_more k (suc m) more =
      let rest = listed_more k m (λ b l. more b (omega arith)) in
      let here = more m (omega arith) in
      let long = ap length here in
      let step = ap (listed F (suc k)) (suc-add m a) in
      ⊎_elim
      (λ (yes : eqb (length (G m)) k ≡ true).
      let yes' : eqb (length (F (m + a))) (suc k) ≡ true = grind (arith, nat_tests) in
      step ∙ cond-true _ _ _ yes' ∙ ap (λ xs. xs ∷ listed F (suc k) (m + a)) here ∙ ap (λ xss. (c ∷ G m) ∷ xss) rest
      ∙ ap (λ xss. map (λ ds. c ∷ ds) xss ++ listed F (suc k) a) (sym (cond-true _ _ _ yes)))
      (λ (no : eqb (length (G m)) k ≡ false).
      let no' : eqb (length (F (m + a))) (suc k) ≡ false = grind (arith, nat_tests) in
      step ∙ cond-false _ _ _ no' ∙ rest
      ∙ ap (λ xss. map (λ ds. c ∷ ds) xss ++ listed F (suc k) a) (sym (cond-false _ _ _ no)))
      (cases_Bool (eqb (length (G m)) k))

pub picks_listed : (low n k : ℕ) → picks k (range_with_len (low + 1) n) ≡ listed (brews_in low n) k (2 ^ n)
picks_listed low zero zero = refl
picks_listed low zero (suc k) = sym (cond-false _ _ _ (ne_eqb 0 (suc k) (λ e. omega arith)))
picks_listed low (suc n) zero =
    let F = brews_in low (suc n) in
    let G = brews_in (low + 1) n in
    picks_listed (low + 1) n zero
    ∙ sym (listed_same F G 0 (2 ^ n) (without_first low n))
    ∙ sym (listed_none F G (2 ^ n) (low + 1) (2 ^ n) (with_first low n))
    ∙ ap (listed F 0) (sym (double n))
picks_listed low (suc n) (suc k) =
    let F = brews_in low (suc n) in
    let G = brews_in (low + 1) n in
    ap (λ xss. map (λ ds. (low + 1) ∷ ds) xss ++ picks (suc k) (range_with_len (low + 1 + 1) n)) (picks_listed (low + 1) n k)
    ∙ ap (λ xss. map (λ ds. (low + 1) ∷ ds) (listed G k (2 ^ n)) ++ xss) (picks_listed (low + 1) n (suc k) ∙ sym (listed_same F G (suc k) (2 ^ n) (without_first low n)))
    ∙ sym (listed_more F G (2 ^ n) (low + 1) k (2 ^ n) (with_first low n))
    ∙ ap (listed F (suc k)) (sym (double n))
