-- Laws of the brews that a number stands for.
use Rattle.std.proofs.Common.{◌≡◌, ℕ, zero, suc, ◌+◌, ◌-◌, ◌*◌, ◌/◌, ◌^◌, ◌<◌, ◌≤◌, true, false, eqb, leb, bit_and, [], ◌∷◌, sym, refl, ap, ◌∙◌, ⊎_elim, pow-suc, arith, pow_pos}
use Rattle.std.specs.Int.{bit_at}
use Rattle.std.proofs.lemmas.Nat.Bits.{bit_at_above, bit_at_cat_high, bit_at_cat_low, shr_and_one}
use Rattle.std.proofs.lemmas.Bool.{cases_Bool, cases_eq, cond_both, cond-true, cond-false, leb-true, leb-false, le-leb, lt-leb}
use Rattle.std.proofs.lemmas.Bool.Decides.{nat_tests}
use Rattle.orders.specs.Books.{within}
use Rattle.fair.specs.Choices.{among, Ascending}
use Rattle.fair.proofs.Choosing.{ascending_lower, ascending_within, below_not_among}
use Rattle.choices.specs.Bits.{brews_in}

-- a number below 2 ^ n, with the bit for the first brew and without it

pub with_first : (low n r : ℕ) → r < 2 ^ n → brews_in low (suc n) (r + 2 ^ n) ≡ (low + 1) ∷ brews_in (low + 1) n r
with_first low n r l =
    let back : r + 2 ^ n - 2 ^ n ≡ r = omega arith in
    cond-true _ _ _ (le-leb (2 ^ n) (r + 2 ^ n) (omega arith)) ∙ ap (λ b. (low + 1) ∷ brews_in (low + 1) n b) back

pub without_first : (low n r : ℕ) → r < 2 ^ n → brews_in low (suc n) r ≡ brews_in (low + 1) n r
without_first low n r l = cond-false _ _ _ (lt-leb (2 ^ n) r l)

pub none_in_zero : (low n : ℕ) → brews_in low n 0 ≡ []
none_in_zero low zero = refl
none_in_zero low (suc n) = without_first low n 0 (pow_pos n) ∙ none_in_zero (low + 1) n

pub brews_ascending : (low n high bits : ℕ) → low + n ≡ high → Ascending low high (brews_in low n bits)
brews_ascending low zero high bits e = tt
brews_ascending low (suc n) high bits e =
    let rest : (b : ℕ) → Ascending (low + 1) high (brews_in (low + 1) n b) = λ b. brews_ascending (low + 1) n high b (omega arith) in
    cond_both (leb (2 ^ n) bits) _ _ (Ascending low high) (λ _. (omega arith, omega arith, rest _)) (λ _. ascending_lower low (low + 1) high _ (omega arith) (rest _))

pub among_outside : (n bits c : ℕ) → within c n ≡ false → among (brews_in 0 n bits) c ≡ false
among_outside n bits c out =
    ⊎_elim
    (λ (m : among (brews_in 0 n bits) c ≡ true).
    let h = ascending_within 0 n _ (brews_ascending 0 n n bits (omega arith)) c m in
    let z : ◌≡◌ {A = ℕ} 0 1 = grind (arith, nat_tests) in
    absurd (omega arith))
    (λ (e : among (brews_in 0 n bits) c ≡ false). e)
    (cases_Bool (among (brews_in 0 n bits) c))

-- A brew's bit says whether the set has it.

among_digits : (low n high bits c : ℕ) → low + n ≡ high → bits < 2 ^ n → low < c → c ≤ high → among (brews_in low n bits) c ≡ eqb (bit_at bits (high - c)) 1
among_digits low zero high bits c e inside above below = absurd (omega arith)
among_digits low (suc n) high bits c e inside above below =
    let two = pow-suc 2 n in
    let rest : (r : ℕ) → r < 2 ^ n → (c ≡ low + 1 → ⊥) → among (brews_in (low + 1) n r) c ≡ eqb (bit_at r (high - c)) 1 =
    λ r l ne. among_digits (low + 1) n high r c (omega arith) l (omega arith) below in
    cond_both (leb (2 ^ n) bits) _ _ (λ xs. among xs c ≡ eqb (bit_at bits (high - c)) 1)
    (λ set.
    let le = leb-true (2 ^ n) bits set in
    let r = bits - 2 ^ n in
    let l : r < 2 ^ n = omega arith in
    let whole : bit_at bits (high - c) ≡ bit_at (1 * 2 ^ n + r) (high - c) = ap (λ b. bit_at b (high - c)) (omega arith) in
    ⊎_elim
    (λ (first : c ≡ low + 1).
    let one : bit_at bits (high - c) ≡ 1 = whole ∙ bit_at_cat_high 1 n r (high - c) l (omega arith) ∙ ap (bit_at 1) {y = 0} (omega arith) in
    grind (arith, nat_tests))
    (λ (ne : c ≡ low + 1 → ⊥).
    let same = whole ∙ bit_at_cat_low 1 n r (high - c) (omega arith) in
    let later = rest r l ne in
    grind (arith, nat_tests))
    (cases_eq c (low + 1)))
    (λ clear.
    let l = leb-false (2 ^ n) bits clear in
    ⊎_elim
    (λ (first : c ≡ low + 1).
    let zero' = bit_at_above bits n (high - c) l (omega arith) in
    let none = below_not_among (low + 1) high _ (brews_ascending (low + 1) n high bits (omega arith)) c (omega arith) in
    grind (arith, nat_tests))
    (λ (ne : c ≡ low + 1 → ⊥). rest bits l ne)
    (cases_eq c (low + 1)))

pub among_bit : (n bits c : ℕ) → bits < 2 ^ n → 0 < c → c ≤ n → among (brews_in 0 n bits) c ≡ eqb (bit_at bits (n - c)) 1
among_bit n bits c inside above below = among_digits 0 n n bits c (omega arith) inside above below

-- the same of the bit as it is read
pub among_read : (n bits c : ℕ) → bits < 2 ^ n → 0 < c → c ≤ n → among (brews_in 0 n bits) c ≡ eqb (bit_and (bits / 2 ^ (n - c)) 1) 1
among_read n bits c inside above below = among_bit n bits c inside above below ∙ ap (λ b. eqb b 1) (sym (shr_and_one bits (n - c)))
