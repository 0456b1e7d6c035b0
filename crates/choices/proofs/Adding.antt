-- A brew added to a set: its bit is set.
use Rattle.std.proofs.Common.{◌≡◌, ℕ, ◌+◌, ◌-◌, ◌*◌, ◌/◌, ◌%◌, ◌^◌, ◌<◌, ◌≤◌, true, false, ◌||◌, eqb, bit_or, length, sym, ap, ◌∙◌, ⊎_elim, pow_pos, arith}
use lib.Count.{ones, ones_cat, ones-ones}
use Rattle.std.specs.Int.{bit_at, w32}
use Rattle.std.proofs.Math.Pow.{pow-lt}
use Rattle.std.proofs.Math.Nat.{mod-lt}
use Rattle.std.proofs.lemmas.Nat.{one_shl, or_disjoint, or_lt, shr_split}
use Rattle.std.proofs.lemmas.Nat.Bits.{and_pow, bit_at-lt, bit_at_set_same, bit_at_set_other}
use Rattle.std.proofs.lemmas.Bool.{cases_Bool, cases_eq}
use Rattle.std.proofs.lemmas.Bool.Decides.{nat_tests}
use Rattle.orders.specs.Books.{within}
use Rattle.fair.specs.Choices.{among}
use Rattle.choices.specs.declared.brew_set.BrewSet.{BrewSet}
use Rattle.choices.specs.Bits.{brews_in}
use Rattle.choices.specs.BrewSets.{Added, members}
use Rattle.choices.proofs.Numbered.{length_ones}
use Rattle.choices.proofs.Sets.{among_bit, among_outside}

module _ (s : BrewSet) (brew : ℕ) (above : 0 < brew) (below : brew ≤ s.brews) where
  abbrev place : ℕ
  place = s.brews - brew

  abbrev after : ℕ
  after = bit_or s.bits (1 * 2 ^ place % 2 ^ 32)

  narrow : place < 32
  narrow = omega (arith, s.few_brews)

  pub insert_fits : after < 2 ^ s.brews
  insert_fits = or_lt s.brews s.bits (1 * 2 ^ place % 2 ^ 32) s.inside (rw (one_shl place 32 narrow) (pow-lt (omega arith)))

  -- the set has the brews that it had, and the one
  held : (c : ℕ) → among (brews_in 0 s.brews after) c ≡ (eqb brew c || among (members s) c)
  held c =
      ⊎_elim
      (λ (in' : within c s.brews ≡ true).
      let low : 0 < c = grind (arith, nat_tests) in
      let high : c ≤ s.brews = grind (arith, nat_tests) in
      let then = among_bit s.brews after c insert_fits low high in
      let first = among_bit s.brews s.bits c s.inside low high in
      ⊎_elim
      (λ (same : c ≡ brew).
      let bit : bit_at after (s.brews - c) ≡ 1 = ap (λ d. bit_at after (s.brews - d)) same ∙ bit_at_set_same w32 s.bits place narrow in
      grind (arith, nat_tests))
      (λ (other : c ≡ brew → ⊥).
      let bit : bit_at after (s.brews - c) ≡ bit_at s.bits (s.brews - c) = bit_at_set_other w32 s.bits place narrow (s.brews - c) (omega arith) in
      grind (arith, nat_tests))
      (cases_eq c brew))
      (λ (out : within c s.brews ≡ false).
      let then = among_outside s.brews after c out in
      let first = among_outside s.brews s.bits c out in
      grind (arith, nat_tests))
      (cases_Bool (within c s.brews))

  module _ (new : among (members s) brew ≡ false) where
    clear : bit_at s.bits place ≡ 0
    clear = let e = among_bit s.brews s.bits brew s.inside above below in grind (arith, nat_tests, bit_at-lt s.bits place)

    sum : after ≡ s.bits + 2 ^ place
    sum = rw (one_shl place 32 narrow) (or_disjoint s.bits (2 ^ place) (and_pow s.bits place ∙ ap (λ b. b * 2 ^ place) clear ∙ omega arith))

    -- one bit more is set
    one_more : ones after ≡ ones s.bits + 1
    one_more =
        let q = s.bits / 2 ^ place in
        let r = s.bits % 2 ^ place in
        let split = shr_split s.bits place in
        let small = mod-lt s.bits (pow_pos place) in
        let even : q / 2 * 2 ^ 1 + 0 ≡ q = omega (arith, clear) in
        let odd : q / 2 * 2 ^ 1 + 1 ≡ q + 1 = omega (arith, clear) in
        let whole : (q + 1) * 2 ^ place + r ≡ after = omega (arith, sum, split) in
        omega (
          arith,
          ap ones split,
          ap ones whole,
          ones_cat place q r small,
          ones_cat place (q + 1) r small,
          ap ones even,
          ap ones odd,
          ones_cat 1 (q / 2) 0 (omega arith),
          ones_cat 1 (q / 2) 1 (omega arith),
          ones-ones 0,
          ones-ones 1,
        )

    pub added : (t : BrewSet) → t.brews ≡ s.brews → t.bits ≡ after → Added s brew t
    added t round bits =
        let is : members t ≡ brews_in 0 s.brews after = cc (round, bits) in
        record {
          round = round;
          larger = ap length is ∙ length_ones 0 s.brews after insert_fits ∙ one_more ∙ ap (λ n. n + 1) (sym (length_ones 0 s.brews s.bits s.inside));
          held = λ c. ap (λ xs. among xs c) is ∙ held c;
        }
