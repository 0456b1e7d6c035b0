-- The printed brews of a choice: one brew more, and all of them.
use Rattle.std.proofs.Common.{◌≡◌, ℕ, ◌+◌, ◌-◌, ◌≤◌, Bool, true, false, cond, [], ◌∷◌, ◌++◌, codes, decimal, filter, sym, ap, ◌∙◌, append-nil, arith}
use Rattle.std.specs.List.{range_with_len}
use Rattle.std.proofs.lemmas.List.FromFn.{filter_of_map_range_with_len_more}
use Rattle.std.proofs.lemmas.List.{flat_map_more, map-id}
use Rattle.fair.specs.Choices.{among}
use Rattle.fair.proofs.Choosing.{among_all, among_kept, ascending_all, ascending_kept}
use Rattle.choices.specs.Bits.{brews_in}
use Rattle.choices.proofs.Lists.{ascending_same}
use Rattle.choices.proofs.Sets.{brews_ascending, among_outside}
use Rattle.orders.specs.Books.{within}
use Rattle.std.proofs.lemmas.Bool.Decides.{nat_tests}
use Rattle.std.proofs.lemmas.Grind.{common_steps}
use Rattle.worked.specs.Printed.{spaced}

-- the numbers from 1 to n that pass, and one more
module _ (p : ℕ → Bool) where
  kept_more : (n : ℕ) → filter p (range_with_len 1 (n + 1)) ≡ filter p (range_with_len 1 n) ++ cond (p (n + 1)) ((n + 1) ∷ []) []
  kept_more n =
      ap (filter p) (sym (map-id (range_with_len 1 (n + 1)))) ∙ filter_of_map_range_with_len_more p (λ (x : ℕ). x) 1 n (n + 1) (omega arith)
      ∙ ap (λ xs. filter p xs ++ cond (p (n + 1)) ((n + 1) ∷ []) []) (map-id (range_with_len 1 n))

  -- a number that passes is printed behind those below it
  pub spaced_one : (n : ℕ) → 1 ≤ n → p n ≡ true → spaced (filter p (range_with_len 1 (n - 1))) ++ (codes " " ++ decimal n) ≡ spaced (filter p (range_with_len 1 n))
  spaced_one n counted passes =
      let back : n - 1 + 1 ≡ n = omega arith in
      flat_map_more (λ (x : ℕ). codes " " ++ decimal x) [] (filter p (range_with_len 1 (n - 1))) n
      ∙ ap spaced (ap (λ b. filter p (range_with_len 1 (n - 1)) ++ cond b (n ∷ []) []) (sym passes) ∙ sym (rw back at (kept_more (n - 1))))

  -- one that fails is not
  pub spaced_none : (n : ℕ) → 1 ≤ n → p n ≡ false → spaced (filter p (range_with_len 1 (n - 1))) ≡ spaced (filter p (range_with_len 1 n))
  spaced_none n counted fails =
      let back : n - 1 + 1 ≡ n = omega arith in
      ap spaced (sym (append-nil _) ∙ ap (λ b. filter p (range_with_len 1 (n - 1)) ++ cond b (n ∷ []) []) (sym fails) ∙ sym (rw back at (kept_more (n - 1))))

-- the brews of a set, of those from 1 to n, are all its brews
pub kept_all : (n bits : ℕ) → filter (among (brews_in 0 n bits)) (range_with_len 1 n) ≡ brews_in 0 n bits
kept_all n bits =
    let p = among (brews_in 0 n bits) in
    ascending_same 0 n _ _ (ascending_kept p 0 n _ (ascending_all n)) (brews_ascending 0 n n bits (omega arith))
    (λ b.
    let kept = among_kept p (range_with_len 1 n) b in
    let all = among_all n b in
    let out : within b n ≡ false → p b ≡ false = among_outside n bits b in
    grind (arith, nat_tests))

-- the steps of writing the brews of a choice
pub ruleset writing = (common_steps, spaced_one, spaced_none, kept_all)
