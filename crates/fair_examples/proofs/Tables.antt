-- A test that computes whether a market is sound, and the markets that are written out.
use Rattle.std.proofs.Common.{◌≡◌, ℕ, ◌+◌, ◌-◌, ◌<◌, Bool, true, ◌&&◌, eqb, sym, refl, ap, ◌∙◌, subst, arith}
use Rattle.std.proofs.lemmas.Bool.{eqb-true, and_parts}
use Rattle.std.proofs.lemmas.Bool.Decides.{nat_tests}
use Rattle.orders.specs.Books.{within}
use Rattle.orders.proofs.Written.{row_inside}
use Rattle.tally.specs.Tally.{tally, position}
use Rattle.tally.proofs.Tallies.{tally_full}
use Rattle.fair.specs.Markets.{Market, InLimits, SoundMarket}
use Rattle.fair_examples.specs.Worked.{six_takers, three_takers, three_brews}

-- the test passes at all of 0 .. n - 1
abbrev always : (ℕ → Bool) → ℕ → Bool
always p n = eqb (tally p n) n

always_at : (p : ℕ → Bool) (n : ℕ) → always p n ≡ true → (k : ℕ) → k < n → p k ≡ true
always_at p n t = tally_full p n (eqb-true _ n t)

-- f 0 .. f (n - 1) are different: each stands last where it stands
abbrev different : (ℕ → ℕ) → ℕ → Bool
different f n = always (λ k. eqb (position f (f k) n) (k + 1)) n

different_apart : (f : ℕ → ℕ) (n : ℕ) → different f n ≡ true → (i j : ℕ) → i < n → j < n → f i ≡ f j → i ≡ j
different_apart f n t i j h l same =
    let at : (k : ℕ) → k < n → position f (f k) n ≡ k + 1 = λ k m. eqb-true _ _ (always_at _ n t k m) in
    omega (arith, at i h, at j l, ap (λ x. position f x n) same)

-- every taker gives the brews different places, and every brew the takers
abbrev places_differ : Market → Bool
places_differ w =
    always (λ s. different (λ k. w.brew_place s (k + 1)) w.figures.brews) w.figures.takers
    && always (λ k. different (w.taker_place (k + 1)) w.figures.takers) w.figures.brews

pub sound_by_test : (w : Market) → InLimits w.figures → places_differ w ≡ true → SoundMarket w
sound_by_test w limits t =
    let brews = w.figures.brews in
    let takers = w.figures.takers in
    let parts : (always _ takers ≡ true) × (always _ brews ≡ true) = and_parts _ _ t in
    let back : (c : ℕ) → within c brews ≡ true → c - 1 + 1 ≡ c = λ c h. grind (arith, nat_tests) in
    record {
      limits = limits;
      brews_apart = λ s c d l hc hd same.
          let apart = different_apart _ brews (always_at _ takers parts.0 s l) (c - 1) (d - 1) (row_inside c brews hc) (row_inside d brews hd) in
          omega (arith, apart (ap (w.brew_place s) (back c hc) ∙ same ∙ ap (w.brew_place s) (sym (back d hd))), back c hc, back d hd);
      takers_apart = λ c s t h ls lt same.
          different_apart (w.taker_place c) takers (subst (λ k. different (w.taker_place k) takers ≡ true) (back c h) (always_at _ brews parts.1 (c - 1) (row_inside c brews h))) s t ls lt same;
    }

pub six_takers_sound : SoundMarket six_takers
six_takers_sound = sound_by_test _ (omega arith) refl

pub three_takers_sound : SoundMarket three_takers
three_takers_sound = sound_by_test _ (omega arith) refl

pub three_brews_sound : SoundMarket three_brews
three_brews_sound = sound_by_test _ (omega arith) refl
