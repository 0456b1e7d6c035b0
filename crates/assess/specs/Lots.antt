-- Counting the takers of each brew, and the brews that have some takers but not one for each lot.
use Rattle.std.specs.Prelude.{◌≡◌, ℕ, ◌-◌, ◌<◌, ◌≤◌, Bool, true, false, not, ◌||◌, List, length, Some, None, Option, ◌==◌, nat_eq, slice_index}
use Rattle.fair.specs.Allotments.{brew_of, takers_with, FullOrClosed}
use Rattle.fair.specs.Markets.{Market, IsBrew}
use Rattle.fair.specs.Proposals.{Lowest}
use Rattle.orders.specs.Books.{within}
use Rattle.tally.specs.Tally.{tally}

-- Sixteen counts, brew by brew: how many of the first n entries of a list are each of so many brews. No brew beyond is counted.
pub record CountsTo (brews : ℕ) (a : List ℕ) (n : ℕ) (counts : List ℕ) : Type 0 where
  pub each : length counts ≡ 16
  pub count : (c : ℕ) → within c brews ≡ true → slice_index counts (c - 1) ≡ tally (λ s. nat_eq (brew_of a s) c) n
  pub beyond : (i : ℕ) → brews ≤ i → slice_index counts i ≡ 0

-- The counts of a market's brews.
pub record TakersCounted (w : Market) (a counts : List ℕ) : Type 0 where
  pub each : length counts ≡ 16
  pub count : (c : ℕ) → IsBrew w c → slice_index counts (c - 1) ≡ takers_with w a c
  pub beyond : (i : ℕ) → w.figures.brews ≤ i → slice_index counts i ≡ 0

-- neither no taker nor one for each lot
abbrev pub partly : ℕ → ℕ → Bool
partly lots takers = not (takers == 0 || takers == lots)

-- The lowest of the first n brews that has part of its takers, or none.
abbrev pub FirstPartly : List ℕ → ℕ → ℕ → Option ℕ → Type 0
FirstPartly counts lots n (Some c) = Lowest n (λ k. partly lots (slice_index counts (k - 1)) ≡ true) c
FirstPartly counts lots n None = (j : ℕ) → j < n → partly lots (slice_index counts j) ≡ false

-- The lowest brew that is neither closed nor full, or none.
abbrev pub LowestUnfilled : Market → List ℕ → Option ℕ → Type 0
LowestUnfilled w a (Some c) = Lowest w.figures.brews (λ k. FullOrClosed w a k → ⊥) c
LowestUnfilled w a None = (c : ℕ) → IsBrew w c → FullOrClosed w a c
