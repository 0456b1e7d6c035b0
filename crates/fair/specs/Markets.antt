-- The figures of a round, and how its takers and brews rank each other.
-- Brews go by their numbers, from 1. Takers go by their indices, from 0: the taker with the number t is at t - 1.
use Rattle.std.specs.Prelude.{◌≡◌, ℕ, ◌*◌, ◌<◌, ◌≤◌, Bool, true, nat_lt}
use Rattle.orders.specs.Books.{within}

-- How many brews a round has, how many of them it opens, the lots of an open brew, and the takers.
pub record Figures : Type 0 where
  pub brews : ℕ
  pub opened : ℕ
  pub lots : ℕ
  pub takers : ℕ

-- There is a brew at least, since one is to be opened.
pub record InLimits (f : Figures) : Type 0 where
  pub few_brews : f.brews ≤ 16
  pub some_opened : 1 ≤ f.opened
  pub few_opened : f.opened ≤ 9
  pub enough_brews : f.opened ≤ f.brews
  pub some_lots : 1 ≤ f.lots
  pub few_lots : f.lots ≤ 48
  pub a_lot_each : f.takers ≡ f.lots * f.opened

-- the lots of a brew, where it is open
abbrev pub lots_of : Figures → ℕ → ℕ
lots_of f c = f.lots

-- Places count from the best on: the place of brew c with taker s, and that of taker s with brew c.
pub record Market : Type 0 where
  pub figures : Figures
  pub brew_place : (s c : ℕ) → ℕ
  pub taker_place : (c s : ℕ) → ℕ

-- taker s ranks brew c above brew d
abbrev pub prefers : Market → ℕ → ℕ → ℕ → Bool
prefers w s c d = nat_lt (w.brew_place s c) (w.brew_place s d)

-- brew c ranks taker s above taker t
abbrev pub favours : Market → ℕ → ℕ → ℕ → Bool
favours w c s t = nat_lt (w.taker_place c s) (w.taker_place c t)

-- c is the number of a brew of the round
abbrev pub IsBrew : Market → ℕ → Type 0
IsBrew w c = within c w.figures.brews ≡ true

-- The figures are within their limits, and nobody gives two of those it ranks the same place.
pub record SoundMarket (w : Market) : Type 0 where
  pub limits : InLimits w.figures
  pub brews_apart : (s c d : ℕ) → s < w.figures.takers → IsBrew w c → IsBrew w d → w.brew_place s c ≡ w.brew_place s d → c ≡ d
  pub takers_apart : (c s t : ℕ) → IsBrew w c → s < w.figures.takers → t < w.figures.takers → w.taker_place c s ≡ w.taker_place c t → s ≡ t
