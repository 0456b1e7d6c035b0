-- The figures of a round as the definitions of fair allotment have them.
use Rattle.std.specs.Prelude.{◌≡◌, ℕ, ◌*◌, Bool, true, false, ◌&&◌, Some, None, Option, nat_le}
use Rattle.orders.specs.Books.{within}
use Rattle.fair.specs.Markets.{Figures}
use Rattle.choices.specs.declared.figures.Figures.{Figures as RoundFigures}

abbrev pub figures_of : RoundFigures → Figures
figures_of f = record { brews = f.brews; opened = f.opened; lots = f.lots; takers = f.takers }

-- 1 to 16 brews, 1 to 9 of them opened, and 1 to 48 lots each
abbrev pub limits_kept : (brews opened lots : ℕ) → Bool
limits_kept brews opened lots = within brews 16 && (within opened 9 && (nat_le opened brews && within lots 48))

-- a taker for each lot
abbrev pub figures_by : (brews opened lots : ℕ) → Figures
figures_by brews opened lots = record { brews = brews; opened = opened; lots = lots; takers = lots * opened }

-- Figures are made exactly when the three numbers keep the limits.
abbrev pub Made : (brews opened lots : ℕ) → Option RoundFigures → Type 0
Made brews opened lots (Some f) = (limits_kept brews opened lots ≡ true) × (figures_of f ≡ figures_by brews opened lots)
Made brews opened lots None = limits_kept brews opened lots ≡ false
