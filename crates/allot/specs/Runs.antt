-- What the steps of a run do to it.
use Rattle.std.specs.Prelude.{◌≡◌, ℕ, ◌+◌, ◌<◌, ◌≤◌, max, Bool, true, false, List, [], ◌∷◌, ◌++◌, Some, None, Option, map, replicate, slice_index, slice_set}
use Rattle.std.specs.List.{range_with_len}
use Rattle.std.specs.Option.{unwrap_or}
use Rattle.line.specs.Waiting.{held}
use Rattle.orders.specs.declared.book.OrderBook.{Ghosts}
use Rattle.fair.specs.Markets.{Market}
use Rattle.fair.specs.Allotments.{brew_of}
use Rattle.fair.specs.Acceptance.{refused}
use Rattle.acceptance.specs.Running.{holds, Running, work}
use Rattle.allot.specs.declared.open_market.OpenMarket.{OpenMarket}
use Rattle.allot.specs.declared.run.Held.{Held}
use Rattle.allot.specs.declared.run.Run.{Run}
use Rattle.allot.specs.OpenMarkets.{brews_opened, market_in}

-- those who wait, the first in line first
abbrev pub in_line : Run → List ℕ
in_line run = held run.line run.slots

-- nobody is held
abbrev pub none_held : Held
none_held = record { count = 0; last = None }

-- how many takers each brew holds, and the place of the last of them, or 0 where there is none
abbrev pub counts : Run → List ℕ
counts run = map (λ h. h.count) run.held

abbrev pub lasts : Run → List ℕ
lasts run = map (λ h. unwrap_or h.last 0) run.held

-- A brew holds one taker more, and notes the farther of two places.
pub record HoldsMore (brew taker place : ℕ) (before after : Run) : Type 0 where
  pub free : after.waiting ≡ slice_set before.waiting taker false
  pub counted : counts after ≡ slice_set (counts before) brew (slice_index (counts before) brew + 1)
  pub noted : lasts after ≡ slice_set (lasts before) brew (max (slice_index (lasts before) brew) place)
  pub line : in_line after ≡ in_line before

-- One more is in line.
pub record Waiting (taker : ℕ) (before after : Run) : Type 0 where
  pub behind : in_line after ≡ in_line before ++ taker ∷ []
  pub marks : after.waiting ≡ before.waiting
  pub held : after.held ≡ before.held

-- Everybody is marked as waiting, nobody is held, and the first n takers are in line.
pub record Fresh (n : ℕ) (run : Run) : Type 0 where
  pub all_wait : run.waiting ≡ replicate 432 true
  pub nobody : run.held ≡ replicate 17 none_held
  pub all_in_line : in_line run ≡ range_with_len 0 n

-- Of the takers that brew c holds, those within so many places of its order are within r.
abbrev pub NoneBehind : Market → (a : List ℕ) (waiting : List Bool) (c places r : ℕ) → Type 0
NoneBehind w a waiting c places r = (t : ℕ) → t < w.figures.takers → holds a waiting c t ≡ true → w.taker_place c t ≤ places → w.taker_place c t ≤ r

-- Of the takers that brew c holds, the last within so many places of its order is at place r, counted from 0, or none is.
abbrev pub LastHeld : Market → (a : List ℕ) (waiting : List Bool) (c places : ℕ) → Option ℕ → Type 0
LastHeld w a waiting c places (Some r) = (r < places) × NoneBehind w a waiting c places (r + 1) × ((t : ℕ) × (t < w.figures.takers) × (holds a waiting c t ≡ true) × (w.taker_place c t ≡ r + 1))
LastHeld w a waiting c places None = NoneBehind w a waiting c places 0

module _ {T B : Type 0} {ts : Ghosts T} {bs : Ghosts B} (o : OpenMarket T B ts bs) where
  -- What a run keeps, where the takers stand at the brews of a, and these wait.
  pub record State (a : List ℕ) (run : Run) (line : List ℕ) : Type 0 where
    pub running : Running (market_in o) (brews_opened o) a run.waiting (counts run) (lasts run) line

  -- The brew where the taker stands is full, and the taker is in front of the last that it holds.
  pub record FullBehind (a : List ℕ) (run : Run) (taker : ℕ) : Type 0 where
    pub full : o.choice.now.figures.lots ≤ slice_index (counts run) (brew_of a taker)
    pub behind : (market_in o).taker_place (brew_of a taker) taker < slice_index (lasts run) (brew_of a taker)

  -- The taker is refused where it stands, and comes before all who wait.
  pub record RefusedNext (a : List ℕ) (run : Run) (taker : ℕ) : Type 0 where
    pub state : State a run (taker ∷ in_line run)
    pub refusal : refused (market_in o) a taker ≡ true

  -- The taker has been considered: what a run keeps is kept, and less is left to do.
  pub record Considered (a : List ℕ) (run : Run) (taker : ℕ) (b : List ℕ) (after : Run) : Type 0 where
    pub state : State b after (in_line after)
    pub less : work (market_in o) (brews_opened o) b (in_line after) < work (market_in o) (brews_opened o) a (taker ∷ in_line run)
