-- What a run of deferred acceptance keeps. Every taker stands at a brew; those who wait in line have yet to be
-- considered there, and the others are held.
use Rattle.std.specs.Prelude.{◌≡◌, ℕ, ◌+◌, ◌<◌, ◌≤◌, Bool, true, false, not, ◌&&◌, List, [], ◌∷◌, length, ◌==◌, slice_index, slice_index_or}
use Rattle.tally.specs.Tally.{tally}
use Rattle.fair.specs.Markets.{Market, lots_of, IsBrew}
use Rattle.fair.specs.Choices.{among}
use Rattle.fair.specs.Allotments.{brew_of}
use Rattle.fair.proofs.Reached.{Reached}
use Rattle.fair.proofs.Rounds.{brews_left}

-- taker t is marked as waiting
abbrev pub waits_at : List Bool → ℕ → Bool
waits_at waiting t = slice_index_or waiting t false

-- brew c holds taker t, who stands there and does not wait
abbrev pub holds : List ℕ → List Bool → ℕ → ℕ → Bool
holds a waiting c t = brew_of a t == c && not (waits_at waiting t)

-- Brew c holds as many takers as counted, no more than it has lots, and the last of them is at the place noted; 0 is
-- noted where it holds none.
pub record Holds (w : Market) (a : List ℕ) (waiting : List Bool) (c count last : ℕ) : Type 0 where
  pub counted : tally (holds a waiting c) w.figures.takers ≡ count
  pub few : count ≤ lots_of w.figures c
  pub none_yet : count ≡ 0 → last ≡ 0
  pub none_behind : (t : ℕ) → t < w.figures.takers → holds a waiting c t ≡ true → w.taker_place c t ≤ last
  pub met : 1 ≤ count → (t : ℕ) × (t < w.figures.takers) × (holds a waiting c t ≡ true) × (w.taker_place c t ≡ last)

-- no number stands twice
abbrev pub Distinct : List ℕ → Type 0
Distinct [] = Unit {0}
Distinct (x ∷ xs) = (among xs x ≡ false) × Distinct xs

-- Those in line are the takers marked as waiting, each once; there are n takers.
pub record Waits (n : ℕ) (waiting : List Bool) (line : List ℕ) : Type 0 where
  pub each : n ≤ length waiting
  pub as_many : length line ≡ tally (waits_at waiting) n
  pub takers : (t : ℕ) → among line t ≡ true → t < n
  pub marked : (t : ℕ) → among line t ≡ true → waits_at waiting t ≡ true
  pub once : Distinct line

-- The state: the brews where the takers stand, the marks, for each brew its count and its last place, and the line.
pub record Running (w : Market) (cs a : List ℕ) (waiting : List Bool) (counts lasts line : List ℕ) : Type 0 where
  pub reached : Reached w cs a
  pub waits : Waits w.figures.takers waiting line
  pub room : (w.figures.brews < length counts) × (w.figures.brews < length lasts)
  pub held : (c : ℕ) → IsBrew w c → Holds w a waiting c (slice_index counts c) (slice_index lasts c)

-- falls with every taker that is considered
abbrev pub work : Market → List ℕ → List ℕ → List ℕ → ℕ
work w cs a line = brews_left w cs a + length line
