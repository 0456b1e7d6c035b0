-- The just envies of a list, one record each, and what a line holds to which they are offered.
use Rattle.std.specs.Prelude.{◌≡◌, ℕ, zero, suc, ◌+◌, cond, List, [], ◌∷◌, ◌++◌, length, take, drop}
use Rattle.line.specs.Waiting.{held, start}
use Rattle.line.specs.declared.ring.Line.{Line}
use Rattle.fair.specs.Allotments.{envies, justly_envies}
use Rattle.fair.specs.Markets.{Market}
use Rattle.assess.specs.declared.envy.Envy.{Envy}

-- the n lists f 0 to f (n - 1), one behind the other
abbrev pub gathered : (ℕ → List Envy) → ℕ → List Envy
gathered f zero = []
gathered f (suc n) = gathered f n ++ f n

-- the envy of taker s of a rival, the taker t, over brew c: takers are told by number, from 1
abbrev pub envy : ℕ → ℕ → ℕ → Envy
envy s c t = record { taker = s + 1; brew = c; rival = t + 1 }

-- taker s's envy over brew c of a rival, the taker t, where it is just
abbrev pub envy_over : Market → List ℕ → ℕ → ℕ → ℕ → List Envy
envy_over w a s c t = cond (justly_envies w a s t c) (envy s c t ∷ []) []

-- The just envies of taker s over brew c of the first n rivals, all of taker s, and all: by taker, then brew, then rival.
abbrev pub envies_over : Market → List ℕ → ℕ → ℕ → ℕ → List Envy
envies_over w a s c n = gathered (envy_over w a s c) n

abbrev pub envies_of : Market → List ℕ → ℕ → List Envy
envies_of w a s = gathered (λ k. envies_over w a s (k + 1) w.figures.takers) w.figures.brews

abbrev pub envy_list : Market → List ℕ → List Envy
envy_list w a = gathered (envies_of w a) w.figures.takers

-- Records were offered to an emptied line: it holds the first of them, as many as there are slots. They stand from the
-- first slot on, and the slots behind them are as they were.
pub record Offered (before records : List Envy) (line : Line) (slots : List Envy) : Type 0 where
  pub holds : held line slots ≡ take (length before) records
  pub stand : slots ≡ take (length before) records ++ drop (length (take (length before) records)) before
  pub first : start line slots ≡ 0

-- Further records are offered behind those offered before.
abbrev pub OffersMore : List Envy → Line → List Envy → Line → List Envy → Type 0
OffersMore more s xs t ys = (before records : List Envy) → Offered before records s xs → Offered before (records ++ more) t ys

-- So many records are offered, told by their number.
pub record OffersAll (more : List Envy) (count : ℕ) (s : Line) (xs : List Envy) (t : Line) (ys : List Envy) : Type 0 where
  pub counted : count ≡ length more
  pub offered : OffersMore more s xs t ys

-- All just envies are counted and offered to an emptied line.
pub record EnviesTold (w : Market) (a : List ℕ) (before : List Envy) (count : ℕ) (line : Line) (slots : List Envy) : Type 0 where
  pub counted : count ≡ envies w a
  pub listed : count ≡ length (envy_list w a)
  pub offered : Offered before (envy_list w a) line slots
