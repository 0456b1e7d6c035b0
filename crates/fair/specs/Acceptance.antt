-- Deferred acceptance over the brews of a choice, in rounds, as Gale and Shapley have it.
-- Its state has for each taker the brews of the choice that have not refused it.
use Rattle.std.specs.Prelude.{◌≡◌, ℕ, zero, suc, ◌*◌, ◌<◌, Bool, true, false, cond, not, ◌&&◌, ◌⊎◌, List, [], ◌∷◌, map, replicate, filter, ◌==◌, nat_le, nat_lt, slice_index_or}
use Rattle.std.specs.List.{range_with_len}
use Rattle.tally.specs.Tally.{tally}
use Rattle.fair.specs.Markets.{Market, lots_of, prefers, favours}
use Rattle.fair.specs.Allotments.{brew_of}

-- of brew c and brew d, or 0 for none, the one that taker s ranks higher
abbrev pub higher : Market → ℕ → ℕ → ℕ → ℕ
higher w s c zero = c
higher w s c (suc d) = cond {A = ℕ} (prefers w s (suc d) c) (suc d) c

-- the brew of the list that taker s ranks highest, or 0 where the list is empty
abbrev pub favourite : Market → ℕ → List ℕ → ℕ
favourite w s [] = 0
favourite w s (c ∷ cs) = higher w s c (favourite w s cs)

-- Everybody applies to its favourite of the brews that have not refused it.
abbrev pub applications : Market → List (List ℕ) → List ℕ
applications w left = map (λ s. favourite w s (slice_index_or left s [])) (range_with_len 0 w.figures.takers)

-- how many applicants of brew c it ranks above taker s, where a lists the brews that the takers apply to
abbrev pub ahead : Market → List ℕ → ℕ → ℕ → ℕ
ahead w a c s = tally (λ t. (brew_of a t == c) && favours w c t s) w.figures.takers

-- A brew keeps its best applicants, one for each lot, and refuses the others: those with so many ahead of them.
abbrev pub refused : Market → List ℕ → ℕ → Bool
refused w a s = nat_le (lots_of w.figures (brew_of a s)) (ahead w a (brew_of a s) s)

abbrev pub NobodyRefused : Market → List ℕ → Type 0
NobodyRefused w a = (s : ℕ) → s < w.figures.takers → refused w a s ≡ false

-- the brews of a list but for c
abbrev pub without : ℕ → List ℕ → List ℕ
without c cs = filter (λ d. not (d == c)) cs

-- what each taker has left after a round in which the takers apply to the brews of a
abbrev pub after_refusals : Market → List (List ℕ) → List ℕ → List (List ℕ)
after_refusals w left a = map (λ s. cond (refused w a s) (without (brew_of a s) (slice_index_or left s [])) (slice_index_or left s [])) (range_with_len 0 w.figures.takers)

-- rounds up to the first without a refusal, but no more than the given number
abbrev pub rounds : Market → ℕ → List (List ℕ) → List (List ℕ)
rounds w zero left = left
rounds w (suc k) left = cond (nat_lt 0 (tally (refused w (applications w left)) w.figures.takers)) (rounds w k (after_refusals w left (applications w left))) left

-- Each round with a refusal takes a brew from a taker, so that this many rounds are enough.
abbrev pub deferred_acceptance : Market → List ℕ → List ℕ
deferred_acceptance w cs = applications w (rounds w (w.figures.takers * w.figures.brews) (replicate w.figures.takers cs))

-- A step that refuses one, some or all of those that may be refused, or nobody.
abbrev pub SomeRefused : Market → List (List ℕ) → List (List ℕ) → Type 0
SomeRefused w left next = (s : ℕ) → s < w.figures.takers → (slice_index_or next s [] ≡ slice_index_or left s []) ⊎ ((refused w (applications w left) s ≡ true) × (slice_index_or next s [] ≡ without (brew_of (applications w left) s) (slice_index_or left s [])))

-- What is reached by such steps, in whatever order.
pub data Run (w : Market) (cs : List ℕ) : List (List ℕ) → Type 0 where
  begun : Run w cs (replicate w.figures.takers cs)
  further : {left next : List (List ℕ)} → Run w cs left → SomeRefused w left next → Run w cs next
