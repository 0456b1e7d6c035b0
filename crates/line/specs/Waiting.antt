-- What a waiting line holds, and what each call does to it.
use Rattle.std.specs.Prelude.{◌≡◌, ℕ, ◌+◌, ◌-◌, ◌<◌, cond, List, [], ◌∷◌, ◌++◌, length, take, drop, Some, None, Ok, Err, Option, Result, ◌==◌, nat_lt, slice_set}
use Rattle.line.specs.declared.fault.LineFault.{LineFault}
use Rattle.line.specs.declared.fault.LineFault.TheVariants.{Full}
use Rattle.line.specs.declared.ring.Line.{Line}

-- The elements in order, the oldest first. Over a slice of another length
-- than the one that they were put into there are none.
abbrev pub held : {X : Type 0} → Line → List X → List X
held line slots =
    cond (length slots == line.capacity) (take line.count (drop line.head (slots ++ slots))) []

-- Nothing is held, over any slice: so states `Line::empty_holds_nothing`.
abbrev pub Empty : Line → Type 0
Empty line = line.count ≡ 0

-- The place that is k behind the head, going round at the slice's end.
abbrev pub place_at : Line → ℕ → ℕ
place_at line k =
    cond (nat_lt k (line.capacity - line.head)) (line.head + k) (k - (line.capacity - line.head))

-- The place that the next element goes to.
abbrev pub vacant : {X : Type 0} → Line → List X → ℕ
vacant line slots = cond (length slots == line.capacity) (place_at line line.count) 0

-- The place that the elements start from, going round.
abbrev pub start : {X : Type 0} → Line → List X → ℕ
start line slots = cond (length slots == line.capacity) line.head 0

-- The line begins at the first of n places, and nothing is in it.
pub record Begun (n : ℕ) (line : Line) : Type 0 where
  pub wide : line.capacity ≡ n
  pub first : line.head ≡ 0
  pub none : Empty line

-- t is the line s as it stands over xs: it has the slice's length for capacity, and holds the same.
pub record Over {X : Type 0} (s : Line) (xs : List X) (t : Line) : Type 0 where
  pub wide : t.capacity ≡ length xs
  pub many : length (held s xs) ≡ t.count
  pub same : held s xs ≡ held t xs
  pub free : vacant s xs ≡ vacant t xs

-- There was room, and x stands behind all others, in the place that was vacant.
pub record PutDone {X : Type 0} (s : Line) (xs : List X) (x : X) (t : Line) (ys : List X) : Type 0 where
  pub room : length (held s xs) < length xs
  pub behind : held t ys ≡ held s xs ++ x ∷ []
  pub slots : ys ≡ slice_set xs (vacant s xs) x

-- Every place is taken, and nothing changes.
pub record PutRefused {X : Type 0} (s : Line) (xs : List X) (t : Line) (ys : List X) (e : LineFault) : Type 0 where
  pub full : length (held s xs) ≡ length xs
  pub fault : e ≡ Full (length xs)
  pub line : t ≡ s
  pub slots : ys ≡ xs

-- The oldest element left, those behind it are held as before, and over slices of other lengths still none.
pub record TakeDone {X : Type 0} (s : Line) (xs : List X) (x : X) (t : Line) : Type 0 where
  pub oldest : held s xs ≡ x ∷ held t xs
  pub wide : t.capacity ≡ length xs

-- There was none to take, and nothing changes.
pub record TakeNone {X : Type 0} (s : Line) (xs : List X) (t : Line) : Type 0 where
  pub none : held s xs ≡ []
  pub line : t ≡ s

-- A put of x turns the line s over xs into t over ys.
abbrev pub Put : {X : Type 0} → Line → List X → X → Line → List X → Result (Unit {0}) LineFault → Type 0
Put s xs x t ys (Ok u) = PutDone s xs x t ys
Put s xs x t ys (Err e) = PutRefused s xs t ys e

-- A take turns the line s over xs into t.
abbrev pub Take : {X : Type 0} → Line → List X → Line → Option X → Type 0
Take s xs t (Some x) = TakeDone s xs x t
Take s xs t None = TakeNone s xs t
