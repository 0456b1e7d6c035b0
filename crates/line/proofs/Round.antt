-- Ring arithmetic: what a line holds, read place by place.
use Rattle.std.proofs.Common.{◌≡◌, ℕ, zero, suc, ◌+◌, ◌-◌, ◌<◌, ◌≤◌, ◌≢◌, List, [], ◌∷◌, ◌++◌, length, get_or, take, drop, set, sym, ap, ◌∙◌, ⊎_elim, arith}
use Rattle.std.proofs.lemmas.List.{length-take, length-drop, length-append, length-set, length_push, same_lists, get_or_append_left, get_or-append_right, get_or-take, get_or-drop, get_or_push, get_or_read, get_or-set_same, get_or-set_other}
use Rattle.std.proofs.lemmas.Bool.{cases_lt, eq-eqb, cond-true}
use Rattle.std.proofs.lemmas.Bool.Decides.{nat_tests}
use Rattle.line.specs.declared.ring.Line.{Line}
use Rattle.line.specs.Waiting.{place_at, held, start, vacant, Over, PutDone, TakeDone}

place_within : (l : Line) (k : ℕ) → k < l.capacity → place_at l k < l.capacity
place_within l k h = grind (arith, nat_tests)

place_same : (s t : Line) (k : ℕ) → s.capacity ≡ t.capacity → s.head ≡ t.head → place_at s k ≡ place_at t k
place_same s t k n h = rw (n, h)

-- What is k + 1 behind the head is k behind the next head.
place_next : (l t : Line) (k : ℕ) → t.capacity ≡ l.capacity → t.head ≡ place_at l 1 → suc k < l.capacity →
    place_at l (suc k) ≡ place_at t k
place_next l t k wide first h = grind (arith, nat_tests)

-- Two places behind one head differ where their distances do.
apart : (l : Line) (k m : ℕ) → k < m → m < l.capacity → place_at l k ≢ place_at l m
apart l k m h w = grind (arith, nat_tests)

-- Over a slice of its capacity, a line holds what stands at its places.
module _ {X : Type 0} (l : Line) (xs : List X) (long : length xs ≡ l.capacity) where
  held_whole : held l xs ≡ take l.count (drop l.head (xs ++ xs))
  held_whole = cond-true _ _ _ (eq-eqb (length xs) l.capacity long)

  vacant_whole : vacant l xs ≡ place_at l l.count
  vacant_whole = cond-true _ _ _ (eq-eqb (length xs) l.capacity long)

  length_held : length (held l xs) ≡ l.count
  length_held =
      ap length held_whole ∙ simp (length-take, length-drop, length-append) (omega (arith, l.starts, l.fits))

  doubled : (k : ℕ) (d : X) → k < l.capacity → get_or (xs ++ xs) (l.head + k) d ≡ get_or xs (place_at l k) d
  doubled k d h = grind (arith, nat_tests, l.starts, get_or_append_left xs xs d (l.head + k), get_or-append_right xs xs l.capacity (l.head + k) d long)

  held_at : (k : ℕ) (d : X) → k < l.count → get_or (held l xs) k d ≡ get_or xs (place_at l k) d
  held_at k d h = ap (λ ys. get_or ys k d) held_whole ∙ rw (get_or-take, get_or-drop) (doubled k d (omega arith))

-- What starts at the first place has the vacant one right behind it.
pub vacant_from_first : {X : Type 0} (l : Line) (xs : List X) → start l xs ≡ 0 → length (held l xs) < length xs → vacant l xs ≡ length (held l xs)
vacant_from_first {X = X} l xs first room = grind (arith, nat_tests, l.starts, l.fits, length-take {A = X}, length-drop {A = X}, length-append {A = X})

-- The slice once x is written behind all others.
abbrev written : {X : Type 0} → Line → List X → X → List X
written l xs x = set xs (place_at l l.count) x

-- What then stands at the line's places.
module _ {X : Type 0} (l : Line) (xs : List X) (x : X) (long : length xs ≡ l.capacity) (room : l.count < l.capacity) where
  all_are : (k : ℕ) (d : X) → k < l.count + 1 →
      get_or (written l xs x) (place_at l k) d ≡ get_or (held l xs ++ x ∷ []) k d
  all_are k d h =
      let many : length (held l xs) ≡ l.count = length_held l xs long in
      ⊎_elim
      (λ (front : k < l.count).
      get_or-set_other xs (place_at l l.count) (place_at l k) x d (apart l k l.count front room)
      ∙ sym (held_at l xs long k d front)
      ∙ sym (get_or_append_left (held l xs) (x ∷ []) d k (omega arith)))
      (λ (last : l.count ≤ k).
      let e : k ≡ l.count = omega arith in
      let within : place_at l l.count < length xs = rw long (place_within l l.count room) in
      rw e (get_or-set_same xs (place_at l l.count) x d within ∙ sym (get_or_push (held l xs) x d l.count many)))
      (cases_lt k l.count)

-- The line s stands over xs as l does, t goes one further than l, and p is the vacant place.
module _ {X : Type 0} (s l t : Line) (xs : List X) (x : X) (p : ℕ) (over : Over s xs l) (room : l.count < l.capacity)
    (at : p ≡ place_at l l.count) (wide : t.capacity ≡ l.capacity) (first : t.head ≡ l.head)
    (more : t.count ≡ l.count + 1) where
  long_before : length xs ≡ l.capacity
  long_before = sym over.wide

  long_after : length (written l xs x) ≡ t.capacity
  long_after = length-set xs (place_at l l.count) x ∙ long_before ∙ sym wide

  longer_at : (k : ℕ) (d : X) → k < l.count + 1 →
      get_or (held t (written l xs x)) k d ≡ get_or (held l xs ++ x ∷ []) k d
  longer_at k d h =
      held_at t (written l xs x) long_after k d (omega arith)
      ∙ ap (λ i. get_or (written l xs x) i d) (place_same t l k wide first)
      ∙ all_are l xs x long_before room k d h

  longer : held t (written l xs x) ≡ held l xs ++ x ∷ []
  longer =
      let n : length (held t (written l xs x)) ≡ t.count = length_held t (written l xs x) long_after in
      let m : length (held l xs ++ x ∷ []) ≡ length (held l xs) + 1 = length_push (held l xs) x in
      let e : length (held l xs) ≡ l.count = length_held l xs long_before in
      same_lists (held t (written l xs x)) (held l xs ++ x ∷ []) (omega arith) (λ k d h. longer_at k d (omega arith))

  pub joins : PutDone s xs x t (set xs p x)
  joins =
      record {
        room = omega arith;
        behind = ap (λ i. held t (set xs i x)) at ∙ longer ∙ ap (λ ys. ys ++ x ∷ []) (sym over.same);
        slots = ap (λ i. set xs i x) (at ∙ sym (vacant_whole l xs long_before) ∙ sym over.free);
      }

-- The line s stands over xs as l does, and t begins one behind the head of l.
module _ {X : Type 0} (s l t : Line) (xs : List X) (x : X) (p : ℕ) (over : Over s xs l) (some : 0 < l.count)
    (at : p ≡ place_at l 0) (is : x ≡ get_or xs p x) (wide : t.capacity ≡ l.capacity) (first : t.head ≡ place_at l 1)
    (less : t.count ≡ l.count - 1) where
  long_still : length xs ≡ l.capacity
  long_still = sym over.wide

  rest_is : (k : ℕ) (d : X) → k < l.count → get_or (held l xs) k d ≡ get_or (x ∷ held t xs) k d
  rest_is zero d h =
      let within : p < length xs = rw (at, long_still) (place_within l 0 (omega arith)) in
      held_at l xs long_still 0 d some ∙ ap (λ i. get_or xs i d) (sym at) ∙ sym (get_or_read xs p x within is d)
  rest_is (suc k) d h =
      held_at l xs long_still (suc k) d h
      ∙ ap (λ i. get_or xs i d) (place_next l t k wide first (omega arith))
      ∙ sym (held_at t xs (long_still ∙ sym wide) k d (omega arith))

  pub leaves : TakeDone s xs x t
  leaves =
      let n : length (held l xs) ≡ l.count = length_held l xs long_still in
      let m : length (held t xs) ≡ t.count = length_held t xs (long_still ∙ sym wide) in
      record {
        oldest = over.same ∙ same_lists (held l xs) (x ∷ held t xs) (omega arith) (λ k d h. rest_is k d (omega arith));
        wide = wide ∙ over.wide;
      }
