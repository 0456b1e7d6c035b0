-- The steps of a run: a brew with a lot left holds the first in line; a full one refuses it, or exchanges the last it
-- holds for it; whoever is refused moves to its next brew and goes back into the line.
use Rattle.std.proofs.Common.{◌≡◌, ℕ, ◌+◌, ◌<◌, ◌≤◌, Bool, true, false, not, ◌&&◌, eqb, ◌⊎◌, List, [], ◌∷◌, ◌++◌, length, get_or, set, sym, refl, ap, ◌∙◌, subst, inl, inr, ⊎_elim, arith}
use Rattle.std.specs.List.{range_with_len}
use Rattle.std.proofs.lemmas.List.{length-set, length_push, get_or-set_same, get_or-set_other}
use Rattle.std.proofs.lemmas.Bool.{cases_eq, both_ways, eq-eqb, ne_eqb, eqb-true, lt-ltb, le-leb, leb-true, lt-leb, and_parts, and_from, and_left, and_right, not_from_true, not_from_false, not-true}
use Rattle.tally.specs.Tally.{tally}
use Rattle.tally.proofs.Tallies.{tally_one_more, tally_same, tally_mono, tally_strict, tally_none, tally_fails}
use Rattle.fair.specs.Markets.{Market, SoundMarket, lots_of, favours, IsBrew}
use Rattle.fair.specs.Choices.{among, IsChoice}
use Rattle.fair.specs.Allotments.{brew_of}
use Rattle.fair.specs.Acceptance.{deferred_acceptance, ahead, refused, NobodyRefused}
use Rattle.fair.proofs.Choosing.{choice_within}
use Rattle.fair.proofs.Favourites.{IsFavourite, IsNext}
use Rattle.fair.proofs.Reached.{reached_first}
use Rattle.fair.proofs.Loop.{move, move_falls, end}
use Rattle.acceptance.specs.Running.{waits_at, holds, Holds, Running, work}
use Rattle.acceptance.proofs.Lines.{now_set, first_taker, first_marked, leaves, turns, enters, all_wait}

-- what is asked of a brew, where the same takers are held
holds_same : (w : Market) (a b : List ℕ) (u v : List Bool) (c count last : ℕ) → ((t : ℕ) → t < w.figures.takers → holds a u c t ≡ holds b v c t) → Holds w a u c count last → Holds w b v c count last
holds_same w a b u v c count last same held = record {
  counted = sym (tally_same (holds a u c) (holds b v c) w.figures.takers same) ∙ held.counted;
  few = held.few;
  none_yet = held.none_yet;
  none_behind = λ t l h. held.none_behind t l (same t l ∙ h);
  met = λ some. let (t, l, h, e) = held.met some in (t, l, sym (same t l) ∙ h, e);
}

-- a taker that waits is held nowhere
waits_unheld : (a : List ℕ) (u : List Bool) (c t : ℕ) → waits_at u t ≡ true → holds a u c t ≡ false
waits_unheld a u c t mark = and_right (eqb (brew_of a t) c) (not (waits_at u t)) (not_from_true _ mark)

-- whoever stands elsewhere is not held by c
elsewhere_unheld : (a : List ℕ) (u : List Bool) (c t : ℕ) → (brew_of a t ≡ c → ⊥) → holds a u c t ≡ false
elsewhere_unheld a u c t ne = and_left (eqb (brew_of a t) c) (not (waits_at u t)) (ne_eqb _ _ ne)

here_held : (a : List ℕ) (u : List Bool) (c t : ℕ) → brew_of a t ≡ c → waits_at u t ≡ false → holds a u c t ≡ true
here_held a u c t e mark = and_from _ _ (eq-eqb _ _ e) (not_from_false _ mark)

held_here : (a : List ℕ) (u : List Bool) (c t : ℕ) → holds a u c t ≡ true → (brew_of a t ≡ c) × (waits_at u t ≡ false)
held_here a u c t h = let parts = and_parts (eqb (brew_of a t) c) (not (waits_at u t)) h in (eqb-true _ _ parts.0, not-true _ parts.1)

-- another mark at s changes nothing for other takers
other_mark : (a : List ℕ) (u : List Bool) (s : ℕ) (b : Bool) (c t : ℕ) → (t ≡ s → ⊥) → holds a u c t ≡ holds a (set u s b) c t
other_mark a u s b c t ne = ap (λ m. eqb (brew_of a t) c && not m) (sym (get_or-set_other u s t b false ne))

-- nor for other brews than the one where s stands
other_brew : (a : List ℕ) (u : List Bool) (s : ℕ) (b : Bool) (c t : ℕ) → (brew_of a s ≡ c → ⊥) → holds a u c t ≡ holds a (set u s b) c t
other_brew a u s b c t ne =
    ⊎_elim
    (λ (e : t ≡ s).
    let away : brew_of a t ≡ c → ⊥ = λ h. ne (ap (brew_of a) (sym e) ∙ h) in
    elsewhere_unheld a u c t away ∙ sym (elsewhere_unheld a (set u s b) c t away))
    (other_mark a u s b c t)
    (cases_eq t s)

-- a state whose parts are equal to others
pub state_of : {w : Market} {cs a : List ℕ} {u v : List Bool} {counts counts' lasts lasts' line line' : List ℕ} → v ≡ u → counts' ≡ counts → lasts' ≡ lasts → line' ≡ line → Running w cs a u counts lasts line → Running w cs a v counts' lasts' line'
state_of {w} {cs} {a} {u} {v} {counts} {counts'} {lasts} {lasts'} {line} {line'} marks counted noted waits run =
    subst (λ x. Running w cs a x counts' lasts' line') (sym marks)
    (subst (λ x. Running w cs a u x lasts' line') (sym counted)
    (subst (λ x. Running w cs a u counts x line') (sym noted)
    (subst (Running w cs a u counts lasts) (sym waits) run)))

module _ {w : Market} (sound : SoundMarket w) {cs : List ℕ} (choice : IsChoice w.figures cs) where
  abbrev takers : ℕ
  takers = w.figures.takers

  -- everybody in line, nobody held
  pub begins : (a : List ℕ) (waiting : List Bool) (counts lasts : List ℕ) → length a ≡ takers → ((s : ℕ) → s < takers → IsFavourite w s cs (brew_of a s))
      → takers ≤ length waiting → ((t : ℕ) → t < takers → waits_at waiting t ≡ true)
      → (w.figures.brews < length counts) × (w.figures.brews < length lasts) → ((c : ℕ) → IsBrew w c → ◌≡◌ {A = ℕ} (get_or counts c 0) 0) → ((c : ℕ) → IsBrew w c → ◌≡◌ {A = ℕ} (get_or lasts c 0) 0)
      → Running w cs a waiting counts lasts (range_with_len 0 takers)
  begins a waiting counts lasts each first long all room none zero_last = record {
    reached = reached_first w sound cs choice a each first;
    waits = all_wait takers waiting long all;
    room = room;
    held = λ c brew. record {
      counted = tally_fails _ takers (λ t l. waits_unheld a waiting c t (all t l)) ∙ sym (none c brew);
      few = omega (arith, none c brew);
      none_yet = λ _. zero_last c brew;
      none_behind = λ t l h. absurd (both_ways _ (waits_unheld a waiting c t (all t l)) h);
      met = λ some. absurd (omega (arith, none c brew));
    };
  }

  module _ {a : List ℕ} {waiting : List Bool} {counts lasts : List ℕ} where
    -- nobody waits: nobody has as many ahead of it as its brew has lots
    pub ends : Running w cs a waiting counts lasts [] → a ≡ deferred_acceptance w cs
    ends run = end w sound cs choice a run.reached still
      where
        unmarked : (t : ℕ) → t < takers → waits_at waiting t ≡ false
        unmarked = tally_none (waits_at waiting) takers (sym run.waits.as_many)

        still : NobodyRefused w a
        still s l =
            let c : ℕ = brew_of a s in
            let held = run.held c (choice_within w.figures cs choice c (run.reached.chosen s l)) in
            let fewer : ahead w a c s < tally (holds a waiting c) takers =
            tally_strict (λ t. eqb (brew_of a t) c && favours w c t s) (holds a waiting c) takers s l
            (and_right _ _ (not_above_itself c s)) (here_held a waiting c s refl (unmarked s l))
            (λ t m h. here_held a waiting c t (eqb-true _ _ (and_parts _ _ h).0) (unmarked t m)) in
            lt-leb _ _ (omega (arith, held.counted, held.few))
          where
            not_above_itself : (c t : ℕ) → favours w c t t ≡ false
            not_above_itself c t = lt-leb _ _ (omega arith)

    module _ {s : ℕ} {rest : List ℕ} (run : Running w cs a waiting counts lasts (s ∷ rest)) where
      abbrev c : ℕ
      c = brew_of a s

      pub in_range : s < takers
      in_range = first_taker run.waits

      marked : waits_at waiting s ≡ true
      marked = first_marked run.waits

      pub stands_in_choice : among cs c ≡ true
      stands_in_choice = run.reached.chosen s in_range

      pub at_a_brew : IsBrew w c
      at_a_brew = choice_within w.figures cs choice c stands_in_choice

      here : Holds w a waiting c (get_or counts c 0) (get_or lasts c 0)
      here = run.held c at_a_brew

      pub below_counts : c < length counts
      below_counts = omega (arith, run.room, leb-true c w.figures.brews (and_parts _ _ at_a_brew).1)

      pub below_lasts : c < length lasts
      below_lasts = omega (arith, run.room, leb-true c w.figures.brews (and_parts _ _ at_a_brew).1)

      -- S: s is held from now on
      abbrev freed : List Bool
      freed = set waiting s false

      pub freed_mark : waits_at freed s ≡ false
      freed_mark = now_set waiting takers s in_range run.waits.each false

      -- one more than before
      one_more : tally (holds a freed c) takers ≡ get_or counts c 0 + 1
      one_more =
          tally_one_more (holds a waiting c) (holds a freed c) takers s in_range (waits_unheld a waiting c s marked) (here_held a freed c s refl freed_mark)
          (λ k _ ne. other_mark a waiting s false c k ne)
          ∙ ap (λ k. k + 1) here.counted

      -- what is noted at another brew
      elsewhere : (counts' lasts' : List ℕ) (u : List Bool) → ((d : ℕ) → (d ≡ c → ⊥) → ◌≡◌ {A = ℕ} (get_or counts' d 0) (get_or counts d 0)) → ((d : ℕ) → (d ≡ c → ⊥) → ◌≡◌ {A = ℕ} (get_or lasts' d 0) (get_or lasts d 0))
          → ((d t : ℕ) → (d ≡ c → ⊥) → holds a waiting d t ≡ holds a u d t) → (d : ℕ) → IsBrew w d → (d ≡ c → ⊥) → Holds w a u d (get_or counts' d 0) (get_or lasts' d 0)
      elsewhere counts' lasts' u same_count same_last same d brew ne =
          subst (λ k. Holds w a u d k (get_or lasts' d 0)) (sym (same_count d ne))
          (subst (λ k. Holds w a u d (get_or counts d 0) k) (sym (same_last d ne))
          (holds_same w a a waiting u d _ _ (λ t _. same d t ne) (run.held d brew)))

      -- at the brew of s, and at all others
      by_brew : (P : ℕ → Type 0) → P c → ((d : ℕ) → IsBrew w d → (d ≡ c → ⊥) → P d) → (d : ℕ) → IsBrew w d → P d
      by_brew P own others d brew = ⊎_elim (λ (e : d ≡ c). subst P (sym e) own) (others d brew) (cases_eq d c)

      module _ (last : ℕ) where
        abbrev counts' : List ℕ
        counts' = set counts c (get_or counts c 0 + 1)

        abbrev lasts' : List ℕ
        lasts' = set lasts c last

        -- A brew with a lot left holds s; the last place noted is the farther of the former and that of s.
        pub held_now : get_or counts c 0 < lots_of w.figures c → get_or lasts c 0 ≤ last → w.taker_place c s ≤ last → (last ≡ get_or lasts c 0) ⊎ (last ≡ w.taker_place c s)
            → Running w cs a freed counts' lasts' rest
        held_now lot former own either = record {
          reached = run.reached;
          waits = leaves run.waits;
          room = (omega (arith, run.room, length-set counts c (get_or counts c 0 + 1)), omega (arith, run.room, length-set lasts c last));
          held = by_brew (λ d. Holds w a freed d (get_or counts' d 0) (get_or lasts' d 0))
              (subst (λ k. Holds w a freed c k (get_or lasts' c 0)) (sym (get_or-set_same counts c _ 0 below_counts))
              (subst (λ k. Holds w a freed c (get_or counts c 0 + 1) k) (sym (get_or-set_same lasts c last 0 below_lasts)) with_one_more))
              (elsewhere counts' lasts' freed (λ d ne. get_or-set_other counts c d _ 0 ne) (λ d ne. get_or-set_other lasts c d last 0 ne) (λ d t ne. other_brew a waiting s false d t (λ e. ne (sym e))));
        }
          where
            is_s : last ≡ w.taker_place c s → (t : ℕ) × (t < takers) × (holds a freed c t ≡ true) × (w.taker_place c t ≡ last)
            is_s e = (s, in_range, here_held a freed c s refl freed_mark, sym e)

            with_one_more : Holds w a freed c (get_or counts c 0 + 1) last
            with_one_more = record {
              counted = one_more;
              few = omega arith;
              none_yet = λ none. absurd (omega arith);
              none_behind = λ t l h.
                  ⊎_elim (λ (e : t ≡ s). subst (λ k. w.taker_place c k ≤ last) (sym e) own)
                  (λ (ne : t ≡ s → ⊥). omega (arith, here.none_behind t l (other_mark a waiting s false c t ne ∙ h)))
                  (cases_eq t s);
              met = λ _.
                  ⊎_elim
                  (λ (stays : last ≡ get_or lasts c 0).
                  ⊎_elim (λ (none : get_or counts c 0 ≡ 0). is_s (omega (arith, here.none_yet none)))
                  (λ (some : get_or counts c 0 ≡ 0 → ⊥).
                  let (t, l, h, e) = here.met (omega arith) in
                  let apart : t ≡ s → ⊥ = λ same. both_ways _ (subst (λ k. holds a waiting c k ≡ false) (sym same) (waits_unheld a waiting c s marked)) h in
                  (t, l, sym (other_mark a waiting s false c t apart) ∙ h, e ∙ sym stays))
                  (cases_eq (get_or counts c 0) 0))
                  is_s either;
            }

      -- A full brew refuses s where the last that it holds is in front of s.
      pub refuses : lots_of w.figures c ≤ get_or counts c 0 → get_or lasts c 0 ≤ w.taker_place c s → refused w a s ≡ true
      refuses full front =
          le-leb _ _
          (omega (
            arith,
            here.counted,
            tally_mono (holds a waiting c) (λ t. eqb (brew_of a t) c && favours w c t s) takers
                (λ t l h.
                let (at, free) = held_here a waiting c t h in
                let differ : w.taker_place c t ≡ w.taker_place c s → ⊥ =
                λ e. both_ways _ free (subst (λ k. waits_at waiting k ≡ true) (sym (sound.takers_apart c t s at_a_brew l in_range e)) marked) in
                and_from _ _ (eq-eqb _ _ at) (lt-ltb _ _ (omega (arith, here.none_behind t l h)))),
          ))

      -- The taker r, which the brew of s holds, is exchanged for s: r is marked in its place and comes first in line.
      module _ {r : ℕ} (l : r < takers) (held : holds a waiting c r ≡ true) where
        abbrev exchanged : List Bool
        exchanged = set freed r true

        apart : r ≡ s → ⊥
        apart e = both_ways _ (subst (λ k. holds a waiting c k ≡ false) (sym e) (waits_unheld a waiting c s marked)) held

        r_here : brew_of a r ≡ c
        r_here = (held_here a waiting c r held).0

        long : takers ≤ length freed
        long = omega (arith, run.waits.each, length-set waiting s false)

        r_free : waits_at freed r ≡ false
        r_free = get_or-set_other waiting s r false false apart ∙ (held_here a waiting c r held).1

        r_marked : waits_at exchanged r ≡ true
        r_marked = now_set freed takers r l long true

        s_free : waits_at exchanged s ≡ false
        s_free = get_or-set_other freed r s true false (λ e. apart (sym e)) ∙ freed_mark

        -- as many as before
        as_many : tally (holds a exchanged c) takers ≡ get_or counts c 0
        as_many =
            omega (
              arith,
              one_more,
              tally_one_more (holds a exchanged c) (holds a freed c) takers r l (waits_unheld a exchanged c r r_marked) (here_held a freed c r r_here r_free)
                  (λ k _ ne. sym (other_mark a freed r true c k ne)),
            )

        -- whoever is held then was held before, or is s
        was_held : (t : ℕ) → holds a exchanged c t ≡ true → (t ≡ r → ⊥) × ((t ≡ s) ⊎ (holds a waiting c t ≡ true))
        was_held t h =
            let not_r : t ≡ r → ⊥ = λ e. both_ways _ (subst (λ k. holds a exchanged c k ≡ false) (sym e) (waits_unheld a exchanged c r r_marked)) h in (
              not_r,
              ⊎_elim inl
                  (λ (ne : t ≡ s → ⊥). inr (other_mark a waiting s false c t ne ∙ other_mark a freed r true c t not_r ∙ h))
                  (cases_eq t s),
            )

        pub s_held : holds a exchanged c s ≡ true
        s_held = here_held a exchanged c s refl s_free

        -- r was the last, and s is in front of it: so are all who are held then
        pub all_in_front : get_or lasts c 0 ≡ w.taker_place c r → w.taker_place c s < w.taker_place c r → (t : ℕ) → t < takers → holds a exchanged c t ≡ true → w.taker_place c t < w.taker_place c r
        all_in_front was front t m h =
            let (not_r, which) = was_held t h in
            ⊎_elim (λ (e : t ≡ s). subst (λ k. w.taker_place c k < w.taker_place c r) (sym e) front)
            (λ (before : holds a waiting c t ≡ true).
            let differ : w.taker_place c t ≡ w.taker_place c r → ⊥ = λ e. not_r (sound.takers_apart c t r at_a_brew m l e) in
            omega (arith, here.none_behind t m before))
            which

        pub exchanges : (last : ℕ) → ((t : ℕ) → t < takers → holds a exchanged c t ≡ true → w.taker_place c t ≤ last) → ((t : ℕ) × (t < takers) × (holds a exchanged c t ≡ true) × (w.taker_place c t ≡ last))
            → Running w cs a exchanged counts (set lasts c last) (r ∷ rest)
        exchanges last none_behind met = record {
          reached = run.reached;
          waits = enters (leaves run.waits) r l r_free;
          room = (run.room.0, omega (arith, run.room, length-set lasts c last));
          held = by_brew (λ d. Holds w a exchanged d (get_or counts d 0) (get_or (set lasts c last) d 0))
              (subst (λ k. Holds w a exchanged c (get_or counts c 0) k) (sym (get_or-set_same lasts c last 0 below_lasts))
              (record {
                counted = as_many;
                few = here.few;
                none_yet = λ none. absurd (both_ways _ (tally_none (holds a waiting c) takers (here.counted ∙ none) r l) held);
                none_behind = none_behind;
                met = λ _. met;
              }))
              (elsewhere counts (set lasts c last) exchanged (λ d ne. refl) (λ d ne. get_or-set_other lasts c d last 0 ne)
              (λ d t ne. other_brew a waiting s false d t (λ e. ne (sym e)) ∙ other_brew a freed r true d t (λ e. ne (sym e ∙ r_here))));
        }

      -- s, refused, moves to the next brew of its order
      module _ (refusal : refused w a s ≡ true) (d : ℕ) (next : IsNext w s cs c d) where
        pub moved : Running w cs (set a s d) waiting counts lasts (s ∷ rest)
        moved = record {
          reached = move w sound cs choice a run.reached s in_range refusal d next;
          waits = run.waits;
          room = run.room;
          held = λ b brew. holds_same w a (set a s d) waiting waiting b _ _ (λ t l. same b t) (run.held b brew);
        }
          where
            same : (b t : ℕ) → holds a waiting b t ≡ holds (set a s d) waiting b t
            same b t =
                ⊎_elim
                (λ (e : t ≡ s). let mark : waits_at waiting t ≡ true = subst (λ k. waits_at waiting k ≡ true) (sym e) marked in waits_unheld a waiting b t mark ∙ sym (waits_unheld (set a s d) waiting b t mark))
                (λ (ne : t ≡ s → ⊥). ap (λ k. eqb k b && not (waits_at waiting t)) (sym (get_or-set_other a s t d 0 ne)))
                (cases_eq t s)

      -- s goes behind all others in line
      pub turned : Running w cs a waiting counts lasts (rest ++ s ∷ [])
      turned = record { reached = run.reached; waits = turns run.waits; room = run.room; held = run.held }

    -- less is left to do once the first in line is held, or has moved and goes behind the others
    module _ {s : ℕ} {rest : List ℕ} (run : Running w cs a waiting counts lasts (s ∷ rest)) where
      pub less_when_held : work w cs a rest < work w cs a (s ∷ rest)
      less_when_held = omega arith

      pub less_when_moved : (refusal : refused w a s ≡ true) (d : ℕ) → IsNext w s cs (brew_of a s) d → work w cs (set a s d) (rest ++ s ∷ []) < work w cs a (s ∷ rest)
      less_when_moved refusal d next = omega (arith, length_push rest s, move_falls w sound cs choice a run.reached s (in_range run) refusal d next)

  -- The last of a full brew, exchanged for s, is refused where it stands.
  module _ {a : List ℕ} {waiting : List Bool} {counts lasts : List ℕ} {s : ℕ} {rest : List ℕ} (run : Running w cs a waiting counts lasts (s ∷ rest)) {r : ℕ} (l : r < takers) (held : holds a waiting (brew_of a s) r ≡ true)
      (full : lots_of w.figures (brew_of a s) ≤ get_or counts (brew_of a s) 0) (was : get_or lasts (brew_of a s) 0 ≡ w.taker_place (brew_of a s) r) (front : w.taker_place (brew_of a s) s < w.taker_place (brew_of a s) r) where
    abbrev marks : List Bool
    marks = set (set waiting s false) r true

    -- last is the last place held before that of r
    module _ (last : ℕ) (near : last < w.taker_place (brew_of a s) r) (none_behind : (t : ℕ) → t < takers → holds a marks (brew_of a s) t ≡ true → w.taker_place (brew_of a s) t < w.taker_place (brew_of a s) r → w.taker_place (brew_of a s) t ≤ last)
        (met : (t : ℕ) × (t < takers) × (holds a marks (brew_of a s) t ≡ true) × (w.taker_place (brew_of a s) t ≡ last)) where
      pub exchanged_state : Running w cs a marks counts (set lasts (brew_of a s) last) (r ∷ rest)
      exchanged_state = exchanges run l held last (λ t m h. none_behind t m h (all_in_front run l held was front t m h)) met

      pub exchanged_refused : refused w a r ≡ true
      exchanged_refused =
          let here : brew_of a s ≡ brew_of a r = sym (held_here a waiting (brew_of a s) r held).0 in
          refuses exchanged_state
          (subst (λ d. lots_of w.figures d ≤ get_or counts d 0) here full)
          (subst (λ d. get_or (set lasts (brew_of a s) last) d 0 ≤ w.taker_place d r) here
          (omega (arith, get_or-set_same lasts (brew_of a s) last 0 (below_lasts run))))
