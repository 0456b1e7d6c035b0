-- The steps of a run, as the code takes them.
use Rattle.std.proofs.Common.{◌≡◌, ℕ, ◌+◌, ◌-◌, ◌<◌, ◌≤◌, max, Bool, true, ◌⊎◌, List, [], ◌∷◌, ◌++◌, length, get_or, set, replicate, map, Some, None, Option, unwrap_or, false, refl, sym, ap, ◌∙◌, subst, inl, inr, ⊎_elim, arith, below_more}
use native.Mathlib.Nat.{le-max_left, le-max_right, max-eq_left, max-eq_right}
use Rattle.std.specs.List.{range_with_len}
use Rattle.std.specs.Option.{IsSome, is_some}
use Rattle.std.proofs.Math.ListN.{get_or-map}
use Rattle.std.proofs.Math.Seq.{map-set_same}
use Rattle.std.proofs.lemmas.List.FromFn.{map-range_with_len_more}
use Rattle.std.proofs.lemmas.List.{map-id, map-set, length-replicate, get_or-replicate, get_or-set_same, get_or-set_other}
use Rattle.std.proofs.lemmas.Bool.{cases_lt}
use Rattle.orders.specs.declared.book.OrderBook.{Ghosts}
use Rattle.fair.specs.Markets.{IsBrew}
use Rattle.fair.specs.Choices.{among}
use Rattle.fair.specs.Allotments.{brew_of}
use Rattle.fair.specs.Acceptance.{deferred_acceptance}
use Rattle.fair.proofs.Choosing.{among_first}
use Rattle.fair.proofs.Favourites.{IsFavourite, IsNext}
use Rattle.fair.proofs.Reached.{refused_has_next}
use Rattle.acceptance.specs.Rankings.{NextAfter}
use Rattle.acceptance.specs.Running.{holds, Running, work}
use Rattle.acceptance.proofs.Steps.{state_of, begins, in_range, at_a_brew, held_now, refuses, s_held, exchanged_state, exchanged_refused, moved, turned, less_when_moved, ends}
use Rattle.acceptance.proofs.Lines.{room_behind}
use Rattle.acceptance.proofs.Nexts.{favourite_is, next_is, place_within, placed}
use Rattle.allot.specs.declared.open_market.OpenMarket.{OpenMarket}
use Rattle.allot.specs.declared.run.Run.{Run}
use Rattle.allot.specs.OpenMarkets.{AtPlace}
use Rattle.allot.specs.Runs.{in_line, none_held, counts, lasts, State, Fresh, HoldsMore, Waiting, LastHeld, FullBehind, NoneBehind, RefusedNext, Considered}
use Rattle.allot.proofs.Facts.{is_placed, w, cs, takers_sound, is_choice, sound_market, taker_fits, brew_fits, place_fits}

-- a list with entries has one
some_brew : (cs : List ℕ) → 1 ≤ length cs → (c : ℕ) × (among cs c ≡ true)
some_brew [] some = absurd (omega arith)
some_brew (c ∷ cs) some = (c, among_first c cs)

module _ {T B : Type 0} {ts : Ghosts T} {bs : Ghosts B} {o : OpenMarket T B ts bs} where
  -- the first in line, and the brew where it stands
  module _ {a : List ℕ} {run : Run} {s : ℕ} {rest : List ℕ} (state : State o a run (s ∷ rest)) where
    abbrev c : ℕ
    c = brew_of a s

    pub first_in_range : s < (w o).figures.takers
    first_in_range = in_range (sound_market o) (is_choice o) state.running

    pub first_fits : s < 432
    first_fits = taker_fits o s first_in_range

    own_brew : IsBrew (w o) c
    own_brew = at_a_brew (sound_market o) (is_choice o) state.running

    module _ {brew : ℕ} (at : brew ≡ c) where
      pub stands_at_a_brew : IsBrew (w o) brew
      stands_at_a_brew = subst (IsBrew (w o)) (sym at) own_brew

      -- it has a place there
      pub brew_places : 1 ≤ (w o).taker_place brew s
      brew_places = (place_fits o brew s stands_at_a_brew first_in_range).0

      pub its_brew_fits : brew < 17
      its_brew_fits = (brew_fits o brew stands_at_a_brew).1

      -- what is noted of the last that it holds
      last_of : unwrap_or (get_or run.held brew none_held).last 0 ≡ get_or (lasts run) c 0
      last_of = sym (get_or-map (λ h. unwrap_or h.last 0) run.held brew none_held) ∙ ap (λ k. get_or (lasts run) k 0) at

      -- where it holds one behind s, one is noted
      pub has_last : FullBehind o a run s → IsSome (get_or run.held brew none_held).last
      has_last behind = is_placed refl (omega (arith, last_of, behind.behind))

      -- the brew is full, and holds its last taker behind s
      module _ {last : ℕ} (noted : last ≡ unwrap_or (get_or run.held brew none_held).last 0) (behind : FullBehind o a run s) where
        is_noted : last ≡ get_or (lasts run) c 0
        is_noted = noted ∙ last_of

        last_is : (t : ℕ) × (t < (w o).figures.takers) × (holds a run.waiting c t ≡ true) × ((w o).taker_place c t ≡ get_or (lasts run) c 0)
        last_is = (state.running.held c own_brew).met (omega (arith, behind.full, o.choice.now.figures.some_lots))

        pub last_fits : (1 ≤ last) × (last ≤ (w o).figures.takers)
        last_fits = (omega (arith, is_noted, behind.behind), omega (arith, is_noted, last_is.3, (place_fits o c last_is.0 own_brew last_is.1).1))

        module _ {r : ℕ} (there : AtPlace (w o) brew (last - 1) r) where
          at_last : (w o).taker_place c r ≡ get_or (lasts run) c 0
          at_last = omega (arith, (subst (λ k. AtPlace (w o) k (last - 1) r) at there).there, last_fits.0, is_noted)

          r_held : holds a run.waiting c r ≡ true
          r_held = subst (λ t. holds a run.waiting c t ≡ true) ((sound_market o).takers_apart c last_is.0 r own_brew last_is.1 there.taker (last_is.3 ∙ sym at_last)) last_is.2

          front : (w o).taker_place c s < (w o).taker_place c r
          front = omega (arith, behind.behind, at_last)

          abbrev marks : List Bool
          marks = set (set run.waiting s false) r true

          -- with the marks of the two exchanged, the brew holds one at least
          pub some_held : (before : Option ℕ) → LastHeld (w o) a marks brew (last - 1) before → IsSome before
          some_held (Some p) found = refl
          some_held None none =
              let own = s_held (sound_market o) (is_choice o) state.running there.taker r_held in
              let behind_none = subst (λ k. NoneBehind (w o) a marks k (last - 1) 0) at none in
              absurd (omega (arith, behind_none s first_in_range own (omega (arith, front, at_last, is_noted)), (place_fits o c s own_brew first_in_range).0))

          -- the last of those held then is noted, and r is refused
          pub exchange_next : {p : ℕ} {before : Option ℕ} {after : Run} → LastHeld (w o) a marks brew (last - 1) before → before ≡ Some p
              → after.waiting ≡ marks → after.held ≡ set run.held brew (record { count = (get_or run.held brew none_held).count; last = Some (p + 1) }) → in_line after ≡ rest → RefusedNext o a after r
          exchange_next {p} {before} {after} found some marked held line = record {
            state = record {
              running = state_of marked
                  (ap (map (λ h. h.count)) held ∙ map-set_same (λ h. h.count) run.held brew _ none_held refl)
                  (ap (map (λ h. unwrap_or h.last 0)) held ∙ map-set (λ h. unwrap_or h.last 0) run.held brew _ ∙ ap (λ k. set (lasts run) k (p + 1)) at)
                  (ap (λ xs. r ∷ xs) line)
                  (exchanged_state (sound_market o) (is_choice o) state.running there.taker r_held behind.full (sym at_last) front (p + 1) near none_behind is_last.2);
            };
            refusal = exchanged_refused (sound_market o) (is_choice o) state.running there.taker r_held behind.full (sym at_last) front (p + 1) near none_behind is_last.2;
          }
            where
              is_last : LastHeld (w o) a marks c (last - 1) (Some p)
              is_last = subst (λ k. LastHeld (w o) a marks k (last - 1) (Some p)) at (subst (LastHeld (w o) a marks brew (last - 1)) some found)

              none_behind : (t : ℕ) → t < (w o).figures.takers → holds a marks c t ≡ true → (w o).taker_place c t < (w o).taker_place c r → (w o).taker_place c t ≤ p + 1
              none_behind t l h before = is_last.1 t l h (omega (arith, at_last, is_noted))

              near : p + 1 < (w o).taker_place c r
              near = omega (arith, is_last.0, at_last, is_noted)

  -- the first in line is considered at the brew where it stands
  module _ {a : List ℕ} {run : Run} {s : ℕ} (state : State o a run (s ∷ in_line run)) {brew place : ℕ} (at : brew ≡ brew_of a s) (is : place ≡ (w o).taker_place brew s) where
    abbrev own : ℕ
    own = brew_of a s

    is_place : place ≡ (w o).taker_place own s
    is_place = is ∙ ap (λ k. (w o).taker_place k s) at

    -- it is held
    pub held_considered : {after : Run} → get_or (counts run) brew 0 < o.choice.now.figures.lots → HoldsMore brew s place run after → Considered o a run s a after
    held_considered {after} lot held =
        let last : ℕ = max (get_or (lasts run) own 0) place in
        let reached : (w o).taker_place own s ≤ last = subst (λ p. p ≤ last) is_place (le-max_right (get_or (lasts run) own 0) place) in
        let either : (last ≡ get_or (lasts run) own 0) ⊎ (last ≡ (w o).taker_place own s) =
        ⊎_elim (λ (l : get_or (lasts run) own 0 < place). inr (max-eq_right (omega arith) ∙ is_place)) (λ (l : place ≤ get_or (lasts run) own 0). inl (max-eq_left l)) (cases_lt (get_or (lasts run) own 0) place) in
        let here = subst (λ k. HoldsMore k s place run after) at held in
        let kept = held_now (sound_market o) (is_choice o) state.running last (subst (λ k. get_or (counts run) k 0 < o.choice.now.figures.lots) at lot) (le-max_left (get_or (lasts run) own 0) place) reached either in
        record { state = record { running = state_of here.free here.counted here.noted here.line kept }; less = omega (arith, ap length here.line) }

    module _ (full : o.choice.now.figures.lots ≤ get_or (counts run) brew 0) where
      full_here : o.choice.now.figures.lots ≤ get_or (counts run) own 0
      full_here = subst (λ k. o.choice.now.figures.lots ≤ get_or (counts run) k 0) at full

      -- it is refused
      pub refused_next : get_or (lasts run) brew 0 ≤ place → RefusedNext o a run s
      refused_next front = record {
        state = state;
        refusal = refuses (sound_market o) (is_choice o) state.running full_here (subst (λ p. get_or (lasts run) own 0 ≤ p) is_place (subst (λ k. get_or (lasts run) k 0 ≤ place) at front));
      }

  -- the first in line is refused, and goes to its next brew
  module _ {a : List ℕ} {run : Run} {s : ℕ} (first : RefusedNext o a run s) where
    pub room_to_wait : length (in_line run) < 432
    room_to_wait = omega (arith, room_behind first.state.running.waits, (takers_sound o).few_choosers, o.complete.a_taker_each)

    -- the brew where it stands has a place in its order
    pub taker_places : {brew : ℕ} → brew ≡ brew_of a s → 1 ≤ (w o).brew_place s brew
    taker_places at =
        let l = first_in_range first.state in
        subst (λ c. 1 ≤ (w o).brew_place s c) (sym at) (placed (takers_sound o) o.complete (is_choice o) s l (brew_of a s) (first.state.running.reached.chosen s l))

    module _ {brew place : ℕ} (at : brew ≡ brew_of a s) (is : place ≡ (w o).brew_place s brew) where
      pub place_within_brews : place ≤ o.choice.now.figures.brews
      place_within_brews =
          let l = first_in_range first.state in
          omega (arith, is, ap ((w o).brew_place s) at, o.complete.of_brews, place_within (takers_sound o) o.complete (is_choice o) s l (brew_of a s) (first.state.running.reached.chosen s l))

      next_there : (next : Option ℕ) → NextAfter (w o) s (cs o) place next → (d : ℕ) × (next ≡ Some d) × IsNext (w o) s (cs o) (brew_of a s) d
      next_there next after =
          next_is (w o) s (cs o) (brew_of a s) next (subst (λ p. NextAfter (w o) s (cs o) p next) (is ∙ ap ((w o).brew_place s) at) after)
          (refused_has_next (w o) (sound_market o) (cs o) (is_choice o) a first.state.running.reached s (first_in_range first.state) first.refusal)

      pub has_next : (next : Option ℕ) → NextAfter (w o) s (cs o) place next → IsSome next
      has_next next after = let (d, some, _) = next_there next after in ap is_some some

      module _ {d : ℕ} {next : Option ℕ} (after : NextAfter (w o) s (cs o) place next) (some : next ≡ Some d) where
        is_next : IsNext (w o) s (cs o) (brew_of a s) d
        is_next = let (e, same, is) = next_there next after in let eq : e ≡ d = cc in subst (IsNext (w o) s (cs o) (brew_of a s)) eq is

        pub moved_considered : {then : Run} → Waiting s run then → Considered o a run s (set a s d) then
        moved_considered {then} waiting =
            let kept = turned (sound_market o) (is_choice o) (moved (sound_market o) (is_choice o) first.state.running first.refusal d is_next) in
            record {
              state = record { running = state_of waiting.marks (ap (map (λ h. h.count)) waiting.held) (ap (map (λ h. unwrap_or h.last 0)) waiting.held) waiting.behind kept };
              less = subst (λ x. work (w o) (cs o) (set a s d) x < work (w o) (cs o) a (s ∷ in_line run)) (sym waiting.behind) (less_when_moved (sound_market o) (is_choice o) first.state.running first.refusal d is_next);
            }

  -- nobody waits
  pub finished : {a : List ℕ} {run : Run} → State o a run (in_line run) → in_line run ≡ [] → a ≡ deferred_acceptance (w o) (cs o)
  finished {a} {run} state none = ends (sound_market o) (is_choice o) (subst (Running (w o) (cs o) a run.waiting (counts run) (lasts run)) none state.running)

  -- everybody stands there and waits
  pub begun : {a : List ℕ} {run : Run} → length a ≡ (w o).figures.takers → Fresh (w o).figures.takers run → ((s : ℕ) → s < (w o).figures.takers → IsFavourite (w o) s (cs o) (brew_of a s)) → State o a run (in_line run)
  begun {a} {run} each fresh first =
      let none : (c : ℕ) → IsBrew (w o) c → ◌≡◌ {A = ℕ} (get_or (replicate 17 0) c 0) 0 = λ c brew. get_or-replicate 17 c 0 0 (brew_fits o c brew).1 in
      let room : (w o).figures.brews < length (replicate {A = ℕ} 17 0) = omega (arith, length-replicate {A = ℕ} 17 0, o.choice.now.figures.few_brews) in
      record {
        running = state_of fresh.all_wait (ap (map (λ h. h.count)) fresh.nobody) (ap (map (λ h. unwrap_or h.last 0)) fresh.nobody) fresh.all_in_line
            (begins (sound_market o) (is_choice o) a (replicate 432 true) (replicate 17 0) (replicate 17 0) each first (omega (arith, length-replicate 432 true, (takers_sound o).few_choosers, o.complete.a_taker_each))
            (λ t l. get_or-replicate 432 t true false (taker_fits o t l)) (room, room) none none);
      }

-- the brew of the choice that a taker ranks highest
module _ {T B : Type 0} {ts : Ghosts T} {bs : Ghosts B} (o : OpenMarket T B ts bs) (s : ℕ) (l : s < (w o).figures.takers) (first : Option ℕ) (after : NextAfter (w o) s (cs o) 0 first) where
  first_there : (d : ℕ) × (first ≡ Some d) × IsFavourite (w o) s (cs o) d
  first_there =
      let (c, listed) = some_brew (cs o) (omega (arith, (is_choice o).size, o.choice.now.figures.some_opened)) in
      favourite_is (w o) s (cs o) c first after listed (placed (takers_sound o) o.complete (is_choice o) s l)

  pub has_first : IsSome first
  has_first = let (d, some, _) = first_there in ap is_some some

  module _ {d : ℕ} (some : first ≡ Some d) where
    is_first : IsFavourite (w o) s (cs o) d
    is_first = let (e, same, is) = first_there in let eq : e ≡ d = cc in subst (IsFavourite (w o) s (cs o)) eq is

    -- it stands there, as those before it stand at theirs
    pub stands_more : (a : List ℕ) → s < length a → ((t : ℕ) → t < s → IsFavourite (w o) t (cs o) (brew_of a t)) → (t : ℕ) → t < s + 1 → IsFavourite (w o) t (cs o) (brew_of (set a s d) t)
    stands_more a m before =
        below_more (λ t. IsFavourite (w o) t (cs o) (brew_of (set a s d) t)) s
        (λ t h. subst (IsFavourite (w o) t (cs o)) (sym (get_or-set_other a s t d 0 (λ e. omega arith))) (before t h))
        (subst (IsFavourite (w o) s (cs o)) (sym (get_or-set_same a s d 0 m)) is_first)

pub fresh_more : (n : ℕ) {run after : Run} → Fresh n run → Waiting n run after → Fresh (n + 1) after
fresh_more n fresh waiting = record {
  all_wait = waiting.marks ∙ fresh.all_wait;
  nobody = waiting.held ∙ fresh.nobody;
  all_in_line = waiting.behind ∙ ap (λ xs. xs ++ n ∷ []) (fresh.all_in_line ∙ sym (map-id (range_with_len 0 n))) ∙ sym (map-range_with_len_more (λ x. x) 0 n n (omega arith)) ∙ map-id (range_with_len 0 (n + 1));
}
