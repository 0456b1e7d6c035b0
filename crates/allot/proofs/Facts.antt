-- What a choice and two prepared books are known to be.
use Rattle.std.proofs.Common.{◌≡◌, ℕ, ◌+◌, ◌-◌, ◌*◌, ◌<◌, ◌≤◌, max, Bool, true, false, leb, List, length, drop, get_or, Some, None, Option, MatchOption, unwrap_or, refl, sym, ap, ◌∙◌, subst, arith}
use Rattle.std.specs.List.{slice_range, AllWithin, HoldsAt}
use Rattle.std.specs.Option.{IsSome, option_cmp}
use Rattle.std.specs.Ordering.{nat_cmp, ord_max}
use Rattle.std.proofs.lemmas.List.{get_or-take, get_or-drop, length-take, length-drop}
use Rattle.std.proofs.lemmas.Bool.{both_ways, and_parts, leb-true}
use Rattle.orders.specs.Books.{Meaning, Sound, within}
use Rattle.orders.proofs.Written.{row_end}
use Rattle.orders.specs.declared.book.OrderBook.{Ghosts}
use Rattle.fair.specs.Markets.{InLimits, IsBrew, Market, SoundMarket}
use Rattle.fair.specs.Choices.{among, IsChoice}
use Rattle.fair.proofs.Choosing.{choice_within}
use Rattle.fair.proofs.FromBooks.{market_from_books}
use Rattle.choices.specs.Rounds.{figures_of}
use Rattle.choices.specs.Chosen.{brews_of}
use Rattle.choices.specs.declared.figures.Figures.{Figures as RoundFigures}
use Rattle.choices.specs.declared.choice.Choice.{Choice}
use Rattle.choices.proofs.Sets.{brews_ascending}
use Rattle.acceptance.specs.Rankings.{place_of, NextAfter}
use Rattle.acceptance.specs.Running.{holds}
use Rattle.acceptance.proofs.Ranking.{place_low, place_high}
use Rattle.acceptance.proofs.Nexts.{next_found}
use Rattle.allot.specs.declared.open_market.OpenMarket.{OpenMarket}
use Rattle.allot.specs.Runs.{NoneBehind}
use Rattle.allot.specs.OpenMarkets.{AtPlace, brews_opened, market_in}

limits_of : (f : RoundFigures) → InLimits (figures_of f)
limits_of f = record {
  few_brews = f.few_brews;
  some_opened = f.some_opened;
  few_opened = f.few_opened;
  enough_brews = f.enough_brews;
  some_lots = f.some_lots;
  few_lots = f.few_lots;
  a_lot_each = f.a_lot_each;
}

-- an entry of a row of a table
get_or-row : (table : List ℕ) (start n p : ℕ) → p < n → get_or (slice_range table start (start + n)) p 0 ≡ get_or table (start + p) 0
get_or-row table start n p l = get_or-take (start + n - start) (drop start table) p 0 (omega arith) ∙ get_or-drop start table p 0

-- a place from 1 on is one that the book answers
pub is_placed : {answer place : Option ℕ} → answer ≡ place → 1 ≤ unwrap_or place 0 → IsSome answer
is_placed {answer = Some p} is low = refl
is_placed {answer = None} is low = absurd (omega (arith, ap (λ o. unwrap_or o 0) is))

-- the place that is answered
pub placed_at : {answer place : Option ℕ} {p : ℕ} → answer ≡ place → answer ≡ Some p → p ≡ unwrap_or place 0
placed_at is some = ap (λ o. unwrap_or o 0) (sym some ∙ is)

-- the farther of a place that may be there and another
pub farther : (last : Option ℕ) (place : ℕ) → unwrap_or (ord_max (option_cmp nat_cmp) last (Some place)) 0 ≡ max (unwrap_or last 0) place
farther None place = omega arith
farther (Some last) place = grind arith

pub choice_of : (c : Choice) → IsChoice (figures_of c.figures) (brews_of c)
choice_of c = record { size = c.size; ascending = brews_ascending 0 c.figures.brews c.figures.brews c.bits (omega arith) }

module _ {T B : Type 0} {ts : Ghosts T} {bs : Ghosts B} (o : OpenMarket T B ts bs) where
  abbrev pub w : Market
  w = market_in o

  abbrev pub cs : List ℕ
  cs = brews_opened o

  abbrev pub takers_book : Meaning
  takers_book = ts.meaning o.books.now.takers.now

  abbrev pub brews_book : Meaning
  brews_book = bs.meaning o.books.now.brews.now

  pub takers_sound : Sound takers_book
  takers_sound = o.books.now.brews_ranked.sound

  pub brews_sound : Sound brews_book
  brews_sound = o.books.now.takers_ranked.sound

  pub sound_market : SoundMarket w
  sound_market = market_from_books _ _ _ (limits_of o.choice.now.figures) takers_sound brews_sound o.complete

  pub is_choice : IsChoice w.figures cs
  is_choice = choice_of o.choice.now

  -- numbers fit the tables of a run
  pub taker_fits : (s : ℕ) → s < w.figures.takers → s < 432
  taker_fits s l = omega (arith, takers_sound.few_choosers, o.complete.a_taker_each)

  pub brew_fits : (c : ℕ) → IsBrew w c → (1 ≤ c) × (c < 17)
  brew_fits c brew =
      let parts = and_parts (leb 1 c) (leb c o.choice.now.figures.brews) brew in
      (leb-true 1 c parts.0, omega (arith, leb-true c o.choice.now.figures.brews parts.1, o.choice.now.figures.few_brews))

  -- a brew places every taker
  pub place_fits : (c t : ℕ) → IsBrew w c → t < w.figures.takers → (1 ≤ w.taker_place c t) × (w.taker_place c t ≤ w.figures.takers)
  place_fits c t brew l =
      let b : Meaning = brews_book in
      let parts = and_parts (leb 1 c) (leb c o.choice.now.figures.brews) brew in
      let low = leb-true 1 c parts.0 in
      let high = leb-true c o.choice.now.figures.brews parts.1 in
      let back : c - 1 + 1 ≡ c = omega arith in
      let chooser : c - 1 < b.choosers = omega (arith, o.complete.a_brew_each) in
      let item : t < b.items = omega (arith, o.complete.of_takers) in
      let is : place_of b (c - 1 + 1) (t + 1) ≡ place_of b c (t + 1) = ap (λ k. place_of b k (t + 1)) back in
      (omega (arith, place_low brews_sound o.complete.brews_ordered (c - 1) chooser t item), omega (arith, place_high brews_sound o.complete.brews_ordered (c - 1) chooser t item, o.complete.of_takers))

  -- going towards the front, past a taker that is not held
  pub none_nearer : (a : List ℕ) (waiting : List Bool) (c places p r : ℕ) → IsBrew w c → AtPlace w c (p - 1) r → holds a waiting c r ≡ false → NoneBehind w a waiting c places p → NoneBehind w a waiting c places (p - 1)
  none_nearer a waiting c places p r brew here unheld none t l h near =
      let apart : w.taker_place c t ≡ w.taker_place c r → ⊥ = λ e. both_ways _ unheld (subst (λ k. holds a waiting c k ≡ true) (sound_market.takers_apart c t r brew l here.taker e) h) in
      omega (arith, none t l h near, here.there)

  -- the next brew of a taker is one of a run's
  pub next_fits : (s place d : ℕ) → NextAfter w s cs place (Some d) → d < 17
  next_fits s place d next = (brew_fits d (choice_within (figures_of o.choice.now.figures) cs is_choice d next.0)).1

  -- a brew's row stands in the table, and a taker's
  pub brew_row : (k : ℕ) → k < o.choice.now.figures.brews → k * o.books.now.by_brew.items + o.books.now.by_brew.items ≤ 6912
  brew_row k l =
      let wide : k * o.books.now.by_brew.items ≡ k * brews_book.items = ap (λ n. k * n) o.books.now.takers_ranked.wide in
      omega (arith, o.books.now.takers_ranked.wide, brews_sound.few_places, row_end k brews_book.choosers brews_book.items (omega (arith, o.complete.a_brew_each)))

  pub taker_row : (s : ℕ) → s < o.choice.now.figures.takers → s * o.books.now.by_taker.items + o.books.now.by_taker.items ≤ 6912
  taker_row s l =
      let wide : s * o.books.now.by_taker.items ≡ s * takers_book.items = ap (λ n. s * n) o.books.now.brews_ranked.wide in
      omega (arith, o.books.now.brews_ranked.wide, takers_sound.few_places, row_end s takers_book.choosers takers_book.items (omega (arith, o.complete.a_taker_each)))

  -- what stands in a brew's row is the number of a taker, at that place
  pub taker_found : (c p : ℕ) (row : List ℕ) → within c o.choice.now.figures.brews ≡ true → p < o.choice.now.figures.takers
      → row ≡ slice_range o.books.now.by_brew.table ((c - 1) * o.books.now.by_brew.items) ((c - 1) * o.books.now.by_brew.items + o.books.now.by_brew.items) → AtPlace w c p (get_or row p 0 - 1)
  taker_found c p row brew h is =
      let parts = and_parts _ _ brew in
      let low = leb-true 1 c parts.0 in
      let high = leb-true c o.choice.now.figures.brews parts.1 in
      let table = o.books.now.by_brew.table in
      let wide = o.books.now.takers_ranked.wide in
      let x : ℕ = get_or row p 0 in
      let at : x ≡ get_or table ((c - 1) * brews_book.items + p) 0 =
      ap (λ r. get_or r p 0) is ∙ get_or-row table _ _ p (omega (arith, wide, o.complete.of_takers)) ∙ ap (λ n. get_or table ((c - 1) * n + p) 0) wide in
      let stands : (within x brews_book.items ≡ true) × (place_of brews_book (c - 1 + 1) x ≡ p + 1) =
      subst (λ y. (within y brews_book.items ≡ true) × (place_of brews_book (c - 1 + 1) y ≡ p + 1)) (sym at)
      (o.books.now.takers_ranked.ranks (c - 1) p (omega (arith, o.complete.a_brew_each)) (omega (arith, o.complete.of_takers))) in
      let number = and_parts _ _ stands.0 in
      let first = leb-true 1 x number.0 in
      let last = leb-true x brews_book.items number.1 in
      let brew_back : c - 1 + 1 ≡ c = omega arith in
      let taker_back : x ≡ x - 1 + 1 = omega arith in
      record { taker = omega (arith, o.complete.of_takers); there = subst (λ y. place_of brews_book c y ≡ p + 1) taker_back (subst (λ k. place_of brews_book k x ≡ p + 1) brew_back stands.1) }

  -- the first of the choice's brews that is found behind a place in a taker's row is the next
  pub brew_found : (s place : ℕ) (row rest : List ℕ) → s < o.choice.now.figures.takers → place ≤ o.choice.now.figures.brews
      → row ≡ slice_range o.books.now.by_taker.table (s * o.books.now.by_taker.items) (s * o.books.now.by_taker.items + o.books.now.by_taker.items) → rest ≡ drop place row
      → (next : Option ℕ) → MatchOption next (AllWithin (λ d. among cs d ≡ false) rest 0 (length rest))
      (λ d. (among cs d ≡ true) × (i : ℕ) × (i < length rest) × HoldsAt (λ x. x ≡ d) rest i × AllWithin (λ x. among cs x ≡ false) rest 0 i)
      → NextAfter w s cs place next
  brew_found s place row rest l near is behind next =
      let table = o.books.now.by_taker.table in
      let n = o.books.now.by_taker.items in
      let wide = o.books.now.brews_ranked.wide in
      let room = taker_row s l in
      let many : length row ≡ n = ap length is ∙ omega (arith, length-take (s * n + n - s * n) (drop (s * n) table), length-drop (s * n) table, o.books.now.by_taker.long) in
      let few : length rest ≡ length row - place = ap length behind ∙ length-drop place row in
      next_found takers_sound o.complete is_choice s l table o.books.now.brews_ranked.ranks place rest
      (omega (arith, wide, o.complete.of_brews))
      (λ i m.
      ap (λ xs. get_or xs i 0) behind
      ∙ get_or-drop place row i 0
      ∙ ap (λ xs. get_or xs (place + i) 0) is
      ∙ get_or-row table (s * n) n (place + i) (omega arith)
      ∙ ap (λ k. get_or table (s * k + (place + i)) 0) wide)
      next
