-- A verdict that computes, that it is a right one, and that there is no other.
use Rattle.std.proofs.Common.{◌≡◌, ℕ, zero, suc, ◌+◌, ◌-◌, ◌<◌, Bool, true, false, cond, not, ◌||◌, eqb, List, length, Decides, sym, refl, ap, ◌∙◌, subst, ⊎_elim, arith}
use Rattle.std.proofs.lemmas.Bool.{both_ways, not-true, not_from_false, cases_lt, cases_order, eq-eqb, ne_eqb, eqb-true, eqb-false, leb-true, and_parts, cond-true, cond-false, cond_both}
use Rattle.std.proofs.lemmas.Bool.Decides.{Decides-eqb, Decides-ltb, Decides-like, Decides-or, Decides-not, Decides-below_or, not_from_Decides}
use Rattle.orders.specs.Books.{within}
use Rattle.fair.specs.Markets.{Market, SoundMarket, lots_of, prefers}
use Rattle.fair.specs.Choices.{IsChoice, choices, choice_at}
use Rattle.fair.specs.Allotments.{brew_of, takers_with, NamesBrews, FullOrClosed, Feasible, justly_envies, Fair, BestFair, Better}
use Rattle.fair.specs.Acceptance.{deferred_acceptance}
use Rattle.fair.specs.Proposals.{Lowest, Brewless, Envious, LowerThanHouse, NotLowerThanHouse, BetterOver, Verdict, Passed, WrongLength, NoBrew, NotFull, Envies, Lower, Bettered, Judged}
use Rattle.fair.proofs.Lowest.{lowest, Clear, Found, lowest_found}
use Rattle.fair.proofs.Listing.{choices_listed}
use Rattle.fair.proofs.Feasibles.{feasible_from_brews}
use Rattle.fair.proofs.Comparing.{is_better, better_from_test, test_from_better, best_is_unique}
use Rattle.fair.proofs.Rounds.{acceptance_is_best}

-- the verdict that names what was found, or the next one where nothing was
abbrev unless : (ℕ → Verdict) → ℕ → Verdict → Verdict
unless named zero next = next
unless named (suc k) next = named (suc k)

module _ (named : ℕ → Verdict) (next : Verdict) (n : ℕ) (P : ℕ → Type 0) where
  unless_found : (V : Verdict → Type 0) (r : ℕ) → Found n P r → (Clear n P → V next) → ((k : ℕ) → Lowest n P k → V (named k)) → V (unless named r next)
  unless_found V zero found clear low = clear found
  unless_found V (suc k) found clear low = low (suc k) found

  unless_clear : (r : ℕ) → Found n P r → Clear n P → unless named r next ≡ next
  unless_clear r found clear = unless_found (λ v. v ≡ next) r found (λ _. refl) (λ k l. absurd (clear k l.low l.high l.holds))

  -- the lowest is one
  unless_lowest : (r k : ℕ) → Found n P r → Lowest n P k → unless named r next ≡ named k
  unless_lowest r k found l =
      unless_found (λ v. v ≡ named k) r found (λ clear. absurd (clear k l.low l.high l.holds))
      (λ j m. ap named (⊎_elim (λ (e : j ≡ k). e)
      (⊎_elim (λ (h : j < k). absurd (l.not_before j m.low h m.holds)) (λ (h : k < j). absurd (m.not_before k l.low h l.holds)))
      (cases_order j k)))

-- the test passes at one of 0 .. n - 1
abbrev some : (ℕ → Bool) → ℕ → Bool
some p zero = false
some p (suc n) = p n || some p n

-- The tests, by the index of a taker or of a choice.
abbrev brewless : Market → List ℕ → ℕ → Bool
brewless w a s = not (within (brew_of a s) w.figures.brews)

abbrev full_or_closed : Market → List ℕ → ℕ → Bool
full_or_closed w a c = eqb (takers_with w a c) 0 || eqb (takers_with w a c) (lots_of w.figures c)

-- taker s justly envies a taker the brew that one has
abbrev envious : Market → List ℕ → ℕ → Bool
envious w a s = some (λ t. justly_envies w a s t (brew_of a t)) w.figures.takers

-- taker s ranks its brew in b above its brew in a
abbrev lower_than : Market → List ℕ → List ℕ → ℕ → Bool
lower_than w b a s = prefers w s (brew_of b s) (brew_of a s)

abbrev better_over : Market → List ℕ → ℕ → Bool
better_over w a i = is_better w (deferred_acceptance w (choice_at w.figures i)) a

-- the number, from 1, of the lowest index below n that passes, or 0
abbrev lowest_at : (ℕ → Bool) → ℕ → ℕ
lowest_at p n = lowest (λ k. p (k - 1)) n

-- the verdict by the last test alone, by the last two, and so on
abbrev by_choices : Market → List ℕ → Verdict
by_choices w a = unless Bettered (lowest_at (better_over w a) (length (choices w.figures))) Passed

abbrev by_house : Market → List ℕ → List ℕ → Verdict
by_house w house a = unless Lower (lowest_at (lower_than w (deferred_acceptance w house) a) w.figures.takers) (by_choices w a)

abbrev by_envy : Market → List ℕ → List ℕ → Verdict
by_envy w house a = unless Envies (lowest_at (envious w a) w.figures.takers) (by_house w house a)

abbrev by_lots : Market → List ℕ → List ℕ → Verdict
by_lots w house a = unless NotFull (lowest (λ c. not (full_or_closed w a c)) w.figures.brews) (by_envy w house a)

abbrev by_brews : Market → List ℕ → List ℕ → Verdict
by_brews w house a = unless NoBrew (lowest_at (brewless w a) w.figures.takers) (by_lots w house a)

abbrev pub judge : Market → List ℕ → List ℕ → Verdict
judge w house a = cond (eqb (length a) w.figures.takers) (by_brews w house a) WrongLength

-- What is numbered 1 to n stands at 0 .. n - 1.
abbrev ClearAt : ℕ → (ℕ → Type 0) → Type 0
ClearAt n P = Clear n (λ k. P (k - 1))

abbrev FoundAt : ℕ → (ℕ → Type 0) → ℕ → Type 0
FoundAt n P = Found n (λ k. P (k - 1))

module _ (P : ℕ → Type 0) (n : ℕ) where
  clear_at : ClearAt n P → (s : ℕ) → s < n → P s → ⊥
  clear_at clear s l h = let back : s ≡ s + 1 - 1 = omega arith in clear (s + 1) (omega arith) (omega arith) (subst P back h)

  clear_from : ((s : ℕ) → s < n → P s → ⊥) → ClearAt n P
  clear_from never k low high = never (k - 1) (omega arith)

  lowest_at_found : (p : ℕ → Bool) → ((s : ℕ) → s < n → Decides (p s) (P s)) → FoundAt n P (lowest_at p n)
  lowest_at_found p decides = lowest_found (λ k. p (k - 1)) (λ k. P (k - 1)) n (λ k low high. decides (k - 1) (omega arith))

true_from : (b : Bool) → (b ≡ false → ⊥) → b ≡ true
true_from true h = refl
true_from false h = absurd (h refl)

false_from : (b : Bool) → (b ≡ true → ⊥) → b ≡ false
false_from true h = absurd (h refl)
false_from false h = refl

module _ (w : Market) (a : List ℕ) where
  names_from_clear : length a ≡ w.figures.takers → ClearAt w.figures.takers (Brewless w a) → NamesBrews w a
  names_from_clear each clear = record { each = each; known = λ s l. true_from _ (clear_at (Brewless w a) _ clear s l) }

  clear_from_names : NamesBrews w a → ClearAt w.figures.takers (Brewless w a)
  clear_from_names names = clear_from (Brewless w a) _ (λ s l out. both_ways _ out (names.known s l))

  decides_full : (c : ℕ) → Decides (full_or_closed w a c) (FullOrClosed w a c)
  decides_full c = Decides-or _ _ (Decides-eqb _ _) (Decides-eqb _ _)

  feasible_from_clear : NamesBrews w a → Clear w.figures.brews (λ c. FullOrClosed w a c → ⊥) → Feasible w a
  feasible_from_clear names clear = feasible_from_brews w a names (λ c h.
      let parts = and_parts _ _ h in
      (decides_full c).0 (true_from _ (λ e. clear c (leb-true 1 c parts.0) (leb-true c _ parts.1) (not_from_Decides _ (decides_full c) e))))

  decides_envious : (s : ℕ) → Decides (envious w a s) (Envious w a s)
  decides_envious s =
      let envied = λ (t : ℕ). justly_envies w a s t (brew_of a t) in
      Decides-like _
      (λ found. (found.0, brew_of a found.0, found.1, found.2))
      (λ e. (e.0, e.2, subst (λ c. justly_envies w a s e.0 c ≡ true) (sym (eqb-true _ _ (and_parts _ _ e.3).0)) e.3))
      (Decides-below_or envied (λ t. envied t ≡ true) (some envied) (λ t. (λ h. h, λ h. h)) refl (λ _. refl) w.figures.takers)

  fair_from_clear : ClearAt w.figures.takers (Envious w a) → Fair w a
  fair_from_clear clear s t c ls lt = false_from _ (λ h. clear_at (Envious w a) _ clear s ls (t, c, lt, h))

  clear_from_fair : Fair w a → ClearAt w.figures.takers (Envious w a)
  clear_from_fair fair = clear_from (Envious w a) _ (λ s l e. both_ways _ (fair s e.0 e.1 l e.2) e.3)

module _ (w : Market) (house a : List ℕ) where
  not_lower_from_clear : ClearAt w.figures.takers (LowerThanHouse w house a) → NotLowerThanHouse w house a
  not_lower_from_clear clear b fair s l =
      ⊎_elim (λ (h : w.brew_place s (brew_of b s) < w.brew_place s (brew_of a s)). absurd (clear_at (LowerThanHouse w house a) _ clear s l (b, fair, h))) (λ h. h) (cases_lt _ _)

  clear_from_not_lower : NotLowerThanHouse w house a → ClearAt w.figures.takers (LowerThanHouse w house a)
  clear_from_not_lower not_lower = clear_from (LowerThanHouse w house a) _ (λ s l h. omega (arith, not_lower h.0 h.1 s l))

module _ (w : Market) (sound : SoundMarket w) where
  -- the best fair allotment over a choice is one, so a test of it decides
  decides_best : (cs : List ℕ) → IsChoice w.figures cs → (b : Bool) (P : List ℕ → Type 0) → Decides b (P (deferred_acceptance w cs)) → Decides b ((d : List ℕ) × BestFair w cs d × P d)
  decides_best cs choice b P decides =
      let best = acceptance_is_best w sound cs choice in
      Decides-like b (λ h. (deferred_acceptance w cs, best, h)) (λ d. subst P (best_is_unique w sound cs _ _ d.1 best) d.2) decides

  decides_better : (a : List ℕ) (i : ℕ) → i < length (choices w.figures) → Decides (better_over w a i) (BetterOver w a i)
  decides_better a i l =
      decides_best _ ((choices_listed w.figures).choices_only i l) _ (λ d. Better w d a) (better_from_test w _ a, test_from_better w _ a)

  module _ (house a : List ℕ) (choice : IsChoice w.figures house) where
    found_brewless : FoundAt w.figures.takers (Brewless w a) (lowest_at (brewless w a) w.figures.takers)
    found_brewless = lowest_at_found (Brewless w a) w.figures.takers (brewless w a) (λ s _. (not-true (within (brew_of a s) w.figures.brews), not_from_false _))

    found_not_full : Found w.figures.brews (λ c. FullOrClosed w a c → ⊥) (lowest (λ c. not (full_or_closed w a c)) w.figures.brews)
    found_not_full = lowest_found _ _ w.figures.brews (λ c _ _. Decides-not _ (decides_full w a c))

    found_envious : FoundAt w.figures.takers (Envious w a) (lowest_at (envious w a) w.figures.takers)
    found_envious = lowest_at_found (Envious w a) w.figures.takers (envious w a) (λ s _. decides_envious w a s)

    found_lower : FoundAt w.figures.takers (LowerThanHouse w house a) (lowest_at (lower_than w (deferred_acceptance w house) a) w.figures.takers)
    found_lower = lowest_at_found (LowerThanHouse w house a) w.figures.takers _ (λ s _. decides_best house choice _ (λ b. w.brew_place s (brew_of b s) < w.brew_place s (brew_of a s)) (Decides-ltb _ _))

    found_better : FoundAt (length (choices w.figures)) (BetterOver w a) (lowest_at (better_over w a) (length (choices w.figures)))
    found_better = lowest_at_found (BetterOver w a) (length (choices w.figures)) _ (decides_better a)

    -- a list that passes the tests before is judged rightly by the rest
    judged_by_choices : Feasible w a → Fair w a → NotLowerThanHouse w house a → Judged w house a (by_choices w a)
    judged_by_choices feasible fair not_lower =
        unless_found Bettered Passed (length (choices w.figures)) (λ k. BetterOver w a (k - 1)) (Judged w house a) _ found_better
        (λ clear. record { names_brews = feasible.names_brews; full = λ c _. feasible.full c; fair = fair; not_lower = not_lower; not_bettered = clear_at (BetterOver w a) _ clear })
        (λ o l. (feasible, fair, not_lower, l))

    judged_by_house : Feasible w a → Fair w a → Judged w house a (by_house w house a)
    judged_by_house feasible fair =
        unless_found Lower _ w.figures.takers (λ k. LowerThanHouse w house a (k - 1)) (Judged w house a) _ found_lower (λ clear. judged_by_choices feasible fair (not_lower_from_clear w house a clear)) (λ t l. (feasible, fair, l))

    judged_by_envy : Feasible w a → Judged w house a (by_envy w house a)
    judged_by_envy feasible =
        unless_found Envies _ w.figures.takers (λ k. Envious w a (k - 1)) (Judged w house a) _ found_envious (λ clear. judged_by_house feasible (fair_from_clear w a clear)) (λ t l. (feasible, l))

    judged_by_lots : NamesBrews w a → Judged w house a (by_lots w house a)
    judged_by_lots names =
        unless_found NotFull _ w.figures.brews (λ c. FullOrClosed w a c → ⊥) (Judged w house a) _ found_not_full (λ clear. judged_by_envy (feasible_from_clear w a names clear)) (λ c l. (names, l))

    judged_by_brews : length a ≡ w.figures.takers → Judged w house a (by_brews w house a)
    judged_by_brews each =
        unless_found NoBrew _ w.figures.takers (λ k. Brewless w a (k - 1)) (Judged w house a) _ found_brewless (λ clear. judged_by_lots (names_from_clear w a each clear)) (λ t l. (each, l))

    pub judged : Judged w house a (judge w house a)
    judged = cond_both (eqb (length a) w.figures.takers) _ _ (Judged w house a) (λ e. judged_by_brews (eqb-true _ _ e)) (eqb-false _ _)

    -- a list that passes the first tests is judged by the rest
    past_length : length a ≡ w.figures.takers → judge w house a ≡ by_brews w house a
    past_length each = cond-true _ _ _ (eq-eqb _ _ each)

    past_brews : NamesBrews w a → judge w house a ≡ by_lots w house a
    past_brews names = past_length names.each ∙ unless_clear NoBrew _ _ _ _ found_brewless (clear_from_names w a names)

    past_lots : Feasible w a → judge w house a ≡ by_envy w house a
    past_lots feasible = past_brews feasible.names_brews ∙ unless_clear NotFull _ _ _ _ found_not_full (λ c _ _ out. out (feasible.full c))

    past_envy : Feasible w a → Fair w a → judge w house a ≡ by_house w house a
    past_envy feasible fair = past_lots feasible ∙ unless_clear Envies _ _ _ _ found_envious (clear_from_fair w a fair)

    past_house : Feasible w a → Fair w a → NotLowerThanHouse w house a → judge w house a ≡ by_choices w a
    past_house feasible fair not_lower = past_envy feasible fair ∙ unless_clear Lower _ _ _ _ found_lower (clear_from_not_lower w house a not_lower)

    is_judge : (u : Verdict) → Judged w house a u → judge w house a ≡ u
    is_judge Passed h = past_house (feasible_from_brews w a h.names_brews h.full) h.fair h.not_lower ∙ unless_clear Bettered _ _ _ _ found_better (clear_from (BetterOver w a) _ h.not_bettered)
    is_judge WrongLength h = cond-false _ _ _ (ne_eqb _ _ h)
    is_judge (NoBrew t) h = past_length h.0 ∙ unless_lowest NoBrew _ _ _ _ t found_brewless h.1
    is_judge (NotFull c) h = past_brews h.0 ∙ unless_lowest NotFull _ _ _ _ c found_not_full h.1
    is_judge (Envies t) h = past_lots h.0 ∙ unless_lowest Envies _ _ _ _ t found_envious h.1
    is_judge (Lower t) h = past_envy h.0 h.1 ∙ unless_lowest Lower _ _ _ _ t found_lower h.2
    is_judge (Bettered o) h = past_house h.0 h.1 h.2 ∙ unless_lowest Bettered _ _ _ _ o found_better h.3

    pub judged_once : (u v : Verdict) → Judged w house a u → Judged w house a v → u ≡ v
    judged_once u v h k = sym (is_judge u h) ∙ is_judge v k
