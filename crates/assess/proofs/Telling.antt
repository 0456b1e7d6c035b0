-- The just envies over a brew that the taker does not rank above its own, and all of them.
use Rattle.std.proofs.Common.{◌≡◌, ℕ, zero, suc, ◌+◌, ◌-◌, ◌<◌, ◌≤◌, false, ◌&&◌, List, [], ◌++◌, length, get_or, take, sym, refl, ap, ◌∙◌, subst, add-suc, add-zero, append-nil, arith}
use Rattle.std.proofs.lemmas.Bool.{and_right, cond-false, le-ltb, ne_eqb}
use Rattle.std.proofs.lemmas.List.{length-take}
use Rattle.std.proofs.lemmas.List.FromFn.{length-enumerate_from}
use Rattle.std.proofs.Math.ListN.{get_or-eq_default}
use Rattle.std.specs.List.{enumerate_from}
use Rattle.line.specs.Waiting.{Begun}
use Rattle.line.specs.declared.ring.Line.{Line}
use Rattle.fair.specs.Allotments.{brew_of}
use Rattle.fair.specs.FromBooks.{market_of}
use Rattle.fair.specs.Markets.{Figures, Market, favours, prefers}
use Rattle.orders.specs.Books.{Meaning, within}
use Rattle.std.specs.Option.{unwrap_or}
use Rattle.assess.specs.EnvyList.{gathered, envies_over, envy_over, envies_of, Offered, OffersAll, EnviesTold}
use Rattle.assess.specs.declared.envy.Envy.{Envy}
use Rattle.assess.proofs.Counting.{next_numbered}
use Rattle.assess.proofs.EnvyCounts.{length-envies}
use Rattle.assess.proofs.Offering.{gathers_more, none_offered, offers_none}

gathered_none : (f : ℕ → List Envy) → ((k : ℕ) → f k ≡ []) → (n : ℕ) → gathered f n ≡ []
gathered_none f each zero = refl
gathered_none f each (suc n) = ap (λ xs. gathered f n ++ xs) (each n) ∙ append-nil (gathered f n) ∙ gathered_none f each n

-- a brew that is not ranked above the taker's own: there is no envy over it
none_over : (w : Market) (a : List ℕ) (s c n : ℕ) → prefers w s c (brew_of a s) ≡ false → envies_over w a s c n ≡ []
none_over w a s c n below = gathered_none _ (λ t. cond-false _ _ _ (and_right _ _ (ap (λ b. b && favours w c s t) below))) n

-- so nothing is told of it
pub passed_over : (w : Market) (a : List ℕ) (s c n : ℕ) (line : Line) (slots : List Envy) → prefers w s c (brew_of a s) ≡ false → OffersAll (envies_over w a s c n) 0 line slots line slots
passed_over w a s c n line slots below =
    subst (λ es. OffersAll es 0 line slots line slots) (sym (none_over w a s c n below)) (record { counted = refl; offered = offers_none line slots })

-- lists that are empty from i on add nothing
gathered_past : (f : ℕ → List Envy) (i n : ℕ) → ((k : ℕ) → i ≤ k → k < i + n → f k ≡ []) → gathered f (i + n) ≡ gathered f i
gathered_past f i zero none = ap (gathered f) (add-zero i)
gathered_past f i (suc n) none =
    ap (gathered f) (add-suc i n) ∙ ap (λ xs. gathered f (i + n) ++ xs) (none (i + n) (omega arith) (omega arith)) ∙ append-nil (gathered f (i + n)) ∙ gathered_past f i n (λ k l m. none k l (omega arith))

-- what the entry that comes next tells
pub next_told : {count r k x next : ℕ} {t u v : Line} {xs ys zs : List Envy} (f : ℕ → List Envy) (a : List ℕ) (n i : ℕ) → (i < length (enumerate_from 0 (take n a))) × ((k, x) ≡ get_or (enumerate_from 0 (take n a)) i (k, x)) → next ≡ i + 1 → OffersAll (gathered f i) count t xs u ys → (x ≡ brew_of a k → OffersAll (f k) r u ys v zs) → OffersAll (gathered f next) (count + r) t xs v zs
next_told {count} {r} {k} {x} {next} {t} {u} {v} {xs} {ys} {zs} f a n i here step before telling =
    let entry = next_numbered a n i k x here in
    let has : x ≡ brew_of a k = entry.1.1 ∙ ap (brew_of a) (sym entry.0) in
    gathers_more f i next step before (subst (λ j. OffersAll (f j) r u ys v zs) entry.0 (telling has))

-- the takers past the end of the list have no brew, of whom nothing is told
pub all_told : {count : ℕ} {t u : Line} {xs ys : List Envy} (f : ℕ → List Envy) (a : List ℕ) (n i : ℕ) → ((k : ℕ) → brew_of a k ≡ 0 → f k ≡ []) → i ≡ length (enumerate_from 0 (take n a)) → OffersAll (gathered f i) count t xs u ys → OffersAll (gathered f n) count t xs u ys
all_told {count} {t} {u} {xs} {ys} f a n i nothing all before =
    let long : i ≡ length (take n a) = all ∙ length-enumerate_from 0 (take n a) in
    let rest : n ≡ i + (n - i) = omega (arith, long, length-take n a) in
    let past : (k : ℕ) → i ≤ k → k < i + (n - i) → f k ≡ [] =
    λ k l m. nothing k (get_or-eq_default a 0 (omega (arith, long, length-take n a))) in
    subst (λ es. OffersAll es count t xs u ys) (sym (ap (gathered f) rest ∙ gathered_past f i (n - i) past)) before

-- a taker without a brew is no rival
pub no_rival : (w : Market) (a : List ℕ) (s c : ℕ) → 1 ≤ c → (t : ℕ) → brew_of a t ≡ 0 → envy_over w a s c t ≡ []
no_rival w a s c some t none =
    cond-false _ _ _ (ap (λ b. b && (prefers w s c (brew_of a s) && favours w c s t)) (ne_eqb _ _ (λ e. omega (arith, none, e))))

-- it has no envies either: 0 has no place, and none is above that
pub no_envies : (f : Figures) (takers brews : Meaning) (a : List ℕ) (s : ℕ) → brew_of a s ≡ 0 → envies_of (market_of f takers brews) a s ≡ []
no_envies f takers brews a s none =
    let w = market_of f takers brews in
    let place : w.brew_place s 0 ≡ 0 = ap (λ o. unwrap_or o 0) (cond-false _ _ _ (and_right (within (s + 1) takers.choosers) _ refl)) in
    let below : (c : ℕ) → prefers w s c (brew_of a s) ≡ false = λ c. le-ltb _ _ (omega (arith, place, ap (w.brew_place s) none)) in
    gathered_none _ (λ k. none_over w a s (k + 1) f.takers (below (k + 1))) f.brews

pub told : {w : Market} {a : List ℕ} {before slots : List Envy} {begun line : Line} {count : ℕ} (n : ℕ) → n ≡ w.figures.takers → Begun 0 begun → OffersAll (gathered (envies_of w a) n) count begun before line slots → EnviesTold w a before count line slots
told {w} {a} {before} {slots} {begun} {line} {count} n all empty offers =
    let listed : count ≡ length (gathered (envies_of w a) w.figures.takers) = offers.counted ∙ ap (λ k. length (gathered (envies_of w a) k)) all in
    record {
      counted = listed ∙ length-envies w a;
      listed = listed;
      offered = subst (λ k. Offered before (gathered (envies_of w a) k) line slots) all (offers.offered before [] (none_offered before begun empty));
    }
