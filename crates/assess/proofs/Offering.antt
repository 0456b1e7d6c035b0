-- Records offered to a line one by one.
use Rattle.std.proofs.Common.{◌≡◌, ℕ, ◌+◌, ◌-◌, ◌<◌, ◌≤◌, List, [], ◌∷◌, ◌++◌, length, get_or, take, drop, set, Ok, Err, Result, sym, refl, ap, ◌∙◌, subst, add-one, arith}
use Rattle.std.proofs.lemmas.List.{append_assoc, append-nil, drop_more, length-append, length-drop, length_push, length-take, set_at, take_all, take-append-le}
use Rattle.std.proofs.lemmas.Bool.{cond_both}
use Rattle.std.proofs.Math.Seq.{take-nil}
use Rattle.line.proofs.Round.{vacant_from_first}
use Rattle.line.specs.Waiting.{held, start, vacant, Begun, Put, PutDone, PutRefused}
use Rattle.line.specs.declared.fault.LineFault.{LineFault}
use Rattle.line.specs.declared.ring.Line.{Line}
use Rattle.assess.specs.EnvyList.{gathered, Offered, OffersMore, OffersAll}
use Rattle.assess.specs.declared.envy.Envy.{Envy}

-- To an emptied line nothing is offered yet.
pub none_offered : (before : List Envy) (line : Line) → Begun 0 line → Offered before [] line before
none_offered before line begun =
    record {
      holds = cond_both _ _ _ (λ v. v ≡ []) (λ _. ap (λ k. take k (drop line.head (before ++ before))) begun.none) (λ _. refl) ∙ sym (take-nil (length before));
      stand = ap (λ k. k ++ drop (length k) before) (sym (take-nil (length before)));
      first = cond_both _ _ _ (λ v. v ≡ 0) (λ _. begun.first) (λ _. refl);
    }

module _ (before records : List Envy) (s t : Line) (xs ys : List Envy) (x : Envy) (stays : start t ys ≡ start s xs) (was : Offered before records s xs) where
  abbrev n : ℕ
  n = length before

  -- what the line took
  abbrev taken : List Envy
  taken = take n records

  long : length xs ≡ n
  long = omega (arith, ap length was.stand, length-append taken (drop (length taken) before), length-drop (length taken) before, length-take n records)

  put_done : PutDone s xs x t ys → Offered before (records ++ x ∷ []) t ys
  put_done put =
      let many : length (held s xs) ≡ length taken = ap length was.holds in
      let fewer : length records < n = omega (arith, put.room, long, many, length-take n records) in
      let all : taken ≡ records = take_all n records (omega arith) in
      let more : take n (records ++ x ∷ []) ≡ records ++ x ∷ [] = take_all n (records ++ x ∷ []) (omega (arith, length_push records x)) in
      let place : vacant s xs ≡ length records = vacant_from_first s xs was.first put.room ∙ many ∙ ap length all in
      let stood : xs ≡ records ++ get_or before (length records) x ∷ drop (length records + 1) before =
      was.stand ∙ ap (λ k. k ++ drop (length k) before) all ∙ ap (λ rest. records ++ rest) (drop_more before (length records) x fewer) in
      let stands : (records ++ x ∷ []) ++ drop (length (records ++ x ∷ [])) before ≡ records ++ x ∷ drop (length records + 1) before =
      append_assoc records (x ∷ []) _ ∙ ap (λ k. records ++ x ∷ drop k before) (length_push records x) in
      record {
        holds = put.behind ∙ ap (λ k. k ++ x ∷ []) (was.holds ∙ all) ∙ sym more;
        stand =
            put.slots ∙ ap (λ k. set xs k x) place ∙ ap (λ zs. set zs (length records) x) stood ∙ set_at records _ _ x (length records) refl
            ∙ sym stands ∙ ap (λ k. k ++ drop (length k) before) (sym more);
        first = stays ∙ was.first;
      }

  put_refused : (fault : LineFault) → PutRefused s xs t ys fault → Offered before (records ++ x ∷ []) t ys
  put_refused fault put =
      let enough : n ≤ length records = omega (arith, put.full, long, ap length was.holds, length-take n records) in
      let same : take n (records ++ x ∷ []) ≡ taken = take-append-le n records (x ∷ []) enough in
      record {
        holds = ap (λ l. held l ys) put.line ∙ ap (held s) put.slots ∙ was.holds ∙ sym same;
        stand = put.slots ∙ was.stand ∙ ap (λ k. k ++ drop (length k) before) (sym same);
        first = stays ∙ was.first;
      }

-- A record is put, or refused for want of room: in either case it was offered.
pub offered : (s t : Line) (xs ys : List Envy) (x : Envy) (r : Result (Unit {0}) LineFault) → Put s xs x t ys r → start t ys ≡ start s xs → OffersMore (x ∷ []) s xs t ys
offered s t xs ys x (Ok done) put stays before records was = put_done before records s t xs ys x stays was put
offered s t xs ys x (Err fault) put stays before records was = put_refused before records s t xs ys x stays was fault put

-- nothing is offered
pub offers_none : (s : Line) (xs : List Envy) → OffersMore [] s xs s xs
offers_none s xs before records was = subst (λ rs. Offered before rs s xs) (sym (append-nil records)) was

-- some and then more
offers_more : (es fs : List Envy) (s t u : Line) (xs ys zs : List Envy) → OffersMore es s xs t ys → OffersMore fs t ys u zs → OffersMore (es ++ fs) s xs u zs
offers_more es fs s t u xs ys zs first second before records was =
    subst (λ rs. Offered before rs u zs) (append_assoc records es fs) (second before (records ++ es) (first before records was))

-- a loop's step
pub gathers_more : {count r : ℕ} {s t u : Line} {xs ys zs : List Envy} (f : ℕ → List Envy) (n next : ℕ) → next ≡ n + 1 → OffersAll (gathered f n) count s xs t ys → OffersAll (f n) r t ys u zs → OffersAll (gathered f next) (count + r) s xs u zs
gathers_more {s} {t} {u} {xs} {ys} {zs} f n next step first second =
    rw (step, add-one n) (record {
      counted = omega (arith, first.counted, second.counted, length-append (gathered f n) (f n));
      offered = offers_more (gathered f n) (f n) s t u xs ys zs first.offered second.offered;
    })

-- the step of a loop over numbers from 1
pub gathers_next : {count r : ℕ} {s t u : Line} {xs ys zs : List Envy} (f : ℕ → List Envy) (n next : ℕ) → 1 ≤ n → next ≡ n → OffersAll (gathered (λ k. f (k + 1)) (n - 1)) count s xs t ys → OffersAll (f n) r t ys u zs → OffersAll (gathered (λ k. f (k + 1)) next) (count + r) s xs u zs
gathers_next {r = r} {t = t} {u = u} {ys = ys} {zs = zs} f n next some step first second =
    let here : n ≡ n - 1 + 1 = omega arith in
    gathers_more (λ k. f (k + 1)) (n - 1) next (step ∙ here) first (subst (λ k. OffersAll (f k) r t ys u zs) here second)
