-- The entries of a card, two bytes each, and the bytes that they are made of.
use Rattle.std.proofs.Common.{◌≡◌, ℕ, zero, suc, ◌+◌, ◌*◌, ◌<◌, List, [], ◌∷◌, length, get_or, drop, refl, sym, ap, ◌∙◌, arith}
use Rattle.std.specs.List.{concat, slice_index}
use Rattle.std.specs.Simd.{first_chunks}
use Rattle.cards.specs.declared.card.Card.{Card}
use Rattle.cards.specs.Readings.{entry_at}
use Rattle.cards.specs.Steps.{bytes_of, items_of}
use Rattle.std.proofs.lemmas.List.{get_or-take, get_or-drop}

-- joined end to end, the entries are the bytes
joined : (n : ℕ) (bytes : List ℕ) → length bytes ≡ 2 * n → concat (first_chunks 2 n bytes) ≡ bytes
joined zero [] long = refl
joined zero (x ∷ xs) long = absurd (omega (arith, long))
joined (suc n) [] long = absurd (omega (arith, long))
joined (suc n) (x ∷ []) long = absurd (omega (arith, long))
joined (suc n) (x ∷ y ∷ xs) long = ap (λ ys. x ∷ y ∷ ys) (joined n xs (omega (arith, long)))

-- byte j of entry k
byte_of : (n k j i : ℕ) (bytes : List ℕ) → k < n → j < 2 → 2 * k + j ≡ i → slice_index (get_or (first_chunks 2 n bytes) k []) j ≡ slice_index bytes i
byte_of zero k j i bytes h l at = absurd (omega arith)
byte_of (suc n) zero j i bytes h l at = get_or-take 2 bytes j 0 l ∙ ap (λ m. get_or bytes m 0) (omega (arith, at))
byte_of (suc n) (suc k) j i bytes h l at =
    byte_of n k j (2 * k + j) (drop 2 bytes) (omega arith) l refl ∙ get_or-drop 2 bytes (2 * k + j) 0 ∙ ap (λ m. get_or bytes m 0) (omega (arith, at))

-- the entries of bytes, and the bytes of entries
module _ (n : ℕ) (bytes : List ℕ) (entries : List (List ℕ)) (long : length bytes ≡ 2 * n) (made : entries ≡ first_chunks 2 n bytes) where
  pub bytes_back : concat entries ≡ bytes
  bytes_back = ap concat made ∙ joined n bytes long

  pub in_pairs : length entries ≡ n → entries ≡ first_chunks 2 (length entries) (concat entries)
  in_pairs many = made ∙ ap (λ m. first_chunks 2 m bytes) (sym many) ∙ ap (λ bs. first_chunks 2 (length entries) bs) (sym bytes_back)

-- the number that entry k is
pub number_of : (card : Card) (k : ℕ) → k < items_of card → slice_index (get_or card.entries.now k []) 0 * 256 + slice_index (get_or card.entries.now k []) 1 ≡ entry_at (bytes_of card) k
number_of card k h =
    let byte : (j i : ℕ) → j < 2 → 2 * k + j ≡ i → slice_index (get_or card.entries.now k []) j ≡ slice_index (bytes_of card) i =
    λ j i l at. ap (λ (es : List (List ℕ)). slice_index (get_or es k []) j) card.pairs ∙ byte_of (length card.entries.now) k j i (bytes_of card) h l at in
    omega (arith, byte 0 (2 * k) (omega arith) (omega arith), byte 1 (2 * k + 1) (omega arith) refl)
