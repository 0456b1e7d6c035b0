-- The lines of one item more, where it has a place and where it has none.
use Rattle.std.proofs.Common.{◌≡◌, ℕ, ◌+◌, ◌-◌, ◌≤◌, Option, Some, None, List, [], ◌∷◌, ◌++◌, sym, ap, ◌∙◌, append-nil, arith}
use Rattle.std.proofs.lemmas.List.{flat_map_more, map-id}
use Rattle.std.proofs.lemmas.List.FromFn.{map-range_with_len_more}
use Rattle.std.specs.List.{flat_map, range_with_len}
use Rattle.orders.specs.Books.{Meaning, place_in}
use Rattle.readcard.specs.Asked.{lines_in, place_line}
use Rattle.readcard.specs.declared.line.Line.{Line}
use Rattle.readcard.specs.declared.line.Line.TheVariants.{Ok as OkLine, Place}

items_more : (n : ℕ) → range_with_len 1 n ++ (n + 1) ∷ [] ≡ range_with_len 1 (n + 1)
items_more n =
    ap (λ xs. xs ++ (n + 1) ∷ []) (sym (map-id (range_with_len 1 n)))
    ∙ sym (map-range_with_len_more (λ (x : ℕ). x) 1 n (n + 1) (omega arith))
    ∙ map-id (range_with_len 1 (n + 1))

lines_more : (book : Meaning) (n : ℕ) → lines_in book n ++ place_line (n + 1) (place_in book 1 (n + 1)) ≡ lines_in book (n + 1)
lines_more book n =
    let line_of : ℕ → List Line = λ item. place_line item (place_in book 1 item) in
    flat_map_more line_of (OkLine ∷ []) (range_with_len 1 n) (n + 1) ∙ ap (λ items. OkLine ∷ flat_map line_of items) (items_more n)

module _ (book : Meaning) (item : ℕ) (lines : List Line) (counted : 1 ≤ item) (before : lines ≡ lines_in book (item - 1)) where
  lines_then : (place : Option ℕ) → place ≡ place_in book 1 item → lines ++ place_line item place ≡ lines_in book item
  lines_then place is =
      let back : item - 1 + 1 ≡ item = omega arith in
      ap (λ xs. xs ++ place_line item place) before
      ∙ ap (λ o. lines_in book (item - 1) ++ place_line item o) is
      ∙ rw back at (lines_more book (item - 1))

  pub lines_some : (place : ℕ) → Some place ≡ place_in book 1 item → lines ++ Place item place ∷ [] ≡ lines_in book item
  lines_some place = lines_then (Some place)

  pub lines_none : None ≡ place_in book 1 item → lines ≡ lines_in book item
  lines_none is = sym (append-nil lines) ∙ lines_then None is
