-- Two complete books make a sound market.
use Rattle.std.proofs.Common.{◌≡◌, ℕ, ◌+◌, ◌-◌, ◌<◌, true, List, get_or, Some, unwrap_or, sym, ap, ◌∙◌, subst, arith}
use Rattle.std.proofs.lemmas.Bool.{and_from, cond-true}
use Rattle.std.proofs.lemmas.Bool.Decides.{nat_tests}
use Rattle.std.specs.Option.{option_map}
use Rattle.orders.specs.Books.{Meaning, Sound, place_in, within}
use Rattle.orders.proofs.Written.{row_inside}
use Rattle.fair.specs.Markets.{Figures, InLimits, SoundMarket}
use Rattle.fair.specs.FromBooks.{market_of, AllOrdered, Complete}

-- a chooser of the book gives different items different places
module _ (book : Meaning) (sound : Sound book) (ordered : AllOrdered book) (k : ℕ) (chooser : within k book.choosers ≡ true) where
  place_is : (places : List ℕ) → book.order k ≡ Some places → (x : ℕ) → within x book.items ≡ true → unwrap_or (place_in book k x) 0 ≡ get_or places (x - 1) 0
  place_is places e x item = ap (λ o. unwrap_or o 0) (cond-true _ _ _ (and_from _ _ chooser item) ∙ ap (option_map (λ ps. get_or ps (x - 1) 0)) e)

  items_apart : (x y : ℕ) → within x book.items ≡ true → within y book.items ≡ true → unwrap_or (place_in book k x) 0 ≡ unwrap_or (place_in book k y) 0 → x ≡ y
  items_apart x y hx hy same =
      let (places, e) = ordered k chooser in
      let one : x - 1 ≡ y - 1 = (sound.orders k places e).apart (x - 1) (y - 1) (row_inside x _ hx) (row_inside y _ hy) (sym (place_is places e x hx) ∙ same ∙ place_is places e y hy) in
      grind (arith, nat_tests)

pub market_from_books : (f : Figures) (t b : Meaning) → InLimits f → Sound t → Sound b → Complete f t b → SoundMarket (market_of f t b)
market_from_books f t b limits takers brews complete =
    let known : (n k : ℕ) → n ≡ f.brews → within k f.brews ≡ true → within k n ≡ true = λ n k e. subst (λ m. within k m ≡ true) (sym e) in
    let number : (n s : ℕ) → n ≡ f.takers → s < f.takers → within (s + 1) n ≡ true = λ n s e l. grind (arith, nat_tests) in
    record {
      limits = limits;
      brews_apart = λ s c d l hc hd.
          items_apart t takers complete.takers_ordered (s + 1) (number _ s complete.a_taker_each l) c d (known _ c complete.of_brews hc) (known _ d complete.of_brews hd);
      takers_apart = λ c x y h lx ly same.
          omega (arith, items_apart b brews complete.brews_ordered c (known _ c complete.a_brew_each h) (x + 1) (y + 1) (number _ x complete.of_takers lx) (number _ y complete.of_takers ly) same);
    }
