use Rattle.std.proofs.Common.{ℕ, ◌+◌, get_or, Ok, sym, ap, ◌∙◌, arith}
use Rattle.std.proofs.lemmas.List.FromFn.{fill_by_all}
use Rattle.std.proofs.lemmas.List.{get_or-take}
use Rattle.tally.specs.Tally.{position}
use Rattle.cards.specs.Readings.{entry_at, list_places, unless}
use Rattle.cards.specs.Steps.{bytes_of, items_of}
use Rattle.cards.proofs.written_list.fill_row.Goals as goal

pub returns : goal.returns
returns c =
    let card = c.args.card.now in
    let listed = c.in_ok-places.ensures.1 in
    let after = c.copy_from_slice.ensures.after in
    let places = fill_by_all (λ (i : ℕ). position (entry_at (bytes_of card)) (i + 1) (items_of card)) c.copy_from_slice.new.self (items_of card) 0 (omega arith)
    (λ k h. ap (λ ys. get_or ys k 0) after ∙ get_or-take _ c.in_ok-places.places k 0 (omega arith) ∙ listed.held k h) in
    ap (λ fault. unless fault (list_places (items_of card) (bytes_of card))) listed.good ∙ ap Ok (sym places)
