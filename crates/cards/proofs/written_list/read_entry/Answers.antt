use Rattle.std.proofs.Common.{Some, sym, refl, ap, ◌∙◌}
use Rattle.std.proofs.lemmas.Result.{err_from_is_err_and}
use Rattle.cards.proofs.Entries.{out_of_range, repeated, listed_more}
use Rattle.cards.specs.Steps.{bytes_of, items_of}
use Rattle.cards.proofs.written_list.read_entry.Goals as goal

pub returns-in_err-check_range : goal.returns-in_err-check_range
returns-in_err-check_range c =
    let card = c.args.card.now in
    let p = err_from_is_err_and c.from_residual.result c.from_residual.ensures.1 in
    let failed = c.in_err-check_range.ensures in
    let first = out_of_range (items_of card) c.args.k c.from-item.result (bytes_of card) c.args.places.now (c.from-item.ensures ∙ c.entry.ensures) c.requires.before.1 in
    rw (p.1, p.2) (first c.requires.before.0 failed.0 ∙ ap Some (sym failed.1), refl)

pub returns-in_err-check_new : goal.returns-in_err-check_new
returns-in_err-check_new c =
    let card = c.args.card.now in
    let p = err_from_is_err_and c.from_residual-in_err-check_new.result c.from_residual-in_err-check_new.ensures.1 in
    let failed = c.in_err-check_new.ensures in
    let first = repeated (items_of card) c.args.k c.from-item.result (bytes_of card) c.args.places.now (c.from-item.ensures ∙ c.entry.ensures) c.requires.before.1 in
    rw (p.1, p.2) (first c.in_ok-check_range.ensures c.requires.before.0 failed.0 ∙ ap Some (sym failed.1), refl)

pub returns : goal.returns
returns c =
    let card = c.args.card.now in
    listed_more (items_of card) c.args.k c.from-item.result (bytes_of card) c.args.places.now (c.from-item.ensures ∙ c.entry.ensures) c.requires.before.1
    c.in_ok-check_range.ensures c.requires.room c.in_ok-check_new.ensures
