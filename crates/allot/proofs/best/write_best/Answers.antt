use Rattle.allot.proofs.best.write_best.Goals as goal

pub returns : goal.returns
returns g c = rw (c.of-books.ensures.of_takers, c.of-books.ensures.of_brews) at c.best_fair.ensures
