use Rattle.std.proofs.Common.{ap}
use mathlib.Core.Path.{fun_ext}
use Rattle.orders.proofs.Written.{rewritten, row_fits}
use Rattle.orders.proofs.table.OrderTable.keep.Goals as goal

pub slice_bounds-copy_from_slice-end : goal.slice_bounds-copy_from_slice-end
slice_bounds-copy_from_slice-end c = row_fits c.args.self.now c.args.chooser c.requires.known

pub invariant_of-self : goal.invariant_of-self
invariant_of-self c =
    let self = c.args.self.now in
    let new = rewritten self c.args.chooser c.args.row.now _ c.requires.known c.requires.order c.copy_from_slice.ensures.after in
    record { sizes = self.sizes; long = new.long; orders = new.held }

pub returns : goal.returns
returns c =
    let self = c.args.self.now in
    let new = rewritten self c.args.chooser c.args.row.now _ c.requires.known c.requires.order c.copy_from_slice.ensures.after in
    ap (λ orders. record { choosers = self.choosers; items = self.items; order = orders }) (fun_ext new.orders)
