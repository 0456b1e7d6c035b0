use Rattle.std.proofs.Common.{ap}
use mathlib.Core.Path.{fun_ext}
use Rattle.orders.proofs.Blank.{zeros_held, zeros_order}
use Rattle.orders.proofs.table.OrderTable.without_orders.Goals as goal

pub invariant_of-result-clause-orders : goal.invariant_of-result-clause-orders
invariant_of-result-clause-orders c = zeros_held c.args.choosers c.args.items 6912

pub returns : goal.returns
returns c =
    ap (λ order. record { choosers = c.args.choosers; items = c.args.items; order = order }) (fun_ext (zeros_order c.args.choosers c.args.items 6912))
