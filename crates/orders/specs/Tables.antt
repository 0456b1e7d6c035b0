-- What a table means.
use Rattle.orders.specs.declared.table.OrderTable.{OrderTable}
use Rattle.orders.specs.Books.{Meaning}
use Rattle.orders.specs.Rows.{order_at}

abbrev pub table_meaning : OrderTable → Meaning
table_meaning table = record {
  choosers = table.choosers;
  items = table.items;
  order = order_at table.choosers table.items table.places;
}
