-- What the layout scan wants next, as the definitions of the row of items have it. For this crate alone. Assumes nothing.
use Rattle.table.specs.Layout.{item, count, arguments, Wanted as Next}
use Rattle.shape.specs.declared.layout_fault.Wanted.{Wanted}

-- what may stand next
abbrev pub wanted_of : Wanted → Next
wanted_of Wanted.Item = item
wanted_of Wanted.Count = count
wanted_of (Wanted.Arguments left) = arguments left
