-- What stands at a node, at its top, as the crate `words` has it: what a meeting of two nodes goes by. Assumes nothing.
use Rattle.std.specs.Prelude.{List, ℕ, ◌+◌}
use Rattle.words.specs.Word.{same_kind}
use Rattle.words.specs.declared.kind.Kind.{Kind}
use Rattle.words.specs.declared.head.Head.{Head}
use Rattle.table.specs.Table.{choose, kind_at, content_at, label_at}

-- A function with its label and argument count, or a constant or a variable with its label. A word that is not a node is
-- taken for a variable; nobody asks for its head.
unfoldable pub top : List ℕ → ℕ → Head
top t x =
    choose (same_kind (kind_at t x) Kind.Function) (Head.Function (label_at t x) (content_at t (x + 1)))
    (choose (same_kind (kind_at t x) Kind.Constant) (Head.Constant (label_at t x)) (Head.Variable (label_at t x)))
