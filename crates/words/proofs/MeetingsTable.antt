-- The table of meetings is the rule, tabulated: one computed test of the whole table, and one law that reads it at two heads.
-- Assumes nothing.
use Prim.Native.Nat.{ℕ}
use mathlib.Core.Path.{◌≡◌, refl}
use mathlib.Core.List.{List, [], map}
use lib.ListN.{get_or}
use Rattle.words.specs.Word.{node_kinds}
use Rattle.words.specs.Head.{kind_of_head}
use Rattle.words.specs.Meeting.{meeting_of_kinds, meeting_of, head_number}
use Rattle.words.specs.declared.kind.Kind.{Kind}
use Rattle.words.specs.declared.head.Head.{Head}
use Rattle.words.specs.declared.head.Head.TheVariants.{Variable, Constant, Function}
use Rattle.words.specs.declared.meeting.Action.{Action}

-- "three rows of three": the rule at each kind of node against each
abbrev pub tabulated : List (List Action)
tabulated = map (λ (left : Kind). map (meeting_of_kinds left) node_kinds) node_kinds

-- what is tabulated by the kinds of nodes is read at a head's number
entry :
    {A : Type 0} (rule : Kind → A) (default : A) (h : Head) →
    get_or (map rule node_kinds) (head_number h) default ≡ rule (kind_of_head h)
entry rule default (Variable l) = refl
entry rule default (Constant l) = refl
entry rule default (Function l n) = refl

pub meeting_at :
    (table : List (List Action)) (default : Action) (left right : Head) (i j : ℕ) →
    table ≡ tabulated →
    i ≡ head_number left →
    j ≡ head_number right →
    get_or (get_or table i []) j default ≡ meeting_of left right
meeting_at table default left right i j test row column =
    rw (test, row, column, entry (λ (k : Kind). map (meeting_of_kinds k) node_kinds) [] left)
    (entry (meeting_of_kinds (kind_of_head left)) default right)
