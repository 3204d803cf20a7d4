-- What happens when two heads meet, by document 01, "The list and the partition". Assumes nothing.
use Rattle.std.specs.Prelude.{ℕ, ◌≡◌, cond, ◌&&◌, ◌||◌}
use Rattle.words.specs.Word.{same_kind}
use Rattle.words.specs.Head.{kind_of_head, is_variable, is_function, symbol_of, heads_agree}
use Rattle.words.specs.declared.kind.Kind.{Kind}
use Rattle.words.specs.declared.kind.Kind.TheVariants.{Variable, Constant, Function}
use Rattle.words.specs.declared.head.Head.{Head}
use Rattle.words.specs.declared.meeting.Action.{Action}
use Rattle.words.specs.declared.meeting.Outcome.{Outcome}

-- "The nine meetings of kinds (variable, constant, function against the same three)", said without the table: a variable joins
-- with anything; two constants join if the labels agree; two functions join and go down if label and count agree; else clash.
abbrev pub meeting_of_kinds : Kind → Kind → Action
meeting_of_kinds l r =
    cond (same_kind l Variable || same_kind r Variable) Action.Join
    (cond (same_kind l Constant && same_kind r Constant) Action.JoinIfLabelsAgree
    (cond (same_kind l Function && same_kind r Function) Action.GoDownIfSymbolsAgree
    Action.Clash))

-- the meeting of two heads is that of their kinds
abbrev pub meeting_of : Head → Head → Action
meeting_of l r = meeting_of_kinds (kind_of_head l) (kind_of_head r)

-- the place of a head's kind among the three
abbrev pub head_number : Head → ℕ
head_number (Head.Variable l) = 0
head_number (Head.Constant l) = 1
head_number (Head.Function l n) = 2

-- What comes of two heads: a variable is joined with anything, and two others if they agree; functions then go down to their children.
abbrev pub outcome_of : Head → Head → Outcome
outcome_of l r =
    cond (is_variable l || is_variable r) Outcome.Joined
    (cond (heads_agree l r) (cond (is_function l) Outcome.JoinedGoDown Outcome.Joined) Outcome.Clash)

-- "two non-variable nodes together with different symbols", said of their heads
abbrev pub DifferentSymbols : Head → Head → Type 0
DifferentSymbols l r =
    (kind_of_head l ≡ Variable → ⊥) × ((kind_of_head r ≡ Variable → ⊥) × (symbol_of l ≡ symbol_of r → ⊥))

-- "two functions with one symbol", said of their heads
abbrev pub FunctionsOfOneSymbol : Head → Head → Type 0
FunctionsOfOneSymbol l r = (kind_of_head l ≡ Function) × ((kind_of_head r ≡ Function) × (symbol_of l ≡ symbol_of r))
