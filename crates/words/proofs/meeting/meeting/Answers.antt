-- `words::meeting::meeting` meets its contract. `refl` is the one test of the whole table: it is the rule, tabulated. Assumes nothing.
use mathlib.Core.Path.{refl}
use Rattle.words.proofs.MeetingsTable.{meeting_at}
use Rattle.words.proofs.meeting.meeting.Goals as goal

pub returns : goal.returns
returns c = meeting_at _ _ c.args.left c.args.right _ _ refl
    c.place-row.ensures.0 c.place-column.ensures.0
