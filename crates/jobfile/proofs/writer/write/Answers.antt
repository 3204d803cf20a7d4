-- `jobfile::writer::write` meets its contract.
-- Assumes nothing.
use mathlib.Core.Path.{sym, ◌∙◌}
use mathlib.Core.Logic.{inl, inr}
use native.Mathlib.Omega.{arith}
use Rattle.jobfile.proofs.WriterLaws.{copied_behind}
use Rattle.jobfile.proofs.WriteAnswers.{write_contents, write_body, write_file, write_room, write_all}
use Rattle.jobfile.proofs.writer.write.Goals as goal
use Rattle.jobfile.proofs.writer.write.Goals.{then-sizes-ne0-via-then-sizes-ne0, then-sizes-ne0-via-else-sizes-ne0+then-sizes-eq0, then-sizes-ne0-via-else-sizes-ne0+else-sizes-eq0+then-sizes-gt-MOST_SIZES}

pub returns-then-sizes-ne0 : goal.returns-then-sizes-ne0
returns-then-sizes-ne0 c =
    elim c.then-sizes-ne0.branch [
      | then-sizes-ne0-via-then-sizes-ne0 w ↦ write_contents c.args.sizes.now c.args.bodies.now c.args.room.now (inl (omega arith))
      | then-sizes-ne0-via-else-sizes-ne0+then-sizes-eq0 w ↦ write_contents c.args.sizes.now c.args.bodies.now c.args.room.now (inr (inl (omega arith)))
      | then-sizes-ne0-via-else-sizes-ne0+else-sizes-eq0+then-sizes-gt-MOST_SIZES w ↦ write_contents c.args.sizes.now c.args.bodies.now c.args.room.now (inr (inr (omega arith)))
    ]

pub returns-then-bodies-bodies_size : goal.returns-then-bodies-bodies_size
returns-then-bodies-bodies_size c = write_body c.args.sizes.now c.args.bodies.now c.args.room.now (omega arith) (λ e. c.if-bodies-bodies_size.true (e ∙ sym c.bodies_size.ensures))

pub returns-then-end-gt-MOST_BYTES : goal.returns-then-end-gt-MOST_BYTES
returns-then-end-gt-MOST_BYTES c = write_file c.args.sizes.now c.args.bodies.now c.args.room.now (omega arith) (c.if-bodies-bodies_size.false ∙ c.bodies_size.ensures) (omega arith)

pub returns-then-room-end : goal.returns-then-room-end
returns-then-room-end c = write_room c.args.sizes.now c.args.bodies.now c.args.room.now (omega arith) (c.if-bodies-bodies_size.false ∙ c.bodies_size.ensures) (omega arith) (omega arith)

pub returns : goal.returns
returns c = write_all c.args.sizes.now c.args.bodies.now c.args.room.now (omega arith) (c.if-bodies-bodies_size.false ∙ c.bodies_size.ensures) (omega arith) (omega arith) c.put_contents.ensures
    (copied_behind _ c.args.bodies.now _ (omega arith) c.copy.ensures)
