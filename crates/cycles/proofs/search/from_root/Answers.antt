-- `cycles::search::from_root` meets its contract. A turn ends by a way out of proofs/GoingDown.antt or proofs/ComingBack.antt, from
-- what was read on the way there. Assumes nothing.
use mathlib.Core.Path.{◌≡◌, refl, sym, ap, ◌∙◌}
use mathlib.Core.List.{List}
use Prim.Native.Nat.{ℕ, ◌<◌}
use native.Mathlib.Omega.{arith}
use lib.ListN.{length, set}
use Rattle.graphs.specs.Partition.{entry}
use Rattle.table.specs.Table.{degree, child_of}
use Rattle.cycles.specs.Digraph.{digraph_of, Searchable}
use Rattle.cycles.specs.Steps.Marks.{mark, finished_mark, OpenEdge, Over}
use Rattle.cycles.proofs.Stores.{grown_none, grown_join}
use Rattle.cycles.proofs.Passing.{sure}
use Rattle.cycles.proofs.Turns.{SearchGoing, turning, end_inside}
use Rattle.cycles.proofs.GoingDown.{Facing, room_there, closing, going_down}
use Rattle.cycles.proofs.ComingBack.{Leaving, back_inside, coming_back, coming_out}
use Rattle.cycles.proofs.Roots.{stopped_later, rooted, ended}
use Rattle.cycles.proofs.search.from_root.Goals as goal

-- ---- what a turn has in hand: the edge to follow, and x finished

module _ (t class : List ℕ) {w : List ℕ} {depth x i : ℕ} (going : SearchGoing (digraph_of t class) w depth x i) (some : 0 < depth) where
  x_inside : x < length t
  x_inside = end_inside going.search some (going.end some)

  facing : {j y : ℕ} → Searchable t class → OpenEdge (digraph_of t class) w x i j → y ≡ entry class (child_of t x j) → Facing (digraph_of t class) w depth x j y
  facing {j} S edge read =
      let name : entry class (child_of t x j) < length t = S.name_inside x j edge.more in
      record {
        turning = turning going some edge.over;
        more = edge.more;
        leads = sym read;
        inside = omega (arith, read, name);
        unfinished = λ e. edge.leads_on (sym (ap (mark w) read) ∙ e);
      }

  leaving : {w' : List ℕ} → Over (digraph_of t class) x i (degree t x) → w' ≡ set w x finished_mark → Leaving (digraph_of t class) w w' depth x
  leaving over stored = record { turning = turning going some over; stored = stored }

-- ---- the goals

pub push-requires : goal.push-requires
push-requires c = (omega (arith, c.requires.1.room, c.requires.2), c.requires.2, c.requires.0.readable.small)

pub loop-depth-init : goal.loop-depth-init
loop-depth-init c = ((rooted c.requires.1 c.requires.2 c.requires.3 c.push.ensures).going, grown_none)

pub pass_over-requires : goal.pass_over-requires
pass_over-requires c =
    let going : _ = c.loop-depth.invariant.0 in (
      c.requires.0,
      sure going.search,
      x_inside c.args.table.now c.args.class.now going c.loop-depth-test.true,
      (going.over c.loop-depth-test.true).within,
    )

pub next-y-requires : goal.next-y-requires
next-y-requires c = (c.requires.0, c.in-Some.ensures.more)

pub bounds-work-y : goal.bounds-work-y
bounds-work-y c =
    let F : _ = facing c.args.table.now c.args.class.now c.loop-depth.invariant.0 c.loop-depth-test.true c.requires.0 c.in-Some.ensures c.next-y.ensures in
    omega (arith, F.inside, c.loop-depth.invariant.0.search.room)

pub returns-then-work-y-ne0 : goal.returns-then-work-y-ne0
returns-then-work-y-ne0 c =
    let F : _ = facing c.args.table.now c.args.class.now c.loop-depth.invariant.0 c.loop-depth-test.true c.requires.0 c.in-Some.ensures c.next-y.ensures in
    stopped_later (grown_join (rooted c.requires.1 c.requires.2 c.requires.3 c.push.ensures).grown c.loop-depth.invariant.1)
    (closing F c.if-work-y-ne0.true)

pub follow-requires : goal.follow-requires
follow-requires c =
    let F : _ = facing c.args.table.now c.args.class.now c.loop-depth.invariant.0 c.loop-depth-test.true c.requires.0 c.in-Some.ensures c.next-y.ensures in (
      omega (arith, room_there F c.if-work-y-ne0.false, c.loop-depth.invariant.0.search.room),
      x_inside c.args.table.now c.args.class.now c.loop-depth.invariant.0 c.loop-depth-test.true,
      omega (arith, F.more, c.loop-depth.invariant.0.search.few_edges c.loop-depth.x),
      F.inside,
      c.requires.0.readable.small,
    )

pub overflow_add-depth : goal.overflow_add-depth
overflow_add-depth c = omega (arith, c.loop-depth.invariant.0.search.few, c.requires.0.readable.small)

pub loop-depth-smaller-in-Some : goal.loop-depth-smaller-in-Some
loop-depth-smaller-in-Some c =
    let F : _ = facing c.args.table.now c.args.class.now c.loop-depth.invariant.0 c.loop-depth-test.true c.requires.0 c.in-Some.ensures c.next-y.ensures in
    (going_down F c.if-work-y-ne0.false c.follow.ensures).less

pub loop-depth-preserved-in-Some : goal.loop-depth-preserved-in-Some
loop-depth-preserved-in-Some c =
    let F : _ = facing c.args.table.now c.args.class.now c.loop-depth.invariant.0 c.loop-depth-test.true c.requires.0 c.in-Some.ensures c.next-y.ensures in
    let down : _ = going_down F c.if-work-y-ne0.false c.follow.ensures in
    (down.going, grown_join c.loop-depth.invariant.1 down.grown)

pub finish-requires : goal.finish-requires
finish-requires c =
    omega (
      arith,
      x_inside c.args.table.now c.args.class.now c.loop-depth.invariant.0 c.loop-depth-test.true,
      c.loop-depth.invariant.0.search.room,
    )

pub end-x-requires : goal.end-x-requires
end-x-requires c =
    let S : _ = c.loop-depth.invariant.0.search in
    (c.if-depth-gt0.true, omega (arith, S.few), omega (arith, S.room, c.finish.auto.work), c.requires.0.readable.small)

pub bounds-work-x : goal.bounds-work-x
bounds-work-x c =
    let L : _ = leaving c.args.table.now c.args.class.now c.loop-depth.invariant.0 c.loop-depth-test.true c.in_default.ensures c.finish.ensures in
    omega (arith, back_inside L c.if-depth-gt0.true c.end-x.ensures, c.loop-depth.invariant.0.search.room, c.finish.auto.work)

pub returns : goal.returns
returns c = ended c.requires.1 c.requires.2 c.requires.3 c.push.ensures c.loop-depth.invariant.0.search c.loop-depth.invariant.1 c.loop-depth-test.false

pub loop-depth-smaller-then-depth-gt0 : goal.loop-depth-smaller-then-depth-gt0
loop-depth-smaller-then-depth-gt0 c =
    let L : _ = leaving c.args.table.now c.args.class.now c.loop-depth.invariant.0 c.loop-depth-test.true c.in_default.ensures c.finish.ensures in
    (coming_back L c.if-depth-gt0.true c.end-x.ensures refl).less

pub loop-depth-preserved-then-depth-gt0 : goal.loop-depth-preserved-then-depth-gt0
loop-depth-preserved-then-depth-gt0 c =
    let L : _ = leaving c.args.table.now c.args.class.now c.loop-depth.invariant.0 c.loop-depth-test.true c.in_default.ensures c.finish.ensures in
    let back : _ = coming_back L c.if-depth-gt0.true c.end-x.ensures refl in
    (back.going, grown_join c.loop-depth.invariant.1 back.grown)

pub loop-depth-smaller : goal.loop-depth-smaller
loop-depth-smaller c =
    let L : _ = leaving c.args.table.now c.args.class.now c.loop-depth.invariant.0 c.loop-depth-test.true c.in_default.ensures c.finish.ensures in
    (coming_out L c.loop-depth.x c.loop-depth.i c.if-depth-gt0.false).less

pub loop-depth-preserved : goal.loop-depth-preserved
loop-depth-preserved c =
    let L : _ = leaving c.args.table.now c.args.class.now c.loop-depth.invariant.0 c.loop-depth-test.true c.in_default.ensures c.finish.ensures in
    let out : _ = coming_out L c.loop-depth.x c.loop-depth.i c.if-depth-gt0.false in
    (out.going, grown_join c.loop-depth.invariant.1 out.grown)
