-- The search from one root and from every name: the root on the path (`rooted`) and off it again (`ended`), what a visit says by
-- its answer (`visited`, `passed_over`), the names visited so far (`Swept`, `visit_found`, `visit_passed`, `swept_all`), and the clearings
-- before and after (`ready`, `started`, `searched`). Assumes nothing.
use mathlib.Core.Path.{◌≡◌, sym, ap, ◌∙◌, subst}
use mathlib.Core.Bool.{Bool, true, false}
use mathlib.Core.List.{List, ◌++◌}
use Prim.Native.Nat.{ℕ, ◌+◌, ◌*◌, ◌≤◌, ◌<◌}
use native.Mathlib.Decide.{ℕ_discrete}
use native.Mathlib.Omega.{arith}
use lib.ListN.{length, get_or, set, drop, replicate, length-append, length-replicate, length-drop}
use Rattle.rows.specs.Placed.{zeroed}
use Rattle.rows.proofs.Laws.{behind_cleared, cleared_zero}
use Rattle.graphs.specs.Partition.{entry}
use Rattle.table.proofs.Readable.{degree_small}
use Rattle.cycles.specs.Digraph.{Digraph, Edge, digraph_of, Searchable, Searched}
use Rattle.cycles.specs.Steps.Marks.{mark, Safe, Search, Grown, FoundCycle, Ended, FromRoot, Visited, Told}
use Rattle.cycles.proofs.Stores.{grown_none, grown_join}
use Rattle.cycles.proofs.Answers.{start, none, begun_safe}
use Rattle.cycles.proofs.Turns.{SearchTurned, started_at, end_begun}

-- ---- one root

pub stopped_later : {D : Digraph} {u v w : List ℕ} → Grown D u v → FoundCycle D v w → FoundCycle D u w
stopped_later g s = record { cycle = s.cycle; behind = s.behind ∙ g.behind }

module _ {D : Digraph} {w w' : List ℕ} {root : ℕ} (S : Search D w 0) (inside : root < D.size) (fresh : mark w root ≡ 0)
    (stored : w' ≡ set (set w root 1) (D.size + 0) root) where
  pub rooted : SearchTurned D w w' 1 root 0
  rooted =
      subst (λ (v : List ℕ). SearchTurned D w v 1 root 0) (sym stored) (started_at S root inside fresh (λ some. absurd (omega arith)))

  root_begun : 0 < mark w' root
  root_begun = end_begun rooted.going.search (omega arith) (rooted.going.end (omega arith))

  -- the path is empty again
  pub ended : {w'' : List ℕ} {depth : ℕ} → Search D w'' depth → Grown D w' w'' → depth ≤ 0 → Ended D w w'' (Safe D root)
  ended {w''} {depth} T g empty =
      record {
        search = empty_path;
        grown = grown_join rooted.grown g;
        holds = begun_safe empty_path root inside (omega (arith, root_begun, g.marks root inside));
      }
    where
      empty_path : Search D w'' 0
      empty_path = subst (Search D w'') (omega arith) T

-- ---- every name

pub visited : (D : Digraph) (row before after : List ℕ) (x : ℕ) (found : Bool) → FromRoot D before after x found → Visited D row before after x found
visited D row before after x true stopped = stopped
visited D row before after x false ended = record { search = ended.search; grown = ended.grown; holds = λ own. ended.holds }

-- x is passed over: every walk from it ends, or it is no name.
pub passed_over : {D : Digraph} (row : List ℕ) {work : List ℕ} {x : ℕ} → Search D work 0 → (entry row x ≡ x → Safe D x)
    → Visited D row work work x false
passed_over row S ends = record { search = S; grown = grown_none; holds = ends }

-- From all names below x every walk ends.
pub record Swept (D : Digraph) (row before work : List ℕ) (x : ℕ) : Type 0 where
  pub search : Search D work 0
  pub grown : Grown D before work
  pub within : x ≤ D.size
  pub ends : (z : ℕ) → z < x → entry row z ≡ z → Safe D z

pub swept_none : {D : Digraph} {row work : List ℕ} → Search D work 0 → Swept D row work work 0
swept_none S = record { search = S; grown = grown_none; within = omega arith; ends = λ z h own. absurd (omega arith) }

module _ {D : Digraph} {row before work after : List ℕ} {x : ℕ} {found : Bool} (swept : Swept D row before work x) (inside : x < D.size)
    (visit : Visited D row work after x found) where
  pub visit_found : found ≡ true → Told D before after true
  visit_found e =
      let stopped : FoundCycle D before after = stopped_later swept.grown (subst (Visited D row work after x) e visit) in
      record { truth = stopped.cycle; behind = stopped.behind }

  pub visit_passed : found ≡ false → Swept D row before after (x + 1)
  visit_passed e =
      record {
        search = ended.search;
        grown = grown_join swept.grown ended.grown;
        within = omega arith;
        ends = λ z h own. go z h own (ℕ_discrete z x);
      }
    where
      ended : Ended D work after (entry row x ≡ x → Safe D x)
      ended = subst (Visited D row work after x) e visit

      go : (z : ℕ) → z < x + 1 → entry row z ≡ z → Dec (z ≡ x) → Safe D z
      go z h own (yes p) = subst (Safe D) (sym p) (ended.holds (sym (ap (entry row) p) ∙ own ∙ p))
      go z h own (no p) = swept.ends z (omega arith) own

-- Edges lead to names alone: where every walk from a name ends, nothing is left to find.
pub swept_all : {t row before work : List ℕ} {x : ℕ} → Searchable t row → Swept (digraph_of t row) row before work x → length t ≤ x
    → Told (digraph_of t row) before work false
swept_all {t} {row} {before} {work} {x} ready swept all =
    record {
      truth = none (λ y z edge. swept.ends z (omega (arith, inside y z edge)) (named y z edge));
      behind = swept.grown.behind;
    }
  where
    inside : (y z : ℕ) → Edge (digraph_of t row) y z → z < length t
    inside y z edge = omega (arith, ready.name_inside y edge.0 edge.1, edge.2)

    named : (y z : ℕ) → Edge (digraph_of t row) y z → entry row z ≡ z
    named y z edge = subst (λ (u : ℕ). entry row u ≡ u) edge.2 (ready.name_own y edge.0 edge.1)

-- ---- the whole

-- after the first clearing
pub started : {t row work : List ℕ} (before : List ℕ) → Searchable t row → 2 * length t ≤ length before → work ≡ zeroed (length t) before
    → Search (digraph_of t row) work 0
started {t} {row} {work} before asked room cleared =
    let long : length work ≡ length before = ap length cleared ∙ simp (length-append, length-replicate, length-drop) (omega arith) in
    start (digraph_of t row) work (omega arith) (degree_small asked.readable) (λ x h. ap (λ (v : List ℕ). get_or v x 0) cleared ∙ cleared_zero before (length t) x h)

-- after the last one
pub searched : {t row u v w x : List ℕ} {answer : Bool} → v ≡ zeroed (length t) u
    → Told (digraph_of t row) v w answer → x ≡ zeroed (2 * length t) w → Searched t row u answer x
searched {t} {row} {u} {v} first told last =
    record {
      truth = told.truth;
      cleared = last ∙ ap (λ (l : List ℕ). replicate n 0 ++ l) (told.behind ∙ ap (drop n) first ∙ behind_cleared u (length t) n (omega arith));
    }
  where
    n : ℕ
    n = 2 * length t
