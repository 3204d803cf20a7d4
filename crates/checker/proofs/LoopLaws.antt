-- The search for cycles, with each node its own class, finds the loops of a table.
--
-- In order: what the search finds (`LoopSearch`); the row of own classes; it can be searched (`own_searchable`); edges of its digraph are
-- children (`edge_child`, `child_edge`), so what the search says is true of the table (`loops_found`); with what is kept, `loop_search`.
-- Assumes nothing.
use mathlib.Core.Path.{◌≡◌, refl, sym, ap, ◌∙◌, subst}
use mathlib.Core.Bool.{Bool, true, false}
use mathlib.Core.List.{List, ◌++◌}
use Prim.Native.Nat.{ℕ, zero, suc, ◌+◌, ◌*◌, ◌<◌}
use native.Mathlib.Omega.{arith}
use lib.ListN.{length, get_or, drop, length-append, get_or-append}
use Rattle.rows.proofs.Laws.{behind_stays, behind_cleared}
use Rattle.graphs.specs.Graph.{Child, Steps}
use Rattle.graphs.specs.Partition.{entry}
use Rattle.graphs.proofs.Finite.{steps_map}
use Rattle.table.specs.Table.{graph_of, degree, child_of}
use Rattle.table.proofs.Children.{NamedChild, named_child, degree_child}
use Rattle.table.specs.Readable.{Readable}
use Rattle.table.proofs.Readable.{child_inside}
use Rattle.cycles.specs.Digraph.{Edge, digraph_of, Returns, Searchable, Searched}
use Rattle.checker.specs.Steps.Stage.{counting, OnlyFronts}

-- some node reaches itself, or none does
abbrev pub Loops : Bool → List ℕ → Type 0
Loops true t = (x : ℕ) × Steps (Child (graph_of t)) x x
Loops false t = (x : ℕ) → Steps (Child (graph_of t)) x x → ⊥

-- what the search for loops finds, and what it keeps
pub record LoopSearch (t class work : List ℕ) (found : Bool) (class_after work_after : List ℕ) : Type 0 where
  pub truth : Loops found t
  pub kept : OnlyFronts t class work class_after work_after

-- ---- the row of own classes

pub counting-length : (from k : ℕ) → length (counting from k) ≡ k
counting-length from zero = refl
counting-length from (suc k) = ap suc (counting-length (suc from) k)

pub counting_at : (from k i : ℕ) → i < k → get_or (counting from k) i 0 ≡ from + i
counting_at from zero i h = absurd (omega arith)
counting_at from (suc k) zero h = omega arith
counting_at from (suc k) (suc i) h = omega (arith, counting_at (suc from) k i (omega arith))

module _ (t row rest : List ℕ) (own : row ≡ counting 0 (length t) ++ rest) where
  own_entry : (x : ℕ) → x < length t → entry row x ≡ x
  own_entry x h =
      ap (λ (r : List ℕ). get_or r x 0) own
      ∙ get_or-append (counting 0 (length t)) rest 0 x (omega (arith, counting-length 0 (length t)))
      ∙ (let e : get_or (counting 0 (length t)) x 0 ≡ x = omega (arith, counting_at 0 (length t) x h) in e)

  module _ (readable : Readable t) where
    own_child : (x i : ℕ) → i < degree t x → entry row (child_of t x i) ≡ child_of t x i
    own_child x i h = own_entry (child_of t x i) (child_inside readable x i h)

    pub own_searchable : Searchable t row
    own_searchable =
        record {
          readable = readable;
          row_room = omega (arith, ap length own, length-append (counting 0 (length t)) rest, counting-length 0 (length t));
          name_inside = λ x i h. omega (arith, own_child x i h, child_inside readable x i h);
          name_own = λ x i h. ap (entry row) (own_child x i h);
        }

    edge_child : (x y : ℕ) → Edge (digraph_of t row) x y → Child (graph_of t) x y
    edge_child x y (i, h, e) = subst (Child (graph_of t) x) (sym (own_child x i h) ∙ e) (degree_child t x i h)

    child_edge : (x y : ℕ) → Child (graph_of t) x y → Edge (digraph_of t row) x y
    child_edge x y d =
        let c : NamedChild t x y = named_child t x y d in
        (c.place, c.within, own_child x c.place c.within ∙ c.is)

    pub loops_found : (found : Bool) → Returns found (digraph_of t row) → Loops found t
    loops_found true (x, s) = (x, steps_map edge_child s)
    loops_found false none_returns = λ x s. none_returns x (steps_map child_edge s)

-- ---- what is kept

pub loop_search : {t class work class_after work_after : List ℕ} {found : Bool} → Readable t
    → class_after ≡ counting 0 (length t) ++ drop (length t) class → Searched t class_after work found work_after → LoopSearch t class work found class_after work_after
loop_search {t} {class} {work} {class_after} {work_after} {found} readable own searched =
    record {
      truth = loops_found t class_after (drop (length t) class) own readable found searched.truth;
      kept =
          record {
            class_kept = ap (drop (length t)) own ∙ behind_stays (counting 0 (length t)) class (length t) (length t) (counting-length 0 (length t)) (omega arith);
            work_kept =
                ap (drop (4 * length t)) searched.cleared
                ∙ behind_cleared work (2 * length t) (4 * length t) (omega arith);
          };
    }
