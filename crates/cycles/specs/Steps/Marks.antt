-- What the steps of the search promise each other. The work row holds a mark for each vertex of the digraph, and behind the marks
-- the path, from the root of the search down to the vertex in hand. A mark is 0 for a new vertex; 1 + the edges passed over,
-- while the vertex is on the path; and 257 once it is finished, which is more than 1 + the edges of any vertex. What is no
-- function stays new. For this crate alone. Assumes nothing.
use Rattle.std.specs.Prelude.{◌≡◌, Bool, true, false, Option, None, Some, List, ◌⊎◌, ℕ, zero, suc, ◌+◌, ◌-◌, ◌*◌, ◌≤◌, ◌<◌, length, get_or, drop}
use Rattle.words.specs.Limits.{most_arguments}
use Rattle.graphs.specs.Partition.{entry}
use Rattle.cycles.specs.Digraph.{Digraph, Edge, Returns}

-- the mark of x
abbrev pub mark : List ℕ → ℕ → ℕ
mark work x = get_or work x 0

-- the mark of a finished vertex
abbrev pub finished_mark : ℕ
finished_mark = 257

-- the vertex on the path at depth k, from 0
abbrev pub on_path : Digraph → List ℕ → ℕ → ℕ
on_path D work k = get_or work (D.size + k) 0

-- Every walk from x ends.
pub data Safe (D : Digraph) : ℕ → Type 0 where
  safe : {x : ℕ} → ((y : ℕ) → Edge D x y → Safe D y) → Safe D x

-- a sum over the marks of the vertices below k
unfoldable pub total : (ℕ → ℕ → ℕ) → List ℕ → ℕ → ℕ
total f work zero = 0
total f work (suc k) = f k (mark work k) + total f work k

-- how many vertices are new
abbrev pub news : Digraph → List ℕ → ℕ
news D work = total (λ x m. 1 - m) work D.size

-- The first edge of x that is not passed over leads to y.
pub record Follows (D : Digraph) (work : List ℕ) (x y : ℕ) : Type 0 where
  pub more : mark work x - 1 < D.count x
  pub leads : D.next x (mark work x - 1) ≡ y

-- The search with `depth` vertices on the path.
pub record Search (D : Digraph) (work : List ℕ) (depth : ℕ) : Type 0 where
  pub room : 2 * D.size ≤ length work
  pub few_edges : (x : ℕ) → D.count x ≤ most_arguments
  -- new vertices and those on the path are different ones
  pub few : news D work + depth ≤ D.size
  -- the edges passed over lead to vertices from which every walk ends
  pub seen : (x i : ℕ) → x < D.size → i < D.count x → i + 1 < mark work x → Safe D (D.next x i)
  pub inside : (k : ℕ) → k < depth → on_path D work k < D.size
  pub begun : (k : ℕ) → k < depth → 0 < mark work (on_path D work k)
  pub unfinished : (k : ℕ) → k < depth → mark work (on_path D work k) < finished_mark
  pub linked : (k : ℕ) → k + 1 < depth → Follows D work (on_path D work k) (on_path D work (k + 1))
  pub distinct : (j k : ℕ) → j < k → k < depth → on_path D work j ≡ on_path D work k → ⊥
  -- a vertex that is begun and not finished is on the path
  pub whole : (x : ℕ) → x < D.size → 0 < mark work x → (mark work x ≡ finished_mark → ⊥) → (k : ℕ) × (k < depth) × (on_path D work k ≡ x)

-- From `before` to `after` no mark fell, and nothing changed behind marks and path.
pub record Grown (D : Digraph) (before after : List ℕ) : Type 0 where
  pub long : length after ≡ length before
  pub marks : (x : ℕ) → x < D.size → mark before x ≤ mark after x
  pub behind : drop (2 * D.size) after ≡ drop (2 * D.size) before

-- The search found a cycle.
pub record FoundCycle (D : Digraph) (before after : List ℕ) : Type 0 where
  pub cycle : Returns true D
  pub behind : drop (2 * D.size) after ≡ drop (2 * D.size) before

-- The search came back to an empty path, and P holds.
pub record Ended (D : Digraph) (before after : List ℕ) (P : Type 0) : Type 0 where
  pub search : Search D after 0
  pub grown : Grown D before after
  pub holds : P

-- Whether a vertex is open, by the count of its edges and its mark. Where it is not, it has no edges or is finished.
abbrev pub Open : ℕ → ℕ → Bool → Type 0
Open count m true = m ≡ finished_mark → ⊥
Open count m false = (count ≡ 0) ⊎ (m ≡ finished_mark)

-- What passing over edges asks of the marks: every vertex has one, and from a finished vertex every walk ends.
pub record Sure (D : Digraph) (work : List ℕ) : Type 0 where
  pub room : D.size ≤ length work
  pub finished : (x : ℕ) → x < D.size → mark work x ≡ finished_mark → Safe D x

-- The edges of x from place i up to j lead to vertices from which every walk ends.
pub record Over (D : Digraph) (x i j : ℕ) : Type 0 where
  pub from : i ≤ j
  pub within : j ≤ D.count x
  pub ends : (k : ℕ) → i ≤ k → k < j → Safe D (D.next x k)

-- The edge of x at place j leads to an open vertex, and those from place i up to it lead to vertices from which every walk ends.
pub record OpenEdge (D : Digraph) (work : List ℕ) (x i j : ℕ) : Type 0 where
  pub over : Over D x i j
  pub more : j < D.count x
  pub leads_on : Open (D.count (D.next x j)) (mark work (D.next x j)) true

-- The edges of x from place i on are passed over up to the first that leads to an open vertex, if there is one.
abbrev pub Passed : Digraph → List ℕ → ℕ → ℕ → Option ℕ → Type 0
Passed D work x i (Some j) = OpenEdge D work x i j
Passed D work x i None = Over D x i (D.count x)

-- What the search from one root does: it found a cycle, or every walk from the root ends.
abbrev pub FromRoot : Digraph → List ℕ → List ℕ → ℕ → Bool → Type 0
FromRoot D before after root true = FoundCycle D before after
FromRoot D before after root false = Ended D before after (Safe D root)

-- What a visit of x does: the same, but x is passed over where it is not the name of its class.
abbrev pub Visited : Digraph → List ℕ → List ℕ → List ℕ → ℕ → Bool → Type 0
Visited D row before after x true = FoundCycle D before after
Visited D row before after x false = Ended D before after (entry row x ≡ x → Safe D x)

-- What the search from every name does.
pub record Told (D : Digraph) (before after : List ℕ) (answer : Bool) : Type 0 where
  pub truth : Returns answer D
  pub behind : drop (2 * D.size) after ≡ drop (2 * D.size) before
