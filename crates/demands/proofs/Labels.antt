-- What the labels of variables count for: row 6, and nothing else.
--
-- In order: which tables never get 6 (`only_named`) and which get it as before (`elsewhere_same`); what it is given for (`check_six`,
-- `match_six`, `host_six`), and that what repeats a name is refused (`check_refused`, `match_refused`, `host_refused`); two variables
-- of label 0 that go two ways (`bound_apart`); matches of tables that differ in the labels of variables alone (`match_relabelled`,
-- `lent_relabelled`, `host_relabelled`). Assumes nothing.
use mathlib.Core.Path.{◌≡◌, refl, sym, ap, ◌∙◌, subst}
use mathlib.Core.Bool.{Bool, true, false, ◌||◌}
use mathlib.Core.Logic.{inl, inr, ◌↔◌}
use mathlib.Core.List.{List, [], ◌∷◌, ◌++◌, map}
use Prim.Native.Nat.{ℕ, suc, ◌*◌, ◌≤◌, ◌<◌}
use native.Mathlib.Omega.{arith}
use borrow.Author.Tests.{leb-true}
use lib.Dec.{leb}
use lib.ListN.{length, take, drop, replicate}
use Rattle.answering.specs.Answers.{Lowest, Answered}
use Rattle.answering.specs.Buffers.{left}
use Rattle.answering.proofs.LowestLaws.{none_at_all}
use Rattle.answering.proofs.Orders.{given_by, first_answers, rest_answers, none_parts}
use Rattle.graphs.specs.Graph.{Graph}
use Rattle.graphs.specs.Partition.{pairs_of, ClassTable, joins}
use Rattle.table.specs.Table.{TableSymbols, graph_of}
use Rattle.table.specs.Faults.{Job, StoodEarlier, Repeats, FirstClash, FirstCycle, Row, NAME, LOOP, CLASH, CYCLE, number, Fault, name_fault, clash_fault, cycle_fault, size_rows, shape_rows, check_order, list_rows, pair_rows, match_order}
use Rattle.table.specs.Relabelled.{Relabelled}
use Rattle.table.proofs.Relabelled.{relabelled_graph}
use Rattle.matcher.specs.Match.{Matched, number_of, place_of, joins_of, MatchOf, Passes, job_of}
use Rattle.matcher.proofs.OneMatch.{match_only}
use Rattle.matcher.proofs.Verdicts.{ready, behind_nine}
use Rattle.jobfile.specs.Faults.{file_number}
use Rattle.jobfile.specs.Jobs.{words_of, table_of, list_of}
use Rattle.host.specs.AsOne.{as_one}
use Rattle.host.specs.Host.{called_job, HostRow, of_match, host_number, HostFault, match_fault, early_order, HostOf}
use Rattle.station.specs.Entries.{LentOf}
use Rattle.sheet.specs.Sheet.{two_unnamed}
use Rattle.sheet.proofs.Theorems.{row_at, is_row, sheet_matched}
use Rattle.demands.specs.HostPasses.{HostPasses}
use Rattle.demands.specs.SharedLabels.{OnlyUnnamedRepeat, UnnamedOnce}
use Rattle.demands.proofs.HostMatch.{table_long, as_told, as_match, called_passes}

-- ---- row 6

-- nothing repeats a name where no label but 0 is shared
pub only_named : {t : List ℕ} {a : ℕ} → OnlyUnnamedRepeat t → Repeats t a → ⊥
only_named {a = a} only r = r.other_label (only a r.stood)

module _ {t : List ℕ} (once : UnnamedOnce t) where
  as_before : {a : ℕ} → StoodEarlier t a → Repeats t a
  as_before {a} s = record { stood = s; other_label = once a s }

  pub elsewhere_same : (a : ℕ) → Lowest (StoodEarlier t) a ↔ Lowest (Repeats t) a
  elsewhere_same a = (
    λ l. record { has = as_before l.has; none_below = λ j h r. l.none_below j h r.stood },
    λ l. record { has = l.has.stood; none_below = λ j h s. l.none_below j h (as_before s) },
  )

-- the rows before 6 and behind it
abbrev lower : List Row
lower = size_rows ++ shape_rows

abbrev higher : List Row
higher = LOOP ∷ list_rows ++ pair_rows

lowest_name : {job : Job} {p : ℕ} → Fault job NAME p → Lowest (Repeats job.table) p
lowest_name (name_fault l) = l

module _ (job : Job) (n p : ℕ) where
  pub check_six : Answered number (Fault job) check_order n p → n ≡ 6 → Lowest (Repeats job.table) p
  unfolding number
  check_six x e = lowest_name (given_by number (Fault job) NAME (LOOP ∷ []) n p refl e lower refl x)

  pub match_six : Answered number (Fault job) match_order n p → n ≡ 6 → Lowest (Repeats job.table) p
  unfolding number
  match_six x e = lowest_name (given_by number (Fault job) NAME higher n p refl e lower refl x)

  -- what repeats is refused, for its name or by a lower number
  module _ {a : ℕ} (again : Repeats job.table a) where
    some_name : ((b : ℕ) → Fault job NAME b → ⊥) → ⊥
    some_name none = none_at_all (λ b l. none b (name_fault l)) (suc a) a (omega arith) again

    refused_by : (rest : List Row) → Answered number (Fault job) ((lower ++ (NAME ∷ [])) ++ rest) n p → (1 ≤ n) × (n ≤ 6)
    unfolding number
    refused_by rest x =
        let y = first_answers number (Fault job) (λ k. leb k 6) (lower ++ (NAME ∷ [])) rest n p refl refl (λ none. some_name (none_parts (Fault job) lower (NAME ∷ []) none).1.0) x in
        (omega (arith, y.0), leb-true n 6 y.1)

    pub check_refused : Answered number (Fault job) check_order n p → (1 ≤ n) × (n ≤ 6)
    check_refused = refused_by (LOOP ∷ [])

    pub match_refused : Answered number (Fault job) match_order n p → (1 ≤ n) × (n ≤ 6)
    match_refused = refused_by higher

-- the same of the host call, whose own rows stand before these
module _ {bytes room after : List ℕ} {job r : ℕ} (h : HostOf bytes job room r after) where
  of_name : {p : ℕ} → HostFault bytes job room (of_match NAME) p → Lowest (Repeats (table_of bytes job)) p
  of_name (match_fault f) = lowest_name f

  before_name : List HostRow
  before_name = early_order ++ map of_match shape_rows

  pub host_six : r ≡ 6 → Lowest (Repeats (table_of bytes job)) h.place
  unfolding host_number file_number number before_name
  host_six e = of_name (given_by host_number (HostFault bytes job room) (of_match NAME) (map of_match higher) r h.place refl e before_name refl h.answered)

  -- the numbers of the rows up to that of names
  early : ℕ → Bool
  early n = leb n 6 || leb 12 n

  early_says : (b : Bool) → leb r 6 ≡ b → (b || leb 12 r) ≡ true → 6 < r → 12 ≤ r
  early_says true e t above = absurd (omega (arith, leb-true r 6 e))
  early_says false e t above = leb-true 12 r t

  pub host_refused : {a : ℕ} → Repeats (table_of bytes job) a → (1 ≤ r) × (6 < r → 12 ≤ r)
  unfolding host_number file_number number before_name early
  host_refused again =
      let y =
      first_answers host_number (HostFault bytes job room) early (before_name ++ (of_match NAME ∷ [])) (map of_match higher) r h.place refl refl
      (λ none. some_name (called_job bytes job) r h.place again (λ b f. (none_parts (HostFault bytes job room) before_name (of_match NAME ∷ []) none).1.0 b (match_fault f))) h.answered in
      (omega (arith, y.0), early_says (leb r 6) refl y.1)

-- ---- one example

pub bound_apart : {class work : List ℕ} → 5 ≤ length class → 20 ≤ length work → {r : Matched} {class_after work_after : List ℕ}
    → MatchOf two_unnamed (1 ∷ 3 ∷ 2 ∷ 4 ∷ []) class work r class_after work_after → (number_of r ≡ 0) × (joins_of r ≡ 2) × (take 5 class_after ≡ 0 ∷ 3 ∷ 4 ∷ 3 ∷ 4 ∷ [])
bound_apart class_enough work_enough m =
    let given = sheet_matched (row_at 11) (is_row 11 (omega arith)) class_enough work_enough m in (given.the_answer, given.the_joins, given.the_entries refl)

-- ---- the labels of variables

-- The rows 10 and 11 go by the graph and the list.
module _ (t u list class work : List ℕ) (g : graph_of t ≡ graph_of u) where
  same_clash : (k : ℕ) → Fault (job_of t list class work) CLASH k → Fault (job_of u list class work) CLASH k
  same_clash k (clash_fault {i = i} f) = clash_fault (subst (λ (G : Graph TableSymbols). FirstClash G (pairs_of list) i) g f)

  same_cycle : (k : ℕ) → Fault (job_of t list class work) CYCLE k → Fault (job_of u list class work) CYCLE k
  same_cycle k (cycle_fault {i = i} f) = cycle_fault (subst (λ (G : Graph TableSymbols). FirstCycle G (pairs_of list) i) g f)

by_graph : (t u list class work : List ℕ) → graph_of t ≡ graph_of u → (a p : ℕ) → Answered number (Fault (job_of t list class work)) pair_rows a p → Answered number (Fault (job_of u list class work)) pair_rows a p
by_graph t u list class work g a p (inl (e, f)) = inl (e, same_clash t u list class work g p f)
by_graph t u list class work g a p (inr (none, inl (e, f))) = inr (λ k f. none k (same_clash u t list class work (sym g) k f), inl (e, same_cycle t u list class work g p f))
by_graph t u list class work g a p (inr (none, inr (no_cycle, z))) =
    inr (λ k f. none k (same_clash u t list class work (sym g) k f), inr (λ k f. no_cycle k (same_cycle u t list class work (sym g) k f), z))

module _ {t u : List ℕ} (list class work : List ℕ) (s : Relabelled t u) (passes : Passes (job_of t list class work)) (passes' : Passes (job_of u list class work)) where
  same_graph : graph_of t ≡ graph_of u
  same_graph = relabelled_graph (ready passes).passed.readable s

  as_other : {r : Matched} {class_after work_after : List ℕ} → MatchOf t list class work r class_after work_after → MatchOf u list class work r class_after work_after
  as_other {r} m = record {
    answered =
        behind_nine passes' (number_of r) (place_of r)
        (by_graph t u list class work same_graph (number_of r) (place_of r)
        (rest_answers number (Fault (job_of t list class work)) (check_order ++ list_rows) pair_rows (number_of r) (place_of r) passes m.answered));
    bound = λ z. let b = m.bound z in record {
      table = b.table;
      class_table = subst (λ (G : Graph TableSymbols). ClassTable G (pairs_of list) b.table) same_graph b.class_table;
      row = b.row ∙ ap (λ (n : ℕ). b.table ++ drop n class) s.same_length;
      joins_counted = b.joins_counted ∙ ap (λ (G : Graph TableSymbols). joins G b.table) same_graph;
    };
    refused = λ z. m.refused z ∙ ap (λ (n : ℕ). left (number_of r) n class) s.same_length;
    work_left = m.work_left ∙ ap (λ (n : ℕ). left (number_of r) (4 * n) work) s.same_length;
  }

  pub match_relabelled : {r r' : Matched} {class₁ work₁ class₂ work₂ : List ℕ} → MatchOf t list class work r class₁ work₁ → MatchOf u list class work r' class₂ work₂
      → (r ≡ r') × (class₁ ≡ class₂) × (work₁ ≡ work₂)
  match_relabelled a b = match_only (as_other a) b

  pub lent_relabelled : {r r' : ℕ} {class₁ work₁ class₂ work₂ : List ℕ} → LentOf t list class work r class₁ work₁ → LentOf u list class work r' class₂ work₂
      → (r ≡ r') × (class₁ ≡ class₂) × (work₁ ≡ work₂)
  lent_relabelled a b =
      let same = match_relabelled a.matched b.matched in
      (a.is ∙ ap (λ (q : Matched). as_one (number_of q) (place_of q) (joins_of q)) same.0 ∙ sym b.is, same.1, same.2)

module _ {bytes bytes' room room' : List ℕ} {job job' : ℕ} (s : Relabelled (table_of bytes job) (table_of bytes' job')) (same_list : list_of bytes job ≡ list_of bytes' job') (passes : HostPasses bytes job room) (passes' : HostPasses bytes' job' room') where
  same_words : words_of bytes job ≡ words_of bytes' job'
  same_words = sym (table_long passes) ∙ s.same_length ∙ table_long passes'

  -- what is said of the other job's list and buffers, said of this job's
  here : (P : List ℕ → List ℕ → List ℕ → Type 0) → P (list_of bytes' job') (replicate (words_of bytes' job') 0) (replicate (4 * words_of bytes' job') 0)
      → P (list_of bytes job) (replicate (words_of bytes job) 0) (replicate (4 * words_of bytes job) 0)
  here P x =
      subst (λ (list : List ℕ). P list (replicate (words_of bytes job) 0) (replicate (4 * words_of bytes job) 0)) (sym same_list)
      (subst (λ (n : ℕ). P (list_of bytes' job') (replicate n 0) (replicate (4 * n) 0)) (sym same_words) x)

  pub host_relabelled : {r r' : ℕ} {after after' : List ℕ} (h : HostOf bytes job room r after) (h' : HostOf bytes' job' room' r' after')
      → (r ≡ r') × (h.place ≡ h'.place) × (h.joined ≡ h'.joined) × (h.classes ≡ h'.classes)
  host_relabelled h h' =
      let told = as_told passes h in
      let told' = as_told passes' h' in
      let same =
      match_relabelled (list_of bytes job) (replicate (words_of bytes job) 0) (replicate (4 * words_of bytes job) 0) s (called_passes passes h) (here (λ list class work. Passes (job_of (table_of bytes' job') list class work)) (called_passes passes' h')) (as_match passes h)
      (here (λ list class work. MatchOf (table_of bytes' job') list class work told'.r h'.classes work) (as_match passes' h')) in (
        sym told.number_is ∙ ap number_of same.0 ∙ told'.number_is,
        sym told.place_is ∙ ap place_of same.0 ∙ told'.place_is,
        sym told.joins_is ∙ ap joins_of same.0 ∙ told'.joins_is,
        same.1,
      )
