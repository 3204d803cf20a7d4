-- What is known of a check, a match, the writer and the reader of sizes, said of the entries that a host calls, with the numbers that
-- the header's macros take out of what they return.
--
-- In order: `station_lent`, `station_check`, `station_write`, `station_read`. Assumes nothing.
use mathlib.Core.Path.{◌≡◌, refl, sym, ap, ◌∙◌, subst}
use mathlib.Core.Bool.{false}
use mathlib.Core.Logic.{◌⊎◌, ◌↔◌, inl, inr, ⊎_elim}
use mathlib.Core.List.{List, [], ◌∷◌, ◌++◌}
use Prim.Native.Nat.{ℕ, ◌*◌, ◌≤◌}
use native.Mathlib.Decide.{ℕ_discrete}
use lib.ListN.{length, take, drop, replicate}
use Rattle.std.specs.Prelude.{Ok, Err}
use Rattle.answering.specs.Answers.{Answered}
use Rattle.answering.specs.Buffers.{changes_nothing}
use Rattle.answering.proofs.Orders.{passed_none}
use Rattle.graphs.specs.Graph.{variable, Node}
use Rattle.graphs.specs.Partition.{pairs_of, Same, Smallest, entry, ClassTable, OneEntry, joins}
use Rattle.graphs.specs.Term.{WellCounted, Replacement, ◌then◌, Unifies, FollowsRule, answer}
use Rattle.table.specs.Table.{TableSymbols, graph_of}
use Rattle.table.specs.Faults.{Fault, number, check_order, match_order}
use Rattle.checker.specs.Check.{Checked, number_of as check_number, place_of as check_place, checked_job}
use Rattle.matcher.specs.Match.{Matched, number_of, place_of, joins_of, Passes, job_of}
use Rattle.matcher.specs.Demands.{Met, MetCounted, FirstUnmet}
use Rattle.matcher.proofs.Demands.{accepted_passes, accepted_class_table, accepted_classes, accepted_smallest, accepted_joins, accepted_exactly, accepted_exactly_counted, answer_makes_equal, answer_well_counted, answer_rule, answer_rule_only, answer_most_general_of_list, refused_at_first}
use Rattle.matcher.proofs.Verdicts.{at_most}
use Rattle.jobfile.specs.File.{count_in, sizes_in, file_of}
use Rattle.jobfile.specs.Faults.{ROOM, file_number, WriteFault, read_order, write_order}
use Rattle.jobfile.specs.Writer.{WriteAnswer, place_of as write_place, number_of as write_number}
use Rattle.jobfile.proofs.FileLaws.{length-sizes_from}
use Rattle.host.specs.AsOne.{as_one, answer_in, place_in, joins_in}
use Rattle.host.specs.Sizes.{SizesFault, SizesOf}
use Rattle.station.specs.Entries.{LentOf, CheckedOf, WrittenOf}
use Rattle.demands.proofs.Buffers.{check_untouched, check_zero, refused_untouched, refused_zero, write_untouched}
use Rattle.demands.proofs.Lengths.{front_length}
use Rattle.demands.proofs.OldContents.{check_old_contents, match_old_contents, write_old_contents, sizes_old_contents}
use Rattle.demands.proofs.Packing.{check_unpacked, match_unpacked, sizes_unpacked}

-- ---- station_lent

pub lent_old_contents : {t list class work class' work' : List ℕ} {r s : ℕ} {class₁ work₁ class₂ work₂ : List ℕ} → length class ≡ length class' → length work ≡ length work'
    → LentOf t list class work r class₁ work₁ → LentOf t list class' work' s class₂ work₂
    → (r ≡ s) × (changes_nothing (answer_in r) ≡ false → (take (length t) class₁ ≡ take (length t) class₂) × (take (4 * length t) work₁ ≡ take (4 * length t) work₂))
lent_old_contents class_long work_long a b =
    let same = match_old_contents class_long work_long a.matched b.matched in (
      a.is ∙ ap (λ (q : Matched). as_one (number_of q) (place_of q) (joins_of q)) same.0 ∙ sym b.is,
      λ late. same.1 (sym (ap changes_nothing (match_unpacked a).0) ∙ late),
    )

module _ {t list class work : List ℕ} {r : ℕ} {class_after work_after : List ℕ} (h : LentOf t list class work r class_after work_after) where
  is_number : answer_in r ≡ number_of h.answer
  is_number = (match_unpacked h).0

  pub lent_answered : Answered number (Fault (job_of t list class work)) match_order (answer_in r) (place_in r)
  lent_answered =
      subst (λ (n : ℕ). Answered number (Fault (job_of t list class work)) match_order n (place_in r)) (sym is_number)
      (subst (λ (p : ℕ). Answered number (Fault (job_of t list class work)) match_order (number_of h.answer) p) (sym (match_unpacked h).1) h.matched.answered)

  pub lent_untouched : (answer_in r ≡ 1) ⊎ (answer_in r ≡ 2) → (class_after ≡ class) × (work_after ≡ work)
  lent_untouched e = refused_untouched h.matched (⊎_elim (λ x. inl (sym is_number ∙ x)) (λ x. inr (sym is_number ∙ x)) e)

  pub lent_zero : 3 ≤ answer_in r → (take (length t) class_after ≡ replicate (length t) 0) × (take (4 * length t) work_after ≡ replicate (4 * length t) 0)
  lent_zero e = refused_zero h.matched (subst (λ (n : ℕ). 3 ≤ n) is_number e)

  module _ (passes : Passes (job_of t list class work)) where
    pub lent_refused_at_first : (k : ℕ) → (((answer_in r ≡ 10) ⊎ (answer_in r ≡ 11)) × (place_in r ≡ k)) ↔ FirstUnmet (graph_of t) (pairs_of list) k
    lent_refused_at_first k = (
      λ x. (refused_at_first h.matched passes k).0 (⊎_elim (λ e. inl (sym is_number ∙ e)) (λ e. inr (sym is_number ∙ e)) x.0, sym (match_unpacked h).1 ∙ x.1),
      λ f. let x = (refused_at_first h.matched passes k).1 f in (⊎_elim (λ e. inl (is_number ∙ e)) (λ e. inr (is_number ∙ e)) x.0, (match_unpacked h).1 ∙ x.1),
    )

    pub lent_accepted_exactly : (answer_in r ≡ 0) ↔ Met (graph_of t) (pairs_of list)
    lent_accepted_exactly = (λ z. (accepted_exactly h.matched passes).0 (sym is_number ∙ z), λ met. is_number ∙ (accepted_exactly h.matched passes).1 met)

    pub lent_accepted_exactly_counted : (answer_in r ≡ 0) ↔ MetCounted (graph_of t) (pairs_of list)
    lent_accepted_exactly_counted =
        (λ z. (accepted_exactly_counted h.matched passes).0 (sym is_number ∙ z), λ met. is_number ∙ (accepted_exactly_counted h.matched passes).1 met)

  module _ (z : answer_in r ≡ 0) where
    accepted : number_of h.answer ≡ 0
    accepted = sym is_number ∙ z

    pub lent_passes : Passes (job_of t list class work)
    lent_passes = accepted_passes h.matched accepted

    pub lent_class_table : ClassTable (graph_of t) (pairs_of list) (take (length t) class_after)
    lent_class_table = accepted_class_table h.matched lent_passes accepted

    pub lent_joins : joins_in r ≡ joins (graph_of t) (take (length t) class_after)
    lent_joins = (match_unpacked h).2 ∙ accepted_joins h.matched lent_passes accepted

    pub lent_smallest : Smallest (graph_of t) (pairs_of list) (OneEntry (graph_of t) (take (length t) class_after))
    lent_smallest = accepted_smallest h.matched lent_passes accepted

    pub lent_classes : {x y : ℕ} → Node (graph_of t) x → Node (graph_of t) y
        → Same (graph_of t) (pairs_of list) x y ↔ (entry (take (length t) class_after) x ≡ entry (take (length t) class_after) y)
    lent_classes = accepted_classes h.matched lent_passes accepted

    pub lent_answer_makes_equal : Unifies (graph_of t) (pairs_of list) (answer (graph_of t) (take (length t) class_after))
    lent_answer_makes_equal = answer_makes_equal h.matched lent_passes accepted

    pub lent_answer_well_counted : (x : ℕ) → WellCounted (answer (graph_of t) (take (length t) class_after) x)
    lent_answer_well_counted = answer_well_counted h.matched lent_passes

    pub lent_answer_rule : FollowsRule (graph_of t) (pairs_of list) (take (length t) class_after) (answer (graph_of t) (take (length t) class_after))
    lent_answer_rule = answer_rule h.matched lent_passes accepted

    pub lent_answer_rule_only : (σ : Replacement TableSymbols) → FollowsRule (graph_of t) (pairs_of list) (take (length t) class_after) σ
        → (x : ℕ) → (graph_of t).head x ≡ variable → σ x ≡ answer (graph_of t) (take (length t) class_after) x
    lent_answer_rule_only = answer_rule_only h.matched lent_passes accepted

    pub lent_answer_most_general : (θ : Replacement TableSymbols) → Unifies (graph_of t) (pairs_of list) θ
        → (x : ℕ) → (graph_of t).head x ≡ variable → (answer (graph_of t) (take (length t) class_after) then θ) x ≡ θ x
    lent_answer_most_general = answer_most_general_of_list h.matched lent_passes accepted

-- ---- station_check

pub check_entry_old_contents : {t class work class' work' : List ℕ} {r s : ℕ} {class₁ work₁ class₂ work₂ : List ℕ} → length class ≡ length class' → length work ≡ length work'
    → CheckedOf t class work r class₁ work₁ → CheckedOf t class' work' s class₂ work₂
    → (r ≡ s) × (changes_nothing (answer_in r) ≡ false → (take (length t) class₁ ≡ take (length t) class₂) × (take (4 * length t) work₁ ≡ take (4 * length t) work₂))
check_entry_old_contents class_long work_long a b =
    let same = check_old_contents class_long work_long a.checked b.checked in (
      a.is ∙ ap (λ (q : Checked). as_one (check_number q) (check_place q) 0) same.0 ∙ sym b.is,
      λ late. same.1 (sym (ap changes_nothing (check_unpacked a).0) ∙ late),
    )

module _ {t class work : List ℕ} {r : ℕ} {class_after work_after : List ℕ} (h : CheckedOf t class work r class_after work_after) where
  is_check_number : answer_in r ≡ check_number h.answer
  is_check_number = (check_unpacked h).0

  pub check_entry_answered : Answered number (Fault (checked_job t class work)) check_order (answer_in r) (place_in r)
  check_entry_answered =
      subst (λ (n : ℕ). Answered number (Fault (checked_job t class work)) check_order n (place_in r)) (sym is_check_number)
      (subst (λ (p : ℕ). Answered number (Fault (checked_job t class work)) check_order (check_number h.answer) p) (sym (check_unpacked h).1) h.checked.answered)

  pub check_entry_untouched : (answer_in r ≡ 1) ⊎ (answer_in r ≡ 2) → (class_after ≡ class) × (work_after ≡ work)
  check_entry_untouched e = check_untouched h.checked (⊎_elim (λ x. inl (sym is_check_number ∙ x)) (λ x. inr (sym is_check_number ∙ x)) e)

  pub check_entry_zero : (answer_in r ≡ 1 → ⊥) → (answer_in r ≡ 2 → ⊥)
      → (take (length t) class_after ≡ replicate (length t) 0) × (take (4 * length t) work_after ≡ replicate (4 * length t) 0)
  check_entry_zero one two = check_zero h.checked (λ e. one (is_check_number ∙ e)) (λ e. two (is_check_number ∙ e))

-- ---- station_write

pub write_entry_old_contents : {sizes bodies room other : List ℕ} {r s : ℕ} {room₁ room₂ : List ℕ} → length room ≡ length other → WrittenOf sizes bodies room r room₁
    → WrittenOf sizes bodies other s room₂
    → (r ≡ s) × (r ≡ 0 → take (length (file_of sizes bodies)) room₁ ≡ take (length (file_of sizes bodies)) room₂)
write_entry_old_contents long a b =
    let same = write_old_contents long a.written b.written in (a.is ∙ ap write_number same.0 ∙ sym b.is, λ z. same.1 (sym a.is ∙ z))

-- the writer's place is 0
written_at_0 : (answer : WriteAnswer) → write_place answer ≡ 0
written_at_0 (Ok done) = refl
written_at_0 (Err fault) = refl

pub write_entry_answered : {sizes bodies room after : List ℕ} {r : ℕ} → WrittenOf sizes bodies room r after → Answered file_number (WriteFault sizes bodies room) write_order r 0
write_entry_answered {sizes} {bodies} {room} h =
    subst (λ (n : ℕ). Answered file_number (WriteFault sizes bodies room) write_order n 0) (sym h.is)
    (subst (Answered file_number (WriteFault sizes bodies room) write_order (write_number h.answer)) (written_at_0 h.answer) h.written.answered)

pub write_entry_untouched : {sizes bodies room after : List ℕ} {r : ℕ} → WrittenOf sizes bodies room r after → (r ≡ 0 → ⊥) → after ≡ room
write_entry_untouched h refused = write_untouched h.written (λ e. refused (h.is ∙ e))

-- ---- station_read

pub read_entry_old_contents : {bytes sizes other : List ℕ} {r s : ℕ} {sizes₁ sizes₂ : List ℕ} → length sizes ≡ length other → SizesOf bytes sizes r sizes₁ → SizesOf bytes other s sizes₂
    → (r ≡ s) × (answer_in r ≡ 0 → take (2 * count_in bytes) sizes₁ ≡ take (2 * count_in bytes) sizes₂)
read_entry_old_contents long a b = let same = sizes_old_contents long a b in (same.0, λ z. same.1 (sym (sizes_unpacked a).0 ∙ z))

module _ {bytes sizes : List ℕ} {r : ℕ} {sizes_after : List ℕ} (h : SizesOf bytes sizes r sizes_after) where
  pub read_entry_answered : Answered file_number (SizesFault bytes sizes) (read_order ++ (ROOM ∷ [])) (answer_in r) (place_in r)
  read_entry_answered =
      subst (λ (n : ℕ). Answered file_number (SizesFault bytes sizes) (read_order ++ (ROOM ∷ [])) n (place_in r)) (sym (sizes_unpacked h).0)
      (subst (λ (p : ℕ). Answered file_number (SizesFault bytes sizes) (read_order ++ (ROOM ∷ [])) h.answer p) (sym (sizes_unpacked h).1) h.answered)

  pub read_entry_untouched : (answer_in r ≡ 0 → ⊥) → (joins_in r ≡ 0) × (sizes_after ≡ sizes)
  read_entry_untouched refused = let x = h.refused (λ e. refused ((sizes_unpacked h).0 ∙ e)) in ((sizes_unpacked h).2 ∙ x.0, x.1)

  pub read_entry_gives : answer_in r ≡ 0 → (joins_in r ≡ count_in bytes) × (sizes_after ≡ sizes_in bytes ++ drop (2 * count_in bytes) sizes)
  read_entry_gives z = let x = h.given (sym (sizes_unpacked h).0 ∙ z) in ((sizes_unpacked h).2 ∙ x.0, x.1)

  pub read_entry_length : length sizes_after ≡ length sizes
  unfolding file_number
  read_entry_length = go (ℕ_discrete h.answer 0)
    where
      go : Dec (h.answer ≡ 0) → length sizes_after ≡ length sizes
      go (yes z) =
          let none = (passed_none file_number (SizesFault bytes sizes) (read_order ++ (ROOM ∷ [])) h.answer h.place refl z h.answered).0 in
          ap length (h.given z).1
          ∙ front_length (sizes_in bytes) sizes (length-sizes_from (count_in bytes) 0 bytes) (at_most (λ short. none.1.1.1.0 0 (short, refl)))
      go (no z) = ap length (h.refused z).1
