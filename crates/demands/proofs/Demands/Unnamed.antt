-- Document 02, E1, "The unnamed variable", sentence by sentence. Assumes nothing.
use mathlib.Core.Path.{◌≡◌}
use mathlib.Core.Logic.{◌↔◌}
use mathlib.Core.List.{List, [], ◌∷◌}
use Prim.Native.Nat.{ℕ, ◌≤◌, ◌<◌}
use lib.ListN.{length, take}
use Rattle.answering.specs.Answers.{Lowest}
use Rattle.table.specs.Table.{content_at}
use Rattle.table.specs.Faults.{StoodEarlier, Repeats}
use Rattle.table.specs.Relabelled.{Relabelled}
use Rattle.checker.specs.Check.{Checked, CheckOf, number_of as check_number, place_of as check_place, checked_job}
use Rattle.matcher.specs.Match.{Matched, MatchOf, Passes, number_of, place_of, joins_of, job_of}
use Rattle.jobfile.specs.Jobs.{table_of, list_of}
use Rattle.host.specs.AsOne.{answer_in, place_in}
use Rattle.host.specs.Host.{HostOf}
use Rattle.station.specs.Entries.{LentOf, CheckedOf}
use Rattle.sheet.specs.Sheet.{two_unnamed}
use Rattle.demands.specs.HostPasses.{HostPasses}
use Rattle.demands.specs.SharedLabels.{OnlyUnnamedRepeat, UnnamedOnce}
use Rattle.demands.proofs.Entries.{lent_answered, check_entry_answered}
use Rattle.demands.proofs.Labels.{only_named, elsewhere_same, check_six, match_six, host_six, check_refused, match_refused, host_refused, bound_apart, match_relabelled, lent_relabelled, host_relabelled}

-- ==== "Our loader writes label 0 for the variable that ISO Prolog spells as a bare underscore, and every one is a different variable."
--
-- Two of label 0, the one made equal to constant 1 and the other to constant 2: no one variable could be both.

pub two_unnamed_bound_apart : {class work : List ℕ} → 5 ≤ length class → 20 ≤ length work → {r : Matched} {class_after work_after : List ℕ}
    → MatchOf two_unnamed (1 ∷ 3 ∷ 2 ∷ 4 ∷ []) class work r class_after work_after → (number_of r ≡ 0) × (joins_of r ≡ 2) × (take 5 class_after ≡ 0 ∷ 3 ∷ 4 ∷ 3 ∷ 4 ∷ [])
two_unnamed_bound_apart = bound_apart

-- ==== "such words may repeat"
--
-- A table in which no other label is shared by two variables is never refused for a name.

pub check_lets_unnamed_repeat : {t class work : List ℕ} {r : Checked} {class_after work_after : List ℕ} → CheckOf t class work r class_after work_after
    → OnlyUnnamedRepeat t → check_number r ≡ 6 → ⊥
check_lets_unnamed_repeat {t} {class} {work} c only e = only_named only (check_six (checked_job t class work) _ _ c.answered e).has

pub check_entry_lets_unnamed_repeat : {t class work : List ℕ} {r : ℕ} {class_after work_after : List ℕ} → CheckedOf t class work r class_after work_after
    → OnlyUnnamedRepeat t → answer_in r ≡ 6 → ⊥
check_entry_lets_unnamed_repeat {t} {class} {work} c only e = only_named only (check_six (checked_job t class work) _ _ (check_entry_answered c) e).has

pub match_lets_unnamed_repeat : {t list class work : List ℕ} {r : Matched} {class_after work_after : List ℕ} → MatchOf t list class work r class_after work_after
    → OnlyUnnamedRepeat t → number_of r ≡ 6 → ⊥
match_lets_unnamed_repeat {t} {list} {class} {work} m only e = only_named only (match_six (job_of t list class work) _ _ m.answered e).has

pub lent_lets_unnamed_repeat : {t list class work : List ℕ} {r : ℕ} {class_after work_after : List ℕ} → LentOf t list class work r class_after work_after
    → OnlyUnnamedRepeat t → answer_in r ≡ 6 → ⊥
lent_lets_unnamed_repeat {t} {list} {class} {work} m only e = only_named only (match_six (job_of t list class work) _ _ (lent_answered m) e).has

pub host_call_lets_unnamed_repeat : {bytes room after : List ℕ} {job r : ℕ} → HostOf bytes job room r after → OnlyUnnamedRepeat (table_of bytes job) → r ≡ 6 → ⊥
host_call_lets_unnamed_repeat h only e = only_named only (host_six h e).has

-- ==== "and variables are told apart by address in all demands from now on;"
--
-- Of two tables that differ in the labels of their variables alone, both with a list and buffers that pass all checks, the answers are
-- the same, and the class tables; so a table with unnamed variables has the answer that it would have with a name for each.

pub match_ignores_labels : {t u list class work : List ℕ} → Relabelled t u → Passes (job_of t list class work) → Passes (job_of u list class work)
    → {r s : Matched} {class₁ work₁ class₂ work₂ : List ℕ} → MatchOf t list class work r class₁ work₁ → MatchOf u list class work s class₂ work₂
    → (r ≡ s) × (class₁ ≡ class₂) × (work₁ ≡ work₂)
match_ignores_labels {list = list} {class} {work} = match_relabelled list class work

pub lent_ignores_labels : {t u list class work : List ℕ} → Relabelled t u → Passes (job_of t list class work) → Passes (job_of u list class work)
    → {r s : ℕ} {class₁ work₁ class₂ work₂ : List ℕ} → LentOf t list class work r class₁ work₁ → LentOf u list class work s class₂ work₂
    → (r ≡ s) × (class₁ ≡ class₂) × (work₁ ≡ work₂)
lent_ignores_labels {list = list} {class} {work} = lent_relabelled list class work

pub host_call_ignores_labels : {bytes bytes' room room' : List ℕ} {job job' : ℕ} → Relabelled (table_of bytes job) (table_of bytes' job')
    → list_of bytes job ≡ list_of bytes' job' → HostPasses bytes job room → HostPasses bytes' job' room'
    → {r s : ℕ} {after after' : List ℕ} (h : HostOf bytes job room r after) (h' : HostOf bytes' job' room' s after')
    → (r ≡ s) × (h.place ≡ h'.place) × (h.joined ≡ h'.joined) × (h.classes ≡ h'.classes)
host_call_ignores_labels = host_relabelled

-- ==== "other labels still may not repeat."
--
-- A table with a variable whose label, not 0, stood earlier is refused: for the lowest such name, or by a row that stands before that
-- one. In the host call 12 to 15 stand before it too.

pub check_refuses_repeated : {t class work : List ℕ} {r : Checked} {class_after work_after : List ℕ} → CheckOf t class work r class_after work_after
    → {a : ℕ} → Repeats t a → (1 ≤ check_number r) × (check_number r ≤ 6)
check_refuses_repeated {t} {class} {work} c again = check_refused (checked_job t class work) _ _ again c.answered

pub check_entry_refuses_repeated : {t class work : List ℕ} {r : ℕ} {class_after work_after : List ℕ} → CheckedOf t class work r class_after work_after
    → {a : ℕ} → Repeats t a → (1 ≤ answer_in r) × (answer_in r ≤ 6)
check_entry_refuses_repeated {t} {class} {work} c again = check_refused (checked_job t class work) _ _ again (check_entry_answered c)

pub match_refuses_repeated : {t list class work : List ℕ} {r : Matched} {class_after work_after : List ℕ} → MatchOf t list class work r class_after work_after
    → {a : ℕ} → Repeats t a → (1 ≤ number_of r) × (number_of r ≤ 6)
match_refuses_repeated {t} {list} {class} {work} m again = match_refused (job_of t list class work) _ _ again m.answered

pub lent_refuses_repeated : {t list class work : List ℕ} {r : ℕ} {class_after work_after : List ℕ} → LentOf t list class work r class_after work_after
    → {a : ℕ} → Repeats t a → (1 ≤ answer_in r) × (answer_in r ≤ 6)
lent_refuses_repeated {t} {list} {class} {work} m again = match_refused (job_of t list class work) _ _ again (lent_answered m)

pub host_call_refuses_repeated : {bytes room after : List ℕ} {job r : ℕ} → HostOf bytes job room r after → {a : ℕ} → Repeats (table_of bytes job) a → (1 ≤ r) × (6 < r → 12 ≤ r)
host_call_refuses_repeated = host_refused

-- ==== "Refusals: 6 is no longer given for label 0."
--
-- Where 6 is given, a variable with another label than 0 stands at its place, and it is the lowest that repeats one. Tables in which
-- no two variables have label 0 keep the row as document 01 has it, number and place.

pub check_six_repeats : {t class work : List ℕ} {r : Checked} {class_after work_after : List ℕ} → CheckOf t class work r class_after work_after
    → check_number r ≡ 6 → Lowest (Repeats t) (check_place r)
check_six_repeats {t} {class} {work} c = check_six (checked_job t class work) _ _ c.answered

pub check_entry_six_repeats : {t class work : List ℕ} {r : ℕ} {class_after work_after : List ℕ} → CheckedOf t class work r class_after work_after
    → answer_in r ≡ 6 → Lowest (Repeats t) (place_in r)
check_entry_six_repeats {t} {class} {work} c = check_six (checked_job t class work) _ _ (check_entry_answered c)

pub match_six_repeats : {t list class work : List ℕ} {r : Matched} {class_after work_after : List ℕ} → MatchOf t list class work r class_after work_after
    → number_of r ≡ 6 → Lowest (Repeats t) (place_of r)
match_six_repeats {t} {list} {class} {work} m = match_six (job_of t list class work) _ _ m.answered

pub lent_six_repeats : {t list class work : List ℕ} {r : ℕ} {class_after work_after : List ℕ} → LentOf t list class work r class_after work_after
    → answer_in r ≡ 6 → Lowest (Repeats t) (place_in r)
lent_six_repeats {t} {list} {class} {work} m = match_six (job_of t list class work) _ _ (lent_answered m)

pub host_call_six_repeats : {bytes room after : List ℕ} {job r : ℕ} (h : HostOf bytes job room r after) → r ≡ 6 → Lowest (Repeats (table_of bytes job)) h.place
host_call_six_repeats = host_six

pub repeated_has_name : {t : List ℕ} {a : ℕ} → Repeats t a → content_at t a ≡ 0 → ⊥
repeated_has_name r = r.other_label

pub row_6_elsewhere_stays : {t : List ℕ} → UnnamedOnce t → (a : ℕ) → Lowest (StoodEarlier t) a ↔ Lowest (Repeats t) a
row_6_elsewhere_stays = elsewhere_same
