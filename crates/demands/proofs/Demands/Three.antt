-- Demand 3, sentence by sentence. Assumes nothing.
use mathlib.Core.Path.{◌≡◌}
use mathlib.Core.Logic.{◌↔◌}
use mathlib.Core.List.{List}
use Prim.Native.Nat.{ℕ, ◌≤◌}
use lib.ListN.{length, take}
use Rattle.graphs.specs.Graph.{variable}
use Rattle.graphs.specs.Partition.{pairs_of}
use Rattle.graphs.specs.Term.{WellCounted, Replacement, ◌then◌, Unifies, FollowsRule, answer}
use Rattle.table.specs.Table.{TableSymbols, graph_of}
use Rattle.matcher.specs.Match.{Matched, MatchOf, Passes, number_of, job_of}
use Rattle.matcher.specs.Demands.{Met, MetCounted}
use Rattle.host.specs.AsOne.{answer_in}
use Rattle.jobfile.specs.Jobs.{table_of, list_of}
use Rattle.host.specs.Host.{HostOf}
use Rattle.station.specs.Entries.{LentOf}
use Rattle.demands.specs.HostPasses.{HostPasses}
use Rattle.matcher.proofs.Demands.{accepted_passes, accepted_exactly, accepted_exactly_counted, answer_makes_equal, answer_well_counted, answer_rule, answer_rule_only, answer_most_general_of_list}
use Rattle.demands.proofs.Entries.{lent_passes, lent_accepted_exactly, lent_accepted_exactly_counted, lent_answer_makes_equal, lent_answer_well_counted, lent_answer_rule, lent_answer_rule_only, lent_answer_most_general}
use Rattle.demands.proofs.HostMatch.{accepted_host_passes, host_accepted_exactly, host_accepted_exactly_counted, host_answer_makes_equal, host_answer_well_counted, host_answer_rule, host_answer_rule_only, host_answer_most_general}
use Rattle.demands.proofs.TwoJobs.{two_jobs, first_passes, second_passes, first_accepted, second_refused}

-- ==== "For a table, list and buffers that pass all checks, the list is accepted exactly when some replacement of the variables by
-- ==== finite terms makes every pair equal."

pub match_accepts_exactly : {t list class work : List ℕ} {r : Matched} {class_after work_after : List ℕ} → MatchOf t list class work r class_after work_after
    → Passes (job_of t list class work) → (number_of r ≡ 0) ↔ Met (graph_of t) (pairs_of list)
match_accepts_exactly = accepted_exactly

pub lent_accepts_exactly : {t list class work : List ℕ} {r : ℕ} {class_after work_after : List ℕ} → LentOf t list class work r class_after work_after
    → Passes (job_of t list class work) → (answer_in r ≡ 0) ↔ Met (graph_of t) (pairs_of list)
lent_accepts_exactly = lent_accepted_exactly

pub host_call_accepts_exactly : {bytes room after : List ℕ} {job r : ℕ} → HostOf bytes job room r after → HostPasses bytes job room
    → (r ≡ 0) ↔ Met (graph_of (table_of bytes job)) (pairs_of (list_of bytes job))
host_call_accepts_exactly h passes = host_accepted_exactly passes h

-- "finite terms": a term here may have any number of arguments. It makes no difference: the same holds with replacements by terms in
-- which each symbol has as many arguments as it counts, and the answer's terms are such.

pub match_accepts_exactly_counted : {t list class work : List ℕ} {r : Matched} {class_after work_after : List ℕ} → MatchOf t list class work r class_after work_after
    → Passes (job_of t list class work) → (number_of r ≡ 0) ↔ MetCounted (graph_of t) (pairs_of list)
match_accepts_exactly_counted = accepted_exactly_counted

pub lent_accepts_exactly_counted : {t list class work : List ℕ} {r : ℕ} {class_after work_after : List ℕ} → LentOf t list class work r class_after work_after
    → Passes (job_of t list class work) → (answer_in r ≡ 0) ↔ MetCounted (graph_of t) (pairs_of list)
lent_accepts_exactly_counted = lent_accepted_exactly_counted

pub host_call_accepts_exactly_counted : {bytes room after : List ℕ} {job r : ℕ} → HostOf bytes job room r after → HostPasses bytes job room
    → (r ≡ 0) ↔ MetCounted (graph_of (table_of bytes job)) (pairs_of (list_of bytes job))
host_call_accepts_exactly_counted h passes = host_accepted_exactly_counted passes h

-- "that pass all checks": what is accepted passes them, so below it is not asked beside the answer 0.

pub match_accepted_passes : {t list class work : List ℕ} {r : Matched} {class_after work_after : List ℕ} → MatchOf t list class work r class_after work_after
    → number_of r ≡ 0 → Passes (job_of t list class work)
match_accepted_passes = accepted_passes

pub lent_accepted_passes : {t list class work : List ℕ} {r : ℕ} {class_after work_after : List ℕ} → LentOf t list class work r class_after work_after
    → answer_in r ≡ 0 → Passes (job_of t list class work)
lent_accepted_passes = lent_passes

pub host_call_accepted_passes : {bytes room after : List ℕ} {job r : ℕ} → HostOf bytes job room r after → r ≡ 0 → HostPasses bytes job room
host_call_accepted_passes = accepted_host_passes

-- and there are calls that pass: both jobs of document 01's file, of which the first is accepted and the second refused
pub two_jobs_pass : {room : List ℕ} → 40 ≤ length room → HostPasses two_jobs 1 room × HostPasses two_jobs 2 room
two_jobs_pass enough = (first_passes enough, second_passes enough)

pub two_jobs_answered : {room after : List ℕ} {r : ℕ} → 40 ≤ length room
    → (HostOf two_jobs 1 room r after → r ≡ 0) × ((h : HostOf two_jobs 2 room r after) → (r ≡ 11) × (h.place ≡ 1))
two_jobs_answered enough = (first_accepted enough, second_refused enough)

-- ==== "The answer is such a replacement."

pub match_answer_makes_equal : {t list class work : List ℕ} {r : Matched} {class_after work_after : List ℕ} → MatchOf t list class work r class_after work_after
    → number_of r ≡ 0 → Unifies (graph_of t) (pairs_of list) (answer (graph_of t) (take (length t) class_after))
match_answer_makes_equal m z = answer_makes_equal m (accepted_passes m z) z

pub lent_makes_equal : {t list class work : List ℕ} {r : ℕ} {class_after work_after : List ℕ} → LentOf t list class work r class_after work_after
    → answer_in r ≡ 0 → Unifies (graph_of t) (pairs_of list) (answer (graph_of t) (take (length t) class_after))
lent_makes_equal = lent_answer_makes_equal

pub host_call_answer_makes_equal : {bytes room after : List ℕ} {job r : ℕ} (h : HostOf bytes job room r after) → r ≡ 0
    → Unifies (graph_of (table_of bytes job)) (pairs_of (list_of bytes job)) (answer (graph_of (table_of bytes job)) h.classes)
host_call_answer_makes_equal h z = host_answer_makes_equal (accepted_host_passes h z) h z

-- in its terms each symbol has as many arguments as it counts
pub match_answer_counted : {t list class work : List ℕ} {r : Matched} {class_after work_after : List ℕ} → MatchOf t list class work r class_after work_after
    → number_of r ≡ 0 → (x : ℕ) → WellCounted (answer (graph_of t) (take (length t) class_after) x)
match_answer_counted m z = answer_well_counted m (accepted_passes m z)

pub lent_counted : {t list class work : List ℕ} {r : ℕ} {class_after work_after : List ℕ} → LentOf t list class work r class_after work_after
    → answer_in r ≡ 0 → (x : ℕ) → WellCounted (answer (graph_of t) (take (length t) class_after) x)
lent_counted = lent_answer_well_counted

pub host_call_answer_counted : {bytes room after : List ℕ} {job r : ℕ} (h : HostOf bytes job room r after) → r ≡ 0
    → (x : ℕ) → WellCounted (answer (graph_of (table_of bytes job)) h.classes x)
host_call_answer_counted h z = host_answer_well_counted (accepted_host_passes h z) h z

-- it follows document 01's rule for the answer, and on the variables of the table no other does
pub match_answer_follows_rule : {t list class work : List ℕ} {r : Matched} {class_after work_after : List ℕ} → MatchOf t list class work r class_after work_after
    → number_of r ≡ 0 → FollowsRule (graph_of t) (pairs_of list) (take (length t) class_after) (answer (graph_of t) (take (length t) class_after))
match_answer_follows_rule m z = answer_rule m (accepted_passes m z) z

pub match_answer_only : {t list class work : List ℕ} {r : Matched} {class_after work_after : List ℕ} → MatchOf t list class work r class_after work_after
    → number_of r ≡ 0 → (σ : Replacement TableSymbols) → FollowsRule (graph_of t) (pairs_of list) (take (length t) class_after) σ
    → (x : ℕ) → (graph_of t).head x ≡ variable → σ x ≡ answer (graph_of t) (take (length t) class_after) x
match_answer_only m z = answer_rule_only m (accepted_passes m z) z

pub lent_follows_rule : {t list class work : List ℕ} {r : ℕ} {class_after work_after : List ℕ} → LentOf t list class work r class_after work_after
    → answer_in r ≡ 0 → FollowsRule (graph_of t) (pairs_of list) (take (length t) class_after) (answer (graph_of t) (take (length t) class_after))
lent_follows_rule = lent_answer_rule

pub lent_answer_only : {t list class work : List ℕ} {r : ℕ} {class_after work_after : List ℕ} → LentOf t list class work r class_after work_after
    → answer_in r ≡ 0 → (σ : Replacement TableSymbols) → FollowsRule (graph_of t) (pairs_of list) (take (length t) class_after) σ
    → (x : ℕ) → (graph_of t).head x ≡ variable → σ x ≡ answer (graph_of t) (take (length t) class_after) x
lent_answer_only = lent_answer_rule_only

pub host_call_answer_follows_rule : {bytes room after : List ℕ} {job r : ℕ} (h : HostOf bytes job room r after) → r ≡ 0
    → FollowsRule (graph_of (table_of bytes job)) (pairs_of (list_of bytes job)) h.classes (answer (graph_of (table_of bytes job)) h.classes)
host_call_answer_follows_rule h z = host_answer_rule (accepted_host_passes h z) h z

pub host_call_answer_only : {bytes room after : List ℕ} {job r : ℕ} (h : HostOf bytes job room r after) → r ≡ 0
    → (σ : Replacement TableSymbols) → FollowsRule (graph_of (table_of bytes job)) (pairs_of (list_of bytes job)) h.classes σ
    → (x : ℕ) → (graph_of (table_of bytes job)).head x ≡ variable → σ x ≡ answer (graph_of (table_of bytes job)) h.classes x
host_call_answer_only h z = host_answer_rule_only (accepted_host_passes h z) h z

-- ==== "For each other one, doing the answer first and then that one gives every variable of the table the same term as that one
-- ==== alone."

pub match_answer_most_general : {t list class work : List ℕ} {r : Matched} {class_after work_after : List ℕ} → MatchOf t list class work r class_after work_after
    → number_of r ≡ 0 → (θ : Replacement TableSymbols) → Unifies (graph_of t) (pairs_of list) θ
    → (x : ℕ) → (graph_of t).head x ≡ variable → (answer (graph_of t) (take (length t) class_after) then θ) x ≡ θ x
match_answer_most_general m z = answer_most_general_of_list m (accepted_passes m z) z

pub lent_most_general : {t list class work : List ℕ} {r : ℕ} {class_after work_after : List ℕ} → LentOf t list class work r class_after work_after
    → answer_in r ≡ 0 → (θ : Replacement TableSymbols) → Unifies (graph_of t) (pairs_of list) θ
    → (x : ℕ) → (graph_of t).head x ≡ variable → (answer (graph_of t) (take (length t) class_after) then θ) x ≡ θ x
lent_most_general = lent_answer_most_general

pub host_call_answer_most_general : {bytes room after : List ℕ} {job r : ℕ} (h : HostOf bytes job room r after) → r ≡ 0
    → (θ : Replacement TableSymbols) → Unifies (graph_of (table_of bytes job)) (pairs_of (list_of bytes job)) θ
    → (x : ℕ) → (graph_of (table_of bytes job)).head x ≡ variable → (answer (graph_of (table_of bytes job)) h.classes then θ) x ≡ θ x
host_call_answer_most_general h z = host_answer_most_general (accepted_host_passes h z) h z
