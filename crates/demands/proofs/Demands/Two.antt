-- Demand 2, sentence by sentence. Assumes nothing.
use mathlib.Core.Path.{◌≡◌}
use mathlib.Core.Logic.{◌⊎◌, ◌↔◌}
use mathlib.Core.List.{List, ◌++◌}
use Prim.Native.Nat.{ℕ, ◌+◌, ◌*◌, ◌≤◌}
use lib.ListN.{length, get_or, take, drop}
use Rattle.rows.specs.LittleEndian.{AllBytes}
use Rattle.graphs.specs.Graph.{Node}
use Rattle.graphs.specs.Partition.{pairs_of, Same, Smallest, entry, ClassTable, OneEntry, joins}
use Rattle.table.specs.Table.{graph_of}
use Rattle.matcher.specs.Match.{Matched, MatchOf, Passes, number_of, place_of, joins_of, job_of}
use Rattle.matcher.specs.Demands.{FirstUnmet}
use Rattle.std.specs.Prelude.{Ok}
use Rattle.jobfile.specs.declared.sizes.Sizes.{Sizes}
use Rattle.jobfile.specs.File.{count_in, sizes_in, GoodFile}
use Rattle.jobfile.specs.Jobs.{FileJob, sizes_of, bodies_of, file_of_jobs, Holdable, jobs_in, entry_of, words_of, table_of, list_of}
use Rattle.jobfile.specs.Reader.{FileAnswer, ReadOf, BodiesOf}
use Rattle.jobfile.specs.Writer.{WriteAnswer, WriteOf}
use Rattle.host.specs.AsOne.{answer_in, place_in, joins_in}
use Rattle.host.specs.Host.{HostOf, report_of}
use Rattle.host.specs.Sizes.{SizesOf}
use Rattle.station.specs.Entries.{LentOf}
use Rattle.demands.specs.HostPasses.{HostPasses}
use Rattle.matcher.proofs.Demands.{accepted_passes, accepted_class_table, accepted_smallest, accepted_classes, accepted_joins, refused_at_first}
use Rattle.jobfile.proofs.Theorems.{reader_accepts_good, good_read_written_again}
use Rattle.demands.proofs.Room.{room_bound}
use Rattle.demands.proofs.Entries.{lent_class_table, lent_smallest, lent_classes, lent_joins, lent_refused_at_first, read_entry_gives}
use Rattle.demands.proofs.HostMatch.{accepted_host_passes, host_smallest, host_classes, host_refused_at_first}
use Rattle.demands.proofs.ThereAndBack.{jobs_there_and_back, job_of_file}

-- ==== "The class table of an accepted list is the smallest equivalence partition of the table's nodes that joins all its pairs and,
-- ==== as document 01 defines it, the children that must follow, each class named by document 01's rule."
--
-- The entries in use are the class table: a node's entry is its class's name, by document 01's rule, and other entries are 0. To
-- have one entry in it is an equivalence on nodes that joins the pairs and the children that must follow, and the smallest; two
-- nodes have one entry exactly where the partition has them together; and the joins are nodes less classes.

pub match_gives_class_table : {t list class work : List ℕ} {r : Matched} {class_after work_after : List ℕ} → MatchOf t list class work r class_after work_after
    → number_of r ≡ 0 → ClassTable (graph_of t) (pairs_of list) (take (length t) class_after)
match_gives_class_table m z = accepted_class_table m (accepted_passes m z) z

pub match_gives_smallest : {t list class work : List ℕ} {r : Matched} {class_after work_after : List ℕ} → MatchOf t list class work r class_after work_after
    → number_of r ≡ 0 → Smallest (graph_of t) (pairs_of list) (OneEntry (graph_of t) (take (length t) class_after))
match_gives_smallest m z = accepted_smallest m (accepted_passes m z) z

pub match_gives_classes : {t list class work : List ℕ} {r : Matched} {class_after work_after : List ℕ} → MatchOf t list class work r class_after work_after
    → number_of r ≡ 0 → {x y : ℕ} → Node (graph_of t) x → Node (graph_of t) y
    → Same (graph_of t) (pairs_of list) x y ↔ (entry (take (length t) class_after) x ≡ entry (take (length t) class_after) y)
match_gives_classes m z = accepted_classes m (accepted_passes m z) z

pub match_gives_joins : {t list class work : List ℕ} {r : Matched} {class_after work_after : List ℕ} → MatchOf t list class work r class_after work_after
    → number_of r ≡ 0 → joins_of r ≡ joins (graph_of t) (take (length t) class_after)
match_gives_joins m z = accepted_joins m (accepted_passes m z) z

pub lent_gives_class_table : {t list class work : List ℕ} {r : ℕ} {class_after work_after : List ℕ} → LentOf t list class work r class_after work_after
    → answer_in r ≡ 0 → ClassTable (graph_of t) (pairs_of list) (take (length t) class_after)
lent_gives_class_table = lent_class_table

pub lent_gives_smallest : {t list class work : List ℕ} {r : ℕ} {class_after work_after : List ℕ} → LentOf t list class work r class_after work_after
    → answer_in r ≡ 0 → Smallest (graph_of t) (pairs_of list) (OneEntry (graph_of t) (take (length t) class_after))
lent_gives_smallest = lent_smallest

pub lent_gives_classes : {t list class work : List ℕ} {r : ℕ} {class_after work_after : List ℕ} → LentOf t list class work r class_after work_after
    → answer_in r ≡ 0 → {x y : ℕ} → Node (graph_of t) x → Node (graph_of t) y
    → Same (graph_of t) (pairs_of list) x y ↔ (entry (take (length t) class_after) x ≡ entry (take (length t) class_after) y)
lent_gives_classes = lent_classes

pub lent_gives_joins : {t list class work : List ℕ} {r : ℕ} {class_after work_after : List ℕ} → LentOf t list class work r class_after work_after
    → answer_in r ≡ 0 → joins_in r ≡ joins (graph_of t) (take (length t) class_after)
lent_gives_joins = lent_joins

-- of the host call, with the joins in the report
pub host_call_gives_class_table : {bytes room after : List ℕ} {job r : ℕ} (h : HostOf bytes job room r after) → r ≡ 0
    → ClassTable (graph_of (table_of bytes job)) (pairs_of (list_of bytes job)) h.classes
    × (after ≡ report_of 0 0 (joins (graph_of (table_of bytes job)) h.classes) h.classes ++ drop (6 + 2 * words_of bytes job) room)
host_call_gives_class_table = room_bound

pub host_call_gives_smallest : {bytes room after : List ℕ} {job r : ℕ} (h : HostOf bytes job room r after) → r ≡ 0
    → Smallest (graph_of (table_of bytes job)) (pairs_of (list_of bytes job)) (OneEntry (graph_of (table_of bytes job)) h.classes)
host_call_gives_smallest h z = host_smallest (accepted_host_passes h z) h z

pub host_call_gives_classes : {bytes room after : List ℕ} {job r : ℕ} (h : HostOf bytes job room r after) → r ≡ 0
    → {x y : ℕ} → Node (graph_of (table_of bytes job)) x → Node (graph_of (table_of bytes job)) y
    → Same (graph_of (table_of bytes job)) (pairs_of (list_of bytes job)) x y ↔ (entry h.classes x ≡ entry h.classes y)
host_call_gives_classes h z = host_classes (accepted_host_passes h z) h z

-- ==== "A clash or cycle is reported at the first pair where the list so far cannot be met."

pub match_refuses_at_first : {t list class work : List ℕ} {r : Matched} {class_after work_after : List ℕ} → MatchOf t list class work r class_after work_after
    → Passes (job_of t list class work) → (k : ℕ) → (((number_of r ≡ 10) ⊎ (number_of r ≡ 11)) × (place_of r ≡ k)) ↔ FirstUnmet (graph_of t) (pairs_of list) k
match_refuses_at_first = refused_at_first

pub lent_refuses_at_first : {t list class work : List ℕ} {r : ℕ} {class_after work_after : List ℕ} → LentOf t list class work r class_after work_after
    → Passes (job_of t list class work) → (k : ℕ) → (((answer_in r ≡ 10) ⊎ (answer_in r ≡ 11)) × (place_in r ≡ k)) ↔ FirstUnmet (graph_of t) (pairs_of list) k
lent_refuses_at_first = lent_refused_at_first

pub host_call_refuses_at_first : {bytes room after : List ℕ} {job r : ℕ} (h : HostOf bytes job room r after) → HostPasses bytes job room
    → (k : ℕ) → (((r ≡ 10) ⊎ (r ≡ 11)) × (h.place ≡ k)) ↔ FirstUnmet (graph_of (table_of bytes job)) (pairs_of (list_of bytes job)) k
host_call_refuses_at_first h passes = host_refused_at_first passes h

-- ==== "A job file that is read and written again has the same bytes,"

pub accepted_file_is_good : {bytes : List ℕ} {r : FileAnswer} {sizes : Sizes} → ReadOf bytes r sizes → (r ≡ Ok tt → GoodFile bytes) × (GoodFile bytes → r ≡ Ok tt)
accepted_file_is_good = reader_accepts_good

pub file_written_again_is_same : {bytes part room after : List ℕ} {r : FileAnswer} {sizes : Sizes} {written : WriteAnswer} → AllBytes bytes → GoodFile bytes
    → ReadOf bytes r sizes → BodiesOf bytes part → length bytes ≤ length room → WriteOf (take sizes.count sizes.row) part room written after
    → (written ≡ Ok tt) × (after ≡ bytes ++ drop (length bytes) room)
file_written_again_is_same = good_read_written_again

-- ==== "and jobs written to a file are read back as the same jobs."

pub jobs_come_back : {jobs : List FileJob} {room after : List ℕ} {written : WriteAnswer} {r : FileAnswer} {sizes : Sizes} → Holdable jobs
    → length (file_of_jobs jobs) ≤ length room → WriteOf (sizes_of jobs) (bodies_of jobs) room written after → ReadOf (take (length (file_of_jobs jobs)) after) r sizes
    → (written ≡ Ok tt) × (r ≡ Ok tt) × (take sizes.count sizes.row ≡ sizes_of jobs) × (jobs_in (take (length (file_of_jobs jobs)) after) ≡ jobs)
jobs_come_back = jobs_there_and_back

-- the host is given their sizes,
pub read_entry_gives_sizes : {bytes sizes sizes_after : List ℕ} {r : ℕ} → SizesOf bytes sizes r sizes_after → answer_in r ≡ 0
    → (joins_in r ≡ count_in bytes) × (sizes_after ≡ sizes_in bytes ++ drop (2 * count_in bytes) sizes)
read_entry_gives_sizes = read_entry_gives

-- and the host call matches the job that it names, of those that are in the file
pub host_call_matches_job : {bytes : List ℕ} → GoodFile bytes → {job : ℕ} → 1 ≤ job → job ≤ count_in bytes → (d : FileJob)
    → (table_of bytes job ≡ (get_or (jobs_in bytes) (entry_of job) d).words) × (pairs_of (list_of bytes job) ≡ (get_or (jobs_in bytes) (entry_of job) d).pairs)
host_call_matches_job = job_of_file
