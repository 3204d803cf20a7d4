-- What the steps that look for the first clash or cycle promise each other. For this crate alone. Assumes nothing.
use Rattle.std.specs.Prelude.{◌≡◌, Bool, false, Result, Ok, Err, List, ℕ, ◌+◌, ◌-◌, ◌*◌, ◌≤◌, ◌<◌, length, take, drop}
use Rattle.words.specs.declared.numbers.PairNumber.{PairNumber}
use Rattle.rows.specs.Placed.{zeroed}
use Rattle.answering.specs.Answers.{Answered, NoneOf}
use Rattle.answering.specs.Buffers.{changes_nothing}
use Rattle.graphs.specs.Partition.{pairs_of, Clash, Cycle, ClassTable}
use Rattle.table.specs.Table.{graph_of}
use Rattle.table.specs.Faults.{Fault, FirstClash, FirstCycle, number, check_order, match_order}
use Rattle.matcher.specs.declared.answer.Refusal.{Refusal}
use Rattle.matcher.specs.Match.{Matched, number_of, place_of, joins_of, AcceptedWith, job_of}
use Rattle.matcher.specs.Steps.PassedAll.{Cycles, PassedAll}

-- A job that passes all checks, and a work row whose entries that are used are 0.
pub record Standing (t list class work : List ℕ) : Type 0 where
  pub ready : PassedAll (job_of t list class work)
  pub clean : zeroed (2 * length t) work ≡ work

-- A table that passed its check, with rows whose entries in use are 0.
pub record TablePassed (t list class work : List ℕ) : Type 0 where
  pub clear : NoneOf (Fault (job_of t list class work)) check_order
  pub class_clean : zeroed (length t) class ≡ class
  pub work_clean : zeroed (2 * length t) work ≡ work

-- The rows after a step: the class row changed in its first n entries at most, and the work row is as it was.
pub record OnlyClassFront (t class work class_after work_after : List ℕ) : Type 0 where
  pub class_long : length class_after ≡ length class
  pub class_behind : drop (length t) class_after ≡ drop (length t) class
  pub work_same : work_after ≡ work

-- The class row begins with the class table of the first k pairs, and these have no clash.
pub record Partitioned (t list class : List ℕ) (k : ℕ) : Type 0 where
  pub class_table : ClassTable (graph_of t) (take k (pairs_of list)) (take (length t) class)
  pub no_clash : Clash (graph_of t) (take k (pairs_of list)) → ⊥

-- What comes of the first k pairs: all are joined, or there is a first clash among them.
pub data FirstJoined (t list class : List ℕ) (k : ℕ) : Result (Unit {0}) PairNumber → Type 0 where
  all_joined : {done : Unit {0}} → Partitioned t list class k → FirstJoined t list class k (Ok done)
  clash_at : {at : PairNumber} (i : ℕ) → at.0 ≡ i + 1 → i < k → Clash (graph_of t) (take (i + 1) (pairs_of list)) → (Clash (graph_of t) (take i (pairs_of list)) → ⊥)
      → FirstJoined t list class k (Err at)

pub record JoinsFirst (t list class work : List ℕ) (k : ℕ) (answer : Result (Unit {0}) PairNumber) (class_after work_after : List ℕ) : Type 0 where
  pub lent : OnlyClassFront t class work class_after work_after
  pub joined : FirstJoined t list class_after k answer

-- how many pairs come before the one that clashes, or all where none does
abbrev pub unclashed : List ℕ → Result (Unit {0}) PairNumber → ℕ
unclashed list (Ok done) = length (pairs_of list)
unclashed list (Err at) = at.0 - 1

-- The pair of this number clashes with those before it.
pub record ClashesAt (t list : List ℕ) (at : PairNumber) : Type 0 where
  pub from_1 : 0 < at.0
  pub within : at.0 ≤ length (pairs_of list)
  pub clash : Clash (graph_of t) (take at.0 (pairs_of list))

-- The pairs are joined up to the first clash.
pub record UntilClash (t list class work : List ℕ) (answer : Result (Unit {0}) PairNumber) (class_after work_after : List ℕ) : Type 0 where
  pub lent : OnlyClassFront t class work class_after work_after
  pub inside : unclashed list answer ≤ length (pairs_of list)
  pub partitioned : Partitioned t list class_after (unclashed list answer)
  pub next : (at : PairNumber) → answer ≡ Err at → ClashesAt t list at

-- whether the first k pairs have a cycle
pub record TellsCycle (t list class work : List ℕ) (k : ℕ) (answer : Bool) (class_after work_after : List ℕ) : Type 0 where
  pub lent : OnlyClassFront t class work class_after work_after
  pub truth : Cycles answer (graph_of t) (take k (pairs_of list))

-- The first k pairs have no clash.
pub record Clashless (t list : List ℕ) (k : ℕ) : Type 0 where
  pub inside : k ≤ length (pairs_of list)
  pub no_clash : Clash (graph_of t) (take k (pairs_of list)) → ⊥

-- The first cycle comes with the pair of this number.
pub record CycleAt (t list class work : List ℕ) (many found : ℕ) (class_after work_after : List ℕ) : Type 0 where
  pub lent : OnlyClassFront t class work class_after work_after
  pub place : ℕ
  pub numbers : found ≡ place + 1
  pub within : found ≤ many
  pub cycle : Cycle (graph_of t) (take (place + 1) (pairs_of list))
  pub none_before : Cycle (graph_of t) (take place (pairs_of list)) → ⊥

-- The first pair that fails is known, or the class row begins with the class table of all pairs, which have no cycle.
pub data Failed (t list class : List ℕ) : Result (Unit {0}) Refusal → Type 0 where
  none_fails : {done : Unit {0}} → Partitioned t list class (length (pairs_of list)) → (Cycle (graph_of t) (take (length (pairs_of list)) (pairs_of list)) → ⊥) → Failed t list class (Ok done)
  clash_first : {at : PairNumber} (i : ℕ) → at.0 ≡ i + 1 → FirstClash (graph_of t) (pairs_of list) i → Failed t list class (Err (Refusal.Clash at))
  cycle_first : {at : PairNumber} (i : ℕ) → at.0 ≡ i + 1 → FirstCycle (graph_of t) (pairs_of list) i → Failed t list class (Err (Refusal.Cycle at))

pub record FirstFailed (t list class work : List ℕ) (answer : Result (Unit {0}) Refusal) (class_after work_after : List ℕ) : Type 0 where
  pub lent : OnlyClassFront t class work class_after work_after
  pub failed : Failed t list class_after answer

-- An answer of 0 or from 3 on, with what it leaves of class and work rows whose entries in use were 0.
pub record Verdict (t list class work : List ℕ) (answer : Matched) (class_after work_after : List ℕ) : Type 0 where
  pub answered : Answered number (Fault (job_of t list class work)) match_order (number_of answer) (place_of answer)
  pub late : changes_nothing (number_of answer) ≡ false
  pub bound : number_of answer ≡ 0 → AcceptedWith t list class class_after (joins_of answer)
  pub refused : (number_of answer ≡ 0 → ⊥) → class_after ≡ zeroed (length t) class
  pub work_same : work_after ≡ work
