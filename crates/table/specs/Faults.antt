-- Document 01's table of numbers, "Numbers returned": the rows 1 to 11, with the words of each beside its constructor. Row 6 is
-- as document 02, E1, amends it. Assumes nothing.
use Rattle.std.specs.Prelude.{◌≡◌, Bool, true, false, ◌&&◌, ◌||◌, not, ◌⊎◌, Some, List, [], ◌∷◌, ◌++◌, ℕ, zero, suc, ◌+◌, ◌*◌, ◌<◌, eqb, leb, ltb, length, get_or, take, drop}
use Rattle.words.specs.Limits.{most_words, most_entries, most_arguments}
use Rattle.words.specs.Word.{unnamed, same_kind, is_one_of}
use Rattle.words.specs.declared.kind.Kind.{Kind}
use Rattle.words.specs.declared.kind.Kind.TheVariants.{Variable, Pointer, Count, NoWord}
use Rattle.answering.specs.Answers.{Lowest}
use Rattle.graphs.specs.Graph.{Symbols, Graph, Child, Steps}
use Rattle.graphs.specs.Partition.{Pair, pairs_of, Clash, Cycle}
use Rattle.table.specs.Table.{word_at, kind_at, content_at, node_kind, graph_of}
use Rattle.table.specs.Layout.{item, break_from}

-- What a match is sent: a table, a list, and how many entries the class and the work buffer have.
pub record Job : Type 0 where
  pub table : List ℕ
  pub list : List ℕ
  pub class_room : ℕ
  pub work_room : ℕ

-- the same, by its parts
abbrev pub sent : List ℕ → List ℕ → ℕ → ℕ → Job
sent t list class_room work_room = record { table = t; list = list; class_room = class_room; work_room = work_room }

-- ---- one word

-- what is wrong with a later word, by its kind and content
unfoldable pub bad_kind : Kind → ℕ → Bool
bad_kind k content = same_kind k NoWord || (same_kind k Count && (eqb content 0 || ltb most_arguments content))

-- "word 0 is not 0; a later tag is not in the table; a high bit is set; a count is 0 or over 255"
unfoldable pub bad_word : List ℕ → ℕ → Bool
bad_word t zero = not (eqb (word_at t 0) 0)
bad_word t (suc a) = bad_kind (kind_at t (suc a)) (content_at t (suc a))

-- "0, an address of n or more, a pointer or a count"
unfoldable pub bad_target : List ℕ → ℕ → Bool
bad_target t b = eqb b 0 || (leb (length t) b || is_one_of (Pointer ∷ Count ∷ []) (kind_at t b))

-- a pointer that "names" such a target
abbrev pub bad_pointer : List ℕ → ℕ → Bool
bad_pointer t a = same_kind (kind_at t a) Pointer && bad_target t (content_at t a)

-- "a variable's label stood earlier"
pub record StoodEarlier (t : List ℕ) (a : ℕ) : Type 0 where
  pub later : kind_at t a ≡ Variable
  pub earlier : ℕ
  pub before : earlier < a
  pub variable_there : kind_at t earlier ≡ Variable
  pub same_label : content_at t earlier ≡ content_at t a

-- .. as document 02, E1, amends it: words of label 0 "may repeat", "other labels still may not repeat"
pub record Repeats (t : List ℕ) (a : ℕ) : Type 0 where
  pub stood : StoodEarlier t a
  pub other_label : content_at t a ≡ unnamed → ⊥

-- ---- the list

-- the number of entries is odd
unfoldable pub odd : List ℕ → Bool
odd [] = false
odd (l ∷ []) = true
odd (l ∷ r ∷ rest) = odd rest

-- "a side is not the address of a node"
abbrev pub bad_sides : List ℕ → Pair → Bool
bad_sides t p = not (node_kind (kind_at t p.left) && node_kind (kind_at t p.right))

-- the pair at place i, from 0
abbrev pub pair_at : List Pair → ℕ → Pair
pair_at pairs i = get_or pairs i (record { left = 0; right = 0 })

-- "first k pairs have a clash, first k-1 have neither clash nor cycle", at k = i + 1
pub record FirstClash {S : Symbols} (G : Graph S) (pairs : List Pair) (i : ℕ) : Type 0 where
  pub within : i < length pairs
  pub clash : Clash G (take (i + 1) pairs)
  pub no_clash_before : Clash G (take i pairs) → ⊥
  pub no_cycle_before : Cycle G (take i pairs) → ⊥

-- "first k pairs have a cycle and no clash, first k-1 have neither", at k = i + 1
pub record FirstCycle {S : Symbols} (G : Graph S) (pairs : List Pair) (i : ℕ) : Type 0 where
  pub within : i < length pairs
  pub cycle : Cycle G (take (i + 1) pairs)
  pub no_clash : Clash G (take (i + 1) pairs) → ⊥
  pub no_clash_before : Clash G (take i pairs) → ⊥
  pub no_cycle_before : Cycle G (take i pairs) → ⊥

-- ---- the table of numbers

pub data Row : Type 0 where
  SIZE ROOM WORD LAYOUT POINTER NAME LOOP LIST ADDRESS CLASH CYCLE : Row

unfoldable pub number : Row → ℕ
number SIZE = 1
number ROOM = 2
number WORD = 3
number LAYOUT = 4
number POINTER = 5
number NAME = 6
number LOOP = 7
number LIST = 8
number ADDRESS = 9
number CLASH = 10
number CYCLE = 11

-- A row applies to a job, at a place. "Pairs are numbered from 1": the pair at place i of the list has number i + 1, and the
-- pairs before it are `take i`.
pub data Fault (job : Job) : Row → ℕ → Type 0 where
  -- "n is 0 or over 4,096"
  size_fault : (length job.table ≡ 0) ⊎ (most_words < length job.table) → Fault job SIZE 0
  -- "class buffer under n entries, or work buffer under 4n"
  room_fault : (job.class_room < length job.table) ⊎ (job.work_room < 4 * length job.table) → Fault job ROOM 0
  -- "lowest such address"
  word_fault : {a : ℕ} → Lowest (λ b. (b < length job.table) × (bad_word job.table b ≡ true)) a → Fault job WORD a
  -- "the row of items breaks"; it begins at address 1
  layout_fault : {a : ℕ} → break_from item 1 (drop 1 job.table) ≡ Some a → Fault job LAYOUT a
  -- "lowest such pointer"
  pointer_fault : {a : ℕ} → Lowest (λ b. (b < length job.table) × (bad_pointer job.table b ≡ true)) a → Fault job POINTER a
  -- "lowest such later address"
  name_fault : {a : ℕ} → Lowest (Repeats job.table) a → Fault job NAME a
  -- "some node reaches itself"
  loop_fault : (x : ℕ) → Steps (Child (graph_of job.table)) x x → Fault job LOOP 0
  -- "odd number of entries, or over 512"
  list_fault : (odd job.list ≡ true) ⊎ (most_entries < length job.list) → Fault job LIST 0
  -- "lowest such pair number"
  address_fault : {i : ℕ}
      → Lowest (λ k. (k < length (pairs_of job.list)) × (bad_sides job.table (pair_at (pairs_of job.list) k) ≡ true)) i
      → Fault job ADDRESS (i + 1)
  -- "k"
  clash_fault : {i : ℕ} → FirstClash (graph_of job.table) (pairs_of job.list) i → Fault job CLASH (i + 1)
  -- "k"
  cycle_fault : {i : ℕ} → FirstCycle (graph_of job.table) (pairs_of job.list) i → Fault job CYCLE (i + 1)

-- ---- orders

-- the lengths that are sent: 1 and 2
abbrev pub size_rows : List Row
size_rows = SIZE ∷ ROOM ∷ []

-- what the table holds: 3 to 7
abbrev pub shape_rows : List Row
shape_rows = WORD ∷ LAYOUT ∷ POINTER ∷ []

abbrev pub table_rows : List Row
table_rows = shape_rows ++ (NAME ∷ LOOP ∷ [])

-- the list: 8 and 9; and its pairs: 10 and 11
abbrev pub list_rows : List Row
list_rows = LIST ∷ ADDRESS ∷ []

abbrev pub pair_rows : List Row
pair_rows = CLASH ∷ CYCLE ∷ []

-- "The table check by itself .. gives 0 to 7 by the same rules"
abbrev pub check_order : List Row
check_order = size_rows ++ table_rows

-- "The lowest number that applies is given"
abbrev pub match_order : List Row
match_order = check_order ++ list_rows ++ pair_rows
