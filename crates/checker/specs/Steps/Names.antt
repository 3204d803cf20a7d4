-- What the scan for repeated names answers, `FirstRepeated`; and what is known of the chains that it and the walk along the items
-- keep in the work row. For this crate alone. Assumes nothing.
use Rattle.std.specs.Prelude.{◌≡◌, Bool, true, false, Option, None, Some, List, ℕ, ◌+◌, ◌*◌, ◌/◌, ◌%◌, ◌≤◌, ◌<◌, length, get_or, drop}
use Rattle.words.specs.Limits.{most_words}
use Rattle.words.specs.Word.{unnamed}
use Rattle.words.specs.declared.kind.Kind.TheVariants.{Variable, NoWord}
use Rattle.answering.specs.Answers.{Lowest}
use Rattle.table.specs.Table.{kind_at, content_at}
use Rattle.table.specs.Faults.{Repeats}

-- Of the work row, the entries after the first 4n stay; those may be written over.
pub record RestStays (t entry exit : List ℕ) : Type 0 where
  pub rest : drop (4 * length t) exit ≡ drop (4 * length t) entry
  pub same_length : length exit ≡ length entry

-- the lowest address that repeats a name, if one does
abbrev pub LowestRepeated : List ℕ → Option ℕ → Type 0
LowestRepeated t (Some a) = Lowest (Repeats t) a
LowestRepeated t None = (a : ℕ) → Repeats t a → ⊥

-- .. with the work row that the scan for it leaves
pub record FirstRepeated (t entry exit : List ℕ) (found : Option ℕ) : Type 0 where
  pub lowest : LowestRepeated t found
  pub stays : RestStays t entry exit

-- the first where the answer is yes, and the second where it is no
abbrev pub Either : Bool → Type 0 → Type 0 → Type 0
Either true A B = A
Either false A B = B

-- where the chain of a label begins, by the number of chains
unfoldable pub start_of : ℕ → ℕ → ℕ
start_of label chains = label * 40503 % 65536 * chains / 65536

-- ---- chains, over any two functions: where each chain begins, and what comes after an address

-- An address is met on the way from another; 0 ends the way.
pub data Reach (next : ℕ → ℕ) : ℕ → ℕ → Type 0 where
  here : {b : ℕ} → Reach next b b
  further : {v b : ℕ} → 0 < v → Reach next (next v) b → Reach next v b

-- a variable with a name: its label is not 0
pub record NamedVariable (t : List ℕ) (a : ℕ) : Type 0 where
  pub variable_here : kind_at t a ≡ Variable
  pub other_label : content_at t a ≡ unnamed → ⊥

-- what stands in a chain: 0, or the address of a variable with a name, below a
pub record InChain (t : List ℕ) (a x : ℕ) : Type 0 where
  pub below : x < a
  pub named_there : 0 < x → NamedVariable t x

-- The variables with names at the addresses from 1 to below a are in m chains, each in the chain of its label.
pub record Chains (t : List ℕ) (m a : ℕ) (head next : ℕ → ℕ) : Type 0 where
  pub heads : (h : ℕ) → h < m → InChain t a (head h)
  pub links : (v : ℕ) → 0 < v → v < a → NamedVariable t v → InChain t v (next v)
  pub all : (b : ℕ) → 0 < b → b < a → NamedVariable t b → Reach next (head (start_of (content_at t b) m)) b

-- ---- chains in the work row

abbrev pub head_in : List ℕ → ℕ → ℕ
head_in work h = get_or work h 0

abbrev pub next_in : List ℕ → List ℕ → ℕ → ℕ
next_in t work b = get_or work (3 * length t + b) 0

-- The work row has room, and holds the chains of the variables with names below a. Word 0 is no variable.
pub record Chained (t work : List ℕ) (a : ℕ) : Type 0 where
  pub no_variable : kind_at t 0 ≡ NoWord
  pub small : length t ≤ most_words
  pub room : 4 * length t ≤ length work
  pub chains : Chains t (3 * length t) a (head_in work) (next_in t work)

-- .. and the entries after the first 4n are those that were there
pub record ChainedOn (t entry exit : List ℕ) (a : ℕ) : Type 0 where
  pub chained : Chained t exit a
  pub stays : RestStays t entry exit

-- An address was judged: it repeats a name and the work row stays, or it does not and the chains have it.
pub record NameJudged (t entry exit : List ℕ) (a : ℕ) (repeated : Bool) : Type 0 where
  pub verdict : Either repeated (Repeats t a) (Repeats t a → ⊥)
  pub goes_on : Either repeated (exit ≡ entry) (ChainedOn t entry exit (a + 1))
