-- One word of the table, by document 01, "The word and the table". All is said of any number, even of one that is not a word.
-- Assumes nothing.
use Rattle.std.specs.Prelude.{ℕ, ◌+◌, ◌*◌, ◌/◌, ◌%◌, Bool, false, cond, ◌||◌, List, [], ◌∷◌, eqb}
use Rattle.words.specs.declared.kind.Kind.{Kind}
use Rattle.words.specs.declared.kind.Kind.TheVariants.{Variable, Constant, Function, Pointer, Count, NoWord}

-- "A word is tag x 65,536 + content"
abbrev pub word_of : ℕ → ℕ → ℕ
word_of tag content = tag * 65536 + content

-- "the content has 16 bits"
abbrev pub content_of : ℕ → ℕ
content_of w = w % 65536

-- Document 02, E1: "label 0 for the variable that ISO Prolog spells as a bare underscore". Such a variable has no name.
abbrev pub unnamed : ℕ
unnamed = 0

-- the five bits of the tag
abbrev pub tag_of : ℕ → ℕ
tag_of w = w / 65536 % 32

-- "the 11 bits above the tag", which "are zero" in a word
abbrev pub high_of : ℕ → ℕ
high_of w = w / 2097152

-- The table of tags, "as a number". What is not a word has no tag there, and is given 0, which is not in the table.
abbrev pub tag_number : Kind → ℕ
tag_number Variable = 16
tag_number Constant = 18
tag_number Function = 19
tag_number Pointer = 20
tag_number Count = 24
tag_number NoWord = 0

-- whether two kinds are one
abbrev pub same_kind : Kind → Kind → Bool
same_kind a b = eqb (tag_number a) (tag_number b)

-- the rows of the table of tags
abbrev pub table_kinds : List Kind
table_kinds = Variable ∷ Constant ∷ Function ∷ Pointer ∷ Count ∷ []

-- "Those three kinds of word are the nodes", in the order in which their meetings are kept. An item begins with one of them too: "a
-- variable, a constant, or a block", which is "a function word, a count word k, then k argument words".
abbrev pub node_kinds : List Kind
node_kinds = Variable ∷ Constant ∷ Function ∷ []

-- "k argument words, each a variable, a constant or a pointer"
abbrev pub argument_kinds : List Kind
argument_kinds = Variable ∷ Constant ∷ Pointer ∷ []

-- whether a kind is one of these
abbrev pub is_one_of : List Kind → Kind → Bool
is_one_of [] k = false
is_one_of (j ∷ js) k = same_kind k j || is_one_of js k

-- the first of these kinds that has the tag
abbrev pub kind_among : List Kind → ℕ → Kind
kind_among [] tag = NoWord
kind_among (k ∷ ks) tag = cond (eqb tag (tag_number k)) k (kind_among ks tag)

-- the kind of word that has the tag, by the table; no word, if the "tag is not in the table"
abbrev pub kind_of_tag : ℕ → Kind
kind_of_tag tag = kind_among table_kinds tag

-- the kind of a number, which is no word if "a high bit is set"
unfoldable pub kind_of : ℕ → Kind
kind_of w = cond (eqb (high_of w) 0) (kind_of_tag (tag_of w)) NoWord
