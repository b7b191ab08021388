-- The text of a range file to begin with. Source: TOML, for the form of tables and of comments.
use Rattle.std.specs.Prelude.{◌≡◌, ℕ, zero, suc, ◌-◌, Bool, true, false, not, ◌&&◌, ◌==◌, nat_lt, nat_le, if◌then◌else◌, List, [], ◌∷◌, ◌++◌, length, map, codes, encode_utf8, string_bytes}
use Rattle.std.specs.List.{list_any}
use Rattle.std.specs.Str.{bytes_eq, chars}
use Rattle.std.specs.Fmt.{decimal}
use Rattle.pap_tree.specs.declared.declaration.Kind.{Kind}
use Rattle.pap_reader.specs.declared.element.Element.TheVariants.{Input}
use Rattle.pap_reader.specs.Trees.{RawDeclaration}
use Rattle.plan_notes.specs.declared.notes.Notes.{Notes}
use Rattle.plan_notes.specs.StartTags.{comments_before}
use Rattle.range_draft.specs.Bounds.{least_of_kind, greatest_of_kind, places_of_kind, advice}

-- what stands first
abbrev pub head : List ℕ
head =
    codes "# Ranges to begin with: for each input the widest that makes sense for its type."
    ++ (codes " A flowchart is accepted only if no run on\n# inputs within their ranges can fail, so narrow them"
    ++ (codes " to what the payroll needs. An input that takes its value from\n# earlier runs of the year needs"
    ++ codes " a table [bind.NAME] with a kind, and of an output (sum, last) its name, besides.\n"))

-- what an input needs, with what to narrow
abbrev pub table : List ℕ → Kind → List ℕ
table name kind =
    codes "# " ++ (advice kind
    ++ (codes "\n[input." ++ (name
    ++ (codes "]\nlow = " ++ (least_of_kind kind
    ++ (codes "\nhigh = " ++ (greatest_of_kind kind
    ++ (codes "\nplaces = " ++ (decimal (places_of_kind kind)
    ++ codes "\n")))))))))

-- ---- comments

-- a character that may stand in a comment: no control character, as TOML asks (it lets a tab stand besides)
abbrev pub is_comment_char : ℕ → Bool
is_comment_char c = nat_le 0x20 c && not (c == 0x7F)

-- a character as a comment shows it: a space for a control character
abbrev pub comment_char : ℕ → ℕ
comment_char c = if is_comment_char c then c else 0x20

-- the prefix of these characters that has room, each with at most 4 bytes; `..` stands for those that are left
-- out
abbrev pub front : ℕ → List ℕ → List ℕ
front room [] = []
front room (c ∷ text) =
    if nat_lt room 4 then codes ".." else encode_utf8 c ++ front (room - length (encode_utf8 c)) text

-- the line of a comment; none without any room
abbrev pub comment_line : ℕ → List ℕ → List ℕ
comment_line zero comment = []
comment_line (suc room) comment =
    codes "# " ++ (front (suc room) (map comment_char (chars comment)) ++ codes "\n")

-- the lines of comments, one after the other: each has the room that those before it leave
abbrev pub comment_lines : ℕ → List (List ℕ) → List ℕ
comment_lines room [] = []
comment_lines room (comment ∷ comments) =
    comment_line room comment ++ comment_lines (room - length (comment_line room comment)) comments

-- the most bytes of an input's comments that are taken over
abbrev pub longest_comment : ℕ
longest_comment = 200

-- the comments that stand before the tag of the numbered input, counted from 0
abbrev pub input_comments : Notes → ℕ → List (List ℕ)
input_comments notes number = map (λ comment. string_bytes comment) (comments_before notes Input number)

-- ---- entries

-- the entry of an input: an empty line, its comments, and the table
abbrev pub entry_of : RawDeclaration → List (List ℕ) → List ℕ
entry_of input comments =
    codes "\n" ++ (comment_lines longest_comment comments ++ table input.name input.kind)

-- one of the inputs has the name
abbrev pub declares : List RawDeclaration → List ℕ → Bool
declares inputs name = list_any (λ input. bytes_eq input.name name) inputs

-- The text has an entry of each of the inputs, in declared order, but of a name that is declared before. An
-- input's entry has the comments of its own tag.
pub data HaveEntries (notes : Notes) : List RawDeclaration → List ℕ → Type 0 where
  none : HaveEntries notes [] []
  again : {inputs : List RawDeclaration} {text : List ℕ} (input : RawDeclaration)
      → HaveEntries notes inputs text → declares inputs input.name ≡ true
      → HaveEntries notes (inputs ++ (input ∷ [])) text
  entry : {inputs : List RawDeclaration} {text : List ℕ} (input : RawDeclaration)
      → HaveEntries notes inputs text → declares inputs input.name ≡ false
      → HaveEntries notes (inputs ++ (input ∷ [])) (text ++ entry_of input (input_comments notes (length inputs)))

-- the range file of these inputs, with what is noted of them
pub record IsDraft (inputs : List RawDeclaration) (notes : Notes) (text : List ℕ) : Type 0 where
  pub entries : List ℕ
  pub is : text ≡ head ++ entries
  pub have : HaveEntries notes inputs entries
