-- The comparison of two flowcharts as a text.
use Rattle.std.specs.Prelude.{ℕ, ◌+◌, Bool, ◌&&◌, ◌||◌, ◌==◌, nat_le, min, if◌then◌else◌, List, [], ◌∷◌, ◌++◌, length, codes, Option, Some, None, slice_get}
use Rattle.std.specs.List.{flat_map}
use Rattle.std.specs.Option.{option_and_then}
use Rattle.std.specs.Str.{bytes_eq}
use Rattle.std.specs.Fmt.{decimal as number}
use Rattle.flowchart_comparison.specs.declared.entry.Entry.{Entry}
use Rattle.flowchart_comparison.specs.declared.entry.Entry.TheVariants.{Same, Changed, Gone, New}
use Rattle.flowchart_comparison.specs.Entries.{old_place, new_place}
use Rattle.flowchart_comparison.specs.Outlines.{TextLine, TextItem, LinedMethod, TextOutline}
use Rattle.flowchart_comparison.specs.Comparisons.{ComparedMethod, TextComparison}

-- ---- lines

-- a byte begins a new line: a space or a point from column 80 on, any from column 100 on
abbrev pub is_break : ℕ → ℕ → Bool
is_break column byte = nat_le 100 column || ((byte == 32 || byte == 46) && nat_le 80 column)

-- a byte at a column, which begins a new line with the sign where it has to
abbrev pub laid_byte : ℕ → ℕ → ℕ → List ℕ
laid_byte sign column byte =
    if is_break column byte then codes "\n" ++ (sign ∷ (codes "      " ++ (byte ∷ []))) else byte ∷ []

-- the column behind it
abbrev pub next_column : ℕ → ℕ → ℕ
next_column column byte = if is_break column byte then 8 else column + 1

-- a text from a column on, in as many lines as it takes, each of which begins with the sign
abbrev pub laid : ℕ → ℕ → List ℕ → List ℕ
laid sign column [] = []
laid sign column (byte ∷ text) = laid_byte sign column byte ++ laid sign (next_column column byte) text

-- a text behind its sign and what leads to it
abbrev pub signed_lines : ℕ → List ℕ → List ℕ → List ℕ
signed_lines sign lead text =
    sign ∷ (codes " " ++ (lead ++ (laid sign (min (length lead) 100) text ++ codes "\n")))

-- ---- declarations

-- a declaration behind its sign, with a word between its name and its text; nothing where there is none
abbrev pub item_lines : ℕ → List ℕ → Option TextItem → List ℕ
item_lines sign word None = []
item_lines sign word (Some x) = signed_lines sign (x.name ++ word) x.text

-- what is written of an entry of declarations: the old text of what is gone or changed, the new one of what is new, changed or
-- the same
abbrev pub declaration_lines : (old new : List TextItem) → Entry → List ℕ
declaration_lines old new (Same i j) = item_lines 61 (codes " ") (slice_get new j)
declaration_lines old new (Changed i j) =
    item_lines 126 (codes " was ") (slice_get old i) ++ item_lines 126 (codes " now ") (slice_get new j)
declaration_lines old new (Gone i) = item_lines 45 (codes " ") (slice_get old i)
declaration_lines old new (New j) = item_lines 43 (codes " ") (slice_get new j)

-- ---- lines of methods

-- the place of a statement, METHOD:N, and a space; nothing of a line that begins no statement
abbrev pub place_lead : List ℕ → Option ℕ → List ℕ
place_lead method None = []
place_lead method (Some n) = method ++ (codes ":" ++ (number n ++ codes " "))

-- a line of one method behind its sign and its place; nothing where there is none
abbrev pub line_lines : ℕ → List ℕ → List ℕ → Option TextLine → List ℕ
line_lines sign method word None = []
line_lines sign method word (Some l) = signed_lines sign (place_lead method l.number ++ word) l.text

-- a line that is the same, behind both its places
abbrev pub same_lines : List ℕ → List ℕ → Option TextLine → Option TextLine → List ℕ
same_lines old_name new_name (Some l) (Some k) =
    signed_lines 61 (place_lead old_name l.number ++ place_lead new_name k.number) k.text
same_lines old_name new_name _ _ = []

-- what is written of an entry of lines
abbrev pub entry_lines : (old new : LinedMethod) → Entry → List ℕ
entry_lines old new (Same i j) = same_lines old.name new.name (slice_get old.lines i) (slice_get new.lines j)
entry_lines old new (Changed i j) =
    line_lines 126 old.name (codes "was ") (slice_get old.lines i) ++ line_lines 126 new.name (codes "now ") (slice_get new.lines j)
entry_lines old new (Gone i) = line_lines 45 old.name [] (slice_get old.lines i)
entry_lines old new (New j) = line_lines 43 new.name [] (slice_get new.lines j)

-- ---- methods

-- the name of a method, with its old name where that was another
abbrev pub renamed : List ℕ → List ℕ → List ℕ
renamed old_name new_name =
    if bytes_eq old_name new_name then new_name else new_name ++ (codes " was " ++ old_name)

-- a method with its lines
abbrev pub method_with : ℕ → LinedMethod → LinedMethod → List Entry → List ℕ
method_with sign old new lines =
    signed_lines sign (codes "method ") (renamed old.name new.name) ++ flat_map (entry_lines old new) lines

-- a method that stands in one flowchart or in both
abbrev pub sided : ℕ → Option LinedMethod → Option LinedMethod → List Entry → List ℕ
sided sign (Some old) (Some new) lines = method_with sign old new lines
sided sign (Some old) None lines = method_with sign old old lines
sided sign None (Some new) lines = method_with sign new new lines
sided sign None None lines = []

-- the sign of an entry
abbrev pub entry_sign : Entry → ℕ
entry_sign (Same i j) = 61
entry_sign (Changed i j) = 126
entry_sign (Gone i) = 45
entry_sign (New j) = 43

-- what is written of a method
abbrev pub shown_method : (old new : List LinedMethod) → ComparedMethod → List ℕ
shown_method old new m =
    sided (entry_sign m.method) (option_and_then (slice_get old) (old_place m.method))
    (option_and_then (slice_get new) (new_place m.method)) m.lines

-- ---- all

-- what is written of two flowcharts
abbrev pub comparison_text : (old new : TextOutline) → TextComparison → List ℕ
comparison_text old new c =
    flat_map (declaration_lines old.declarations new.declarations) c.declarations
    ++ flat_map (shown_method old.methods new.methods) c.methods
