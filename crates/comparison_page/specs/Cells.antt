-- The rows of a table of changes, cell by cell. Source: HTML, its elements.
use Rattle.std.specs.Prelude.{ℕ, List, ◌++◌, codes}
use Rattle.flowchart_markup.specs.Escapes.{escaped}
use Rattle.flowchart_comparison.specs.declared.entry.Entry.{Entry}
use Rattle.flowchart_comparison.specs.declared.entry.Entry.TheVariants as entries
use Rattle.range_comparison.specs.declared.change.RangeChange.{RangeChange}
use Rattle.range_comparison.specs.declared.change.RangeChange.TheVariants as changes
use Rattle.comparison_page.specs.declared.cells.Side.{Side}
use Rattle.comparison_page.specs.declared.cells.Side.TheVariants.{Both, Old, New}

-- a text as it stands in a page, between marks of HTML
abbrev pub between_marks : (before text behind : List ℕ) → List ℕ
between_marks before text behind = before ++ (escaped text ++ behind)

-- how a cell begins: one of what both sides have stands in both columns
abbrev pub cell_start : Side → List ℕ
cell_start Both = codes "<td colspan=\"2\"><i>"
cell_start Old = codes "<td><i>"
cell_start New = codes "<td><i>"

-- what stands before the text of a cell: what is gone or has changed is marked as deleted, what took its place as inserted
abbrev pub text_start : Side → List ℕ
text_start Both = codes "</i> <code>"
text_start Old = codes "</i> <del>"
text_start New = codes "</i> <ins>"

-- what stands behind it
abbrev pub text_end : Side → List ℕ
text_end Both = codes "</code>"
text_end Old = codes "</del>"
text_end New = codes "</ins>"

-- the cell of a text of a side, behind what leads to it
abbrev pub cell : Side → (lead text : List ℕ) → List ℕ
cell side lead text = between_marks (cell_start side ++ (lead ++ text_start side)) text (text_end side)

-- how the row of what is the same begins: with its sign and its word
abbrev pub same_start : List ℕ
same_start = codes "<tr class=\"same\"><th scope=\"row\">= same"

-- how the row of what has changed begins
abbrev pub changed_start : List ℕ
changed_start = codes "<tr class=\"changed\"><th scope=\"row\">~ changed"

-- how the row of what is gone begins
abbrev pub gone_start : List ℕ
gone_start = codes "<tr class=\"gone\"><th scope=\"row\">- gone"

-- how the row of what is new begins: the column of the old side is empty
abbrev pub new_start : List ℕ
new_start = codes "<tr class=\"new\"><th scope=\"row\">+ new<td>"

-- how a row ends
abbrev pub row_end : List ℕ
row_end = codes "</tr>\n"

-- how the row of what is gone ends: the column of the new side is empty
abbrev pub gone_end : List ℕ
gone_end = codes "<td></tr>\n"

-- how the row of an entry begins: with its sign and its word
abbrev pub entry_start : Entry → List ℕ
entry_start (entries.Same i j) = same_start
entry_start (entries.Changed i j) = changed_start
entry_start (entries.Gone i) = gone_start
entry_start (entries.New j) = new_start

-- how it ends
abbrev pub entry_end : Entry → List ℕ
entry_end (entries.Gone i) = gone_end
entry_end _ = row_end

-- how the row of a change of range files begins
abbrev pub change_start : RangeChange → List ℕ
change_start (changes.New e) = new_start
change_start (changes.Changed a b) = changed_start
change_start (changes.Gone e) = gone_start

-- how it ends
abbrev pub change_end : RangeChange → List ℕ
change_end (changes.Gone e) = gone_end
change_end _ = row_end
