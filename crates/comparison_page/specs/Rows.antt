-- What a page has for each entry of a comparison: a row.
use Rattle.std.specs.Prelude.{ℕ, List, [], ◌++◌, codes, Option, Some, None, slice_get}
use Rattle.flowchart_comparison.specs.declared.entry.Entry.{Entry}
use Rattle.flowchart_comparison.specs.declared.entry.Entry.TheVariants as entries
use Rattle.flowchart_comparison.specs.Outlines.{TextLine, TextItem, LinedMethod}
use Rattle.range_comparison.specs.declared.entry.RangeEntry.{RangeEntry}
use Rattle.range_comparison.specs.declared.change.RangeChange.{RangeChange}
use Rattle.range_comparison.specs.declared.change.RangeChange.TheVariants as changes
use Rattle.range_comparison.specs.Changes.{entry_input}
use Rattle.comparison_page.specs.Texts.{place_lead}
use Rattle.comparison_page.specs.RangeTexts.{range_entry_words}
use Rattle.comparison_page.specs.declared.cells.Side.{Side}
use Rattle.comparison_page.specs.declared.cells.Side.TheVariants.{Both, Old, New}
use Rattle.comparison_page.specs.Cells.{cell, entry_start, entry_end, change_start, change_end}

-- ---- declarations

-- the cell of a declaration, with a word behind its name; nothing where there is none
abbrev pub item_cell : Side → List ℕ → Option TextItem → List ℕ
item_cell side word None = []
item_cell side word (Some x) = cell side (x.name ++ word) x.text

-- the cells of an entry of declarations
abbrev pub declaration_cells : (old new : List TextItem) → Entry → List ℕ
declaration_cells old new (entries.Same i j) = item_cell Both [] (slice_get new j)
declaration_cells old new (entries.Changed i j) =
    item_cell Old (codes " was") (slice_get old i) ++ item_cell New (codes " now") (slice_get new j)
declaration_cells old new (entries.Gone i) = item_cell Old [] (slice_get old i)
declaration_cells old new (entries.New j) = item_cell New [] (slice_get new j)

-- the row of an entry of declarations
abbrev pub declaration_row : (old new : List TextItem) → Entry → List ℕ
declaration_row old new e = entry_start e ++ (declaration_cells old new e ++ entry_end e)

-- ---- lines of methods

-- the cell of a line of a method, with a word behind its place; nothing where there is none
abbrev pub line_cell : Side → List ℕ → List ℕ → Option TextLine → List ℕ
line_cell side method word None = []
line_cell side method word (Some l) = cell side (place_lead method l.number ++ word) l.text

-- the cell of a line that is the same, behind both its places; nothing where there is none
abbrev pub same_cell : List ℕ → List ℕ → Option TextLine → Option TextLine → List ℕ
same_cell old_name new_name (Some l) (Some k) =
    cell Both (place_lead old_name l.number ++ place_lead new_name k.number) k.text
same_cell old_name new_name _ _ = []

-- the cells of an entry of lines
abbrev pub line_cells : (old new : LinedMethod) → Entry → List ℕ
line_cells old new (entries.Same i j) = same_cell old.name new.name (slice_get old.lines i) (slice_get new.lines j)
line_cells old new (entries.Changed i j) =
    line_cell Old old.name (codes "was") (slice_get old.lines i) ++ line_cell New new.name (codes "now") (slice_get new.lines j)
line_cells old new (entries.Gone i) = line_cell Old old.name [] (slice_get old.lines i)
line_cells old new (entries.New j) = line_cell New new.name [] (slice_get new.lines j)

-- the row of an entry of lines
abbrev pub line_row : (old new : LinedMethod) → Entry → List ℕ
line_row old new e = entry_start e ++ (line_cells old new e ++ entry_end e)

-- ---- range files

-- the cell of an entry of a range file, with a word behind its input
abbrev pub range_cell : Side → List ℕ → RangeEntry → List ℕ
range_cell side word e = cell side (entry_input e ++ word) (range_entry_words e)

-- the cells of a change of range files
abbrev pub range_cells : RangeChange → List ℕ
range_cells (changes.New e) = range_cell New [] e
range_cells (changes.Changed a b) = range_cell Old (codes " was") a ++ range_cell New (codes " now") b
range_cells (changes.Gone e) = range_cell Old [] e

-- the row of a change of range files
abbrev pub range_row : RangeChange → List ℕ
range_row c = change_start c ++ (range_cells c ++ change_end c)
