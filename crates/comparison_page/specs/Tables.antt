-- Marks of HTML that several parts of a page have. Source: HTML, its elements.
use Rattle.std.specs.Prelude.{ℕ, List, ◌++◌, codes}

-- how a table of changes begins
abbrev pub table_start : List ℕ
table_start =
    codes "<table class=\"diff\" aria-label=\"Old and new\"><thead><tr><th scope=\"col\">What<th scope=\"col\">Old<th scope=\"col\">New</tr></thead><tbody>\n"

-- how it ends
abbrev pub table_end : List ℕ
table_end = codes "</tbody></table>\n"

-- a table of these rows
abbrev pub change_table : List ℕ → List ℕ
change_table rows = table_start ++ (rows ++ table_end)

-- how a part ends
abbrev pub part_end : List ℕ
part_end = codes "</section>\n"

-- the end of an entry of the contents
abbrev pub link_end : List ℕ
link_end = codes "</span></li>\n"
