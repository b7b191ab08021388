-- Which comments of two files stand in one of them alone, as a part of a page. Source: HTML, its elements.
use Rattle.std.specs.Prelude.{ℕ, Bool, true, false, List, [], ◌∷◌, ◌++◌, codes, count_by, Option, Some, None, slice_get}
use Rattle.std.specs.List.{flat_map}
use Rattle.std.specs.Fmt.{decimal as number}
use Rattle.comment_comparison.specs.declared.change.CommentChange.{CommentChange}
use Rattle.comment_comparison.specs.declared.change.CommentChange.TheVariants.{Gone, New}
use Rattle.comment_comparison.specs.Comments.{LineComment}
use Rattle.comment_comparison.specs.CommentChanges.{ComparedComments}
use Rattle.comparison_page.specs.declared.cells.Side.{Side}
use Rattle.comparison_page.specs.declared.cells.Side.TheVariants as sides
use Rattle.comparison_page.specs.Cells.{cell, gone_start, gone_end, new_start, row_end}
use Rattle.comparison_page.specs.CommentTexts.{comment_place}
use Rattle.comparison_page.specs.Tables.{change_table, part_end, link_end}

-- the change is of a comment that is gone
abbrev pub is_gone_comment : CommentChange → Bool
is_gone_comment (Gone i) = true
is_gone_comment (New j) = false

-- the change is of a comment that is new
abbrev pub is_new_comment : CommentChange → Bool
is_new_comment (Gone i) = false
is_new_comment (New j) = true

-- how many comments are new and gone, in words
abbrev pub comment_counts : List CommentChange → List ℕ
comment_counts cs = number (count_by is_new_comment cs) ++ (codes " new, " ++ (number (count_by is_gone_comment cs) ++ codes " gone"))

-- the cell of a comment, behind its line; nothing where there is none
abbrev pub comment_cell : Side → Option LineComment → List ℕ
comment_cell side None = []
comment_cell side (Some c) = cell side (comment_place c) c.text

-- the row of a comment that is told
abbrev pub comment_row : ComparedComments → CommentChange → List ℕ
comment_row c (Gone i) = gone_start ++ (comment_cell sides.Old (slice_get c.old i) ++ gone_end)
comment_row c (New j) = new_start ++ (comment_cell sides.New (slice_get c.new j) ++ row_end)

-- the rows of comments, or that none is told
abbrev pub comment_table : ComparedComments → List CommentChange → List ℕ
comment_table c [] = codes "<p>No comment is new or gone.</p>\n"
comment_table c (x ∷ xs) = change_table (flat_map (comment_row c) (x ∷ xs))

-- how the part on comments begins
abbrev pub comments_start : List ℕ
comments_start = codes "<section class=\"part\" id=\"comments\"><h2>Comments</h2>\n"

-- what a page has of comments, where they are compared: a row for each that is gone or new
abbrev pub comments_part : Option ComparedComments → List ℕ
comments_part None = []
comments_part (Some c) = comments_start ++ (comment_table c c.changes ++ part_end)

-- the entry of comments in the contents, where they are compared
abbrev pub comments_link : Option ComparedComments → List ℕ
comments_link None = []
comments_link (Some c) = codes "<li><a href=\"#comments\">Comments</a> <span>" ++ (comment_counts c.changes ++ link_end)
