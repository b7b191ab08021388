-- Which comments of two files stand in one of them alone, as a text.
use Rattle.std.specs.Prelude.{ℕ, List, [], ◌++◌, codes, Option, Some, None, slice_get}
use Rattle.std.specs.List.{flat_map}
use Rattle.std.specs.Fmt.{decimal as number}
use Rattle.comment_comparison.specs.declared.change.CommentChange.{CommentChange}
use Rattle.comment_comparison.specs.declared.change.CommentChange.TheVariants.{Gone, New}
use Rattle.comment_comparison.specs.Comments.{LineComment}
use Rattle.comment_comparison.specs.CommentChanges.{ComparedComments}

-- where a comment begins: line N
abbrev pub comment_place : LineComment → List ℕ
comment_place c = codes "line " ++ number c.line

-- a comment behind its sign, with its line, and its text in the same line; nothing where there is none
abbrev pub told_comment : List ℕ → Option LineComment → List ℕ
told_comment sign None = []
told_comment sign (Some c) = sign ++ (codes " comment " ++ (comment_place c ++ (codes " " ++ (c.text ++ codes "\n"))))

-- what is written of a comment that is told: the old one that is gone, or the new one
abbrev pub comment_change_line : ComparedComments → CommentChange → List ℕ
comment_change_line c (Gone i) = told_comment (codes "-") (slice_get c.old i)
comment_change_line c (New j) = told_comment (codes "+") (slice_get c.new j)

-- what is written of comments: a line for each that is gone or new
abbrev pub comment_changes_text : ComparedComments → List ℕ
comment_changes_text c = flat_map (comment_change_line c) c.changes
