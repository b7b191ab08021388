-- The comparison of two flowcharts as a page. Source: HTML, its elements.
use Rattle.std.specs.Prelude.{ℕ, Bool, true, false, List, [], ◌∷◌, ◌++◌, codes, map, Option, Some, None, slice_get}
use Rattle.std.specs.List.{flat_map}
use Rattle.std.specs.Option.{option_and_then}
use Rattle.flowchart_comparison.specs.declared.entry.Entry.{Entry}
use Rattle.flowchart_comparison.specs.declared.entry.Entry.TheVariants.{Same, Gone}
use Rattle.flowchart_comparison.specs.Entries.{old_place, new_place}
use Rattle.flowchart_comparison.specs.Outlines.{TextItem, LinedMethod, TextOutline}
use Rattle.flowchart_comparison.specs.Comparisons.{ComparedMethod, TextComparison, differs}
use Rattle.range_comparison.specs.declared.change.RangeChange.{RangeChange}
use Rattle.page_frame.specs.Starts.{page_start}
use Rattle.page_frame.specs.Styles.{style_sheet}
use Rattle.comment_comparison.specs.CommentChanges.{ComparedComments}
use Rattle.comparison_page.specs.Texts.{renamed}
use Rattle.comparison_page.specs.Cells.{between_marks}
use Rattle.comparison_page.specs.Rows.{declaration_row, line_row, range_row}
use Rattle.comparison_page.specs.Tables.{change_table, part_end, link_end}
use Rattle.comparison_page.specs.CommentParts.{comments_part, comments_link}
use Rattle.comparison_page.specs.Counts.{entry_counts, range_counts, method_words}

-- ---- declarations and ranges

-- how the part on declarations begins
abbrev pub declarations_start : List ℕ
declarations_start = codes "<section class=\"part\" id=\"declarations\"><h2>Declarations</h2>\n"

-- what a page has of the declarations: a row for each entry
abbrev pub declarations_part : (old new : List TextItem) → List Entry → List ℕ
declarations_part old new es = declarations_start ++ (change_table (flat_map (declaration_row old new) es) ++ part_end)

-- how the part on range files begins
abbrev pub ranges_start : List ℕ
ranges_start = codes "<section class=\"part\" id=\"ranges\"><h2>Range files</h2>\n"

-- the rows of the changes of range files, or that there is none
abbrev pub range_table : List RangeChange → List ℕ
range_table [] = codes "<p>The range files say the same.</p>\n"
range_table (c ∷ cs) = change_table (flat_map range_row (c ∷ cs))

-- what a page has of range files, where they are compared: a row for each change
abbrev pub ranges_part : Option (List RangeChange) → List ℕ
ranges_part None = []
ranges_part (Some cs) = ranges_start ++ (range_table cs ++ part_end)

-- ---- methods

-- the name of a method's heading in links: one that is gone may have the name of a new one
abbrev pub anchor : Entry → List ℕ → List ℕ
anchor (Gone i) name = codes "gone-" ++ name
anchor _ name = codes "method-" ++ name

-- how the part on a method of these names begins: with its name, and how much of it changed
abbrev pub method_start : Entry → (old_name new_name : List ℕ) → List Entry → List ℕ
method_start e old_name new_name lines =
    codes "<section class=\"part\"><h3 id=\""
    ++ (anchor e new_name
    ++ (codes "\">" ++ (renamed old_name new_name ++ (codes " <small>" ++ (method_words e lines ++ codes "</small></h3>\n")))))

-- what stands before the rows of a method: those of one that is the same are folded
abbrev pub fold_start : Entry → List ℕ
fold_start (Same i j) = codes "<details><summary>The statements</summary>\n"
fold_start _ = []

-- what stands behind them
abbrev pub fold_end : Entry → List ℕ
fold_end (Same i j) = codes "</details>\n"
fold_end _ = []

-- the part on a method: a row for each entry of its lines
abbrev pub method_part : Entry → LinedMethod → LinedMethod → List Entry → List ℕ
method_part e old new lines =
    method_start e old.name new.name lines
    ++ (fold_start e ++ (change_table (flat_map (line_row old new) lines) ++ (fold_end e ++ part_end)))

-- the part on a method that stands in one flowchart or in both
abbrev pub sided_part : Entry → Option LinedMethod → Option LinedMethod → List Entry → List ℕ
sided_part e (Some old) (Some new) lines = method_part e old new lines
sided_part e (Some old) None lines = method_part e old old lines
sided_part e None (Some new) lines = method_part e new new lines
sided_part e None None lines = []

-- the part on a compared method
abbrev pub compared_part : (old new : List LinedMethod) → ComparedMethod → List ℕ
compared_part old new m =
    sided_part m.method (option_and_then (slice_get old) (old_place m.method))
    (option_and_then (slice_get new) (new_place m.method)) m.lines

-- how the part on methods begins
abbrev pub methods_start : List ℕ
methods_start = codes "<section id=\"all-methods\"><h2>Methods</h2>\n"

-- what a page has of the methods
abbrev pub methods_part : (old new : List LinedMethod) → List ComparedMethod → List ℕ
methods_part old new ms = methods_start ++ (flat_map (compared_part old new) ms ++ part_end)

-- ---- contents

-- how the contents begin
abbrev pub contents_start : List ℕ
contents_start =
    codes "<div class=\"cols\"><nav aria-labelledby=\"index\"><h2 id=\"index\">Contents</h2><ul>\n<li><a href=\"#declarations\">Declarations</a> <span>"

-- the entry of range files in the contents, where they are compared
abbrev pub ranges_link : Option (List RangeChange) → List ℕ
ranges_link None = []
ranges_link (Some cs) =
    codes "<li><a href=\"#ranges\">Range files</a> <span>" ++ (range_counts cs ++ link_end)

-- how the entry of the methods begins
abbrev pub methods_link_start : List ℕ
methods_link_start = codes "<li><a href=\"#all-methods\">Methods</a> <span>"

-- how the contents end
abbrev pub contents_end : List ℕ
contents_end = codes "</ul></nav><main id=\"changes\">\n"

-- how the entry of a method begins
abbrev pub link_start : Entry → List ℕ
link_start (Same i j) = codes "<li class=\"same\"><a href=\"#"
link_start _ = codes "<li><a href=\"#"

-- the entry of a method of this name
abbrev pub method_link : Entry → List ℕ → List Entry → List ℕ
method_link e name lines =
    link_start e
    ++ (anchor e name ++ (codes "\">" ++ (name ++ (codes "</a> <span>" ++ (method_words e lines ++ link_end)))))

-- the entry of a method that stands in one flowchart or in both
abbrev pub sided_link : Entry → Option LinedMethod → Option LinedMethod → List Entry → List ℕ
sided_link e old (Some new) lines = method_link e new.name lines
sided_link e (Some old) None lines = method_link e old.name lines
sided_link e None None lines = []

-- the entry of a compared method
abbrev pub compared_link : (old new : List LinedMethod) → ComparedMethod → List ℕ
compared_link old new m =
    sided_link m.method (option_and_then (slice_get old) (old_place m.method))
    (option_and_then (slice_get new) (new_place m.method)) m.lines

-- the contents: how much changed of the declarations, of range files where they are compared, of the methods, of each of these, and
-- of comments where they are compared
abbrev pub contents : (old new : List LinedMethod) → TextComparison → Option (List RangeChange) → Option ComparedComments → List ℕ
contents old new c ranges comments =
    contents_start
    ++ (entry_counts c.declarations
    ++ (link_end
    ++ (ranges_link ranges
    ++ (methods_link_start
    ++ (entry_counts (map (λ m. m.method) c.methods)
    ++ (link_end ++ (flat_map (compared_link old new) c.methods ++ (comments_link comments ++ contents_end))))))))

-- ---- the whole page

-- how the body of a page begins
abbrev pub title_start : List ℕ
title_start =
    codes "\n</style>\n</head>\n<body>\n<a class=\"skip\" href=\"#changes\">Skip to the changes</a>\n<header><h1>What "

-- a page up to what it says on the whole: its title names both files
abbrev pub comparison_head : (old_name new_name : List ℕ) → List ℕ
comparison_head old_name new_name =
    between_marks page_start new_name (codes " against ")
    ++ (between_marks [] old_name (codes ": comparison</title>\n<style>\n")
    ++ (style_sheet
    ++ (between_marks title_start new_name (codes " changed <small>against ")
    ++ between_marks [] old_name (codes "</small></h1>\n"))))

-- the range files are compared, and differ
abbrev pub ranges_differ : Option (List RangeChange) → Bool
ranges_differ None = false
ranges_differ (Some []) = false
ranges_differ (Some (c ∷ cs)) = true

-- what a page says on the whole: whether the flowcharts differ, and whether the range files do
abbrev pub difference_sentence : Bool → Bool → List ℕ
difference_sentence false false = codes "<p class=\"ok\">Nothing differs.</p></header>\n"
difference_sentence true false = codes "<p class=\"differs\">The flowcharts differ.</p></header>\n"
difference_sentence false true = codes "<p class=\"differs\">The range files differ.</p></header>\n"
difference_sentence true true = codes "<p class=\"differs\">The flowcharts and the range files differ.</p></header>\n"

-- how a page ends
abbrev pub comparison_end : List ℕ
comparison_end = codes "</main></div></body></html>\n"

-- the page of the comparison of two flowcharts, of two range files and of the comments of both files, where these are compared: of each
-- entry one row, with its sign, its word and its texts
abbrev pub commented_page : (old_name new_name : List ℕ) → (old new : TextOutline) → TextComparison → Option (List RangeChange)
    → Option ComparedComments → List ℕ
commented_page old_name new_name old new c ranges comments =
    comparison_head old_name new_name
    ++ (difference_sentence (differs old new c) (ranges_differ ranges)
    ++ (contents old.methods new.methods c ranges comments
    ++ (declarations_part old.declarations new.declarations c.declarations
    ++ (ranges_part ranges
    ++ (methods_part old.methods new.methods c.methods ++ (comments_part comments ++ comparison_end))))))

-- the same without comments
abbrev pub comparison_page : (old_name new_name : List ℕ) → (old new : TextOutline) → TextComparison → Option (List RangeChange) → List ℕ
comparison_page old_name new_name old new c ranges = commented_page old_name new_name old new c ranges None
