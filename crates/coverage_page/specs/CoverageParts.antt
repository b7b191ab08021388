-- How much of a flowchart runs came to, as the part of a page that stands above its drawings.
use Rattle.std.specs.Prelude.{ℕ, Bool, if◌then◌else◌, List, [], ◌∷◌, ◌++◌, codes}
use Rattle.std.specs.List.{flat_map}
use Rattle.std.specs.Fmt.{decimal as number}
use Rattle.flowchart_markup.specs.Escapes.{escaped}
use Rattle.flowchart_markup.specs.Fragments.{template_text}
use Rattle.coverage_text.specs.declared.counts.CoverageCounts.{CoverageCounts}
use Rattle.coverage_text.specs.CoverageItems.{CoverageItem, CoveredMethod, item_counts, method_counts, share_reached, is_never_reached, is_unreachable}

-- ---- shares

-- N percent, with the counts of which that is the share, and how many items no run within the ranges may come to
abbrev pub share_sentence : CoverageCounts → ℕ → List ℕ
share_sentence c share =
    template_text
    (codes "<p><strong>% percent</strong> of what runs can come to: % of % statements, % of % exits. Unreachable within the ranges: %.</p>\n")
    (number share ∷ number c.covered_statements ∷ number c.statements ∷ number c.covered_exits ∷ number c.exits
    ∷ number c.unreachable ∷ [])

-- the counts with the share that is reached
abbrev pub counts_sentence : CoverageCounts → List ℕ
counts_sentence c = share_sentence c (share_reached c)

-- how many runs have no amounts, of how many
abbrev pub open_runs_sentence : ℕ → ℕ → List ℕ
open_runs_sentence without runs =
    template_text (codes "<p>Runs without amounts: % of %.</p>\n") (number without ∷ number runs ∷ [])

-- ---- methods

-- a row of a method's name, as a link to its drawing, and of its counts
abbrev pub counts_row : List ℕ → CoverageCounts → List ℕ
counts_row name c =
    template_text
    (codes "<tr><th scope=\"row\"><a href=\"#method-%\">%</a><td class=\"num\">% of %<td class=\"num\">% of %</tr>\n")
    (name ∷ name ∷ number c.covered_statements ∷ number c.statements ∷ number c.covered_exits ∷ number c.exits ∷ [])

-- the row of a method
abbrev pub covered_row : CoveredMethod → List ℕ
covered_row m = counts_row m.name (item_counts m.items)

-- a row for each method
abbrev pub covered_table : List CoveredMethod → List ℕ
covered_table methods =
    codes "<table><caption>By method</caption><thead><tr><th scope=\"col\">Method<th scope=\"col\">Statements<th scope=\"col\">Exits</tr></thead><tbody>\n"
    ++ (flat_map covered_row methods ++ codes "</tbody></table>\n")

-- ---- lists

-- an entry of a place and a text, which is a link to the place in the drawing
abbrev pub place_entry : List ℕ → ℕ → List ℕ → List ℕ
place_entry method statement words =
    template_text (codes "<li><a href=\"#%:%\"><code>%</code></a></li>\n")
    (method ∷ number statement ∷ escaped words ∷ [])

-- the entry of an item of a method: what the text has of it, as a link to its statement
abbrev pub item_entry : List ℕ → CoverageItem → List ℕ
item_entry method i = place_entry method i.statement i.words

-- the entry of an item that passes a test; nothing of another
abbrev pub tested_entry : (CoverageItem → Bool) → List ℕ → CoverageItem → List ℕ
tested_entry test method i = if test i then item_entry method i else []

-- such entries of a method
abbrev pub method_entries : (CoverageItem → Bool) → CoveredMethod → List ℕ
method_entries test m = flat_map (tested_entry test m.name) m.items

-- a list of some entries
abbrev pub list_text : List ℕ → List ℕ
list_text entries = codes "<ol class=\"run\">\n" ++ (entries ++ codes "</ol>\n")

-- a list of some entries, or that there are none
abbrev pub entry_list : List ℕ → List ℕ
entry_list [] = codes "<p>Nothing.</p>\n"
entry_list (byte ∷ entries) = list_text (byte ∷ entries)

-- the list of all items that pass a test
abbrev pub tested_list : (CoverageItem → Bool) → List CoveredMethod → List ℕ
tested_list test methods = entry_list (flat_map (method_entries test) methods)

-- ---- all of it

-- the shares, how many runs have no amounts, and the counts of each method
abbrev pub coverage_head : List CoveredMethod → (without runs : ℕ) → List ℕ
coverage_head methods without runs =
    codes "<section id=\"coverage\"><h2>What the runs came to</h2>\n"
    ++ (counts_sentence (method_counts methods) ++ (open_runs_sentence without runs ++ covered_table methods))

-- what no run came to, and what none within the ranges may come to
abbrev pub coverage_lists : List CoveredMethod → List ℕ
coverage_lists methods =
    codes "<h3>Never reached</h3>\n"
    ++ (tested_list is_never_reached methods
    ++ (codes "<h3>Unreachable within the ranges</h3>\n" ++ (tested_list is_unreachable methods ++ codes "</section>\n")))

-- both
abbrev pub coverage_part : List CoveredMethod → (without runs : ℕ) → List ℕ
coverage_part methods without runs = coverage_head methods without runs ++ coverage_lists methods
