-- How much of a flowchart runs came to, as a text.
use Rattle.std.specs.Prelude.{ℕ, ◌==◌, not, if◌then◌else◌, List, [], ◌++◌, codes}
use Rattle.std.specs.List.{flat_map}
use Rattle.std.specs.Fmt.{decimal as number}
use Rattle.coverage_text.specs.declared.counts.CoverageCounts.{CoverageCounts}
use Rattle.coverage_text.specs.CoverageItems.{CoverageItem, CoveredMethod, item_counts, method_counts, share_reached}

-- N of M statements, K of L exits
abbrev pub count_words : CoverageCounts → List ℕ
count_words c =
    number c.covered_statements ++ (codes " of " ++ (number c.statements ++ (codes " statements, "
    ++ (number c.covered_exits ++ (codes " of " ++ (number c.exits ++ codes " exits"))))))

-- the counts with this share of both together, and how many items no run within the ranges may come to
abbrev pub share_lines : CoverageCounts → ℕ → List ℕ
share_lines c share =
    codes "covered " ++ (count_words c ++ (codes ", " ++ (number share ++ (codes " percent\n"
    ++ (codes "unreachable within the ranges " ++ (number c.unreachable ++ codes "\n"))))))

-- the same with the share that is reached
abbrev pub total_lines : CoverageCounts → List ℕ
total_lines c = share_lines c (share_reached c)

-- how many runs have no amounts, of how many
abbrev pub open_runs_line : ℕ → ℕ → List ℕ
open_runs_line without runs = codes "runs without amounts " ++ (number without ++ (codes " of " ++ (number runs ++ codes "\n")))

-- the counts of a method
abbrev pub method_line : CoveredMethod → List ℕ
method_line m = codes "method " ++ (m.name ++ (codes "  " ++ (count_words (item_counts m.items) ++ codes "\n")))

-- the line of an item to which no run may come, or none came; nothing of the others
abbrev pub missed_line : CoverageItem → List ℕ
missed_line i =
    if not i.is_reachable then codes "unreachable " ++ (i.words ++ codes "\n")
    else if i.runs == 0 then codes "never " ++ (i.words ++ codes "\n")
    else []

-- such lines of a method
abbrev pub missed_lines : CoveredMethod → List ℕ
missed_lines m = flat_map missed_line m.items

-- the totals, the counts of each method, and a line for each item that is missed
abbrev pub coverage_text : List CoveredMethod → (without runs : ℕ) → List ℕ
coverage_text methods without runs =
    total_lines (method_counts methods)
    ++ (open_runs_line without runs ++ (flat_map method_line methods ++ flat_map missed_lines methods))
