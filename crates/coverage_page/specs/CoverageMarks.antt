-- How many runs came to each statement of a flowchart, as its drawings show it.
use Rattle.std.specs.Prelude.{ℕ, ◌==◌, not, if◌then◌else◌, List, [], ◌∷◌, codes, map, Option, Some, None}
use Rattle.std.specs.List.{flat_map}
use Rattle.flowchart_methods.specs.declared.kind.MarkKind.{MarkKind}
use Rattle.flowchart_methods.specs.declared.kind.MarkKind.TheVariants as kinds
use Rattle.flowchart_methods.specs.declared.kind.ExitKind.{ExitKind}
use Rattle.flowchart_methods.specs.declared.kind.ExitKind.TheVariants as exits
use Rattle.flowchart_methods.specs.Marks.{Marked, runs_text}
use Rattle.coverage_text.specs.declared.item.ExitRuns.{ExitRuns}
use Rattle.coverage_text.specs.CoverageItems.{CoverageItem, CoveredMethod, is_never_reached}

-- the kind of a statement's mark: no run may come there, none came, or some came
abbrev pub coverage_kind : CoverageItem → MarkKind
coverage_kind i = if not i.is_reachable then kinds.Dead else (if is_never_reached i then kinds.Missed else kinds.Came)

-- the line of a statement: that no run may come there, that none came, or how many came
abbrev pub coverage_line : CoverageItem → List ℕ
coverage_line i =
    if not i.is_reachable then codes "unreachable" else (if is_never_reached i then codes "never" else runs_text i.runs)

-- an exit that so many runs took: none took one that is missed
abbrev pub counted_exit : ℕ → ExitKind
counted_exit count = if count == 0 then exits.Missed else exits.Counted count

-- the exit of a statement where its test holds; open where it is no test, or no run may come there
abbrev pub yes_exit : Option ExitRuns → ExitKind
yes_exit (Some taken) = counted_exit taken.yes
yes_exit None = exits.Open

-- the exit where it doesn't hold
abbrev pub no_exit : Option ExitRuns → ExitKind
no_exit (Some taken) = counted_exit taken.no
no_exit None = exits.Open

-- the mark of a statement
abbrev pub coverage_mark : CoverageItem → Marked
coverage_mark i = record {
  kind = coverage_kind i;
  lines = coverage_line i ∷ [];
  yes = yes_exit i.exits;
  no = no_exit i.exits;
}

-- the mark of an item, where it is a statement; an exit has its mark with its test
abbrev pub item_mark : CoverageItem → List Marked
item_mark i = if i.is_exit then [] else coverage_mark i ∷ []

-- the marks of a method's statements, in their order
abbrev pub covered_marks : CoveredMethod → List Marked
covered_marks m = flat_map item_mark m.items

-- the marks of all statements, by their methods
abbrev pub coverage_marks : List CoveredMethod → List (List Marked)
coverage_marks methods = map covered_marks methods
