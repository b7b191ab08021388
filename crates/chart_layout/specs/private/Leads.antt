-- What private contracts cite beside the definitions of Leads.
use Rattle.std.specs.Prelude.{◌≡◌, ℕ, Bool, true, false, nat_lt, if◌then◌else◌, List, ◌++◌}
use Rattle.std.specs.List.{flat_map}
use Rattle.chart_layout.specs.declared.drawing.Row.{Row}
use Rattle.chart_layout.specs.declared.drawing.Word.{Word}
use Rattle.chart_layout.specs.declared.drawing.Word.TheVariants.{Yes, No}
use Rattle.chart_layout.specs.declared.figure.End.{End}
use Rattle.chart_layout.specs.declared.figure.End.TheVariants.{Spine, Rail}
use Rattle.chart_layout.specs.declared.leads.Exit.{Exit}
use Rattle.chart_layout.specs.Drawn.{Drawn, row_statements}
use Rattle.chart_layout.specs.Leads.{row_ways}

abbrev pub statements_in : List Row → List Drawn
statements_in rows = flat_map row_statements rows

abbrev pub ways_in : List Row → List Exit
ways_in rows = flat_map row_ways rows

-- what leaves a body: below its end, or also at the rail to which its end leads, where some has met that before
abbrev pub Leaves : End → List Exit → List Exit → List Exit → List Exit → Type 0
Leaves Spine old new here exits = (new ≡ old) × (here ≡ exits)
Leaves Rail old new here exits = new ++ here ≡ old ++ exits

-- the end of a body's figures from a number on: that of the body where none is left
abbrev pub end_behind : ℕ → ℕ → End → End
end_behind i count end = if nat_lt i count then Spine else end

-- what leaves an arm by its branch and by the way down: the branch's end is at the rail, or, where nothing comes behind the arm, it may
-- be in the spine
abbrev pub LeavesArm : Bool → List Exit → List Exit → List Exit → List Exit → List Exit → Type 0
LeavesArm true old new here exits down = new ++ here ≡ old ++ (exits ++ down)
LeavesArm false old new here exits down = (new ≡ old ++ exits) × (here ≡ down)

-- what leaves the way of a word, with what leaves the other way
abbrev pub with_other : Word → List Exit → List Exit → List Exit
with_other No exits others = others ++ exits
with_other _ exits others = exits ++ others

abbrev pub other_word : Word → Word
other_word Yes = No
other_word No = Yes
other_word w = w
