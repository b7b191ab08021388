-- Where the lines of a drawing lead, and the words at the ways of its tests.
use Rattle.std.specs.Prelude.{ℕ, List, [], ◌∷◌, ◌++◌, map}
use Rattle.std.specs.List.{flat_map}
use Rattle.chart_layout.specs.declared.drawing.Word.{Word}
use Rattle.chart_layout.specs.declared.drawing.Word.TheVariants.{Yes, No, YesOrNo}
use Rattle.chart_layout.specs.declared.leads.Exit.{Exit}
use Rattle.chart_layout.specs.declared.leads.Exit.TheVariants.{Start, Below, Way}
use Rattle.chart_layout.specs.declared.leads.Entry.{Entry}
use Rattle.chart_layout.specs.declared.leads.Entry.TheVariants.{Into, End}
use Rattle.chart_layout.specs.declared.leads.Lead.{Lead}
use Rattle.chart_layout.specs.declared.drawing.Part.{Part}
use Rattle.chart_layout.specs.declared.drawing.Row.{Row}
use Rattle.chart_layout.specs.declared.drawing.Row.TheVariants as rows
use Rattle.chart_layout.specs.Drawn.{drawing_rows}
use Rattle.chart_layout.specs.Trees.{Tree, stop, step, fork}

-- the way of a test at which a word stands
abbrev pub at_way : ℕ → Word → Exit
at_way test word = Way (record { test = test; word = word })

-- lines from these exits lead to an entry
abbrev pub leads : List Exit → Entry → List Lead
leads exits entry = map (λ exit. record { exit = exit; entry = entry }) exits

-- the exits whose lines leave a body below its end, where lines from these come in above it: behind a test those that leave what
-- stands on its way `yes`, and those that leave what stands on its way `no`
abbrev pub leaving : List Exit → Tree → List Exit
leaving exits stop = exits
leaving exits (step n t) = leaving (Below n ∷ []) t
leaving exits (fork n a b t) = leaving (leaving (at_way n Yes ∷ []) a ++ leaving (at_way n No ∷ []) b) t

-- the lines into the statements of a body, where lines from these exits come in above it: each leads to the next statement on its way
abbrev pub lines : List Exit → Tree → List Lead
lines exits stop = []
lines exits (step n t) = leads exits (Into n) ++ lines (Below n ∷ []) t
lines exits (fork n a b t) =
    leads exits (Into n)
    ++ (lines (at_way n Yes ∷ []) a
    ++ (lines (at_way n No ∷ []) b
    ++ lines (leaving (at_way n Yes ∷ []) a ++ leaving (at_way n No ∷ []) b) t))

-- those of a method: the first comes from its start, and what leaves its body leads to its end
abbrev pub method_lines : Tree → List Lead
method_lines t = lines (Start ∷ []) t ++ leads (leaving (Start ∷ []) t) End

-- the ways of a body's tests, each of which has its word
abbrev pub ways_of : Tree → List Exit
ways_of stop = []
ways_of (step n t) = ways_of t
ways_of (fork n a b t) = at_way n Yes ∷ (at_way n No ∷ (ways_of a ++ (ways_of b ++ ways_of t)))

-- ---- the words of a drawing

-- the ways of a test of which a word speaks: one word may speak of both
abbrev pub word_ways : ℕ → Word → List Exit
word_ways test Yes = at_way test Yes ∷ []
word_ways test No = at_way test No ∷ []
word_ways test YesOrNo = at_way test Yes ∷ (at_way test No ∷ [])

-- the ways of which a row of a drawing speaks, where it is a word
abbrev pub row_ways : Row → List Exit
row_ways (rows.Word x y test word anchor) = word_ways test word
row_ways _ = []

-- the ways of which the words of a drawing speak, in their order
abbrev pub drawing_ways : List Part → List Exit
drawing_ways parts = flat_map row_ways (drawing_rows parts)
