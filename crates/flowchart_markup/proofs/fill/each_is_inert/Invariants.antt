use Rattle.std.proofs.Common.{ℕ, ◌<◌, IsTrue, get_or}
use Rattle.std.specs.List.{list_all}
use Rattle.flowchart_markup.specs.declared.fill.Fill.{Fill}
use Rattle.flowchart_markup.specs.Escapes.{is_inert}
use Rattle.flowchart_markup.specs.Fragments.{fill_text}
use Rattle.flowchart_markup.proofs.fill.each_is_inert.Given as goal

abbrev pub invariant-loop-fill : goal.invariant-loop-fill
invariant-loop-fill l =
    (k : ℕ) (d : Fill) → k < l.fill-index → IsTrue (list_all is_inert (fill_text (get_or l.fills k d)))
