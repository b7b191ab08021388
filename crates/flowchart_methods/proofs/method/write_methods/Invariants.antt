use Rattle.std.proofs.Common.{take}
use Rattle.std.specs.List.{flat_map}
use Rattle.flowchart_methods.specs.Turns.{AddsInTurn}
use Rattle.flowchart_methods.specs.Chapters.{chapter_captions}
use Rattle.flowchart_methods.proofs.method.write_methods.Given as goal

-- the methods so far have their captions
abbrev pub invariant-loop-i : goal.invariant-loop-i
invariant-loop-i l = AddsInTurn (flat_map chapter_captions (take l.i l.chapters)) l.initial.page l.page
