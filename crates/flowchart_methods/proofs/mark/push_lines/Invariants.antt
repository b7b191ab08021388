use Rattle.std.proofs.Common.{◌≡◌, ℕ, ◌++◌, Vec, map, take, Global}
use Rattle.flowchart_methods.specs.Marks.{spoken_lines}
use Rattle.flowchart_methods.proofs.mark.push_lines.Given as goal

-- the lines so far are appended
abbrev pub invariant-loop-line : goal.invariant-loop-line
invariant-loop-line l =
    l.words.items ≡ l.initial.words.items ++ spoken_lines (map (λ (w : Vec ℕ Global). w.items) (take l.line-index l.lines))
