use Rattle.std.proofs.Common.{◌≡◌, ◌++◌, drop, map}
use Rattle.std.specs.Prelude.{codes}
use Rattle.run_trace.specs.RunMarks.{led_by}
use Rattle.run_trace.proofs.tally.value_line.Given as goal

abbrev pub invariant-loop-text : goal.invariant-loop-text
invariant-loop-text l =
    l.line.items ++ led_by l.lead (map (λ t. t.items) (drop l.text-index l.texts))
    ≡ led_by (codes "= ") (map (λ t. t.items) l.texts)
