use Rattle.std.specs.Prelude.{All}
use Rattle.trial_rows.specs.Rows.{IsRightRow}
use Rattle.trial_rows.proofs.rows.all_rows.Given as goal

-- the rows so far are answered as they say
abbrev pub invariant-loop-row : goal.invariant-loop-row
invariant-loop-row g l = All (λ row. IsRightRow g.F.Fn l.answer row.now) l.yielded
