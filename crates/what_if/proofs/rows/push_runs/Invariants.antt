use Rattle.std.proofs.Common.{◌≡◌, ◌++◌, take}
use Rattle.recalc_engine.specs.KeptRows.{kept_rows}
use Rattle.what_if.specs.private.YearViews.{changes}
use Rattle.what_if.proofs.rows.push_runs.Given as goal

abbrev pub invariant-loop-at : goal.invariant-loop-at
invariant-loop-at l =
    l.rows.items ≡ l.initial.rows.items ++ changes (kept_rows (take l.at l.records) (take l.at l.before))
    (kept_rows (take l.at l.records) (take l.at l.after))
