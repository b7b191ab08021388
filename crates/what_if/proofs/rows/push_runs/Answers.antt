use Rattle.std.proofs.Common.{◌≡◌, ◌++◌, append_assoc, get_or, sym, ap, ap₂, take, ◌∙◌}
use Rattle.payroll_records.specs.Tables.{key_of}
use Rattle.recalc_engine.specs.KeptRows.{kept_rows}
use Rattle.what_if.specs.Changes.{run_changes}
use Rattle.what_if.specs.private.YearViews.{changes}
use Rattle.what_if.proofs.ChangeLemmas.{runs_more}
use Rattle.what_if.proofs.rows.push_runs.Goals as goal

pub loop-at-preserved : goal.loop-at-preserved
loop-at-preserved c =
    let rs = c.args.records.now in
    let bs = c.args.before.now in
    let ns = c.args.after.now in
    let i = c.loop-at.at in
    let r = c.index-records-at.result in
    let b = c.index-before-at.result in
    let a = c.index-after-at.result in
    let began = c.args.rows.now.items in
    let front = changes (kept_rows (take i rs) (take i bs)) (kept_rows (take i rs) (take i ns)) in
    let same : run_changes (key_of r) (get_or bs i b).state (get_or ns i a).state ≡ run_changes (key_of r) b.state
    a.state = λ j. run_changes (key_of r) (sym c.index-before-at.is j).state (sym c.index-after-at.is j).state in
    let done = rw c.key.ensures at c.in_ok-push_run.ensures in
    done ∙ ap₂ (λ s t. s ++ t) c.loop-at.invariant same
    ∙ append_assoc began front (run_changes (key_of r) b.state a.state)
    ∙ ap (λ t. began ++ t)
    (sym (runs_more rs bs ns i r b a c.requires.before.paired c.requires.after.paired c.loop-at-test.true
    c.index-records-at.is c.index-before-at.is c.index-after-at.is))
