use Rattle.std.proofs.Common.{map, subst}
use Rattle.std.proofs.lemmas.Result.{err_from_is_err_and}
use Rattle.saved_items.specs.ItemFaults.{plan_in, saved_in}
use Rattle.book_year.specs.Accepted.{plans_in}
use Rattle.payroll_records.proofs.Laws.{own_rising}
use Rattle.book_file.specs.private.Views.{AreEntriesOf}
use Rattle.book_file.proofs.ReadLemmas.{counts_made}
use Rattle.book_file.proofs.read.restore.Goals as goal

pub restore-requires-clause-distinct : goal.restore-requires-clause-distinct
restore-requires-clause-distinct g c = own_rising c.args.items.records.items c.requires.records.rising

pub returns-in_err-restore-clause-counted : goal.returns-in_err-restore-clause-counted
returns-in_err-restore-clause-counted g c =
    let r = c.from_residual-in_err-restore in
    let p = err_from_is_err_and r.result r.ensures.1 in
    let es = plans_in c.in_ok-plans.plans in
    let are = subst (λ t. AreEntriesOf (map plan_in t) es) c.deref.ensures.value c.in_ok-plans.ensures.ok in
    let error = c.in_err-restore.field-0.0 in
    counts_made (saved_in c.args.items) es r.result p.0 error c.restore.result error c.args.steps.now c.restore.new.steps are p.1 p.2
    c.in_err-restore.was c.restore.ensures.counted
