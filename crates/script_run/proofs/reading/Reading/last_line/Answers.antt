use Rattle.std.proofs.Common.{◌∙◌, refl, ap}
use Rattle.std.specs.Prelude.{Err}
use Rattle.std.proofs.lemmas.Result.{err_from_is_err_and}
use Rattle.script_steps.specs.declared.stop.LineStop.TheVariants.{Memory}
use Rattle.script_run.specs.private.RunClauses.{beside}
use Rattle.script_run.proofs.KeepingLaws.{none_of, some_of}
use Rattle.script_run.proofs.StepLaws.{answered_lost, delivered_same, broken_same, closes_none, closes_on, closes_broken, closes_at, stays_none, stays_on}
use Rattle.script_run.proofs.reading.Reading.last_line.Goals as goal

pub returns-then-is_empty-clause-closes : goal.returns-then-is_empty-clause-closes
returns-then-is_empty-clause-closes g c =
    closes_none (λ line holds. none_of line c.is_empty.result (c.is_empty.ensures line holds) c.if-is_empty.true)

pub returns-in_err-wrong-clause-closes : goal.returns-in_err-wrong-clause-closes
returns-in_err-wrong-clause-closes g c =
    let p = err_from_is_err_and c.from_residual.result c.from_residual.ensures.1 in
    let stop = c.in_err-wrong.field-0.0 in
    closes_at c.from_residual.result _ stop (p.1 ∙ ap (λ v. Err v) p.2)
    (closes_broken c.deliver.ensures.same (λ line holds.
    some_of line c.is_empty.result (c.is_empty.ensures line holds) c.if-is_empty.false) stop
    (λ line holds. broken_same (c.as_last.ensures line holds) stop
    (record { to = c.deliver.new.script; is = c.in_err-wrong.ensures.broken stop refl })) (λ other. refl) (λ other. refl))

pub returns-clause-closes : goal.returns-clause-closes
returns-clause-closes g c =
    closes_on (λ line holds. some_of line c.is_empty.result (c.is_empty.ensures line holds) c.if-is_empty.false)
    (λ line holds. delivered_same
    (c.as_last.ensures line holds)
    c.in_ok-wrong.ensures.delivered) c.in_ok-note.ensures

pub returns-in_err-note-clause-closes : goal.returns-in_err-note-clause-closes
returns-in_err-note-clause-closes g c =
    let p = err_from_is_err_and c.from_residual-in_err-note.result c.from_residual-in_err-note.ensures.1 in
    closes_at c.from_residual-in_err-note.result _ Memory (p.1 ∙ ap (λ v. Err v) p.2)
    (closes_broken c.deliver.ensures.same (λ line holds.
    some_of line c.is_empty.result (c.is_empty.ensures line holds) c.if-is_empty.false) Memory
    (λ line holds. broken_same (c.as_last.ensures line holds) Memory
    (answered_lost c.in_ok-wrong.ensures.delivered)) (λ other. absurd (other refl)) (λ other. absurd (other refl)))

pub returns-then-is_empty-clause-standing : goal.returns-then-is_empty-clause-standing
returns-then-is_empty-clause-standing g c =
    stays_none (λ line holds. none_of line c.is_empty.result (c.is_empty.ensures line holds) c.if-is_empty.true)

pub returns-clause-standing : goal.returns-clause-standing
returns-clause-standing g c =
    stays_on (beside c.deliver.new.kept g.F.Files g.W.Sink g.N.Sink c.deliver.new.files c.deliver.new.sink c.note.new.notes
    c.deliver.new.steps)
    (λ line holds. some_of line c.is_empty.result (c.is_empty.ensures line holds) c.if-is_empty.false)
    (λ line holds. delivered_same
    (c.as_last.ensures line holds)
    c.in_ok-wrong.ensures.delivered) c.in_ok-note.ensures
