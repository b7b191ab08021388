use Rattle.std.proofs.Common.{◌≡◌, [], ◌∷◌, ◌++◌, refl}
use Rattle.std.proofs.lemmas.Result.{err_from_is_err_and}
use Rattle.script_steps.specs.declared.stop.LineStop.TheVariants.{Memory}
use Rattle.script_run.proofs.StepLaws.{answered_lost, delivered_same, broken_same, line_on, breaks_line, breaks_memory}
use Rattle.script_run.proofs.reading.Reading.end_line.Goals as goal

pub returns-in_err-keep_end-clause-err : goal.returns-in_err-keep_end-clause-err
returns-in_err-keep_end-clause-err g c = λ stop is.
    let p = err_from_is_err_and c.from_residual.result c.from_residual.ensures.1 in
    let memory : Memory ≡ stop = cc (p.1, p.2) in
    breaks_memory (c.args.last.now ++ 10 ∷ []) memory

pub returns-in_err-wrong-clause-err : goal.returns-in_err-wrong-clause-err
returns-in_err-wrong-clause-err g c = λ stop is.
    let p = err_from_is_err_and c.from_residual-in_err-wrong.result c.from_residual-in_err-wrong.ensures.1 in
    let last = c.args.last.now in
    let same : c.in_err-wrong.field-0.0 ≡ stop = cc (p.1, p.2) in
    breaks_line last c.requires same c.deliver.ensures.same
    (λ line holds. broken_same (c.ended.ensures (line ++ last) (c.in_ok-keep_end.ensures line holds))
    c.in_err-wrong.field-0.0
    (record { to = c.deliver.new.script; is = c.in_err-wrong.ensures.broken c.in_err-wrong.field-0.0 refl }))
    (λ other. refl) (λ other. refl)

pub returns-in_err-note-clause-err : goal.returns-in_err-note-clause-err
returns-in_err-note-clause-err g c = λ stop is.
    let p = err_from_is_err_and c.from_residual-in_err-note.result c.from_residual-in_err-note.ensures.1 in
    let last = c.args.last.now in
    let memory : Memory ≡ stop = cc (p.1, p.2) in
    breaks_line last c.requires memory c.deliver.ensures.same
    (λ line holds. broken_same (c.ended.ensures (line ++ last) (c.in_ok-keep_end.ensures line holds)) Memory
    (answered_lost c.in_ok-wrong.ensures.delivered)) (λ other. absurd (other refl)) (λ other. absurd (other refl))

pub returns-clause-ok : goal.returns-clause-ok
returns-clause-ok g c =
    let last = c.args.last.now in
    line_on last c.requires c.deliver.ensures.same
    (λ line holds. delivered_same (c.ended.ensures (line ++ last) (c.in_ok-keep_end.ensures line holds))
    c.in_ok-wrong.ensures.delivered) c.clear.ensures c.in_ok-note.ensures
