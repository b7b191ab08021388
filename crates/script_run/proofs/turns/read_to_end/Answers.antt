use Rattle.std.proofs.Common.{◌∙◌, ap, refl}
use Rattle.std.specs.Prelude.{Ok, Err}
use Rattle.std.proofs.lemmas.Result.{err_from_is_err_and}
use Rattle.script_run.proofs.TurnLaws.{meets_nothing, meets_err, meets_end, ends_at}
use Rattle.script_run.proofs.turns.read_to_end.Goals as goal

pub returns-in_err-buf-clause-script : goal.returns-in_err-buf-clause-script
returns-in_err-buf-clause-script g c = λ script is.
    let p = err_from_is_err_and c.from_residual.result c.from_residual.ensures.1 in
    meets_err c.from_residual.result _ (p.1 ∙ ap (λ v. Err v) p.2) (meets_nothing _ _ _ script is)

pub returns-in_err-take_turns-clause-script : goal.returns-in_err-take_turns-clause-script
returns-in_err-take_turns-clause-script g c = λ script is.
    let p = err_from_is_err_and c.from_residual-in_err-take_turns.result c.from_residual-in_err-take_turns.ensures.1
    in
    let stop = c.in_err-take_turns.field-0.0 in
    meets_err c.from_residual-in_err-take_turns.result _ (p.1 ∙ ap (λ v. Err v) p.2)
    (c.in_err-take_turns.ensures.err stop refl script is)

pub returns-in_err-last_line-clause-script : goal.returns-in_err-last_line-clause-script
returns-in_err-last_line-clause-script g c = λ script is.
    let p = err_from_is_err_and c.from_residual-in_err-last_line.result c.from_residual-in_err-last_line.ensures.1 in
    let stop = c.in_err-last_line.field-0.0 in
    meets_err c.from_residual-in_err-last_line.result _ (p.1 ∙ ap (λ v. Err v) p.2)
    (meets_end c.in_ok-take_turns.ensures.ok (Err stop) _ c.in_err-last_line.ensures.closes script is)

pub returns-clause-script : goal.returns-clause-script
returns-clause-script g c = λ script is.
    meets_end c.in_ok-take_turns.ensures.ok (Ok tt) _ c.in_ok-last_line.ensures.closes script is

pub returns-clause-standing : goal.returns-clause-standing
returns-clause-standing g c =
    λ script is. ends_at c.in_ok-take_turns.ensures.ok c.in_ok-last_line.ensures.standing script is
