use Rattle.std.proofs.Common.{refl, ap, ◌∙◌}
use Rattle.std.proofs.lemmas.Result.{err_from_is_err_and}
use Rattle.std.specs.Prelude.{None, Err}
use Rattle.script_steps.specs.Shown.{shown}
use Rattle.script_steps.specs.Standings.{Standing}
use Rattle.script_steps.proofs.MadeLemmas.{want_broken}
use Rattle.script_steps.proofs.UnwrittenLemmas.{fault_unwritten}
use Rattle.script_steps.proofs.unwritten.answer_unwritten.Goals as goal

pub returns-in-Ok-clause-answered : goal.returns-in-Ok-clause-answered
returns-in-Ok-clause-answered g c =
    rw (← c.script.view_is) (c.refusal_of.ensures.answered c.args.line.now c.in-Ok.ensures.ok)

pub returns-in-Ok-clause-broken : goal.returns-in-Ok-clause-broken
returns-in-Ok-clause-broken g c =
    rw (← c.script.view_is) (c.refusal_of.ensures.broken c.args.line.now c.in-Ok.ensures.ok)

pub returns-in-Err-Memory-clause-broken : goal.returns-in-Err-Memory-clause-broken
returns-in-Err-Memory-clause-broken g c =
    let standing : Standing = record { book = c.script.inside.book; filings = c.script.inside.ledger; made = c.script.inside.made } in
    rw (← c.script.view_is)
    (want_broken (shown (g.F.Files.told c.args.files.now) (g.F.Files.failed c.args.files.now) None c.args.steps.now)
    standing c.args.line.now _ refl)

pub returns-in_ok-line_refusal-in-Err-clause-answered : goal.returns-in_ok-line_refusal-in-Err-clause-answered
returns-in_ok-line_refusal-in-Err-clause-answered g c =
    let standing : Standing = record { book = c.script.inside.book; filings = c.script.inside.ledger; made = c.script.inside.made } in
    rw (← c.script.view_is)
    (fault_unwritten (g.F.Files.told c.args.files.now) (g.F.Files.failed c.args.files.now) c.args.steps.now standing
    c.args.line.now c.in-Err.fault c.in_ok-line_refusal-in-Err.field-0 c.refusal_in.result c.in-Err.ensures.err
    c.in_ok-line_refusal-in-Err.ensures c.refusal_in.ensures.mark c.refusal_in.ensures.text)

pub returns-in_err-line_refusal-in-Err-clause-broken : goal.returns-in_err-line_refusal-in-Err-clause-broken
returns-in_err-line_refusal-in-Err-clause-broken g c =
    let standing : Standing = record { book = c.script.inside.book; filings = c.script.inside.ledger; made = c.script.inside.made } in
    let p = err_from_is_err_and c.from_residual.result c.from_residual.ensures.1 in
    rw (← c.script.view_is)
    (want_broken (shown (g.F.Files.told c.args.files.now) (g.F.Files.failed c.args.files.now) None c.args.steps.now)
    standing c.args.line.now c.from_residual.result (p.1 ∙ ap (λ s. Err s) p.2))
