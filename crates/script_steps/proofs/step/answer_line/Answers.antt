use Rattle.std.proofs.Common.{refl}
use Rattle.script_steps.specs.Shown.{shown_by}
use Rattle.script_steps.specs.Standings.{Standing}
use Rattle.script_steps.proofs.MadeLemmas.{want_broken, faults_answered, faults_broken}
use Rattle.script_steps.specs.private.StepViews.{IsRefusalUnwritten}
use Rattle.script_steps.proofs.WriteLemmas.{never_file}
use Rattle.script_steps.proofs.step.answer_line.Goals as goal

pub returns-in-Ok-clause-answered : goal.returns-in-Ok-clause-answered
returns-in-Ok-clause-answered g c =
    rw (← c.script.view_is) (c.answer_command.ensures.answered c.args.line.now c.in-Ok.ensures.ok)

pub returns-in-Ok-clause-broken : goal.returns-in-Ok-clause-broken
returns-in-Ok-clause-broken g c =
    rw (← c.script.view_is) (c.answer_command.ensures.broken c.args.line.now c.in-Ok.ensures.ok)

pub returns-in-Err-Memory-clause-broken : goal.returns-in-Err-Memory-clause-broken
returns-in-Err-Memory-clause-broken g c =
    let standing : Standing = record { book = c.script.inside.book; filings = c.script.inside.ledger; made = c.script.inside.made } in
    rw (← c.script.view_is)
    (want_broken (shown_by g.F.Files g.W.Sink c.args.files.now c.args.sink.now c.args.steps.now)
    standing c.args.line.now _ refl)

pub returns-in-Err-clause-answered : goal.returns-in-Err-clause-answered
returns-in-Err-clause-answered g c =
    let standing : Standing = record { book = c.script.inside.book; filings = c.script.inside.ledger; made = c.script.inside.made } in
    rw (← c.script.view_is)
    (faults_answered (shown_by g.F.Files g.W.Sink c.args.files.now c.args.sink.now c.args.steps.now)
    (shown_by g.F.Files g.W.Sink c.args.files.now c.answer_fault.new.sink c.args.steps.now) standing
    c.args.line.now c.in-Err.fault c.answer_fault.result refl c.in-Err.ensures.err c.answer_fault.ensures.ok)

pub returns-in-Err-clause-broken : goal.returns-in-Err-clause-broken
returns-in-Err-clause-broken g c =
    let standing : Standing = record { book = c.script.inside.book; filings = c.script.inside.ledger; made = c.script.inside.made } in
    rw (← c.script.view_is)
    (faults_broken (shown_by g.F.Files g.W.Sink c.args.files.now c.args.sink.now c.args.steps.now)
    (shown_by g.F.Files g.W.Sink c.args.files.now c.answer_fault.new.sink c.args.steps.now) standing
    c.args.line.now c.in-Err.fault c.answer_fault.result refl c.in-Err.ensures.err c.answer_fault.ensures.err)

pub returns-in-Err-clause-file : goal.returns-in-Err-clause-file
returns-in-Err-clause-file g c =
    never_file (IsRefusalUnwritten (g.W.Sink.written c.args.sink.now) (g.W.Sink.written c.answer_fault.new.sink)
    c.in-Err.fault) c.answer_fault.result (g.F.Files.faults c.args.files.now) (λ h. h) c.answer_fault.ensures.err
