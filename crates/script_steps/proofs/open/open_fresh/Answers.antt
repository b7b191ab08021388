use Rattle.std.proofs.Common.{◌∙◌, sym, ap, subst}
use Rattle.script_steps.specs.private.Replies.{reply_of}
use Rattle.plan_answers.proofs.Laws.{on_err_any}
use Rattle.script_steps.specs.OpenSteps.{IsOpenStep}
use Rattle.script_steps.specs.Standings.{Standing, StaysOrSteps, answered, with_book}
use Rattle.script_steps.specs.private.StepViews.{IsMade}
use Rattle.script_steps.proofs.OpenLemmas.{book_left, book_lost, book_made, fault_made, read_lost}
use Rattle.script_steps.proofs.open.open_fresh.Goals as goal

pub returns-in_err-from_slice-in-Ok-clause-lost : goal.returns-in_err-from_slice-in-Ok-clause-lost
returns-in_err-from_slice-in-Ok-clause-lost g c =
    on_err_any c.from_residual.result _
    (book_lost c.args.script.now c.args.text.now c.requires c.args.steps.now c.read_book.new.steps
    c.in-Ok.restored.book c.in-Ok.ensures.read c.in-Ok.ensures.counted)

pub returns-in_ok-from_slice-in-Ok-clause-made : goal.returns-in_ok-from_slice-in-Ok-clause-made
returns-in_ok-from_slice-in-Ok-clause-made g c =
    let text = c.args.text.now in
    let book = c.in-Ok.restored.book in
    let work = c.in-Ok.restored.work in
    subst (λ (s : Standing). IsMade (IsOpenStep c.args.script.now text) (with_book s book) c.args.steps.now
    c.read_book.new.steps (reply_of c.answered.result)) (sym c.script.view_is)
    (book_made c.args.script.now text c.requires c.args.steps.now c.read_book.new.steps book work
    (reply_of c.answered.result) c.in-Ok.ensures.read c.in-Ok.ensures.work c.in-Ok.ensures.counted
    (c.answered.ensures ∙ ap (λ t. answered t work.steps) c.in_ok-from_slice-in-Ok.ensures.items))

pub returns-in-Err-Memory-clause-lost : goal.returns-in-Err-Memory-clause-lost
returns-in-Err-Memory-clause-lost g c =
    read_lost c.args.script.now c.args.text.now c.requires c.args.steps.now c.read_book.new.steps
    c.in-Err-Memory.field-0 c.in-Err-Memory.ensures.counted

pub returns-in-Err-clause-made : goal.returns-in-Err-clause-made
returns-in-Err-clause-made g c =
    fault_made c.args.script.now c.args.text.now c.requires c.args.steps.now c.read_book.new.steps c.in-Err.fault
    c.book_refusal.result c.in-Err.ensures.refused c.in-Err.ensures.counted c.book_refusal.ensures

pub returns-in-Err-clause-lost : goal.returns-in-Err-clause-lost
returns-in-Err-clause-lost g c =
    on_err_any c.book_refusal.result _
    (read_lost c.args.script.now c.args.text.now c.requires c.args.steps.now c.read_book.new.steps c.in-Err.fault
    c.in-Err.ensures.counted)

pub returns-in_err-from_slice-in-Ok-clause-left : goal.returns-in_err-from_slice-in-Ok-clause-left
returns-in_err-from_slice-in-Ok-clause-left g c =
    let book = c.in-Ok.restored.book in
    on_err_any c.from_residual.result _
    (subst (λ (s : Standing). StaysOrSteps (IsOpenStep c.args.script.now c.args.text.now) c.args.script.now
    (with_book s book)) (sym c.script.view_is)
    (book_left c.args.script.now c.args.text.now c.requires c.args.steps.now c.read_book.new.steps book
    c.in-Ok.ensures.read))
