use Rattle.std.proofs.Common.{inl, refl}
use Rattle.recalc_engine.specs.EditAnswers as edits
use Rattle.plan_answers.proofs.Laws.{on_err_any}
use Rattle.script_steps.specs.LineTexts.{ok_line}
use Rattle.script_steps.proofs.EditLemmas.{edit_left, edit_made, edit_lost}
use Rattle.script_steps.proofs.TableLemmas.{table_left, table_made, table_lost, table_refused}
use Rattle.script_steps.proofs.load.load_table.Goals as goal

pub load-made-requires : goal.load-made-requires
load-made-requires g c = c.in-Ok.ensures.ok.are_records.own_keys

pub returns-in-Ok-clause-made : goal.returns-in-Ok-clause-made
returns-in-Ok-clause-made g c =
    let e = edits.load c.in-Ok.runs.items in
    table_made c.args.script.now c.args.table.now c.args.steps.now c.load-made.new.steps c.in-Ok.runs.items
    (record { book = c.load-made.new.self; filings = c.script.inside.ledger; made = c.edit_reply.new.total })
    c.edit_reply.result c.in-Ok.ensures.ok
    (edit_made ok_line c.args.script.now e c.script.inside.ledger c.script.inside.made c.script.inside.book
    c.script.view_is c.load-made.new.self c.args.steps.now
    c.load-made.new.steps c.load-made.result c.edit_reply.result c.load-made.ensures.answers
    c.load-made.ensures.counted c.edit_reply.new.total c.edit_reply.ensures.total c.edit_reply.ensures.reply)

pub returns-in-Ok-clause-lost : goal.returns-in-Ok-clause-lost
returns-in-Ok-clause-lost g c =
    let e = edits.load c.in-Ok.runs.items in
    table_lost c.args.script.now c.args.table.now c.args.steps.now c.load-made.new.steps c.in-Ok.runs.items
    c.edit_reply.result c.in-Ok.ensures.ok
    (edit_lost ok_line c.args.script.now e c.script.inside.ledger c.script.inside.made c.script.inside.book
    c.script.view_is c.load-made.new.self c.args.steps.now
    c.load-made.new.steps c.load-made.result c.edit_reply.result c.load-made.ensures.answers
    c.load-made.ensures.counted)

pub returns-in-Err-clause-made : goal.returns-in-Err-clause-made
returns-in-Err-clause-made g c =
    table_refused c.args.script.now c.args.table.now c.args.steps.now c.in-Err.fault c.table_refusal.result
    c.in-Err.ensures.err c.table_refusal.ensures

pub returns-in-Err-clause-lost : goal.returns-in-Err-clause-lost
returns-in-Err-clause-lost g c = on_err_any c.table_refusal.result _ (inl refl)

pub returns-in-Ok-clause-left : goal.returns-in-Ok-clause-left
returns-in-Ok-clause-left g c =
    let e = edits.load c.in-Ok.runs.items in
    table_left c.args.script.now c.args.table.now c.args.steps.now c.load-made.new.steps c.in-Ok.runs.items
    (record { book = c.load-made.new.self; filings = c.script.inside.ledger; made = c.edit_reply.new.total })
    c.edit_reply.result c.in-Ok.ensures.ok
    (edit_left ok_line c.args.script.now e c.script.inside.ledger c.script.inside.made c.script.inside.book
    c.script.view_is c.load-made.new.self c.load-made.result c.edit_reply.result c.load-made.ensures.answers
    c.load-made.ensures.err c.edit_reply.new.total c.edit_reply.ensures.total)

pub returns-in-Err-clause-left : goal.returns-in-Err-clause-left
returns-in-Err-clause-left g c = on_err_any c.table_refusal.result _ (inl refl)
