use Rattle.recalc_engine.specs.EditAnswers as edits
use Rattle.script_steps.specs.LineTexts.{ok_line}
use Rattle.script_steps.proofs.EditLemmas.{edit_left, edit_made, edit_lost}
use Rattle.script_steps.proofs.edits.drop_plan.Goals as goal

pub returns-clause-made : goal.returns-clause-made
returns-clause-made g c =
    edit_made ok_line c.args.script.now (edits.drop c.args.day) c.script.inside.ledger c.script.inside.made
    c.script.inside.book c.script.view_is
    c.drop_plan-made.new.self c.args.steps.now c.drop_plan-made.new.steps c.drop_plan-made.result
    c.edit_reply.result
    c.drop_plan-made.ensures.answers c.drop_plan-made.ensures.counted c.edit_reply.new.total
    c.edit_reply.ensures.total c.edit_reply.ensures.reply

pub returns-clause-lost : goal.returns-clause-lost
returns-clause-lost g c =
    edit_lost ok_line c.args.script.now (edits.drop c.args.day) c.script.inside.ledger c.script.inside.made
    c.script.inside.book c.script.view_is
    c.drop_plan-made.new.self c.args.steps.now c.drop_plan-made.new.steps c.drop_plan-made.result
    c.edit_reply.result
    c.drop_plan-made.ensures.answers c.drop_plan-made.ensures.counted

pub returns-clause-left : goal.returns-clause-left
returns-clause-left g c =
    edit_left ok_line c.args.script.now (edits.drop c.args.day) c.script.inside.ledger c.script.inside.made
    c.script.inside.book c.script.view_is c.drop_plan-made.new.self c.drop_plan-made.result c.edit_reply.result
    c.drop_plan-made.ensures.answers c.drop_plan-made.ensures.err c.edit_reply.new.total c.edit_reply.ensures.total
