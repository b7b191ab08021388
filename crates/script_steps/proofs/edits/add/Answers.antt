use Rattle.recalc_engine.specs.EditAnswers as edits
use Rattle.script_steps.specs.LineTexts.{ok_line}
use Rattle.script_steps.proofs.EditLemmas.{edit_left, edit_made, edit_lost}
use Rattle.script_steps.proofs.edits.add.Goals as goal

pub returns-clause-made : goal.returns-clause-made
returns-clause-made g c =
    edit_made ok_line c.args.script.now (edits.add c.args.run) c.script.inside.ledger c.script.inside.made
    c.script.inside.book c.script.view_is
    c.add-made.new.self c.args.steps.now c.add-made.new.steps c.add-made.result c.edit_reply.result
    c.add-made.ensures.answers c.add-made.ensures.counted c.edit_reply.new.total
    c.edit_reply.ensures.total c.edit_reply.ensures.reply

pub returns-clause-lost : goal.returns-clause-lost
returns-clause-lost g c =
    edit_lost ok_line c.args.script.now (edits.add c.args.run) c.script.inside.ledger c.script.inside.made
    c.script.inside.book c.script.view_is
    c.add-made.new.self c.args.steps.now c.add-made.new.steps c.add-made.result c.edit_reply.result
    c.add-made.ensures.answers c.add-made.ensures.counted

pub returns-clause-left : goal.returns-clause-left
returns-clause-left g c =
    edit_left ok_line c.args.script.now (edits.add c.args.run) c.script.inside.ledger c.script.inside.made
    c.script.inside.book c.script.view_is c.add-made.new.self c.add-made.result c.edit_reply.result
    c.add-made.ensures.answers c.add-made.ensures.err c.edit_reply.new.total c.edit_reply.ensures.total
