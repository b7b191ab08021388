-- A reply of `save`, as what it writes.
use Rattle.plan_answers.specs.declared.reply.Reply.{Reply}
use Rattle.pap_cli.specs.SaveAnswers.{Written}

abbrev pub written_of : Reply → Written
written_of r = record { text = r.text.items; refused = r.refused }
