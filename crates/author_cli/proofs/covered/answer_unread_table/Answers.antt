use Rattle.std.proofs.Common.{refl, string_bytes}
use Rattle.author_cli.proofs.CoveredLemmas.{unread_table}
use Rattle.author_cli.proofs.covered.answer_unread_table.Goals as goal

pub returns : goal.returns
returns c =
    unread_table c.args.fault.now (string_bytes c.in_ok-detail.detail) c.as_bytes.result.now _ c.in_ok-reply.reply.text.items _
    (string_bytes c.in_ok-reason.reason) c.in_ok-detail.ensures c.as_bytes.ensures.value c.in_ok-reply.ensures refl refl
    c.in_ok-reason.ensures
