use Rattle.std.proofs.Common.{ℕ, Vec, None, string_bytes, refl, ap}
use Rattle.std.specs.declared.alloc.Global.{Global}
use Rattle.plan_notes.proofs.Laws.{whole_notes}
use Rattle.author_cli.proofs.UnreadLemmas.{begun}
use Rattle.author_cli.proofs.answer.ranges_of_tokens.Goals as goal

pub returns-in_ok-draft-in-Ok : goal.returns-in_ok-draft-in-Ok
returns-in_ok-draft-in-Ok c =
    begun c.args.plan c.in-Ok.elements c.in_ok-notes-in-Ok.notes (string_bytes c.in_ok-draft-in-Ok.draft)
    (record { text = c.into_bytes.result.items; reason = None }) c.in-Ok.ensures.read
    (whole_notes c.args.plan.bytes.now c.args.tokens.now c.in_ok-notes-in-Ok.notes c.requires c.in_ok-notes-in-Ok.ensures)
    c.in_ok-draft-in-Ok.ensures.draft c.in_ok-draft-in-Ok.ensures.short
    (ap (λ (bytes : Vec ℕ Global). bytes.items) c.into_bytes.ensures.value) refl
