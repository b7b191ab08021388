use Rattle.std.proofs.Common.{◌≢◌, [], rules, sym, subst}
use Rattle.std.specs.Prelude.{string_bytes}
use Rattle.plain_words.specs.Places.{files_of}
use Rattle.plain_words.specs.Refusals.{SaysWrong}
use Rattle.plain_words.proofs.Shown.{begins_at_refusal, says_wrong, if_ok_both}
use Rattle.plain_words.proofs.plan.plan_words.Goals as goal

pub returns-clause-place : goal.returns-clause-place
returns-clause-place c =
    let files = files_of c.args.plan c.args.limits in
    let plan = c.args.plan.bytes.now in
    let refusal = c.args.refusal.now in
    let found = c.in_ok-found.ensures in
    let text = c.in_ok-wrong.ensures in
    let some = subst (λ wrong. wrong ≢ []) (sym c.deref.ensures) text.some in
    let says = subst (SaysWrong plan refusal) (sym c.deref.ensures)
    (says_wrong plan refusal _ _ _ (search rules) found.detail text.starts) in
    if_ok_both c.reason_line.result _ _ _
    (λ words told ends. begins_at_refusal files refusal c.in_ok-found.found _ (string_bytes words)
    found.place found.help some says told ends)
    c.reason_line.ensures.text c.reason_line.ensures.end
