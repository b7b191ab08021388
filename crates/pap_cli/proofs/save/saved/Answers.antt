use Rattle.std.proofs.Common.{◌≡◌, ◌∙◌, ap, sym, subst, refl, false}
use Rattle.std.specs.Prelude.{Ok, codes, is_some}
use Rattle.plan_answers.proofs.Laws.{if_ok_map}
use Rattle.book_file.specs.Saving.{SaveSays}
use Rattle.plan_answers.specs.Answers.{refusal}
use Rattle.plan_answers.specs.Replies.{reply_of}
use Rattle.pap_cli.specs.SaveAnswers.{IsSave, was_filed}
use Rattle.pap_cli.specs.private.SaveViews.{written_of}
use Rattle.pap_cli.proofs.SaveLemmas.{saved_book, long_book}
use Rattle.pap_cli.proofs.save.saved.Goals as goal

pub returns-in-Ok : goal.returns-in-Ok
returns-in-Ok c =
    let unfiled : was_filed c.args.script.now ≡ false = ap (λ f. is_some f.last) (sym c.ledger.ensures) ∙ ap (λ o. is_some o) (sym c.last.ensures) ∙ sym c.is_some.ensures ∙ c.if-is_some.false in
    saved_book c.args.refused c.args.script.now c.args.refusals.items (record { text = c.in-Ok.text.items; refused = false })
    c.if-refused.false unfiled
    (record { verdict = Ok c.in-Ok.text.items; says = subst (λ b. SaveSays b (Ok c.in-Ok.text.items)) c.book.ensures c.in-Ok.ensures.saved; is = refl })

pub returns-in-Err-Long : goal.returns-in-Err-Long
returns-in-Err-Long c =
    let unfiled : was_filed c.args.script.now ≡ false = ap (λ f. is_some f.last) (sym c.ledger.ensures) ∙ ap (λ o. is_some o) (sym c.last.ensures) ∙ sym c.is_some.ensures ∙ c.if-is_some.false in
    let says = rw c.in-Err-Long.field-0-is at c.in-Err-Long.ensures.refused in
    if_ok_map c.refusal-in-Err-Long.result (λ reply. reply_of reply ≡ refusal (codes "book Long"))
    (λ reply. IsSave c.args.refused (was_filed c.args.script.now) c.args.refusals.items c.args.script.now.book (written_of reply))
    (λ reply is. long_book c.args.refused c.args.script.now c.args.refusals.items c.book.result.now reply c.if-refused.false unfiled c.book.ensures says is) c.refusal-in-Err-Long.ensures
