use Rattle.std.proofs.Common.{◌∙◌, sym, ap, subst, length, drop}
use Rattle.std.specs.Prelude.{IfOk, Ok}
use Rattle.std.proofs.lemmas.List.{take_rest}
use Rattle.script_steps.specs.private.Replies.{reply_of}
use Rattle.plan_answers.proofs.Laws.{if_ok_map, on_err_any}
use Rattle.script_steps.specs.FilingSteps.{IsFileStep}
use Rattle.script_steps.specs.Standings.{answered}
use Rattle.script_steps.proofs.DoneLemmas.{file_left, file_made, file_refused}
use Rattle.script_steps.proofs.EditLemmas.{standing}
use Rattle.script_steps.proofs.filings.file.Goals as goal
use Rattle.script_steps.proofs.filings.file.Goals.{in-Ok+in_ok-text-in-Ok, in-Err-Memory, in-Err}

pub returns-clause-made : goal.returns-clause-made
returns-clause-made c =
    let from = c.args.script.now in
    let month = c.args.month in
    let book = c.script.inside.book in
    let old = c.script.inside.ledger in
    let made = c.script.inside.made in
    let new = c.file.new.self in
    elim c.match-file.branch [
      | in-Ok+in_ok-text-in-Ok w ↦
          subst (λ r. IfOk r (λ reply. IsFileStep from month (standing new made book) (reply_of reply))) (sym
          w.result-is)
          (file_made from month book old made c.script.view_is new w.in-Ok.count _ (reply_of w.answered.result)
          w.in-Ok.ensures.ok
          (take_rest w.entries.result.now (length c.entries-before.result.now)
          ∙ ap (drop (length c.entries-before.result.now)) w.entries.ensures
          ∙ ap (λ b. drop (length b) new.entries) c.entries-before.ensures)
          (w.answered.ensures ∙ ap (λ t. answered t 0) w.in_ok-text-in-Ok.ensures))
      | in-Err-Memory w ↦ subst (λ r. IfOk r (λ reply. IsFileStep from month (standing new made book) (reply_of
          reply)))
          (sym w.result-is) tt
      | in-Err w ↦
          subst (λ r. IfOk r (λ reply. IsFileStep from month (standing new made book) (reply_of reply))) (sym
          w.result-is)
          (if_ok_map w.file_refusal.result _ _
          (λ r is. file_refused from month book old made c.script.view_is new w.in-Err.why (reply_of r)
          w.in-Err.ensures.err w.in-Err.ensures.refused is)
          w.file_refusal.ensures)
    ]

-- the month is filed, and its answer isn't made
pub returns-in_err-text-in-Ok-clause-left : goal.returns-in_err-text-in-Ok-clause-left
returns-in_err-text-in-Ok-clause-left c =
    on_err_any c.from_residual.result _
    (file_left c.args.script.now c.args.month c.script.inside.book c.script.inside.ledger c.script.inside.made
    c.script.view_is c.file.new.self (Ok c.in-Ok.count) c.in-Ok.ensures.ok tt)
