use Rattle.std.proofs.Common.{◌≡◌, ◌++◌, ◌∷◌, [], IfOk, sym, subst, ◌∙◌, ap₂}
use Rattle.std.specs.List.{flat_map}
use Rattle.std.proofs.lemmas.List.{append-nil}
use Rattle.report_csv.specs.Reports.{blocked_fields, row_line}
use Rattle.report_csv.specs.private.Views.{output_line}
use Rattle.report_csv.proofs.RowLemmas.{outputs_lines}
use Rattle.report_csv.proofs.run.with_state.Goals as goal

pub returns-in-Blocked : goal.returns-in-Blocked
returns-in-Blocked c =
    let row = row_line (blocked_fields (c.args.texts.now.front.items ∷ []) c.in-Blocked.why) in
    let written = rw c.as_slice-in-Blocked.ensures.value at c.with_cause.ensures in
    rw c.in-Blocked.is (subst (λ t. IfOk c.with_cause.result (λ more. more ≡ c.args.rows ++ t)) (sym (append-nil row)) written)

pub returns-in_ok-put_field-in-Done : goal.returns-in_ok-put_field-in-Done
returns-in_ok-put_field-in-Done c =
    let outputs = c.in-Done.outputs in
    let front = c.as_slice-front.ensures.value ∙ c.in_ok-put_field-in-Done.ensures in
    let lines = ap₂ (λ f vs. flat_map (output_line f) vs) front c.as_slice-in-Done.ensures ∙ outputs_lines c.args.texts.now.front.items outputs in
    rw c.in-Done.is (subst (λ t. IfOk c.with_outputs.result (λ more. more ≡ c.args.rows ++ t)) lines c.with_outputs.ensures)
