use Rattle.std.proofs.Common.{◌≡◌, ◌++◌, ◌∷◌, [], IfOk, ap, ◌∙◌, subst}
use Rattle.std.specs.List.{flat_map}
use Rattle.payroll_records.specs.Days.{day_text, month_text}
use Rattle.report_csv.specs.Reports.{plan_text, row_line, state_rows}
use Rattle.report_csv.proofs.RowLemmas.{state_joined}
use Rattle.report_csv.proofs.run.with_run.Goals as goal

pub returns : goal.returns
returns c =
    let key = c.args.key.now in
    let day = key.day in
    let rest = month_text day.year day.month ∷ day_text day.year day.month day.day ∷ plan_text c.args.plan ∷ [] in
    let state = c.args.state.now in
    let same = ap (λ f. flat_map row_line (state_rows (f ∷ []) state)) c.in_ok-write_front.ensures ∙ state_joined key.employee rest state in
    subst (λ t. IfOk c.with_state.result (λ more. more ≡ c.args.rows ++ t)) same c.with_state.ensures
