use Rattle.std.proofs.Common.{sym, ap, ◌∙◌, arith}
use Rattle.pap_tree.specs.Term.{term_of}
use Rattle.pap_types.specs.declared.fault.TypeFault.TheVariants as faults
use Rattle.pap_types.specs.Kinds.{is_truth}
use Rattle.pap_types.specs.private.CheckViews.{checks_in}
use Rattle.pap_types.proofs.StatementLemmas.{nodes_some, early_verdict, last_passes, last_fails, last_place}
use Rattle.pap_types.proofs.nodes.Statement.check_test.Goals as goal

pub returns-in_err-checked : goal.returns-in_err-checked
returns-in_err-checked c =
    early_verdict (checks_in c.args.self.now (term_of c.args.test.now) 0) _ c.from_residual.result c.in_err-checked.field-0.0 c.in_err-checked.ensures c.from_residual.ensures.1

pub overflow_sub-checked : goal.overflow_sub-checked
overflow_sub-checked c = let some = nodes_some (term_of c.args.test.now) in let next = c.in_ok-checked.ensures.2 in omega arith

pub returns-then-is_truth : goal.returns-then-is_truth
returns-then-is_truth c =
    let checked = c.in_ok-checked.ensures in
    last_passes (checks_in c.args.self.now (term_of c.args.test.now) 0) _ _ checked.0 (ap is_truth (sym checked.1) ∙ sym c.is_truth.ensures ∙ c.if-is_truth.true)

pub returns-else-is_truth : goal.returns-else-is_truth
returns-else-is_truth c =
    let s = c.args.self.now in
    let e = term_of c.args.test.now in
    let checked = c.in_ok-checked.ensures in
    last_fails (checks_in s e 0) _ _ (faults.Kind c.place.result) checked.0 (ap is_truth (sym checked.1) ∙ sym c.is_truth.ensures ∙ c.if-is_truth.false) (last_place s e c.in_ok-checked.checked.next c.place.result checked.2 c.place.ensures)
