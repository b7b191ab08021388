use Rattle.std.proofs.Common.{sym, ap, ◌∙◌, arith}
use Rattle.pap_tree.specs.Term.{term_of}
use Rattle.pap_types.specs.declared.fault.TypeFault.TheVariants as faults
use Rattle.pap_types.specs.Kinds.{suits}
use Rattle.pap_types.proofs.StatementLemmas.{nodes_some, eval_early, eval_passes, eval_fails, last_place}
use Rattle.pap_types.proofs.nodes.Statement.check_eval.Goals as goal

pub returns-in_err-checked : goal.returns-in_err-checked
returns-in_err-checked c =
    eval_early c.args.self.now c.args.target.now (term_of c.args.value.now) c.in_ok-kind.kind c.in_ok-kind.ensures c.from_residual-in_err-checked.result c.in_err-checked.field-0.0 c.in_err-checked.ensures c.from_residual-in_err-checked.ensures.1

pub overflow_sub-checked : goal.overflow_sub-checked
overflow_sub-checked c = let some = nodes_some (term_of c.args.value.now) in let next = c.in_ok-checked.ensures.2 in omega arith

pub returns-then-suits : goal.returns-then-suits
returns-then-suits c =
    let s = c.args.self.now in
    let e = term_of c.args.value.now in
    let checked = c.in_ok-checked.ensures in
    eval_passes s c.args.target.now e c.in_ok-kind.kind c.in_ok-kind.ensures checked.0 (ap (suits c.in_ok-kind.kind e) (sym checked.1) ∙ sym c.suits.ensures ∙ c.if-suits.true)

pub returns-else-suits : goal.returns-else-suits
returns-else-suits c =
    let s = c.args.self.now in
    let e = term_of c.args.value.now in
    let checked = c.in_ok-checked.ensures in
    eval_fails s c.args.target.now e c.in_ok-kind.kind c.in_ok-kind.ensures (faults.Kind c.place.result) checked.0 (ap (suits c.in_ok-kind.kind e) (sym checked.1) ∙ sym c.suits.ensures ∙ c.if-suits.false) (last_place s e c.in_ok-checked.checked.next c.place.result checked.2 c.place.ensures)
