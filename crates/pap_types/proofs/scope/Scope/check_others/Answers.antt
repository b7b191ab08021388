use Rattle.std.proofs.Common.{◌+◌, drop, map, ap, subst, sym, ◌∙◌}
use Rattle.pap_tree.specs.Flowchart.{body_of, routine_of}
use Rattle.pap_types.specs.Checks.{first_fault}
use Rattle.pap_types.specs.Counts.{AreSmallTerms}
use Rattle.pap_types.specs.private.PlanViews.{method_checks_in}
use Rattle.pap_types.proofs.MethodLemmas.{methods_from, small_method, failed_method, passed_method}
use Rattle.pap_types.proofs.scope.Scope.check_others.Goals as goal

pub check_method-requires-clause-small : goal.check_method-requires-clause-small
check_method-requires-clause-small c =
    let ms = c.args.methods.now in
    let i = c.loop-method.method-index in
    let m = c.method-item.result in
    let small = small_method c.args.self.now (map routine_of ms) (map routine_of (drop i ms)) (map routine_of (drop (i + 1) ms)) (routine_of m) (methods_from ms i m c.method-item.is c.loop-method-test.true) c.loop-method.invariant in
    subst (λ ss. AreSmallTerms (body_of ss)) (sym c.deref.ensures.value) small

pub returns-in_err-check_method : goal.returns-in_err-check_method
returns-in_err-check_method c =
    let s = c.args.self.now in
    let ms = c.args.methods.now in
    let i = c.loop-method.method-index in
    let m = c.method-item.result in
    let same = ap (λ ss. first_fault (method_checks_in s m.name (body_of ss))) (sym c.deref.ensures.value) in
    failed_method s (map routine_of ms) (map routine_of (drop i ms)) (map routine_of (drop (i + 1) ms)) (routine_of m) (methods_from ms i m c.method-item.is c.loop-method-test.true) c.loop-method.invariant c.from_residual.result c.in_err-check_method.field-0.0 (same ∙ c.in_err-check_method.ensures) c.from_residual.ensures.1

pub loop-method-preserved : goal.loop-method-preserved
loop-method-preserved c =
    let s = c.args.self.now in
    let ms = c.args.methods.now in
    let i = c.loop-method.method-index in
    let m = c.method-item.result in
    let same = ap (λ ss. first_fault (method_checks_in s m.name (body_of ss))) (sym c.deref.ensures.value) in
    passed_method s (map routine_of ms) (map routine_of (drop i ms)) (map routine_of (drop (i + 1) ms)) (routine_of m) (methods_from ms i m c.method-item.is c.loop-method-test.true) c.loop-method.invariant (same ∙ c.in_ok-check_method.ensures)
