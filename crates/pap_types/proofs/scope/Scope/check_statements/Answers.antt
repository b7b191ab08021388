use Rattle.pap_types.proofs.MethodLemmas.{main_early, main_then}
use Rattle.pap_types.proofs.scope.Scope.check_statements.Goals as goal

pub returns-in_err-check_method : goal.returns-in_err-check_method
returns-in_err-check_method c =
    main_early c.args.self.now c.main.result c.deref.result.now c.main.ensures c.deref.ensures.value c.from_residual.result c.in_err-check_method.field-0.0 c.in_err-check_method.ensures c.from_residual.ensures.1

pub returns : goal.returns
returns c =
    main_then c.args.self.now c.main.result c.deref.result.now c.main.ensures c.deref.ensures.value c.deref-2.result.now c.check_others.result c.deref-2.ensures.value c.in_ok-check_method.ensures c.check_others.ensures
