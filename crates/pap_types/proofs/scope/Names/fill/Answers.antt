use Rattle.std.proofs.Common.{ap, map, subst, Ok, Err}
use Rattle.pap_tree.specs.Flowchart.{flowchart_of, routine_of}
use Rattle.pap_tree.specs.Declarations.{declaration_of}
use Rattle.pap_types.specs.private.DeclarationViews.{AreDeclared}
use Rattle.pap_types.proofs.NamingLemmas.{of_call, variables_fail, constants_fail, filled}
use Rattle.pap_types.proofs.scope.Names.fill.Goals as goal

pub returns-in_err-name_variables : goal.returns-in_err-name_variables
returns-in_err-name_variables c =
    let f = flowchart_of c.args.plan.now in
    let old = c.args.self.now in
    let fault = c.in_err-name_variables.field-0.0 in
    of_call c.args.plan.now _ c.from_residual.result fault (variables_fail f c.args.none.now old.variables c.name_variables.new.names c.requires.none c.requires.nothing.variables fault c.in_err-name_variables.ensures) c.from_residual.ensures.1

pub returns-in_err-declare : goal.returns-in_err-declare
returns-in_err-declare c =
    let f = flowchart_of c.args.plan.now in
    let old = c.args.self.now in
    let fault = c.in_err-declare.field-0.0 in
    let variables = c.name_variables.new.names in
    let constants = c.declare.new.names in
    of_call c.args.plan.now _ c.from_residual-in_err-declare.result fault (constants_fail f c.args.none.now old.variables variables c.requires.none c.requires.nothing.variables c.in_ok-name_variables.ensures old.constants constants c.requires.nothing.constants fault (subst (λ ds. AreDeclared variables old.constants constants (map declaration_of ds) (Err fault)) c.deref.ensures.value c.in_err-declare.ensures)) c.from_residual-in_err-declare.ensures.1

pub returns : goal.returns
returns c =
    let old = c.args.self.now in
    let variables = c.name_variables.new.names in
    let constants = c.declare.new.names in
    filled c.args.plan.now (record { variables = c.name_variables.new.names; constants = c.declare.new.names; methods = c.name_methods.new.names }) c.args.none.now old.variables old.constants old.methods (map routine_of c.deref-2.result.now) c.requires.none c.requires.nothing.variables c.requires.nothing.constants c.requires.nothing.methods (ap (map routine_of) c.deref-2.ensures.value) c.in_ok-name_variables.ensures (subst (λ ds. AreDeclared variables old.constants constants (map declaration_of ds) (Ok tt)) c.deref.ensures.value c.in_ok-declare.ensures) c.name_methods.result c.name_methods.ensures
