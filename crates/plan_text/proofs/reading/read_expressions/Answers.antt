use Rattle.std.proofs.Common.{map, subst}
use Rattle.pap_tree.specs.Declarations.{declaration_of}
use Rattle.pap_tree.specs.Flowchart.{flowchart_of, body_of}
use Rattle.pap_reader.specs.Trees.{raw_declaration_of, raw_body_of, raw_routine_of, tree_of}
use Rattle.plan_text.specs.Plans.{HasFlowchart, AreDeclarations, IsBody}
use Rattle.plan_text.specs.Sites.{sites_of, declared_sites, body_sites, routine_sites}
use Rattle.pap_tree.specs.Names.{main_name}
use Rattle.plan_text.specs.private.Views.{TellsFault}
use Rattle.plan_text.proofs.ExpressionLemmas.{outputs_fail, internals_fail, constants_fail, main_fails, methods_fail}
use Rattle.plan_text.proofs.SiteLemmas.{passed}
use Rattle.plan_text.proofs.reading.read_expressions.Goals as goal

pub returns-in_err-outputs : goal.returns-in_err-outputs
returns-in_err-outputs c =
    let x = tree_of c.args.elements.now in
    let f = c.in_err-outputs.field-0.0 in
    let hi = subst (λ l. AreDeclarations (map raw_declaration_of l) (map declaration_of c.in_ok-inputs.inputs.items)) c.deref.ensures.value c.in_ok-inputs.ensures in
    passed (sites_of x) (λ plan. HasFlowchart x (flowchart_of plan)) c.from_residual-in_err-outputs.result f
    (outputs_fail x f (map declaration_of c.in_ok-inputs.inputs.items) hi (subst (λ l. TellsFault (declared_sites (map raw_declaration_of l)) f) c.deref-2.ensures.value c.in_err-outputs.ensures))
    c.from_residual-in_err-outputs.ensures.1

pub returns-in_err-internals : goal.returns-in_err-internals
returns-in_err-internals c =
    let x = tree_of c.args.elements.now in
    let f = c.in_err-internals.field-0.0 in
    let hi = subst (λ l. AreDeclarations (map raw_declaration_of l) (map declaration_of c.in_ok-inputs.inputs.items)) c.deref.ensures.value c.in_ok-inputs.ensures in
    let ho = subst (λ l. AreDeclarations (map raw_declaration_of l) (map declaration_of c.in_ok-outputs.outputs.items)) c.deref-2.ensures.value c.in_ok-outputs.ensures in
    passed (sites_of x) (λ plan. HasFlowchart x (flowchart_of plan)) c.from_residual-in_err-internals.result f
    (internals_fail x f (map declaration_of c.in_ok-inputs.inputs.items) (map declaration_of c.in_ok-outputs.outputs.items) hi ho (subst (λ l. TellsFault (declared_sites (map raw_declaration_of l)) f) c.deref-3.ensures.value c.in_err-internals.ensures))
    c.from_residual-in_err-internals.ensures.1

pub returns-in_err-constants : goal.returns-in_err-constants
returns-in_err-constants c =
    let x = tree_of c.args.elements.now in
    let f = c.in_err-constants.field-0.0 in
    let hi = subst (λ l. AreDeclarations (map raw_declaration_of l) (map declaration_of c.in_ok-inputs.inputs.items)) c.deref.ensures.value c.in_ok-inputs.ensures in
    let ho = subst (λ l. AreDeclarations (map raw_declaration_of l) (map declaration_of c.in_ok-outputs.outputs.items)) c.deref-2.ensures.value c.in_ok-outputs.ensures in
    let hn = subst (λ l. AreDeclarations (map raw_declaration_of l) (map declaration_of c.in_ok-internals.internals.items)) c.deref-3.ensures.value c.in_ok-internals.ensures in
    passed (sites_of x) (λ plan. HasFlowchart x (flowchart_of plan)) c.from_residual-in_err-constants.result f
    (constants_fail x f (map declaration_of c.in_ok-inputs.inputs.items) (map declaration_of c.in_ok-outputs.outputs.items) (map declaration_of c.in_ok-internals.internals.items) hi ho hn
    (subst (λ l. TellsFault (declared_sites (map raw_declaration_of l)) f) c.deref-4.ensures.value c.in_err-constants.ensures))
    c.from_residual-in_err-constants.ensures.1

pub returns-in_err-main : goal.returns-in_err-main
returns-in_err-main c =
    let x = tree_of c.args.elements.now in
    let f = c.in_err-main.field-0.0 in
    let hi = subst (λ l. AreDeclarations (map raw_declaration_of l) (map declaration_of c.in_ok-inputs.inputs.items)) c.deref.ensures.value c.in_ok-inputs.ensures in
    let ho = subst (λ l. AreDeclarations (map raw_declaration_of l) (map declaration_of c.in_ok-outputs.outputs.items)) c.deref-2.ensures.value c.in_ok-outputs.ensures in
    let hn = subst (λ l. AreDeclarations (map raw_declaration_of l) (map declaration_of c.in_ok-internals.internals.items)) c.deref-3.ensures.value c.in_ok-internals.ensures in
    let hc = subst (λ l. AreDeclarations (map raw_declaration_of l) (map declaration_of c.in_ok-constants.constants.items)) c.deref-4.ensures.value c.in_ok-constants.ensures in
    passed (sites_of x) (λ plan. HasFlowchart x (flowchart_of plan)) c.from_residual-in_err-main.result f
    (main_fails x f (map declaration_of c.in_ok-inputs.inputs.items) (map declaration_of c.in_ok-outputs.outputs.items) (map declaration_of c.in_ok-internals.internals.items) (map declaration_of c.in_ok-constants.constants.items) hi ho hn hc
    (subst (λ l. TellsFault (body_sites main_name 0 (raw_body_of l)) f) c.deref-5.ensures.value (subst (λ m. TellsFault (body_sites m 0 (raw_body_of c.deref-5.result.now)) f) c.main.ensures c.in_err-main.ensures)))
    c.from_residual-in_err-main.ensures.1

pub returns-in_err-methods : goal.returns-in_err-methods
returns-in_err-methods c =
    let x = tree_of c.args.elements.now in
    let f = c.in_err-methods.field-0.0 in
    let hi = subst (λ l. AreDeclarations (map raw_declaration_of l) (map declaration_of c.in_ok-inputs.inputs.items)) c.deref.ensures.value c.in_ok-inputs.ensures in
    let ho = subst (λ l. AreDeclarations (map raw_declaration_of l) (map declaration_of c.in_ok-outputs.outputs.items)) c.deref-2.ensures.value c.in_ok-outputs.ensures in
    let hn = subst (λ l. AreDeclarations (map raw_declaration_of l) (map declaration_of c.in_ok-internals.internals.items)) c.deref-3.ensures.value c.in_ok-internals.ensures in
    let hc = subst (λ l. AreDeclarations (map raw_declaration_of l) (map declaration_of c.in_ok-constants.constants.items)) c.deref-4.ensures.value c.in_ok-constants.ensures in
    let hm = subst (λ l. IsBody (raw_body_of l) (body_of c.in_ok-main.main.items)) c.deref-5.ensures.value c.in_ok-main.ensures in
    passed (sites_of x) (λ plan. HasFlowchart x (flowchart_of plan)) c.from_residual-in_err-methods.result f
    (methods_fail x f (map declaration_of c.in_ok-inputs.inputs.items) (map declaration_of c.in_ok-outputs.outputs.items) (map declaration_of c.in_ok-internals.internals.items) (map declaration_of c.in_ok-constants.constants.items) (body_of c.in_ok-main.main.items) hi ho hn hc hm
    (subst (λ l. TellsFault (routine_sites (map raw_routine_of l)) f) c.deref-6.ensures.value c.in_err-methods.ensures))
    c.from_residual-in_err-methods.ensures.1
