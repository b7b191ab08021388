use Rattle.std.proofs.Common.{◌∷◌, [], ◌++◌, map, codes, ap, ◌∙◌}
use Rattle.std.proofs.lemmas.Result.{on_ok_weaker}
use Rattle.pap_reader.specs.declared.element.Element.TheVariants as elements
use Rattle.pap_reader.specs.declared.elements.RawMethod.{RawMethod}
use Rattle.pap_reader.specs.Trees.{raw_declaration_of, raw_routine_of, raw_body_of}
use Rattle.pap_reader.specs.Meaning.{attribute_text}
use Rattle.pap_reader.proofs.Closings.{plan_arm, kept, name_is, map_one}
use Rattle.pap_reader.proofs.reader.close_in_plan.Goals as goal

pub returns-in-Input : goal.returns-in-Input
returns-in-Input c =
    on_ok_weaker c.declare.result
    (λ written. plan_arm c.args.child c.args.plan.now (record c.args.plan.now { inputs = c.declare.new.names }) c.args.element elements.Input c.in-Input.is
    (λ attributes p s h. record {
      inputs = written (codes "default") attributes s;
      outputs = kept (map raw_declaration_of c.args.plan.now.outputs.items);
      internals = kept (map raw_declaration_of c.args.plan.now.internals.items);
      constants = kept (map raw_declaration_of c.args.plan.now.constants.items);
      main = λ m g. g;
      methods = kept (map raw_routine_of c.args.plan.now.methods.items);
    }))
    c.declare.ensures

pub returns-in-Output : goal.returns-in-Output
returns-in-Output c =
    on_ok_weaker c.declare-in-Output.result
    (λ written. plan_arm c.args.child c.args.plan.now (record c.args.plan.now { outputs = c.declare-in-Output.new.names }) c.args.element elements.Output c.in-Output.is
    (λ attributes p s h. record {
      inputs = kept (map raw_declaration_of c.args.plan.now.inputs.items);
      outputs = written (codes "default") attributes s;
      internals = kept (map raw_declaration_of c.args.plan.now.internals.items);
      constants = kept (map raw_declaration_of c.args.plan.now.constants.items);
      main = λ m g. g;
      methods = kept (map raw_routine_of c.args.plan.now.methods.items);
    }))
    c.declare-in-Output.ensures

pub returns-in-Internal : goal.returns-in-Internal
returns-in-Internal c =
    on_ok_weaker c.declare-in-Internal.result
    (λ written. plan_arm c.args.child c.args.plan.now (record c.args.plan.now { internals = c.declare-in-Internal.new.names }) c.args.element elements.Internal c.in-Internal.is
    (λ attributes p s h. record {
      inputs = kept (map raw_declaration_of c.args.plan.now.inputs.items);
      outputs = kept (map raw_declaration_of c.args.plan.now.outputs.items);
      internals = written (codes "default") attributes s;
      constants = kept (map raw_declaration_of c.args.plan.now.constants.items);
      main = λ m g. g;
      methods = kept (map raw_routine_of c.args.plan.now.methods.items);
    }))
    c.declare-in-Internal.ensures

pub returns-in-Constant : goal.returns-in-Constant
returns-in-Constant c =
    on_ok_weaker c.declare-in-Constant.result
    (λ written. plan_arm c.args.child c.args.plan.now (record c.args.plan.now { constants = c.declare-in-Constant.new.names }) c.args.element elements.Constant c.in-Constant.is
    (λ attributes p s h. record {
      inputs = kept (map raw_declaration_of c.args.plan.now.inputs.items);
      outputs = kept (map raw_declaration_of c.args.plan.now.outputs.items);
      internals = kept (map raw_declaration_of c.args.plan.now.internals.items);
      constants = written (codes "value") attributes s;
      main = λ m g. g;
      methods = kept (map raw_routine_of c.args.plan.now.methods.items);
    }))
    c.declare-in-Constant.ensures

pub returns-in-Main : goal.returns-in-Main
returns-in-Main c =
    plan_arm c.args.child c.args.plan.now (record c.args.plan.now { main = c.args.child.statements }) c.args.element elements.Main c.in-Main.is
    (λ attributes p s h. record {
      inputs = kept (map raw_declaration_of c.args.plan.now.inputs.items);
      outputs = kept (map raw_declaration_of c.args.plan.now.outputs.items);
      internals = kept (map raw_declaration_of c.args.plan.now.internals.items);
      constants = kept (map raw_declaration_of c.args.plan.now.constants.items);
      main = λ m g. h.statements;
      methods = kept (map raw_routine_of c.args.plan.now.methods.items);
    })

pub returns-in-Method : goal.returns-in-Method
returns-in-Method c =
    let n = c.in-Named.name in
    let r : RawMethod = record { name = n; body = c.args.child.statements } in
    plan_arm c.args.child c.args.plan.now (record c.args.plan.now { methods = c.push.new.self }) c.args.element elements.Method c.in-Method.is
    (λ attributes p s h. record {
      inputs = kept (map raw_declaration_of c.args.plan.now.inputs.items);
      outputs = kept (map raw_declaration_of c.args.plan.now.outputs.items);
      internals = kept (map raw_declaration_of c.args.plan.now.internals.items);
      constants = kept (map raw_declaration_of c.args.plan.now.constants.items);
      main = λ m g. g;
      methods = ap (map raw_routine_of) c.in_ok-push-in-Method.ensures.items ∙ map_one raw_routine_of c.args.plan.now.methods.items r
          ∙ ap (λ x. map raw_routine_of c.args.plan.now.methods.items ++ (record { name = x; body = raw_body_of c.args.child.statements.items } ∷ [])) (name_is (attribute_text (codes "name") attributes) c.args.child.value n c.in-Named.is s)
          ∙ ap (λ x. map raw_routine_of c.args.plan.now.methods.items ++ (record { name = attribute_text (codes "name") attributes; body = x } ∷ [])) h.statements;
    })
