use Rattle.std.proofs.Common.{[], ◌∷◌, map, subst}
use Rattle.std.proofs.lemmas.Result.{on_ok_weaker}
use Rattle.pap_tree.specs.Declarations.{declaration_of}
use Rattle.pap_tree.specs.Flowchart.{routine_of}
use Rattle.pap_tree.specs.Names.{main_name}
use Rattle.pap_types.specs.private.FaultViews.{FindsNames, as_declaration}
use Rattle.pap_types.proofs.NameFaultLemmas.{all_named}
use Rattle.pap_types.proofs.fault_list.FaultFinder.find_in_names.Goals as goal

pub returns : goal.returns
returns c =
    let old = c.args.names.now in
    let variables = c.find_in_variables.new.names in
    let constants = c.find_declared.new.names in
    let methods = c.find_named.new.names in
    let first = c.args.self.now.faults.items in
    let second = c.find_in_variables.new.self.faults.items in
    let third = c.find_declared.new.self.faults.items in
    let last = c.find_named.new.self.faults.items in
    on_ok_weaker c.find_named.result
    (λ k. all_named c.args.plan.now (record { variables = variables; constants = constants; methods = methods }) c.args.none.now old.variables old.constants old.methods
    first second third last c.requires.none c.requires.nothing.variables c.requires.nothing.constants c.requires.nothing.methods c.requires.faultless
    c.in_ok-find_in_variables.ensures
    (subst (λ ds. FindsNames variables old.constants constants second third (map declaration_of ds)) c.deref.ensures.value c.in_ok-find_declared.ensures)
    (subst (λ ms. FindsNames (main_name ∷ []) old.methods methods third last (map as_declaration (map routine_of ms))) c.deref-2.ensures.value k))
    c.find_named.ensures
