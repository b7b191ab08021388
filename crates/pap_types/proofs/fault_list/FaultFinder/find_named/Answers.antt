use Rattle.std.proofs.Common.{◌+◌, [], ◌∷◌, map, drop, ap, subst, arith}
use Rattle.std.proofs.lemmas.List.{drop_all}
use Rattle.pap_tree.specs.Flowchart.{routine_of}
use Rattle.pap_tree.specs.Names.{main_name}
use Rattle.pap_types.specs.private.FaultViews.{as_declaration}
use Rattle.pap_types.proofs.MethodLemmas.{methods_from}
use Rattle.pap_types.proofs.NameFaultLemmas.{NamesGoOn, names_begin, names_go_on, names_end}
use Rattle.pap_types.proofs.fault_list.FaultFinder.find_named.Goals as goal

pub loop-method-init : goal.loop-method-init
loop-method-init c = names_begin (main_name ∷ []) c.args.names.now c.args.self.now.faults.items (map as_declaration (map routine_of c.args.methods.now))

pub loop-method-preserved : goal.loop-method-preserved
loop-method-preserved c =
    let l = c.loop-method in
    let methods = c.args.methods.now in
    let old = c.args.names.now in
    let before = c.args.self.now.faults.items in
    let all = map as_declaration (map routine_of methods) in
    let left = map as_declaration (map routine_of (drop (l.method-index + 1) methods)) in
    let m = c.method-item.result in
    names_go_on (main_name ∷ []) old l.names c.find_in_name.new.names before l.self.faults.items c.find_in_name.new.self.faults.items all left (as_declaration (routine_of m))
    (subst (λ ms. NamesGoOn (main_name ∷ []) old l.names before l.self.faults.items all (map as_declaration ms)) (methods_from methods l.method-index m c.method-item.is c.loop-method-test.true) l.invariant)
    c.in_ok-find_in_name.ensures

pub returns : goal.returns
returns c =
    let l = c.loop-method in
    let methods = c.args.methods.now in
    names_end (main_name ∷ []) c.args.names.now l.names c.args.self.now.faults.items l.self.faults.items (map as_declaration (map routine_of methods))
    (map as_declaration (map routine_of (drop l.method-index methods)))
    (ap (λ ms. map as_declaration (map routine_of ms)) (drop_all l.method-index methods (omega (arith, c.loop-method-test.false)))) l.invariant
