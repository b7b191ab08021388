use Rattle.std.proofs.Common.{◌+◌, map, drop, ap, subst, arith}
use Rattle.std.proofs.lemmas.List.{drop_all}
use Rattle.pap_tree.specs.Declarations.{declaration_of}
use Rattle.pap_types.proofs.DeclarationLemmas.{left_from}
use Rattle.pap_types.proofs.NameFaultLemmas.{NamesGoOn, names_begin, names_go_on, names_end}
use Rattle.pap_types.proofs.fault_list.FaultFinder.find_declared.Goals as goal

pub loop-declaration-init : goal.loop-declaration-init
loop-declaration-init c = names_begin c.args.earlier.now c.args.names.now c.args.self.now.faults.items (map declaration_of c.args.declared.now)

pub loop-declaration-preserved : goal.loop-declaration-preserved
loop-declaration-preserved c =
    let l = c.loop-declaration in
    let declared = c.args.declared.now in
    let earlier = c.args.earlier.now in
    let old = c.args.names.now in
    let before = c.args.self.now.faults.items in
    let all = map declaration_of declared in
    let left = map declaration_of (drop (l.declaration-index + 1) declared) in
    let d = c.declaration-item.result in
    names_go_on earlier old l.names c.find_in_declaration.new.names before l.self.faults.items c.find_in_declaration.new.self.faults.items all left (declaration_of d)
    (subst (λ ds. NamesGoOn earlier old l.names before l.self.faults.items all ds) (left_from declared l.declaration-index d c.declaration-item.is c.loop-declaration-test.true) l.invariant)
    c.in_ok-find_in_declaration.ensures

pub returns : goal.returns
returns c =
    let l = c.loop-declaration in
    let declared = c.args.declared.now in
    names_end c.args.earlier.now c.args.names.now l.names c.args.self.now.faults.items l.self.faults.items (map declaration_of declared)
    (map declaration_of (drop l.declaration-index declared)) (ap (map declaration_of) (drop_all l.declaration-index declared (omega (arith, c.loop-declaration-test.false)))) l.invariant
