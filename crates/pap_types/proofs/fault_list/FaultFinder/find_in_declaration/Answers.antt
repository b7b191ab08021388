use Rattle.std.proofs.lemmas.Result.{on_ok_weaker}
use Rattle.pap_tree.specs.Declarations.{declaration_of}
use Rattle.pap_types.proofs.NameFaultLemmas.{found_declared}
use Rattle.pap_types.proofs.fault_list.FaultFinder.find_in_declaration.Goals as goal

pub returns : goal.returns
returns c =
    on_ok_weaker c.keep.result
    (λ k. found_declared c.args.earlier.now c.args.names.now c.declare_one.new.names c.args.self.now.faults.items c.keep.new.self.faults.items
    (declaration_of c.args.declared.now) c.declare_one.result c.declare_one.ensures.declared c.declare_one.ensures.placed k)
    c.keep.ensures
