use Rattle.std.proofs.lemmas.Result.{on_ok_weaker}
use Rattle.pap_tree.specs.Flowchart.{routine_of}
use Rattle.pap_types.proofs.NameFaultLemmas.{found_name}
use Rattle.pap_types.proofs.fault_list.FaultFinder.find_in_name.Goals as goal

pub returns : goal.returns
returns c =
    on_ok_weaker c.keep.result
    (λ k. found_name c.args.names.now c.name_method.new.names c.args.self.now.faults.items c.keep.new.self.faults.items
    (routine_of c.args.method.now) c.name_method.result c.name_method.ensures k)
    c.keep.ensures
