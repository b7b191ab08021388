use Rattle.std.proofs.Common.{map, sym, ap, ◌∙◌}
use Rattle.std.specs.List.{list_any}
use Rattle.std.proofs.lemmas.Result.{on_ok_weaker}
use Rattle.pap_tree.specs.Flowchart.{routine_of}
use Rattle.pap_types.specs.AllFaults.{is_twice}
use Rattle.pap_types.proofs.StatementFaultLemmas.{all_found, none_found}
use Rattle.pap_types.proofs.fault_list.FaultFinder.find_in_statements.Goals as goal

pub returns-then-stands_twice : goal.returns-then-stands_twice
returns-then-stands_twice c =
    none_found c.args.scope.now c.args.self.now.faults.items
    (ap (list_any is_twice) (sym c.deref.ensures.value) ∙ sym c.stands_twice.ensures ∙ c.if-stands_twice.true)

pub returns : goal.returns
returns c =
    on_ok_weaker c.find_in_methods.result
    (λ k. all_found c.args.scope.now c.main.result c.deref-2.result.now (map routine_of c.deref-3.result.now) c.args.self.now.faults.items
    c.find_in_method.new.self.faults.items c.find_in_methods.new.self.faults.items c.main.ensures c.deref-2.ensures.value
    (ap (map routine_of) c.deref-3.ensures.value) c.in_ok-find_in_method.ensures k
    (ap (list_any is_twice) (sym c.deref.ensures.value) ∙ sym c.stands_twice.ensures ∙ c.if-stands_twice.false))
    c.find_in_methods.ensures
