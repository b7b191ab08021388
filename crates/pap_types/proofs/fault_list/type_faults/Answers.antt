use Rattle.std.proofs.Common.{[], ◌++◌, ap, ◌∙◌}
use Rattle.std.specs.Prelude.{if◌then◌else◌}
use Rattle.std.specs.List.{list_any}
use Rattle.pap_tree.specs.Flowchart.{flowchart_of}
use Rattle.pap_types.specs.AllFaults.{is_twice, statement_faults}
use Rattle.pap_types.proofs.fault_list.type_faults.Goals as goal

pub find_in_statements-requires-clause-numbered : goal.find_in_statements-requires-clause-numbered
find_in_statements-requires-clause-numbered c = c.in_ok-find_in_names.ensures.numbered

pub returns : goal.returns
returns c =
    let f = flowchart_of c.args.plan.now in
    c.in_ok-find_in_statements.ensures
    ∙ ap (λ l. l ++ (if list_any is_twice l then [] else statement_faults f)) c.in_ok-find_in_names.ensures.are
