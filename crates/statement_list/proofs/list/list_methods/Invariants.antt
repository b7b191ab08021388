use Rattle.std.proofs.Common.{◌≡◌, ◌∷◌, map, take}
use Rattle.pap_tree.specs.Flowchart.{body_of, Routine, routine_of}
use Rattle.statement_list.specs.Statements.{listed_body}
use Rattle.statement_list.proofs.list.list_methods.Given as goal

abbrev pub invariant-loop-method : goal.invariant-loop-method
invariant-loop-method l =
    l.methods.items
    ≡ listed_body (body_of l.main)
    ∷ map (λ (m : Routine). listed_body m.body) (map routine_of (take l.method-index l.others))
