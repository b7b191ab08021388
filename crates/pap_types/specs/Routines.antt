-- The methods of a plan by name.
use Rattle.std.specs.Prelude.{ℕ, if◌then◌else◌, List, [], ◌∷◌, map, Option, Some, None}
use Rattle.std.specs.Str.{bytes_eq}
use Rattle.pap_tree.specs.Flowchart.{Body, Routine}

-- the names of methods, in their order
abbrev pub method_names : List Routine → List (List ℕ)
method_names ms = map (λ m. m.name) ms

-- the body of a method other than MAIN
abbrev pub body_named : List Routine → List ℕ → Option Body
body_named [] x = None
body_named (m ∷ ms) x = if bytes_eq x m.name then Some m.body else body_named ms x
