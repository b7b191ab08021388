-- Depths of methods by number.
use Rattle.std.specs.Prelude.{ℕ, ◌≤◌, List, slice_index}
use Rattle.std.specs.List.{All}
use Rattle.std.specs.Option.{option_map_or}
use Rattle.pap_tree.specs.Flowchart.{Body, Flowchart}
use Rattle.pap_types.specs.Limits.{longest_chain}
use Rattle.pap_types.specs.Scopes.{number_of}
use Rattle.pap_types.specs.Routines.{method_names}
use Rattle.pap_compiler.specs.Depths.{body_depth}

-- the depth that a table has for a name
abbrev pub depth_at : Flowchart → List ℕ → List ℕ → ℕ
depth_at f depths m = option_map_or (slice_index depths) (number_of (method_names f.methods) m) 0

abbrev pub AreSmall : List ℕ → Type 0
AreSmall depths = All (λ d. d ≤ longest_chain) depths

-- the depth of a list of statements by the table
abbrev pub depth_in : Flowchart → List ℕ → Body → ℕ
depth_in f depths = body_depth (depth_at f depths)
