-- Statements as they are added.
use Rattle.std.specs.Prelude.{◌≡◌, List, ◌++◌}
use Rattle.pap_tree.specs.Flowchart.{Body}
use Rattle.statement_list.specs.Statements.{Listed, listed_body}

-- the statements of a list are added
abbrev pub AddsStatements : Body → List Listed → List Listed → Type 0
AddsStatements body before after = after ≡ before ++ listed_body body
