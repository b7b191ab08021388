-- What is kept of the executions of a statement while a run is gone through.
use Rattle.std.specs.Prelude.{ℕ, Bool, List}
use Rattle.statement_list.specs.declared.statement.Form.{Form}

-- what the statement does, how many executions there were, the number of the first, what came of the first three, and how a test
-- was answered
pub record MarkTally : Type 0 where
  pub what : Form
  pub count : ℕ
  pub first : ℕ
  pub told : List (List ℕ)
  pub yes : Bool
  pub no : Bool
