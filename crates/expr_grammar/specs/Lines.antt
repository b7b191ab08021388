-- The lines of the grammar that stand alone in a plan: a test, an assignment, a declared literal.
use Rattle.pap_tree.specs.Grammar.{Line, Level, Assignment, Constant}

-- the line is one of the three that stand alone in a plan
pub data IsWholeLine : Line → Type 0 where
  a_test : IsWholeLine (Level 0)
  an_assignment : IsWholeLine Assignment
  a_constant : IsWholeLine Constant
