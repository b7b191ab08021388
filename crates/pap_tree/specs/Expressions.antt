-- The texts of the expression language: tests, assignments and declared literals.
use Rattle.std.specs.Prelude.{ℕ, List, length}
use Rattle.pap_tree.specs.Term.{Term}
use Rattle.pap_tree.specs.Tokens.{Spot, plain, Tokens}
use Rattle.pap_tree.specs.Grammar.{Line, Level, Assignment, LineMeaning, tree, assignment}
use Rattle.pap_tree.specs.Texts.{Derives}
use Rattle.pap_tree.specs.Stopping.{IsRead, IsRefusedAt, Cause}

-- the bytes are a text of the line that stands for this
pub record IsText (l : Line) (bytes : List ℕ) (x : LineMeaning) : Type 0 where
  pub spots : List Spot
  pub tokens : Tokens 0 bytes spots
  pub text : Derives l (plain spots) x

-- the bytes are a test that stands for this expression
abbrev pub IsTest : List ℕ → Term → Type 0
IsTest bytes x = IsText (Level 0) bytes (tree x)

-- the bytes are an assignment of this expression to this name
abbrev pub IsAssignment : List ℕ → List ℕ → Term → Type 0
IsAssignment bytes name x = IsText Assignment bytes (assignment name x)

-- the bytes are a text of the line that stands for this, and no token stops the reading
pub record IsAccepted (l : Line) (bytes : List ℕ) (x : LineMeaning) : Type 0 where
  pub spots : List Spot
  pub tokens : Tokens 0 bytes spots
  pub text : Derives l (plain spots) x
  pub read : IsRead l (plain spots)

-- the tokens of the bytes are refused as a text of the line, for this cause and at this byte
pub record IsWrong (l : Line) (bytes : List ℕ) (c : Cause) (at : ℕ) : Type 0 where
  pub spots : List Spot
  pub tokens : Tokens 0 bytes spots
  pub refused : IsRefusedAt l spots (length bytes) c at
