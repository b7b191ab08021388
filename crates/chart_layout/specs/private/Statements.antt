-- What private contracts cite beside the definitions of Statements.
use Rattle.std.specs.Prelude.{◌≡◌, ℕ, List, ◌++◌}
use Rattle.pap_reader.specs.declared.elements.RawStmt.{RawStmt}
use Rattle.pap_reader.specs.Trees.{done, raw_stmt_then}
use Rattle.chart_layout.specs.Drawn.{Drawn, drawn}
use Rattle.chart_layout.specs.declared.build.Numbering.{Numbering}
use Rattle.chart_layout.specs.Statements.{AreDrawn, FileStatement, is_number, next_number, number_behind, statements_of}

-- a statement without those that follow it, and what stands in it
abbrev pub statements_in : RawStmt → List FileStatement
statements_in s = statements_of (raw_stmt_then s done)

-- the numbers behind the next statement, and behind some
abbrev pub after : Numbering → Numbering
after n = record n { next = next_number n.next }

abbrev pub numbering_behind : Numbering → List FileStatement → Numbering
numbering_behind n ss = record n { next = number_behind n.next ss }

-- the next statement as it is drawn, with this text
abbrev pub next_drawn : Numbering → List ℕ → Drawn
next_drawn n text = drawn n.next (is_number n.refused n.next) text

-- the drawn statements of these are appended, numbered from one number up to the next
pub record Adds (from to : Numbering) (ss : List FileStatement) (old new : List Drawn) : Type 0 where
  pub more : List Drawn
  pub drawn : AreDrawn from.refused from.next ss more
  pub behind : to ≡ numbering_behind from ss
  pub grown : new ≡ old ++ more
