-- What private contracts cite beside the definitions of Chapters.
use Rattle.std.specs.Prelude.{◌≡◌, ℕ, Option, List}
use Rattle.pap_reader.specs.Trees.{RawBody}
use Rattle.chart_layout.specs.Drawn.{body_statements}
use Rattle.chart_layout.specs.Statements.{statements_of, AreDrawn}
use Rattle.flowchart_methods.specs.declared.chapter.Chapter.{Chapter}
use Rattle.flowchart_methods.specs.Conditions.{conditions_of}
use Rattle.flowchart_methods.specs.Marks.{Marked}

-- a chapter has the statements of this body under this name, each with its condition and with these marks, and the one of the refused
-- number is marked
abbrev pub IsChapter : Option ℕ → List ℕ → RawBody → List Marked → Chapter → Type 0
IsChapter refused name body marks c =
    (c.text.name ≡ name) × AreDrawn refused 0 (statements_of body) (body_statements c.text.body)
    × (c.conditions.items ≡ conditions_of body) × (c.marks.now ≡ marks)
