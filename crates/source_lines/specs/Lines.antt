-- The lines of a plan's file on which its statements begin.
use Rattle.std.specs.Prelude.{ℕ, ◌+◌, if◌then◌else◌, List, [], ◌∷◌, ◌++◌, map, filter, drop, Option, slice_get}
use Rattle.std.specs.Option.{option_and_then}
use Rattle.pap_reader.specs.declared.element.Element.{Element}
use Rattle.pap_reader.specs.declared.element.Element.TheVariants.{Main, Method}
use Rattle.plain_words.specs.Positions.{line_of}
use Rattle.plan_notes.specs.declared.tag.Mark.{Mark}
use Rattle.plan_notes.specs.declared.tag.Starts.TheVariants.{Of, OfStatements}
use Rattle.plan_notes.specs.Walks.{is_start}

-- the line of each statement, in the order of the file
abbrev pub statement_lines : List ℕ → List Mark → List ℕ
statement_lines file marks = map (λ m. line_of file m.at) (filter (is_start OfStatements) marks)

-- of each start tag of an element, how many statements begin before it: so many, and those among these tags
abbrev pub starts_before : Element → ℕ → List Mark → List ℕ
starts_before e count [] = []
starts_before e count (m ∷ marks) =
    if is_start (Of e) m then count ∷ starts_before e count marks
    else if is_start OfStatements m then starts_before e (count + 1) marks
    else starts_before e count marks

-- the lines of a file's statements in its order, and of each method how many statements begin before it
pub record FileLines : Type 0 where
  pub firsts : List ℕ
  pub lines : List ℕ

-- those of a file with these tags: MAIN, and then the other methods in the order of the file
abbrev pub lines_of_file : List ℕ → List Mark → FileLines
lines_of_file file marks = record {
  firsts = starts_before Main 0 marks ++ starts_before Method 0 marks;
  lines = statement_lines file marks;
}

-- the line of a statement of a method: MAIN is method 0, the others are counted from 1
abbrev pub line_at : FileLines → ℕ → ℕ → Option ℕ
line_at l method statement = option_and_then (λ first. slice_get (drop first l.lines) statement) (slice_get l.firsts method)
