-- What a page has of each method: its name as a heading, and a caption of each of its statements.
use Rattle.std.specs.Prelude.{◌≡◌, ℕ, ◌+◌, Bool, true, false, Option, Some, None, List, [], ◌∷◌, ◌++◌, codes, map, if◌then◌else◌}
use Rattle.std.specs.Fmt.{decimal}
use Rattle.pap_reader.specs.Trees.{RawBody, RawRoutine, ElementTree}
use Rattle.chart_layout.specs.Drawn.{Drawn}
use Rattle.chart_layout.specs.Statements.{statements_of, AreDrawn}
use Rattle.flowchart_markup.specs.Escapes.{escaped}
use Rattle.flowchart_methods.specs.declared.conditions.Condition.{Condition}
use Rattle.flowchart_methods.specs.Conditions.{conditions_of, condition_at}
use Rattle.flowchart_methods.specs.declared.kind.MarkKind.{MarkKind}
use Rattle.flowchart_methods.specs.declared.kind.MarkKind.TheVariants.{Nothing, Run, Told, Came, Missed, Dead, Failing}
use Rattle.flowchart_methods.specs.Marks.{Marked, mark_at, marks_at, mark_words}
use Rattle.flowchart_methods.specs.Sites.{NamedStatement, number_in}

-- a method's name, as the page has it above its drawing
abbrev pub heading : List ℕ → List ℕ
heading name = codes "<h3 id=\"h-" ++ (name ++ (codes "\">" ++ (name ++ codes "</h3>")))

-- the condition under which a statement stands, as it is read aloud behind the statement's place
abbrev pub condition_text : List ℕ → Option Condition → List ℕ
condition_text method None = []
condition_text method (Some condition) =
    codes ", where " ++ (method ++ (codes ":" ++ (decimal condition.test
    ++ (if condition.holds then codes " holds" else codes " does not hold"))))

-- the class in which a statement is shown of which this kind of thing is known
abbrev pub kind_class : MarkKind → List ℕ
kind_class Nothing = codes "\" class=\"s\">"
kind_class (Run first) = codes "\" class=\"s ran\">"
kind_class Told = codes "\" class=\"s\">"
kind_class Came = codes "\" class=\"s\">"
kind_class Missed = codes "\" class=\"s missed\">"
kind_class Dead = codes "\" class=\"s dead\">"
kind_class Failing = codes "\" class=\"s bad\">"

-- the class in which a statement is shown of which nothing is known: the refused one is marked
abbrev pub bare_class : Bool → List ℕ
bare_class true = codes "\" class=\"s bad\">"
bare_class false = codes "\" class=\"s\">"

-- the end of a caption: what is known of its statement, in words, where there are some, and its class
abbrev pub caption_end : Option (List ℕ) → MarkKind → Bool → List ℕ
caption_end (Some words) kind is_refused = codes "; " ++ (escaped words ++ kind_class kind)
caption_end None kind is_refused = bare_class is_refused

-- the place of a statement, to which links lead; what is read aloud of it, that is its place, its condition in these words, its text
-- and what is known of it, in these words; and its class
abbrev pub placed_caption : List ℕ → List ℕ → Option (List ℕ) → MarkKind → Drawn → List ℕ
placed_caption method condition words kind d =
    codes "<g id=\"" ++ (method ++ (codes ":" ++ (decimal d.number
    ++ (codes "\" role=\"group\" aria-label=\"" ++ (method ++ (codes ":" ++ (decimal d.number
    ++ (escaped condition ++ (codes ": " ++ (escaped d.text ++ caption_end words kind d.is_refused))))))))))

-- the caption of a statement that stands under a condition, and of which this is known
abbrev pub statement_caption : List ℕ → Option Condition → Marked → Drawn → List ℕ
statement_caption method condition mark d =
    placed_caption method (condition_text method condition) (mark_words mark) mark.kind d

-- what stands beside the statements of a method, by their numbers: under which conditions they stand, and what is known of them
pub record Beside : Type 0 where
  pub conditions : List (Option Condition)
  pub marks : List Marked

-- the captions of a method's drawn statements, beside which this stands by their numbers
abbrev pub statement_captions : List ℕ → Beside → List Drawn → List (List ℕ)
statement_captions method beside ds =
    map (λ d. statement_caption method (condition_at beside.conditions d.number) (mark_at beside.marks d.number) d) ds

-- a heading, and behind it the captions of the statements that are drawn
abbrev pub method_captions : List ℕ → Beside → List Drawn → List (List ℕ)
method_captions name beside ds = heading name ∷ statement_captions name beside ds

-- what stands beside the statements of a body: the conditions under which they stand, and what is known of them
abbrev pub beside_of : RawBody → List Marked → Beside
beside_of body marks = record { conditions = conditions_of body; marks = marks }

-- The headings and captions of some methods, the first of which has a number, one method after the other: each has a caption for
-- each statement of its text, which says under which condition it stands, and what is known of it; and the refused statement, where
-- there is one, is marked.
abbrev pub AreCaptionsFrom : ℕ → Option NamedStatement → List (List Marked) → List RawRoutine → List (List ℕ) → Type 0
AreCaptionsFrom k refused marks [] captions = captions ≡ []
AreCaptionsFrom k refused marks (m ∷ ms) captions =
    (ds : List Drawn) × AreDrawn (number_in refused m.name) 0 (statements_of m.body) ds
    × ((rest : List (List ℕ)) × AreCaptionsFrom (k + 1) refused marks ms rest
    × (captions ≡ method_captions m.name (beside_of m.body (marks_at marks k)) ds ++ rest))

-- those of all methods, of which the first has the number 0
abbrev pub AreCaptions : Option NamedStatement → List (List Marked) → List RawRoutine → List (List ℕ) → Type 0
AreCaptions refused marks ms captions = AreCaptionsFrom 0 refused marks ms captions

-- the methods in the order of the page: MAIN, and the others in the order of the file
abbrev pub methods_of : ElementTree → List RawRoutine
methods_of tree = record { name = codes "MAIN"; body = tree.main } ∷ tree.methods
