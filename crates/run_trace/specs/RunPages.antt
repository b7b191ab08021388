-- A run as a part of a page: its inputs and outputs as tables, how many steps it took, and its statements in order.
use Rattle.std.specs.Prelude.{ℕ, ◌+◌, ◌-◌, ◌||◌, ◌==◌, Bool, true, false, nat_le, nat_lt, if◌then◌else◌, List, [], ◌∷◌, ◌++◌, length, codes, Option, Some, None}
use Rattle.std.specs.List.{flat_map}
use Rattle.std.specs.Fmt.{decimal as number}
use Rattle.scaled_decimal.specs.Decimals.{Decimal}
use Rattle.scaled_decimal.specs.PlainTexts.{plain_text}
use Rattle.pap_tree.specs.Declarations.{Declaration}
use Rattle.pap_tree.specs.Flowchart.{Flowchart}
use Rattle.pap_types.specs.Meaning.{cost_of, bound_of}
use Rattle.payroll_records.specs.declared.values.NamedValue.{NamedValue}
use Rattle.pay_run.specs.Runs.{named_values}
use Rattle.month_trace.specs.declared.step.TraceStep.{TraceStep}
use Rattle.month_trace.specs.declared.step.TraceStep.TheVariants.{Set, Test, Enter}
use Rattle.statement_list.specs.Statements.{Listed}
use Rattle.source_lines.specs.Lines.{FileLines}
use Rattle.flowchart_markup.specs.Escapes.{escaped}
use Rattle.flowchart_markup.specs.Fragments.{template_text}
use Rattle.run_trace.specs.StepLines.{StepPlace, step_place, listed_at, source_line, line_words, told_operands, values_behind}
use Rattle.run_trace.specs.RunTexts.{given_word}

-- ---- tables

-- a row of a name, a value and a word
abbrev pub word_row : List ℕ → List ℕ → List ℕ → List ℕ
word_row x value word =
    template_text (codes "<tr><th scope=\"row\">%<td class=\"num\">%<td>%</tr>\n") (x ∷ escaped value ∷ escaped word ∷ [])

-- the row of an input: its name, its value, and whether it is given
abbrev pub input_row : List NamedValue → List ℕ → Decimal → List ℕ
input_row given x v = word_row x (plain_text v) (given_word given x)

-- a row for each input
abbrev pub input_rows : List NamedValue → List Declaration → List Decimal → List ℕ
input_rows given [] vs = []
input_rows given (d ∷ ds) [] = []
input_rows given (d ∷ ds) (v ∷ vs) = input_row given d.name v ++ input_rows given ds vs

-- the table of the inputs
abbrev pub input_table : List NamedValue → List Declaration → List Decimal → List ℕ
input_table given ds vs =
    codes "<table><caption>Inputs</caption><thead><tr><th scope=\"col\">Name<th scope=\"col\">Value<th scope=\"col\">Given</tr></thead><tbody>\n"
    ++ (input_rows given ds vs ++ codes "</tbody></table>\n")

-- a row of a name and a value
abbrev pub amount_row : List ℕ → List ℕ → List ℕ
amount_row x value = template_text (codes "<tr><th scope=\"row\">%<td class=\"num\">%</tr>\n") (x ∷ escaped value ∷ [])

-- the row of an output
abbrev pub output_row : NamedValue → List ℕ
output_row o = amount_row o.name (plain_text o.value)

-- the table of the outputs
abbrev pub output_table : List NamedValue → List ℕ
output_table os =
    codes "<table><caption>Outputs</caption><thead><tr><th scope=\"col\">Name<th scope=\"col\">Value</tr></thead><tbody>\n"
    ++ (flat_map output_row os ++ codes "</tbody></table>\n")

-- the steps of a run, and the most that a run may take
abbrev pub cost_sentence : ℕ → ℕ → List ℕ
cost_sentence cost bound =
    template_text (codes "</div>\n<p>The run took % steps. A run takes at most %.</p>\n") (number cost ∷ number bound ∷ [])

-- how the part of a run begins
abbrev pub part_start : List ℕ
part_start = codes "<section id=\"run\"><h2>The run</h2>\n<div class=\"run\">"

-- what stands above the statements: inputs, outputs, how many steps
abbrev pub part_head : Flowchart → List NamedValue → List Decimal → List Decimal → List ℕ
part_head f given inputs outputs =
    part_start
    ++ (input_table given f.inputs inputs
    ++ (output_table (named_values f.outputs outputs) ++ cost_sentence (cost_of f inputs) (bound_of f)))

-- ---- entries

-- the place of a step
abbrev pub place_of : TraceStep → StepPlace
place_of (Set m n x v) = step_place m n
place_of (Test m n holds) = step_place m n
place_of (Enter m n callee) = step_place m n

-- the text of a statement's expression
abbrev pub listed_text : Option Listed → List ℕ
listed_text None = []
listed_text (Some s) = s.text

-- the names that it reads
abbrev pub listed_reads : Option Listed → List (List ℕ)
listed_reads None = []
listed_reads (Some s) = s.reads

-- what a step carries out, by the text of its expression: NAME = EXPRESSION, the test of an IF, or EXECUTE METHOD
abbrev pub step_code : List ℕ → TraceStep → List ℕ
step_code text (Set m n x v) = x ++ (codes " = " ++ text)
step_code text (Test m n holds) = text
step_code text (Enter m n callee) = codes "EXECUTE " ++ callee

-- how a test is answered, as a page has it: an arrow in UTF-8, and yes or no
abbrev pub answer_arrow : Bool → List ℕ
answer_arrow true = 0xE2 ∷ 0x86 ∷ 0x92 ∷ codes " yes"
answer_arrow false = 0xE2 ∷ 0x86 ∷ 0x92 ∷ codes " no"

-- what comes of it: the value that is put, or how the test is answered
abbrev pub step_outcome : TraceStep → List ℕ
step_outcome (Set m n x v) = codes "= " ++ plain_text v
step_outcome (Test m n holds) = answer_arrow holds
step_outcome (Enter m n callee) = []

-- what an entry says
pub record EntryWords : Type 0 where
  pub line : List ℕ
  pub code : List ℕ
  pub outcome : List ℕ
  pub operands : List ℕ

-- what the entry of a step says, given the values before it
abbrev pub entry_words : Flowchart → FileLines → List Decimal → TraceStep → EntryWords
entry_words f lines values s = record {
  line = line_words (source_line f lines (place_of s));
  code = step_code (listed_text (listed_at f (place_of s))) s;
  outcome = step_outcome s;
  operands = told_operands f values (listed_reads (listed_at f (place_of s)));
}

-- the entry of a number: its place, with a link to it in the drawing, and its words
abbrev pub entry_text : ℕ → StepPlace → EntryWords → List ℕ
entry_text k p w =
    template_text
    (codes "<li id=\"visit-%\"><a href=\"#%:%\">%:%</a> <span>%</span> <code>%</code> <em>%</em> <span>%</span></li>\n")
    (number k ∷ p.method ∷ number p.statement ∷ p.method ∷ number p.statement
    ∷ escaped w.line ∷ escaped w.code ∷ escaped w.outcome ∷ escaped w.operands ∷ [])

-- how many entries the list has at least at its beginning and at its end
abbrev pub entries_at_an_end : ℕ
entries_at_an_end = 500

-- whether the list has the entry of a number, of so many in all: it is one of the first 500, or fewer than 500 follow it
abbrev pub is_listed : ℕ → ℕ → Bool
is_listed total k = nat_le k entries_at_an_end || nat_lt (total - k) entries_at_an_end

-- how many entries are left out, and the number of the first behind them
abbrev pub gap_text : ℕ → List ℕ
gap_text total =
    template_text
    (codes "</ol>\n<p>% statements of the run are left out here: the text of the run has all.</p>\n<ol class=\"run\" start=\"%\">\n")
    (number (total - (entries_at_an_end + entries_at_an_end)) ∷ number ((total + 1) - entries_at_an_end) ∷ [])

-- what the list has for the step of a number: its entry, or in place of the first that is left out how many are
abbrev pub numbered_entry : Flowchart → FileLines → List Decimal → ℕ → ℕ → TraceStep → List ℕ
numbered_entry f lines values total k s =
    if is_listed total k then entry_text k (place_of s) (entry_words f lines values s)
    else if k == entries_at_an_end + 1 then gap_text total
    else []

-- what the list has for steps, the first of which has a number, from these values on
abbrev pub numbered_entries : Flowchart → FileLines → List Decimal → ℕ → ℕ → List TraceStep → List ℕ
numbered_entries f lines values total k [] = []
numbered_entries f lines values total k (s ∷ steps) =
    numbered_entry f lines values total k s ++ numbered_entries f lines (values_behind f values s) total (k + 1) steps

-- the list of a run's statements
abbrev pub part_list : Flowchart → FileLines → List Decimal → List TraceStep → List ℕ
part_list f lines values steps =
    codes "<h3>Its statements in order</h3>\n<ol class=\"run\">\n"
    ++ (numbered_entries f lines values (length steps) 1 steps ++ codes "</ol></section>\n")

-- ---- a run that there is none of

-- why there is no run, in words, and the line of that
abbrev pub blocked_text : List ℕ → List ℕ → List ℕ
blocked_text words line =
    template_text (codes "<p class=\"blocked\"><strong>No run.</strong> %.</p>\n<p><code>%</code></p></div></section>\n")
    (escaped words ∷ escaped line ∷ [])

-- the part of a page on a run that there is none of
abbrev pub blocked_part : List ℕ → List ℕ → List ℕ
blocked_part words line = part_start ++ blocked_text words line
