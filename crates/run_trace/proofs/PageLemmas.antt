-- The part of a page that tells of a run, piece by piece.
use Rattle.std.proofs.Common.{◌≡◌, ℕ, suc, ◌+◌, ◌<◌, List, [], ◌∷◌, ◌++◌, length, take, drop, get_or, map, sym, ap, ◌∙◌, append_assoc, add-one}
use Rattle.std.specs.Prelude.{Some}
use Rattle.std.specs.List.{flat_map}
use Rattle.std.proofs.lemmas.Grind.{flat_map-append}
use Rattle.std.proofs.Math.Seq.{take-suc}
use Rattle.std.proofs.lemmas.List.{append-nil}
use Rattle.scaled_decimal.specs.Decimals.{Decimal}
use Rattle.pap_tree.specs.Declarations.{declaration_of}
use Rattle.pap_tree.specs.declared.declaration.Declared.{Declared}
use Rattle.pap_tree.specs.Flowchart.{Flowchart}
use Rattle.pap_types.specs.Meaning.{cost_of, bound_of}
use Rattle.payroll_records.specs.declared.values.NamedValue.{NamedValue}
use Rattle.pap_plan.specs.Plans.{Seen, flowchart}
use Rattle.pay_run.specs.Accepted.{accepted}
use Rattle.pay_run.specs.Runs.{named_values}
use Rattle.pay_run.specs.RunClauses.{HasRun}
use Rattle.pay_run.specs.declared.outputs.Finished.{Finished}
use Rattle.pay_run.proofs.Laws.{outputs_are, cost_is}
use Rattle.month_trace.specs.declared.step.TraceStep.{TraceStep}
use Rattle.month_trace.specs.Traces.{trace_of}
use Rattle.source_lines.specs.Lines.{FileLines}
use Rattle.flowchart_methods.specs.Marks.{Marked}
use Rattle.run_trace.specs.VariableValues.{begin_values}
use Rattle.run_trace.specs.StepLines.{StepPlace, values_behind}
use Rattle.run_trace.specs.ShownRuns.{ShowsRun, run_pieces}
use Rattle.run_trace.specs.RunPages.{EntryWords, entry_text, input_row, input_rows, input_table, output_row, output_table, cost_sentence, part_start, part_head, part_list, numbered_entry, numbered_entries}
use Rattle.run_trace.specs.RunMarks.{executions_from, marks_with, marks_of_run}
use Rattle.run_trace.specs.private.PageViews.{AddsTables, AddsList}
use Rattle.run_trace.proofs.StepLemmas.{from_item}

-- ---- rows

pub one_row : (given : List NamedValue) (ds : List Declared) (vs : List Decimal) (i : ℕ) (d : Declared) (v : Decimal)
    (out out' whole : List ℕ) → d ≡ get_or ds i d → i < length ds → v ≡ get_or vs i v → i < length vs
    → out ++ input_rows given (map declaration_of (drop i ds)) (drop i vs) ≡ whole
    → out' ≡ out ++ input_row given d.name v
    → out' ++ input_rows given (map declaration_of (drop (i + 1) ds)) (drop (i + 1) vs) ≡ whole
one_row given ds vs i d v out out' whole is lt at less so_far added =
    let rest = input_rows given (map declaration_of (drop (i + 1) ds)) (drop (i + 1) vs) in
    ap (λ l. l ++ rest) added
    ∙ append_assoc out (input_row given d.name v) rest
    ∙ ap (λ l. out ++ input_rows given l (v ∷ drop (i + 1) vs)) (sym (ap (map declaration_of) (from_item ds i d is lt)))
    ∙ ap (λ l. out ++ input_rows given (map declaration_of (drop i ds)) l) (sym (from_item vs i v at less))
    ∙ so_far

pub all_rows : (given : List NamedValue) (ds : List Declared) (vs : List Decimal) (out whole : List ℕ)
    → ds ≡ [] → out ++ input_rows given (map declaration_of ds) vs ≡ whole → out ≡ whole
all_rows given ds vs out whole none so_far =
    sym (ap (λ l. out ++ input_rows given (map declaration_of l) vs) none ∙ append-nil out) ∙ so_far

pub one_output : (before text new : List ℕ) (outs : List NamedValue) (i : ℕ) (o : NamedValue) → i < length outs
    → o ≡ get_or outs i o → text ≡ before ++ flat_map output_row (take i outs) → new ≡ text ++ output_row o
    → new ≡ before ++ flat_map output_row (take (i + 1) outs)
one_output before text new outs i o within is said more =
    let one : flat_map output_row (take (suc i) outs) ≡ flat_map output_row (take i outs) ++ output_row o =
    ap (flat_map output_row) (take-suc outs i o within ∙ ap (λ t. take i outs ++ t ∷ []) (sym is))
    ∙ flat_map-append output_row (take i outs) (o ∷ [])
    ∙ ap (λ t. flat_map output_row (take i outs) ++ t) (append-nil (output_row o)) in
    more ∙ ap (λ t. t ++ output_row o) said ∙ append_assoc before (flat_map output_row (take i outs)) (output_row o)
    ∙ ap (λ t. before ++ t) (sym one) ∙ ap (λ n. before ++ flat_map output_row (take n outs)) (sym (add-one i))

-- ---- entries

-- the words of an entry
abbrev words_of : List ℕ → List ℕ → List ℕ → List ℕ → EntryWords
words_of l c o r = record { line = l; code = c; outcome = o; operands = r }

-- an entry of the same place and the same words
pub same_entry : (page : List ℕ) (k : ℕ) (p q : StepPlace) (l l' c c' o o' r r' : List ℕ) → p ≡ q → l ≡ l' → c ≡ c'
    → o ≡ o' → r ≡ r'
    → page ++ entry_text k p (record { line = l; code = c; outcome = o; operands = r })
    ≡ page ++ entry_text k q (record { line = l'; code = c'; outcome = o'; operands = r' })
same_entry page k p q l l' c c' o o' r r' place line code outcome operands =
    ap (λ x. page ++ entry_text k x (words_of l c o r)) place
    ∙ ap (λ x. page ++ entry_text k q (words_of x c o r)) line
    ∙ ap (λ x. page ++ entry_text k q (words_of l' x o r)) code
    ∙ ap (λ x. page ++ entry_text k q (words_of l' c' x r)) outcome
    ∙ ap (λ x. page ++ entry_text k q (words_of l' c' o' x)) operands

pub one_entry : (f : Flowchart) (lines : FileLines) (values values' : List Decimal) (total i : ℕ) (steps : List TraceStep)
    (s : TraceStep) (out out' whole : List ℕ) → s ≡ get_or steps i s → i < length steps
    → out ++ numbered_entries f lines values total (i + 1) (drop i steps) ≡ whole
    → out' ≡ out ++ numbered_entry f lines values total (i + 1) s → values' ≡ values_behind f values s
    → out' ++ numbered_entries f lines values' total (i + 1 + 1) (drop (i + 1) steps) ≡ whole
one_entry f lines values values' total i steps s out out' whole is lt so_far added put =
    let rest = drop (i + 1) steps in
    let entry = numbered_entry f lines values total (i + 1) s in
    ap (λ l. l ++ numbered_entries f lines values' total (i + 1 + 1) rest) added
    ∙ append_assoc out entry (numbered_entries f lines values' total (i + 1 + 1) rest)
    ∙ ap (λ v. out ++ (entry ++ numbered_entries f lines v total (i + 1 + 1) rest)) put
    ∙ ap (λ l. out ++ numbered_entries f lines values total (i + 1) l) (sym (from_item steps i s is lt))
    ∙ so_far

pub all_entries : (f : Flowchart) (lines : FileLines) (values : List Decimal) (total k : ℕ) (rest : List TraceStep)
    (out whole : List ℕ) → rest ≡ [] → out ++ numbered_entries f lines values total k rest ≡ whole → out ≡ whole
all_entries f lines values total k rest out whole none so_far =
    sym (ap (λ l. out ++ numbered_entries f lines values total k l) none ∙ append-nil out) ∙ so_far

-- ---- parts one after another

pub three_parts : (a b c old x y z : List ℕ) → x ≡ old ++ a → y ≡ x ++ b → z ≡ y ++ c → z ≡ old ++ (a ++ (b ++ c))
three_parts a b c old x y z one two three =
    three ∙ ap (λ l. l ++ c) (two ∙ ap (λ l. l ++ b) one) ∙ ap (λ l. l ++ c) (append_assoc old a b)
    ∙ append_assoc old (a ++ b) c ∙ ap (λ l. old ++ l) (append_assoc a b c)

-- what stands above the statements
pub tables_added : (p : Seen) (given : List NamedValue) (inputs : List Decimal) (f : Finished) (ds : List Declared)
    (bound : ℕ) (outs : List NamedValue) (out0 out1 out2 out3 out4 : List ℕ) → HasRun (accepted p) inputs f
    → map declaration_of ds ≡ (flowchart p).inputs → outs ≡ f.outputs → bound ≡ bound_of (flowchart p)
    → out1 ≡ out0 ++ part_start → out2 ≡ out1 ++ input_table given (map declaration_of ds) inputs
    → out3 ≡ out2 ++ output_table outs → out4 ≡ out3 ++ cost_sentence f.cost bound
    → AddsTables (flowchart p) given inputs out0 out4
tables_added p given inputs f ds bound outs out0 out1 out2 out3 out4 has declared are most start one two three =
    let ran = has.defined in
    let named = are ∙ has.outputs ∙ sym (outputs_are (accepted p) inputs ran.values ran.are) in
    let cost = has.cost ∙ sym (cost_is (accepted p) inputs) in
    let ins = input_table given (flowchart p).inputs inputs in
    let os = output_table (named_values (flowchart p).outputs ran.values) in
    let last = cost_sentence (cost_of (flowchart p) inputs) (bound_of (flowchart p)) in
    let tables = three_parts ins os last out1 out2 out3 out4
    (one ∙ ap (λ d. out1 ++ input_table given d inputs) declared) (two ∙ ap (λ l. out2 ++ output_table l) named)
    (three ∙ ap (λ c. out3 ++ cost_sentence c bound) cost ∙ ap (λ m. out3 ++ cost_sentence (cost_of (flowchart p) inputs) m) most) in
    record {
      outputs = ran.values;
      ran = ran.are;
      added = tables ∙ ap (λ l. l ++ (ins ++ (os ++ last))) start ∙ append_assoc out0 part_start (ins ++ (os ++ last));
    }

-- the list of a run's statements and its marks, by what the calls below promise
pub list_added : (p : Seen) (f : Flowchart) (lines : FileLines) (inputs values again : List Decimal)
    (steps steps' steps'' : List TraceStep) (before after : List ℕ) (marks : List (List Marked)) → f ≡ flowchart p
    → trace_of (flowchart p) inputs ≡ Some steps → steps' ≡ steps → steps'' ≡ steps → values ≡ begin_values f inputs
    → again ≡ begin_values f inputs → after ≡ before ++ part_list f lines values steps'
    → marks ≡ marks_with f (executions_from f 1 again steps'')
    → AddsList (flowchart p) lines inputs before after marks
list_added p f lines inputs values again steps steps' steps'' before after marks of traced same same' begun begun' added marked = record {
  steps = steps;
  traced = traced;
  added =
      added ∙ ap (λ v. before ++ part_list f lines v steps') begun
      ∙ ap (λ l. before ++ part_list f lines (begin_values f inputs) l) same
      ∙ ap (λ g. before ++ part_list g lines (begin_values g inputs) steps) of;
  marked =
      marked ∙ ap (λ v. marks_with f (executions_from f 1 v steps'')) begun'
      ∙ ap (λ l. marks_with f (executions_from f 1 (begin_values f inputs) l)) same'
      ∙ ap (λ g. marks_of_run g inputs steps) of;
}

-- the whole part
pub run_shown : (f : Flowchart) (lines : FileLines) (given : List NamedValue) (inputs : List Decimal)
    (none head whole : List ℕ) (marks : List (List Marked)) → none ≡ [] → AddsTables f given inputs none head
    → AddsList f lines inputs head whole marks → ShowsRun f lines given inputs (run_pieces whole marks)
run_shown f lines given inputs none head whole marks is tables list = record {
  outputs = tables.outputs;
  ran = tables.ran;
  steps = list.steps;
  traced = list.traced;
  shown = list.added
      ∙ ap (λ l. l ++ part_list f lines (begin_values f inputs) list.steps)
      (tables.added ∙ ap (λ l. l ++ part_head f given inputs tables.outputs) is);
  marked = list.marked;
}
