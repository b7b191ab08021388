-- Lines that are added one after the other.
use Rattle.std.proofs.Common.{◌≡◌, ℕ, zero, suc, ◌+◌, ◌<◌, ◌≤◌, List, [], ◌∷◌, ◌++◌, length, drop, get_or, map, sym, ap, subst, ◌∙◌, arith, append_assoc}
use Rattle.std.specs.Prelude.{Bool, ◌||◌, is_some}
use Rattle.std.proofs.lemmas.List.{append-nil, drop_more}
use Rattle.scaled_decimal.specs.Decimals.{Decimal}
use Rattle.pap_tree.specs.Declarations.{Declaration, declaration_of}
use Rattle.pap_tree.specs.declared.declaration.Declared.{Declared}
use Rattle.pap_tree.specs.Flowchart.{Flowchart}
use Rattle.pap_types.specs.Meaning.{AreInputs}
use Rattle.payroll_records.specs.declared.values.NamedValue.{NamedValue}
use Rattle.month_trace.specs.declared.step.TraceStep.{TraceStep}
use Rattle.source_lines.specs.Lines.{FileLines}
use Rattle.run_trace.specs.VariableValues.{variable_value}
use Rattle.run_trace.specs.StepLines.{Brackets, operand_text, more_operands, traced_line, traced_lines, values_behind}
use Rattle.run_trace.specs.RunTexts.{input_line, input_lines, output_line, cost_line}
use Rattle.run_trace.specs.private.TextViews.{AddsHead}
use Rattle.std.specs.List.{All, flat_map}
use Rattle.std.proofs.lemmas.List.Elements.{All-head, All-tail}
use Rattle.pap_types.specs.Meaning.{cost_of, bound_of}
use Rattle.pap_plan.specs.Plans.{Seen, flowchart}
use Rattle.pay_run.specs.Accepted.{accepted}
use Rattle.pay_run.specs.Runs.{named_values}
use Rattle.pay_run.specs.RunClauses.{HasRun}
use Rattle.pay_run.specs.declared.outputs.Finished.{Finished}
use Rattle.pay_run.proofs.Laws.{outputs_are, cost_is}

-- the rest of a list from an item on
pub from_item : {A : Type 0} (xs : List A) (i : ℕ) (x : A) → x ≡ get_or xs i x → i < length xs → drop i xs ≡ x ∷ drop (i + 1) xs
from_item xs i x is lt = drop_more xs i x lt ∙ ap (λ y. y ∷ drop (i + 1) xs) (sym is)

-- ---- steps

pub one_step : (f : Flowchart) (lines : FileLines) (values values' : List Decimal) (steps : List TraceStep) (i : ℕ)
    (s : TraceStep) (out out' whole : List ℕ) → s ≡ get_or steps i s → i < length steps
    → out ++ traced_lines f lines values (drop i steps) ≡ whole → out' ≡ out ++ traced_line f lines values s
    → values' ≡ values_behind f values s → out' ++ traced_lines f lines values' (drop (i + 1) steps) ≡ whole
one_step f lines values values' steps i s out out' whole is lt so_far added put =
    let rest = drop (i + 1) steps in
    ap (λ l. l ++ traced_lines f lines values' rest) added
    ∙ append_assoc out (traced_line f lines values s) (traced_lines f lines values' rest)
    ∙ ap (λ v. out ++ (traced_line f lines values s ++ traced_lines f lines v rest)) put
    ∙ ap (λ l. out ++ traced_lines f lines values l) (sym (from_item steps i s is lt))
    ∙ so_far

pub all_steps : (f : Flowchart) (lines : FileLines) (values : List Decimal) (rest : List TraceStep) (out whole : List ℕ)
    → rest ≡ [] → out ++ traced_lines f lines values rest ≡ whole → out ≡ whole
all_steps f lines values rest out whole none so_far =
    sym (ap (λ l. out ++ traced_lines f lines values l) none ∙ append-nil out) ∙ so_far

-- ---- operands

pub one_operand : (f : Flowchart) (values : List Decimal) (b : Brackets) (is_open is_open' : Bool) (xs : List (List ℕ)) (i : ℕ)
    (x : List ℕ) (out out' whole : List ℕ) → x ≡ get_or xs i x → i < length xs
    → out ++ more_operands f values b is_open (drop i xs) ≡ whole
    → out' ≡ out ++ operand_text b.opening x is_open (variable_value f values x)
    → is_open' ≡ (is_open || is_some (variable_value f values x))
    → out' ++ more_operands f values b is_open' (drop (i + 1) xs) ≡ whole
one_operand f values b is_open is_open' xs i x out out' whole is lt so_far added opened =
    let rest = drop (i + 1) xs in
    let text = operand_text b.opening x is_open (variable_value f values x) in
    ap (λ l. l ++ more_operands f values b is_open' rest) added
    ∙ append_assoc out text (more_operands f values b is_open' rest)
    ∙ ap (λ o. out ++ (text ++ more_operands f values b o rest)) opened
    ∙ ap (λ l. out ++ more_operands f values b is_open l) (sym (from_item xs i x is lt))
    ∙ so_far

-- ---- inputs

pub one_input : (given : List NamedValue) (ds : List Declared) (vs : List Decimal) (i : ℕ) (d : Declared) (v : Decimal)
    (out out' whole : List ℕ) → d ≡ get_or ds i d → i < length ds → v ≡ get_or vs i v → i < length vs
    → out ++ input_lines given (map declaration_of (drop i ds)) (drop i vs) ≡ whole
    → out' ≡ out ++ input_line given d.name v
    → out' ++ input_lines given (map declaration_of (drop (i + 1) ds)) (drop (i + 1) vs) ≡ whole
one_input given ds vs i d v out out' whole is lt at less so_far added =
    let rest = input_lines given (map declaration_of (drop (i + 1) ds)) (drop (i + 1) vs) in
    ap (λ l. l ++ rest) added
    ∙ append_assoc out (input_line given d.name v) rest
    ∙ ap (λ l. out ++ input_lines given l (v ∷ drop (i + 1) vs)) (sym (ap (map declaration_of) (from_item ds i d is lt)))
    ∙ ap (λ l. out ++ input_lines given (map declaration_of (drop i ds)) l) (sym (from_item vs i v at less))
    ∙ so_far

pub all_inputs : (given : List NamedValue) (ds : List Declared) (vs : List Decimal) (out whole : List ℕ)
    → ds ≡ [] → out ++ input_lines given (map declaration_of ds) vs ≡ whole → out ≡ whole
all_inputs given ds vs out whole none so_far =
    sym (ap (λ l. out ++ input_lines given (map declaration_of l) vs) none ∙ append-nil out) ∙ so_far

-- there are as many inputs as are declared
pub as_many : (ds : List Declaration) (vs : List Decimal) → AreInputs ds vs → length ds ≤ length vs
as_many [] vs h = omega arith
as_many (d ∷ ds) [] h = absurd h
as_many (d ∷ ds) (v ∷ vs) h = let less = as_many ds vs h.1 in omega (arith, less)

-- ---- declarations

pub declared_holds : (P : Declaration → Type 0) (ds : List Declared) (i : ℕ) (d : Declared) → d ≡ get_or ds i d
    → i < length ds → All P (map declaration_of ds) → P (declaration_of d)
declared_holds P [] i d is l all = absurd (omega arith)
declared_holds P (x ∷ ds) zero d is l all =
    subst (λ y. P (declaration_of y)) (sym is) (All-head P (declaration_of x) (map declaration_of ds) all)
declared_holds P (x ∷ ds) (suc i) d is l all =
    declared_holds P ds i d is (omega arith) (All-tail P (declaration_of x) (map declaration_of ds) all)

-- ---- what is told above the steps

-- the parts, one after the other
pub head_added : (p : Seen) (given : List NamedValue) (inputs : List Decimal) (f : Finished) (ds : List Declared)
    (bound : ℕ) (outs : List NamedValue) (out0 out1 out2 out3 : List ℕ) → HasRun (accepted p) inputs f
    → map declaration_of ds ≡ (flowchart p).inputs → outs ≡ f.outputs → bound ≡ bound_of (flowchart p)
    → out1 ≡ out0 ++ input_lines given (map declaration_of ds) inputs → out2 ≡ out1 ++ flat_map output_line outs
    → out3 ≡ out2 ++ cost_line f.cost bound → AddsHead (flowchart p) given inputs out0 out3
head_added p given inputs f ds bound outs out0 out1 out2 out3 has declared are most one two three =
    let ran = has.defined in
    let named = are ∙ has.outputs ∙ sym (outputs_are (accepted p) inputs ran.values ran.are) in
    let cost = has.cost ∙ sym (cost_is (accepted p) inputs) in
    let ins = input_lines given (flowchart p).inputs inputs in
    let os = flat_map output_line (named_values (flowchart p).outputs ran.values) in
    let last = cost_line (cost_of (flowchart p) inputs) (bound_of (flowchart p)) in
    record {
      outputs = ran.values;
      ran = ran.are;
      added =
          three ∙ ap (λ c. out2 ++ cost_line c bound) cost ∙ ap (λ m. out2 ++ cost_line (cost_of (flowchart p) inputs) m) most
          ∙ ap (λ l. l ++ last) (two ∙ ap (λ l. out1 ++ flat_map output_line l) named)
          ∙ ap (λ l. (l ++ os) ++ last) (one ∙ ap (λ d. out0 ++ input_lines given d inputs) declared)
          ∙ ap (λ l. l ++ last) (append_assoc out0 ins os) ∙ append_assoc out0 (ins ++ os) last
          ∙ ap (λ l. out0 ++ l) (append_assoc ins os last);
    }
