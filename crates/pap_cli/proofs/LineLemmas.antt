-- The lines of outputs' values, one after the other.
use Rattle.std.proofs.Common.{◌≡◌, ℕ, ◌+◌, ◌<◌, List, [], ◌∷◌, ◌++◌, length, take, get_or, refl, sym, ap, ◌∙◌, append_assoc}
use Rattle.std.proofs.lemmas.List.{append-nil, take_more}
use Rattle.scaled_decimal.specs.Decimals.{Decimal}
use Rattle.scaled_decimal.specs.PlainTexts.{plain_text}
use Rattle.pap_tree.specs.Declarations.{Declaration}
use Rattle.payroll_records.specs.declared.values.NamedValue.{NamedValue}
use Rattle.pay_run.specs.Runs.{named_values}
use Rattle.pap_cli.specs.RunLines.{value_line, value_lines}
use Rattle.pap_cli.specs.private.RunViews.{named_lines}

lines_append : (vs : List NamedValue) (v : NamedValue) → named_lines (vs ++ v ∷ []) ≡ named_lines vs ++ value_line v.name v.value
lines_append [] v = append-nil (value_line v.name v.value)
lines_append (x ∷ vs) v = ap (λ t. value_line x.name x.value ++ t) (lines_append vs v) ∙ sym (append_assoc (value_line x.name x.value) (named_lines vs) (value_line v.name v.value))

pub lines_more : (vs : List NamedValue) (i : ℕ) (v : NamedValue) → i < length vs → v ≡ get_or vs i v → named_lines (take (i + 1) vs) ≡ named_lines (take i vs) ++ value_line v.name v.value
lines_more vs i v lt at =
    ap (λ l. named_lines l) (take_more vs i v lt) ∙ lines_append (take i vs) (get_or vs i v)
    ∙ ap (λ (x : NamedValue). named_lines (take i vs) ++ value_line x.name x.value) (sym at)

-- values under the names of declarations have the lines of both
pub lines_named : (ds : List Declaration) (vs : List Decimal) → named_lines (named_values ds vs) ≡ value_lines ds vs
lines_named [] vs = refl
lines_named (d ∷ ds) [] = refl
lines_named (d ∷ ds) (v ∷ vs) = ap (λ t. value_line d.name v ++ t) (lines_named ds vs)

pub value_text : (t name : List ℕ) (v : Decimal) → t ≡ name ++ (32 ∷ (plain_text v ++ (10 ∷ []))) → t ≡ value_line name v
value_text t name v e = e ∙ sym (append_assoc name (32 ∷ plain_text v) (10 ∷ []))
