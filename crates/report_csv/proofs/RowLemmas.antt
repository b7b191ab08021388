-- What `csv` writes of fields without quotes, and fields of which several are one text.
use Rattle.std.proofs.Common.{◌≡◌, ◌<◌, List, [], ◌∷◌, ◌++◌, length, map, refl, ap, sym, ap₂, ◌∙◌, subst, append_assoc, arith, codes}
use Rattle.std.specs.Borrow.{Bor}
use Rattle.std.specs.List.{flat_map, join_with_byte}
use Rattle.std.proofs.lemmas.List.{append-nil, length-map}
use Rattle.scaled_decimal.specs.PlainTexts.{plain_text}
use Rattle.csv.specs.Writing.{row_text, fields_text, is_blank}
use Rattle.payroll_records.specs.declared.values.NamedValue.{NamedValue}
use Rattle.carry_bindings.specs.declared.filling.Blocked.{Blocked}
use Rattle.carry_bindings.specs.declared.filling.Blocked.TheVariants as blocked
use Rattle.book_year.specs.declared.outcome.State.{State}
use Rattle.book_year.specs.declared.outcome.State.TheVariants as state
use Rattle.payroll_records.specs.Days.{day_text}
use Rattle.payroll_records.specs.Tables.{Text}
use Rattle.report_csv.specs.Reports.{blocked_fields, comma, output_fields, row_line, state_rows}
use Rattle.report_csv.specs.private.Views.{bare_writer, output_line}

-- the fields after the first, each with its comma
rest_bare : (f : Text) (rest : List Text) → f ++ fields_text bare_writer rest ≡ join_with_byte comma (f ∷ rest)
unfolding fields_text
rest_bare f [] = append-nil f
rest_bare f (g ∷ rest) = ap (λ t. f ++ (44 ∷ t)) (rest_bare g rest)

-- a row of two fields or more
bare_row : (fields : List Text) → 1 < length fields → row_text bare_writer fields ≡ row_line fields
unfolding is_blank
bare_row [] some = absurd (omega arith)
bare_row (f ∷ []) some = absurd (omega arith)
bare_row (f ∷ (g ∷ rest)) some = ap (λ t. t ++ 10 ∷ []) (rest_bare f (g ∷ rest))

-- the same of fields that are lent
pub written_row : (fields : List (Bor Text)) → 1 < length fields → row_text bare_writer (map (λ f. f.now) fields) ≡ row_line (map (λ f. f.now) fields)
written_row fields some = bare_row (map (λ f. f.now) fields) (subst (λ n. 1 < n) (sym (length-map fields (λ f. f.now))) some)

-- ---- fields that are one text

-- fields that stand before others may be one text with commas
pub joined : (f g : Text) (fs rest : List Text) →
    join_with_byte comma (join_with_byte comma (f ∷ fs) ∷ g ∷ rest) ≡ join_with_byte comma (f ∷ (fs ++ g ∷ rest))
joined f g [] rest = refl
joined f g (h ∷ fs) rest =
    append_assoc f (44 ∷ join_with_byte comma (h ∷ fs)) (44 ∷ join_with_byte comma (g ∷ rest))
    ∙ ap (λ t. f ++ 44 ∷ t) (joined h g fs rest)

pub row_joined : (f g : Text) (fs rest : List Text) →
    row_line (join_with_byte comma (f ∷ fs) ∷ g ∷ rest) ≡ row_line (f ∷ (fs ++ g ∷ rest))
row_joined f g fs rest = ap (λ t. t ++ 10 ∷ []) (joined f g fs rest)

-- the rows of outputs, behind the text of the first five fields
pub outputs_lines : (front : Text) (outputs : List NamedValue) →
    flat_map (output_line (front ++ comma ∷ codes "ok")) outputs ≡ flat_map row_line (map (output_fields (front ∷ [])) outputs)
outputs_lines front [] = refl
outputs_lines front (v ∷ vs) =
    ap₂ (λ s t. s ++ t) (row_joined front v.name (codes "ok" ∷ []) (plain_text v.value ∷ [])) (outputs_lines front vs)

outputs_joined : (f : Text) (fs : List Text) (outputs : List NamedValue) →
    flat_map row_line (map (output_fields (join_with_byte comma (f ∷ fs) ∷ [])) outputs)
    ≡ flat_map row_line (map (output_fields (f ∷ fs)) outputs)
outputs_joined f fs [] = refl
outputs_joined f fs (v ∷ vs) =
    ap₂ (λ s t. s ++ t) (row_joined f (codes "ok") fs (v.name ∷ plain_text v.value ∷ [])) (outputs_joined f fs vs)

cause_joined : (f : Text) (fs : List Text) (why : Blocked) →
    row_line (blocked_fields (join_with_byte comma (f ∷ fs) ∷ []) why) ≡ row_line (blocked_fields (f ∷ fs) why)
cause_joined f fs (blocked.Waits d) = row_joined f (codes "waits") fs (day_text d.year d.month d.day ∷ [] ∷ [])
cause_joined f fs (blocked.Unknown n) = row_joined f (codes "unknown") fs (n ∷ [] ∷ [])
cause_joined f fs (blocked.Missing n) = row_joined f (codes "missing") fs (n ∷ [] ∷ [])
cause_joined f fs (blocked.Range n) = row_joined f (codes "range") fs (n ∷ [] ∷ [])

-- the rows of a run, whose first fields are one text
pub state_joined : (f : Text) (fs : List Text) (s : State) →
    flat_map row_line (state_rows (join_with_byte comma (f ∷ fs) ∷ []) s) ≡ flat_map row_line (state_rows (f ∷ fs) s)
state_joined f fs state.NoPlan = ap (λ t. t ++ []) (row_joined f (codes "noplan") fs ([] ∷ [] ∷ []))
state_joined f fs (state.Blocked why) = ap (λ t. t ++ []) (cause_joined f fs why)
state_joined f fs (state.Done outputs) = outputs_joined f fs outputs
