-- Fields that need no quotes: each of their bytes is that of `-` or above it, and commas, quotes and line ends are below.
use Rattle.std.proofs.Common.{◌≡◌, ℕ, ◌≤◌, Bool, true, false, List, [], ◌∷◌, ◌++◌, ◌+◌, ◌/◌, ◌%◌, Option, Some, None, IsTrue, codes, map, refl, sym, ap, ◌∙◌, subst, arith}
use Rattle.std.specs.Prelude.{nat_le, ◌&&◌, ◌||◌}
use Rattle.std.specs.List.{AllByRecursion, join_with_byte, list_all}
use Rattle.std.specs.Str.Parse.{AllDigits}
use Rattle.std.proofs.lemmas.List.{append-nil}
use Rattle.std.proofs.lemmas.List.Folds.{list_all-append}
use Rattle.std.proofs.lemmas.Str.Parse.{digit_at}
use Rattle.std.proofs.lemmas.Bool.Decides.{nat_tests}
use Rattle.csv.specs.Writing.{default_writer, field_text, fields_text, is_blank, needs_byte, needs_quotes, row_text}
use Rattle.pap_tree.specs.Names.{is_name, is_word}
use Rattle.scaled_decimal.specs.Decimals.{Decimal}
use Rattle.scaled_decimal.specs.PlainTexts.{plain_text}
use Rattle.scaled_decimal.proofs.Laws.{plain_text_spells}
use Rattle.scaled_decimal.specs.NumberTexts.{sign_text, point_text, Spells}
use Rattle.payroll_records.specs.declared.day.Day.{Day}
use Rattle.payroll_records.specs.declared.record.Key.{Key}
use Rattle.payroll_records.specs.declared.values.NamedValue.{NamedValue}
use Rattle.payroll_records.specs.Days.{day_text, month_text, two_digits}
use Rattle.carry_bindings.specs.declared.filling.Blocked.TheVariants as blocked
use Rattle.book_year.specs.declared.outcome.State.TheVariants as state
use Rattle.payroll_records.specs.Employees.{is_employee, is_employee_byte}
use Rattle.payroll_records.specs.Tables.{Text}
use Rattle.report_csv.specs.Reports.{comma, output_fields, plan_text, row_fields, row_line, run_front}
use Rattle.report_csv.specs.ReportLaws.{RowsNeedNoQuotes}

-- a text without commas, quotes and line ends
abbrev IsPlain : List ℕ → Type 0
IsPlain text = IsTrue (list_all (nat_le 45) text)

both : (a b : Bool) → (a && b) ≡ true → (a ≡ true) × (b ≡ true)
both true b h = (refl, h)
both false b h = cc

join : (a b : Bool) → a ≡ true → b ≡ true → (a && b) ≡ true
join true b h k = k
join false b h k = cc

plain_append : (xs ys : List ℕ) → IsPlain xs → IsPlain ys → IsPlain (xs ++ ys)
plain_append xs ys h k = list_all-append (nat_le 45) xs ys ∙ join _ _ h k

at_least : (n : ℕ) → 45 ≤ n → nat_le 45 n ≡ true
at_least n h = grind (arith, nat_tests)

-- a test that no byte below 45 passes
weaken : (test : ℕ → Bool) → ((b : ℕ) → test b ≡ true → 45 ≤ b) → (text : List ℕ) → list_all test text ≡ true → IsPlain text
weaken test above [] h = refl
weaken test above (b ∷ bs) h =
    let parts = both _ _ h in
    join _ _ (at_least b (above b parts.0)) (weaken test above bs parts.1)

word_above : (b : ℕ) → is_word b ≡ true → 45 ≤ b
word_above b h = grind (arith, nat_tests)

employee_above : (b : ℕ) → is_employee_byte b ≡ true → 45 ≤ b
employee_above b h = grind (arith, nat_tests)

name_plain : (name : List ℕ) → is_name name ≡ true → IsPlain name
name_plain name h = weaken is_word word_above name (both _ _ (both _ _ (both _ _ h).0).1).1

employee_plain : (e : List ℕ) → is_employee e ≡ true → IsPlain e
employee_plain e h = weaken is_employee_byte employee_above e (both _ _ h).1

digits_plain : (ds : List ℕ) → AllDigits 10 ds → IsPlain ds
digits_plain [] h = refl
digits_plain (d ∷ ds) h =
    let r = digit_at (d ∷ ds) 0 h (omega arith) in
    join _ _ (at_least d (omega arith)) (digits_plain ds h.1)

sign_plain : (negative : Bool) → IsPlain (sign_text negative)
sign_plain true = refl
sign_plain false = refl

point_plain : (places : List ℕ) → AllDigits 10 places → IsPlain (point_text places)
point_plain [] h = refl
point_plain (d ∷ ds) h = join _ _ refl (digits_plain (d ∷ ds) h)

number_plain : (text : List ℕ) (d : Decimal) → Spells text d → IsPlain text
number_plain text d s =
    subst IsPlain (sym s.form.parts)
    (plain_append (sign_text s.negative) _ (sign_plain s.negative)
    (plain_append s.whole _ (digits_plain s.whole s.form.whole_digits) (point_plain s.places s.form.place_digits)))

-- ---- what `csv` writes of them

byte_plain : (b : ℕ) → nat_le 45 b ≡ true → needs_byte default_writer b ≡ false
byte_plain b h = grind (arith, nat_tests)

unquoted : (text : List ℕ) → IsPlain text → needs_quotes default_writer text ≡ false
unquoted [] h = refl
unquoted (b ∷ bs) h =
    let parts = both _ _ h in
    ap (λ x. x || needs_quotes default_writer bs) (byte_plain b parts.0) ∙ unquoted bs parts.1

field_plain : (f : Text) → IsPlain f → field_text default_writer f ≡ f
field_plain f h = rw (unquoted f h)

-- the fields after the first, each with its comma
rest_plain : (f : Text) (rest : List Text) → AllByRecursion IsPlain rest → f ++ fields_text default_writer rest ≡ join_with_byte comma (f ∷ rest)
unfolding fields_text
rest_plain f [] h = append-nil f
rest_plain f (g ∷ rest) h = ap (λ t. f ++ (44 ∷ t)) (rw (field_plain g h.0) (rest_plain g rest h.1))

-- a row of two fields or more
plain_row : (f g : Text) (rest : List Text) → AllByRecursion IsPlain (f ∷ g ∷ rest) → row_line (f ∷ g ∷ rest) ≡ row_text default_writer (f ∷ g ∷ rest)
unfolding is_blank
plain_row f g rest h = sym (ap (λ t. t ++ 10 ∷ []) (rw (field_plain f h.0) (rest_plain f (g ∷ rest) h.1)))

-- ---- the fields of a report

two_plain : (n : ℕ) → IsPlain (two_digits n)
two_plain n = join _ _ (at_least (48 + n / 10) (omega arith)) (join _ _ (at_least (48 + n % 10) (omega arith)) refl)

month_plain : (year month : ℕ) → IsPlain (month_text year month)
month_plain year month =
    plain_append (two_digits (year / 100)) (two_digits (year % 100) ++ 45 ∷ two_digits month) (two_plain (year / 100))
    (plain_append (two_digits (year % 100)) (45 ∷ two_digits month) (two_plain (year % 100)) (join _ _ refl (two_plain month)))

day_plain : (d : Day) → IsPlain (day_text d.year d.month d.day)
day_plain d =
    plain_append (month_text d.year d.month) (45 ∷ two_digits d.day) (month_plain d.year d.month) (join _ _ refl (two_plain d.day))

plan_plain : (plan : Option Day) → IsPlain (plan_text plan)
plan_plain None = refl
plan_plain (Some d) = day_plain d

-- a row that begins with the front of a run
run_row : (k : Key) (plan : Option Day) (s name value : Text) → IsTrue (is_employee k.employee) → IsPlain s → IsPlain name → IsPlain value →
    row_line (row_fields (run_front k plan) s name value) ≡ row_text default_writer (row_fields (run_front k plan) s name value)
run_row k plan s name value employee state named valued =
    plain_row k.employee (month_text k.day.year k.day.month) _
    (employee_plain k.employee employee, (month_plain k.day.year k.day.month, (day_plain k.day, (plan_plain plan, (state, (named, (valued, tt)))))))

output_rows : (k : Key) (plan : Option Day) (outputs : List NamedValue) → IsTrue (is_employee k.employee) →
    AllByRecursion (λ v. IsTrue (is_name v.name)) outputs →
    AllByRecursion (λ fields. row_line fields ≡ row_text default_writer fields) (map (output_fields (run_front k plan)) outputs)
output_rows k plan [] employee names = tt
output_rows k plan (v ∷ vs) employee names =
    let value = number_plain (plain_text v.value) v.value (plain_text_spells v.value) in
    (run_row k plan (codes "ok") v.name (plain_text v.value) employee refl (name_plain v.name names.0) value, output_rows k plan vs employee names.1)

pub rows_plain : RowsNeedNoQuotes
rows_plain k plan state.NoPlan employee names = (run_row k plan (codes "noplan") [] [] employee refl refl refl, tt)
rows_plain k plan (state.Blocked (blocked.Waits d)) employee names =
    (run_row k plan (codes "waits") (day_text d.year d.month d.day) [] employee refl (day_plain d) refl, tt)
rows_plain k plan (state.Blocked (blocked.Unknown n)) employee name = (run_row k plan (codes "unknown") n [] employee refl (name_plain n name) refl, tt)
rows_plain k plan (state.Blocked (blocked.Missing n)) employee name = (run_row k plan (codes "missing") n [] employee refl (name_plain n name) refl, tt)
rows_plain k plan (state.Blocked (blocked.Range n)) employee name = (run_row k plan (codes "range") n [] employee refl (name_plain n name) refl, tt)
rows_plain k plan (state.Done outputs) employee names = output_rows k plan outputs employee names
