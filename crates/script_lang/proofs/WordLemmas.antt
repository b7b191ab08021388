-- The words behind a command's first, command by command.
use Rattle.std.proofs.Common.{◌≡◌, ◌∙◌, ℕ, ◌-◌, ◌<◌, ◌≤◌, true, List, [], ◌∷◌, length, take, drop, get_or, refl, sym, ap, subst, arith}
use Rattle.std.specs.Prelude.{IsTrue, ◌&&◌, not, nat_eq, nat_le, codes}
use Rattle.std.proofs.lemmas.Bool.{false≢true, eq-eqb, le-leb}
use Rattle.std.proofs.lemmas.List.{length-map, take_all}
use denote.Ref.{Bor}
use Rattle.payroll_records.specs.Days.{IsDayText, IsMonthText, IsDaySpelled, IsMonthSpelled}
use Rattle.payroll_records.specs.Employees.{is_employee}
use Rattle.payroll_records.specs.Tables.{Text}
use Rattle.payroll_records.specs.declared.day.Day.{Day}
use Rattle.payroll_records.specs.declared.month.Month.{Month}
use Rattle.payroll_records.proofs.Laws.{month_numbers, day_numbers}
use Rattle.script_lang.specs.Fields.{fault_of, employee, month, day, day_in, time_field, value_fields}
use Rattle.script_lang.specs.Lines as lines
use Rattle.script_lang.specs.Lines.{IsFirstFault, IsDayWord, IsOfPlan, IsDrop, IsFileMonth}
use Rattle.script_lang.specs.private.Views.{Breaks, BreaksIn, IsFaultOf, texts}
use Rattle.script_lang.specs.Words.{is_file}
use Rattle.script_lang.specs.declared.fault.LineFault.{LineFault}
use Rattle.script_lang.specs.declared.fault.LineFault.TheVariants as fault
use Rattle.script_lang.proofs.FileLemmas.{both_true}
use Rattle.script_lang.proofs.FieldLemmas.{first_here, first_later, first_front, breaks_of, faulty, faulty_in}

-- the first of some words, and those behind it
pub words_split : (words : List (Bor Text)) → 1 ≤ length words →
    (w : Bor Text) × (words ≡ w ∷ take (length words - 1) (drop 1 words))
words_split [] some = absurd (omega (arith, some))
words_split (w ∷ ws) some =
    (w, ap (λ vs. w ∷ vs) (sym (take_all (length (w ∷ ws) - 1) ws (omega arith))))

-- a month and a day in it
pub month_breaks : (first second : Text) (f : LineFault) → Breaks (month first) f → BreaksIn (month first ∷ day_in first second ∷ []) f
month_breaks first second f h = breaks_of _ f (first_here (month first) (day_in first second ∷ []) f h.0 h.1)

pub day_breaks : (first second : Text) (f : LineFault) → IsMonthSpelled first → (IsDaySpelled second → ⊥) → f ≡ fault_of (day second) → BreaksIn (month first ∷ day_in first second ∷ []) f
day_breaks first second f m none is =
    breaks_of _ f (first_later (month first) (day_in first second ∷ []) f m (first_here (day_in first second) [] f (λ h. none (h.0, h.1, h.2, h.3)) is))

differ : (a b c d : ℕ) → true ≡ not (nat_eq a b && nat_eq c d) → a ≡ b → c ≡ d → ⊥
differ a b c d e same also = false≢true (sym (e ∙ ap not (ap (λ t. t && nat_eq c d) (eq-eqb a b same) ∙ ap (λ t. true && t) (eq-eqb c d also))))

pub other_month : (first second : Text) (y m y' m' d' : ℕ) → IsMonthText first y m → IsDayText second y' m' d' →
    true ≡ not (nat_eq y' y && nat_eq m' m) → IsFirstFault (month first ∷ day_in first second ∷ []) fault.Day
other_month first second y m y' m' d' has is apart =
    first_later (month first) (day_in first second ∷ []) fault.Day (y, m, has)
    (first_here (day_in first second) [] fault.Day (λ h.
    let days = day_numbers second y' m' d' h.0 h.1 h.2 is h.3 in
    let months = month_numbers first h.0 h.1 y m h.4 has in
    differ y' y m' m apart (days.0 ∙ months.0) (days.1 ∙ months.1)) refl)

-- drop
pub drop_broken : (rest : List (Bor Text)) (d : Bor Text) (f : LineFault) → 1 ≤ length rest → length rest < 2 → Breaks (day (get_or rest 0 d).now) f → IsFaultOf lines.drop (texts rest) f
drop_broken [] d f l m b = absurd (omega (arith, l))
drop_broken (w ∷ []) d f l m b = faulty lines.drop (w.now ∷ []) f refl (first_here (day w.now) [] f b.0 b.1)
drop_broken (w ∷ v ∷ ws) d f l m b = absurd (omega (arith, m))

pub is_drop : (rest : List (Bor Text)) (d : Bor Text) (when : Day) → 1 ≤ length rest → length rest < 2 → IsDayWord (get_or rest 0 d).now when → IsDrop (codes "drop" ∷ texts rest) when
is_drop [] d when l m b = absurd (omega (arith, l))
is_drop (w ∷ []) d when l m b = record { word = w.now; words_are = refl; day_is = b }
is_drop (w ∷ v ∷ ws) d when l m b = absurd (omega (arith, m))

-- file
pub filing_broken : (rest : List (Bor Text)) (d : Bor Text) (f : LineFault) → 1 ≤ length rest → length rest < 2 → Breaks (month (get_or rest 0 d).now) f → IsFaultOf lines.filing (texts rest) f
filing_broken [] d f l m b = absurd (omega (arith, l))
filing_broken (w ∷ []) d f l m b = faulty lines.filing (w.now ∷ []) f refl (first_here (month w.now) [] f b.0 b.1)
filing_broken (w ∷ v ∷ ws) d f l m b = absurd (omega (arith, m))

pub is_file_month : (rest : List (Bor Text)) (d : Bor Text) (when : Month) → 1 ≤ length rest → length rest < 2 → IsMonthText (get_or rest 0 d).now when.year when.month → IsFileMonth (codes "file" ∷ texts rest) when
is_file_month [] d when l m b = absurd (omega (arith, l))
is_file_month (w ∷ []) d when l m b = record { word = w.now; words_are = refl; month_is = b }
is_file_month (w ∷ v ∷ ws) d when l m b = absurd (omega (arith, m))

-- plan and try
pub plan_broken : (rest : List (Bor Text)) (d : Bor Text) (f : LineFault) → 3 ≤ length rest → length rest < 4 →
    IsTrue (is_file (get_or rest 1 d).now) → IsTrue (is_file (get_or rest 2 d).now) → Breaks (day (get_or rest 0 d).now) f → IsFaultOf lines.plan (texts rest) f
plan_broken [] d f l m p q b = absurd (omega (arith, l))
plan_broken (w ∷ []) d f l m p q b = absurd (omega (arith, l))
plan_broken (w ∷ v ∷ []) d f l m p q b = absurd (omega (arith, l))
plan_broken (w ∷ v ∷ u ∷ []) d f l m p q b = faulty lines.plan (w.now ∷ v.now ∷ u.now ∷ []) f (both_true _ _ p q) (first_here (day w.now) [] f b.0 b.1)
plan_broken (w ∷ v ∷ u ∷ t ∷ ws) d f l m p q b = absurd (omega (arith, m))

pub is_plan : (command : Text) (rest : List (Bor Text)) (d : Bor Text) (when : Day) (plan limits : Text) → 3 ≤ length rest → length rest < 4 →
    IsTrue (is_file (get_or rest 1 d).now) → plan ≡ (get_or rest 1 d).now → IsTrue (is_file (get_or rest 2 d).now) → limits ≡ (get_or rest 2 d).now →
    IsDayWord (get_or rest 0 d).now when → IsOfPlan command (command ∷ texts rest) when plan limits
is_plan command [] d when plan limits l m p e q g b = absurd (omega (arith, l))
is_plan command (w ∷ []) d when plan limits l m p e q g b = absurd (omega (arith, l))
is_plan command (w ∷ v ∷ []) d when plan limits l m p e q g b = absurd (omega (arith, l))
is_plan command (w ∷ v ∷ u ∷ []) d when plan limits l m p e q g b = record {
  word = w.now;
  words_are = ap (λ x. command ∷ w.now ∷ x ∷ u.now ∷ []) (sym e) ∙ ap (λ x. command ∷ w.now ∷ plan ∷ x ∷ []) (sym g);
  plan_is = subst (λ x. IsTrue (is_file x)) (sym e) p;
  limits_is = subst (λ x. IsTrue (is_file x)) (sym g) q;
  day_is = b;
}
is_plan command (w ∷ v ∷ u ∷ t ∷ ws) d when plan limits l m p e q g b = absurd (omega (arith, m))

-- withdraw and trace
pub employee_broken : (rest : List (Bor Text)) (d : Bor Text) (f : LineFault) → 2 ≤ length rest → length rest < 3 → Breaks (employee (get_or rest 0 d).now) f → IsFaultOf lines.withdraw (texts rest) f
employee_broken [] d f l m b = absurd (omega (arith, l))
employee_broken (w ∷ []) d f l m b = absurd (omega (arith, l))
employee_broken (w ∷ v ∷ []) d f l m b = faulty lines.withdraw (w.now ∷ v.now ∷ []) f refl (first_here (employee w.now) (time_field v.now ∷ []) f b.0 b.1)
employee_broken (w ∷ v ∷ u ∷ ws) d f l m b = absurd (omega (arith, m))

pub time_broken : (rest : List (Bor Text)) (d : Bor Text) (f : LineFault) → 2 ≤ length rest → length rest < 3 → IsTrue (is_employee (get_or rest 0 d).now) →
    Breaks (time_field (get_or rest 1 d).now) f → IsFaultOf lines.withdraw (texts rest) f
time_broken [] d f l m e b = absurd (omega (arith, l))
time_broken (w ∷ []) d f l m e b = absurd (omega (arith, l))
time_broken (w ∷ v ∷ []) d f l m e b =
    faulty lines.withdraw (w.now ∷ v.now ∷ []) f refl (first_later (employee w.now) (time_field v.now ∷ []) f e (first_here (time_field v.now) [] f b.0 b.1))
time_broken (w ∷ v ∷ u ∷ ws) d f l m e b = absurd (omega (arith, m))

-- add and change
few_words : (ws : List (Bor Text)) → length ws ≤ 256 → IsTrue (nat_le (length (texts ws)) 256)
few_words ws few = le-leb _ _ (omega (arith, few, length-map ws (λ (w : Bor Text). w.now)))

pub run_employee_broken : (rest : List (Bor Text)) (d : Bor Text) (f : LineFault) → 3 ≤ length rest → length rest ≤ 259 → Breaks (employee (get_or rest 0 d).now) f → IsFaultOf lines.add (texts rest) f
run_employee_broken [] d f l m b = absurd (omega (arith, l))
run_employee_broken (w ∷ []) d f l m b = absurd (omega (arith, l))
run_employee_broken (w ∷ v ∷ []) d f l m b = absurd (omega (arith, l))
run_employee_broken (w ∷ v ∷ u ∷ ws) d f l m b =
    faulty lines.add (w.now ∷ v.now ∷ u.now ∷ texts ws) f (few_words ws (omega (arith, m)))
    (first_here (employee w.now) (month v.now ∷ day_in v.now u.now ∷ value_fields [] (texts ws)) f b.0 b.1)

pub run_day_broken : (rest : List (Bor Text)) (d : Bor Text) (f : LineFault) → 3 ≤ length rest → length rest ≤ 259 → IsTrue (is_employee (get_or rest 0 d).now) →
    BreaksIn (month (get_or rest 1 d).now ∷ day_in (get_or rest 1 d).now (get_or rest 2 d).now ∷ []) f → IsFaultOf lines.add (texts rest) f
run_day_broken [] d f l m e b = absurd (omega (arith, l))
run_day_broken (w ∷ []) d f l m e b = absurd (omega (arith, l))
run_day_broken (w ∷ v ∷ []) d f l m e b = absurd (omega (arith, l))
run_day_broken (w ∷ v ∷ u ∷ ws) d f l m e b =
    faulty_in lines.add (w.now ∷ v.now ∷ u.now ∷ texts ws) (month v.now ∷ day_in v.now u.now ∷ []) f (few_words ws (omega (arith, m)))
    (λ g k. first_later (employee w.now) _ g e (first_front (month v.now ∷ day_in v.now u.now ∷ []) (value_fields [] (texts ws)) g k)) b

pub run_values_broken : (rest : List (Bor Text)) (d : Bor Text) (vs : List (Bor Text)) (f : LineFault) (y m n : ℕ) → 3 ≤ length rest → length rest ≤ 259 → vs ≡ drop 3 rest →
    IsTrue (is_employee (get_or rest 0 d).now) → IsMonthText (get_or rest 1 d).now y m → IsDayText (get_or rest 2 d).now y m n →
    BreaksIn (value_fields [] (texts vs)) f → IsFaultOf lines.add (texts rest) f
run_values_broken [] d vs f y m n l few same e has is b = absurd (omega (arith, l))
run_values_broken (w ∷ []) d vs f y m n l few same e has is b = absurd (omega (arith, l))
run_values_broken (w ∷ v ∷ []) d vs f y m n l few same e has is b = absurd (omega (arith, l))
run_values_broken (w ∷ v ∷ u ∷ ws) d vs f y m n l few same e has is b =
    faulty_in lines.add (w.now ∷ v.now ∷ u.now ∷ texts ws) (value_fields [] (texts ws)) f (few_words ws (omega (arith, few)))
    (λ g k. first_later (employee w.now) _ g e (first_later (month v.now) _ g (y, m, has) (first_later (day_in v.now u.now) _ g (y, m, n, is, has) k)))
    (subst (λ x. BreaksIn (value_fields [] (texts x)) f) same b)
