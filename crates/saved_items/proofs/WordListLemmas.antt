-- What the words behind a first one are.
use Rattle.std.proofs.Common.{◌≡◌, ℕ, ◌-◌, ◌<◌, ◌≤◌, Bool, true, false, List, [], ◌∷◌, length, take, drop, get_or, map, refl, sym, ap, ◌∙◌, arith}
use Rattle.std.specs.Prelude.{codes, not, Option, Some}
use Rattle.std.specs.List.{join_with_byte, slice_split}
use Rattle.std.specs.Str.{bytes_eq}
use Rattle.std.proofs.lemmas.List.{take_all}
use Rattle.std.proofs.lemmas.Slice.Eq.{bytes_eq-Decides}
use denote.Ref.{Bor}
use Rattle.scaled_decimal.specs.PlainTexts.{whole_text}
use Rattle.payroll_records.specs.Days.{IsDayText, IsDaySpelled}
use Rattle.payroll_records.specs.Tables.{Text}
use Rattle.payroll_records.specs.declared.day.Day.{Day}
use Rattle.payroll_records.specs.declared.record.Record.{Record}
use Rattle.payroll_records.specs.declared.values.NamedValue.{NamedValue}
use Rattle.payroll_records.proofs.Laws.{days_once, same_record}
use Rattle.saved_items.specs.private.LineViews.{texts, is_space}
use Rattle.saved_items.specs.SavedBooks.{IsRun, day_word, value_word, plan_words, run_words}
use Rattle.saved_items.proofs.DayLemmas.{day_spells}
use Rattle.saved_items.proofs.LineLemmas.{split_join}
use Rattle.saved_items.proofs.NextLemmas.{run_few}
use Rattle.saved_items.proofs.WordLemmas.{run_are_words}

abbrev pub no_text : Bor Text
no_text = record { ref_ptr = (0, 0); now = [] }

pub some_once : {A : Type 0} {a b : A} → ◌≡◌ {A = Option A} (Some a) (Some b) → a ≡ b
some_once e = cc

not_false : (b : Bool) → false ≡ not b → b ≡ true
not_false true e = refl
not_false false e = cc

pub equal_texts : (a b : Text) → false ≡ not (bytes_eq a b) → a ≡ b
equal_texts a b e = (bytes_eq-Decides a b).0 (not_false (bytes_eq a b) e)

pub is_spelled : (t : Text) (d : Day) → t ≡ day_word d → IsDaySpelled t
is_spelled t d e = (d.year, d.month, d.day, day_spells t d e)

pub day_known : (t : Text) (d e : Day) → IsDayText t d.year d.month d.day → t ≡ day_word e → d ≡ e
day_known t d e h same = days_once t d e h (day_spells t e same)

pub plan_day : (words : List Text) (rest : List (Bor Text)) (d : Bor Text) (day : Day) (x y : ℕ) →
    words ≡ codes "plan" ∷ texts rest → 3 ≤ length rest → words ≡ plan_words day x y →
    (get_or rest 0 d).now ≡ day_word day
plan_day words [] d day x y e some h = absurd (omega (arith, some))
plan_day words (w ∷ rest) d day x y e some h = (let both : codes "plan" ∷ texts
    (w ∷ rest) ≡ plan_words day x y = sym e ∙ h in cc)

pub plan_line_is : (words : List Text) (rest : List (Bor Text)) (d : Bor Text) (day : Day) (x y : ℕ) →
    words ≡ codes "plan" ∷ texts rest → 3 ≤ length rest → length rest < 4 →
    IsDayText (get_or rest 0 d).now day.year day.month day.day → (get_or rest 1 d).now ≡ whole_text x →
    (get_or rest 2 d).now ≡ whole_text y → words ≡ plan_words day x y
plan_line_is words (a ∷ b ∷ c ∷ []) d day x y e some few p q r =
    e ∙ ap (λ t. codes "plan" ∷ t ∷ b.now ∷ c.now ∷ []) p.written
    ∙ ap (λ t. codes "plan" ∷ day_word day ∷ t ∷ c.now ∷ []) q
    ∙ ap (λ t. codes "plan" ∷ day_word day ∷ whole_text x ∷ t ∷ []) r
plan_line_is words [] d day x y e some few p q r = absurd (omega (arith, some))
plan_line_is words (a ∷ []) d day x y e some few p q r = absurd (omega (arith, some))
plan_line_is words (a ∷ b ∷ []) d day x y e some few p q r = absurd (omega (arith, some))
plan_line_is words (a ∷ b ∷ c ∷ f ∷ more) d day x y e some few p q r = absurd (omega (arith, few))

-- the words of a run behind the first
pub run_rest : (words : List Text) (rest : List (Bor Text)) (d : Bor Text) (r : Record) →
    words ≡ codes "run" ∷ texts rest → 2 ≤ length rest → words ≡ run_words r →
    ((get_or rest 0 d).now ≡ r.employee) × ((get_or rest 1 d).now ≡ day_word r.day) ×
    (texts (take (length rest - 2) (drop 2 rest)) ≡ map value_word r.values)
run_rest words [] d r e some h = absurd (omega (arith, some))
run_rest words (a ∷ []) d r e some h = absurd (omega (arith, some))
run_rest words (a ∷ b ∷ rest) d r e some h =
    let both : codes "run" ∷ a.now ∷ b.now ∷ texts rest ≡ run_words r = sym e ∙ h in
    let whole : take (length (a ∷ b ∷ rest) - 2) rest ≡ rest = take_all (length (a ∷ b ∷ rest) - 2) rest
    (omega arith) in
    let values : texts rest ≡ map value_word r.values = cc in
    (cc, cc, ap texts whole ∙ values)

pub run_same : (employee t : Text) (day : Day) (values : List NamedValue) (r : Record) → employee ≡ r.employee →
    IsDayText t day.year day.month day.day → t ≡ day_word r.day → values ≡ r.values →
    record { employee = employee; day = day; values = values } ≡ r
run_same employee t day values r e d s v = same_record (made employee day values) r e (day_known t day r.day d s) v
  where
    made : Text → Day → List NamedValue → Record
    made e d v = record { employee = e; day = d; values = v }

-- the words of a line that is a run
pub text_words : (text : Text) (seen : List Text) (r : Record) → seen ≡ take 260 (slice_split is_space text) →
    IsRun r → text ≡ join_with_byte 32 (run_words r) → seen ≡ run_words r
text_words text seen r split h e =
    split ∙ ap (λ t. take 260 (slice_split is_space t)) e
    ∙ ap (take 260) (split_join (codes "run") (r.employee ∷ day_word r.day ∷ map value_word r.values)
    (run_are_words r h))
    ∙ take_all 260 (run_words r) (omega (arith, run_few r h))

pub run_values : (words : List Text) (rest : List (Bor Text)) (r : Record) → words ≡ codes "run" ∷ texts rest →
    2 ≤ length rest → words ≡ run_words r → texts (take (length rest - 2) (drop 2 rest)) ≡ map value_word r.values
run_values words rest r e some h = (run_rest words rest no_text r e some h).2
