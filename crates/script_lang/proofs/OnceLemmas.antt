-- A line has one answer at most.
use Rattle.std.proofs.Common.{◌≡◌, ◌+◌, ◌≤◌, List, [], ◌∷◌, ◌++◌, length, Option, Some, None, Result, Ok, Err, refl, sym, ap, ◌∙◌, subst, arith, ◌⊎◌, inl, inr}
use Rattle.std.specs.Prelude.{IsTrue, codes, slice_index, if◌then◌else◌}
use Rattle.std.specs.List.{AllByRecursion}
use Rattle.std.specs.Str.{bytes_eq}
use Rattle.std.proofs.lemmas.Bool.{false≢true, le-leb}
use Rattle.payroll_records.specs.Days.{IsMonthText}
use Rattle.payroll_records.specs.Tables.{Text}
use Rattle.payroll_records.specs.ValueWords.{AreValueWords}
use Rattle.payroll_records.specs.Whens.{IsWhenText}
use Rattle.payroll_records.specs.declared.day.Day.{Day}
use Rattle.payroll_records.specs.declared.record.Record.{Record}
use Rattle.payroll_records.specs.declared.when.When.{When}
use Rattle.payroll_records.specs.declared.when.When.TheVariants as when
use Rattle.payroll_records.proofs.Laws.{months_once, days_once, whens_once, same_record, value_count, values_once}
use Rattle.script_lang.specs.Commands as asked
use Rattle.script_lang.specs.Commands.{Asked}
use Rattle.script_lang.specs.Fields.{Field, IsGood, fault_of, time_field}
use Rattle.script_lang.specs.Lines.{Verb, plan, drop, add, change, withdraw, load, report, work, trace, filing, owed, opening, trial}
use Rattle.script_lang.specs.Lines.{text_of, takes_words, fields_of, IsSilent, IsDayWord, IsOfRun, IsOfRecord, IsOfPlan}
use Rattle.script_lang.specs.Lines.{IsOfFile, Ask, HaveNoVerb, AreNotTaken, IsFirstFault, HaveFirstFault, IsLine, LineSays}
use Rattle.script_lang.specs.Words.{words_in_line}
use Rattle.script_lang.specs.declared.fault.LineFault.{LineFault}
use Rattle.script_lang.specs.declared.fault.LineFault.TheVariants as fault
use Rattle.script_lang.proofs.FileLemmas.{both_true}
use Rattle.script_lang.proofs.ValueLemmas.{words_good}

-- ---- first words

which : Text → Option Verb
which t =
    if bytes_eq t (codes "plan") then Some plan else
    if bytes_eq t (codes "drop") then Some drop else
    if bytes_eq t (codes "add") then Some add else
    if bytes_eq t (codes "change") then Some change else
    if bytes_eq t (codes "withdraw") then Some withdraw else
    if bytes_eq t (codes "load") then Some load else
    if bytes_eq t (codes "report") then Some report else
    if bytes_eq t (codes "work") then Some work else
    if bytes_eq t (codes "trace") then Some trace else
    if bytes_eq t (codes "file") then Some filing else
    if bytes_eq t (codes "owed") then Some owed else
    if bytes_eq t (codes "open") then Some opening else
    if bytes_eq t (codes "try") then Some trial else None

which_of : (v : Verb) → which (text_of v) ≡ Some v
unfolding which
which_of plan = refl
which_of drop = refl
which_of add = refl
which_of change = refl
which_of withdraw = refl
which_of load = refl
which_of report = refl
which_of work = refl
which_of trace = refl
which_of filing = refl
which_of owed = refl
which_of opening = refl
which_of trial = refl

pub verb_once : (v w : Verb) → text_of v ≡ text_of w → v ≡ w
verb_once v w e = let same = sym (which_of v) ∙ ap which e ∙ which_of w in cc

-- no command begins as a comment does
pub no_comment : (v : Verb) → slice_index (text_of v) 0 ≡ 35 → ⊥
no_comment plan e = omega (arith, e)
no_comment drop e = omega (arith, e)
no_comment add e = omega (arith, e)
no_comment change e = omega (arith, e)
no_comment withdraw e = omega (arith, e)
no_comment load e = omega (arith, e)
no_comment report e = omega (arith, e)
no_comment work e = omega (arith, e)
no_comment trace e = omega (arith, e)
no_comment filing e = omega (arith, e)
no_comment owed e = omega (arith, e)
no_comment opening e = omega (arith, e)
no_comment trial e = omega (arith, e)

loud : (words : List Text) (verb : Verb) (rest : List Text) → words ≡ text_of verb ∷ rest → IsSilent words → ⊥
loud [] verb rest e silent = cc e
loud (w ∷ ws) verb rest e silent = let same : w ≡ text_of verb = cc in no_comment verb (subst (λ t. slice_index t 0 ≡ 35) same silent)

-- ---- fields

-- the first fault, field by field
abbrev FirstIn : List Field → LineFault → Type 0
FirstIn [] f = ⊥
FirstIn (x ∷ xs) f = ((IsGood x → ⊥) × (f ≡ fault_of x)) ⊎ (IsGood x × FirstIn xs f)

from_parts : (before : List Field) (field : Field) (after : List Field) (f : LineFault) → AllByRecursion IsGood before → (IsGood field → ⊥) → f ≡ fault_of field → FirstIn (before ++ (field ∷ after)) f
from_parts [] field after f good broken is = inl (broken, is)
from_parts (x ∷ xs) field after f good broken is = inr (good.0, from_parts xs field after f good.1 broken is)

first_in : (fields : List Field) (f : LineFault) → IsFirstFault fields f → FirstIn fields f
first_in fields f h = rw h.parts (from_parts h.before h.field h.after f h.good h.broken h.fault_is)

first_in_once : (fields : List Field) (f g : LineFault) → FirstIn fields f → FirstIn fields g → f ≡ g
first_in_once [] f g h k = absurd h
first_in_once (x ∷ xs) f g (inl h) (inl k) = h.1 ∙ sym k.1
first_in_once (x ∷ xs) f g (inl h) (inr k) = absurd (h.0 k.0)
first_in_once (x ∷ xs) f g (inr h) (inl k) = absurd (k.0 h.0)
first_in_once (x ∷ xs) f g (inr h) (inr k) = first_in_once xs f g h.1 k.1

first_once : (fields : List Field) (f g : LineFault) → IsFirstFault fields f → IsFirstFault fields g → f ≡ g
first_once fields f g h k = first_in_once fields f g (first_in fields f h) (first_in fields g k)

none_in : (fields : List Field) (f : LineFault) → AllByRecursion IsGood fields → FirstIn fields f → ⊥
none_in [] f good h = h
none_in (x ∷ xs) f good (inl h) = h.0 good.0
none_in (x ∷ xs) f good (inr h) = none_in xs f good.1 h.1

-- ---- words that ask for something have no fault

abbrev asked_verb : Asked → Option Verb
asked_verb asked.nothing = None
asked_verb (asked.plan d p l) = Some plan
asked_verb (asked.drop d) = Some drop
asked_verb (asked.add r) = Some add
asked_verb (asked.change r) = Some change
asked_verb (asked.withdraw e t) = Some withdraw
asked_verb (asked.load f) = Some load
asked_verb asked.report = Some report
asked_verb asked.work = Some work
asked_verb (asked.trace e t) = Some trace
asked_verb (asked.filing m) = Some filing
asked_verb asked.owed = Some owed
asked_verb (asked.opening f) = Some opening
asked_verb (asked.trial d p l) = Some trial

record Spoken (words : List Text) (what : Asked) : Type 0 where
  verb : Verb
  rest : List Text
  verb_is : asked_verb what ≡ Some verb
  words_are : words ≡ text_of verb ∷ rest
  taken : IsTrue (takes_words verb rest)
  good : AllByRecursion IsGood (fields_of verb rest)

time_good : (word : Text) (t : When) → IsWhenText word t → IsGood (time_field word)
time_good word (when.Month m) h = let long : length word ≡ 7 = ap length h.written in rw long (m.year, m.month, h)
time_good word (when.Day d) h = let long : length word ≡ 10 = ap length h.written in rw long (d.year, d.month, d.day, h)

run_good : (command : Text) (words : List Text) (r : Record) (verb : Verb) → text_of verb ≡ command →
    ((rest : List Text) → IsTrue (takes_words add rest) → IsTrue (takes_words verb rest)) → ((rest : List Text) → AllByRecursion IsGood (fields_of add rest) → AllByRecursion IsGood (fields_of verb rest)) →
    IsOfRecord command words r →
    (rest : List Text) × (words ≡ text_of verb ∷ rest) × IsTrue (takes_words verb rest) × AllByRecursion IsGood (fields_of verb rest)
run_good command words r verb is take good h = (
  r.employee ∷ h.month_word ∷ h.day_word ∷ h.value_words,
  h.words_are ∙ ap (λ c. c ∷ r.employee ∷ h.month_word ∷ h.day_word ∷ h.value_words) (sym is),
  take _ (le-leb _ _ (omega (arith, h.values_are.are.few, value_count h.value_words r.values h.values_are))),
  good _ (h.employee_is, ((r.day.year, r.day.month, h.month_is), ((r.day.year, r.day.month, r.day.day, h.day_is, h.month_is), words_good h.value_words r.values h.values_are))),
)

plan_spoken : (what : Asked) (verb : Verb) (words : List Text) (d : Day) (p l : Text) → asked_verb what ≡ Some verb →
    ((rest : List Text) → IsTrue (takes_words plan rest) → IsTrue (takes_words verb rest)) →
    ((rest : List Text) → AllByRecursion IsGood (fields_of plan rest) → AllByRecursion IsGood (fields_of verb rest)) →
    IsOfPlan (text_of verb) words d p l → Spoken words what
plan_spoken what verb words d p l is take good h = record {
  verb = verb;
  rest = h.word ∷ p ∷ l ∷ [];
  verb_is = is;
  words_are = h.words_are;
  taken = take (h.word ∷ p ∷ l ∷ []) (both_true _ _ h.plan_is h.limits_is);
  good = good (h.word ∷ p ∷ l ∷ []) ((d.year, d.month, d.day, h.day_is), tt);
}

spoken : (words : List Text) (what : Asked) → Ask words what → (what ≡ asked.nothing) ⊎ Spoken words what
spoken words asked.nothing h = inl refl
spoken words (asked.plan d p l) h =
    inr (plan_spoken (asked.plan d p l) plan words d p l refl (λ rest t. t) (λ rest t. t) h)
spoken words (asked.drop d) h = inr (record { verb = drop; rest = h.word ∷ []; verb_is = refl; words_are = h.words_are; taken = refl; good = ((d.year, d.month, d.day, h.day_is), tt) })
spoken words (asked.add r) h = let g = run_good (codes "add") words r add refl (λ rest t. t) (λ rest t. t) h in inr (record { verb = add; rest = g.0; verb_is = refl; words_are = g.1; taken = g.2; good = g.3 })
spoken words (asked.change r) h = let g = run_good (codes "change") words r change refl (λ rest t. t) (λ rest t. t) h in inr (record { verb = change; rest = g.0; verb_is = refl; words_are = g.1; taken = g.2; good = g.3 })
spoken words (asked.withdraw e t) h = inr (record { verb = withdraw; rest = e ∷ h.word ∷ []; verb_is = refl; words_are = h.words_are; taken = refl; good = (h.employee_is, (time_good h.word t h.time_is, tt)) })
spoken words (asked.load f) h = inr (record { verb = load; rest = f ∷ []; verb_is = refl; words_are = h.words_are; taken = h.file_is; good = tt })
spoken words asked.report h = inr (record { verb = report; rest = []; verb_is = refl; words_are = h; taken = refl; good = tt })
spoken words asked.work h = inr (record { verb = work; rest = []; verb_is = refl; words_are = h; taken = refl; good = tt })
spoken words (asked.trace e t) h = inr (record { verb = trace; rest = e ∷ h.word ∷ []; verb_is = refl; words_are = h.words_are; taken = refl; good = (h.employee_is, (time_good h.word t h.time_is, tt)) })
spoken words (asked.filing m) h = inr (record { verb = filing; rest = h.word ∷ []; verb_is = refl; words_are = h.words_are; taken = refl; good = ((m.year, m.month, h.month_is), tt) })
spoken words asked.owed h = inr (record { verb = owed; rest = []; verb_is = refl; words_are = h; taken = refl; good = tt })
spoken words (asked.opening f) h = inr (record {
  verb = opening;
  rest = f ∷ [];
  verb_is = refl;
  words_are = h.words_are;
  taken = h.file_is;
  good = tt;
})
spoken words (asked.trial d p l) h =
    inr (plan_spoken (asked.trial d p l) trial words d p l refl (λ rest t. t) (λ rest t. t) h)

-- why words are refused
data Wrong (words : List Text) : LineFault → Type 0 where
  no_verb : HaveNoVerb words → Wrong words fault.Command
  by_none : AreNotTaken words → Wrong words fault.Words
  first : (f : LineFault) → HaveFirstFault words f → Wrong words f

-- the words have one verb and one rest
same_parts : (words : List Text) (v w : Verb) (r s : List Text) → words ≡ text_of v ∷ r → words ≡ text_of w ∷ s → (v ≡ w) × (r ≡ s)
same_parts words v w r s e f = let verbs : text_of v ≡ text_of w = cc in (verb_once v w verbs, cc)

none_and_taken : (words : List Text) (h : AreNotTaken words) (verb : Verb) (rest : List Text) → words ≡ text_of verb ∷ rest → IsTrue (takes_words verb rest) → ⊥
none_and_taken words h verb rest e t =
    let same = same_parts words h.verb verb h.rest rest h.words_are e in
    false≢true (sym h.wrong ∙ ap (λ v. takes_words v h.rest) same.0 ∙ ap (takes_words verb) same.1 ∙ t)

silent_wrong : (words : List Text) (f : LineFault) → IsSilent words → Wrong words f → ⊥
silent_wrong words f s (no_verb h) = h.said s
silent_wrong words f s (by_none h) = loud words h.verb h.rest h.words_are s
silent_wrong words f s (first g h) = loud words h.verb h.rest h.words_are s

spoken_wrong : (words : List Text) (what : Asked) (f : LineFault) → Spoken words what → Wrong words f → ⊥
spoken_wrong words what f s (no_verb h) = h.unknown s.verb s.rest s.words_are
spoken_wrong words what f s (by_none h) = none_and_taken words h s.verb s.rest s.words_are s.taken
spoken_wrong words what f s (first g h) =
    let same = same_parts words h.verb s.verb h.rest s.rest h.words_are s.words_are in
    none_in (fields_of s.verb s.rest) g s.good
    (subst (λ r. FirstIn (fields_of s.verb r) g) same.1 (subst (λ v. FirstIn (fields_of v h.rest) g) same.0 (first_in (fields_of h.verb h.rest) g h.first)))

ask_wrong : (words : List Text) (what : Asked) (f : LineFault) → Ask words what → Wrong words f → ⊥
ask_wrong words what f h k = elim (spoken words what h) [
  | inl none ↦ silent_wrong words f (subst (Ask words) none h) k
  | inr s ↦ spoken_wrong words what f s k
]

wrong_once : (words : List Text) (f g : LineFault) → Wrong words f → Wrong words g → f ≡ g
wrong_once words f g (no_verb h) (no_verb k) = refl
wrong_once words f g (no_verb h) (by_none k) = absurd (h.unknown k.verb k.rest k.words_are)
wrong_once words f g (no_verb h) (first e k) = absurd (h.unknown k.verb k.rest k.words_are)
wrong_once words f g (by_none h) (no_verb k) = absurd (k.unknown h.verb h.rest h.words_are)
wrong_once words f g (by_none h) (by_none k) = refl
wrong_once words f g (by_none h) (first e k) = absurd (none_and_taken words h k.verb k.rest k.words_are k.taken)
wrong_once words f g (first e h) (no_verb k) = absurd (k.unknown h.verb h.rest h.words_are)
wrong_once words f g (first e h) (by_none k) = absurd (none_and_taken words k h.verb h.rest h.words_are h.taken)
wrong_once words f g (first e h) (first d k) =
    let same = same_parts words k.verb h.verb k.rest h.rest k.words_are h.words_are in
    first_once (fields_of h.verb h.rest) e d h.first
    (subst (λ r. IsFirstFault (fields_of h.verb r) d) same.1 (subst (λ v. IsFirstFault (fields_of v k.rest) d) same.0 k.first))

-- ---- words ask for one thing

runs_once : (command : Text) (words : List Text) (r s : Record) → IsOfRecord command words r → IsOfRecord command words s → r ≡ s
runs_once command words r s h k =
    let a = h.words_are in
    let b = k.words_are in
    let employees : r.employee ≡ s.employee = cc in
    let days : k.day_word ≡ h.day_word = cc in
    let values : k.value_words ≡ h.value_words = cc in
    same_record r s employees
    (days_once h.day_word r.day s.day h.day_is (subst (λ t. IsDayWord t s.day) days k.day_is))
    (values_once h.value_words r.values s.values h.values_are (subst (λ ws. AreValueWords ws s.values) values k.values_are))

-- an employee and a time, under any constructor
meant_once : (make : Text → When → Asked) (command : Text) (words : List Text) (e : Text) (t : When) (e' : Text) (t' : When) →
    IsOfRun command words e t → IsOfRun command words e' t' → make e t ≡ make e' t'
meant_once make command words e t e' t' h k =
    let x = h.words_are in
    let y = k.words_are in
    let word : k.word ≡ h.word = cc in
    let who : e ≡ e' = cc in
    ap (λ z. make z t) who ∙ ap (make e') (whens_once h.word t t' h.time_is (subst (λ z. IsWhenText z t') word k.time_is))

-- a day and two files, and one file, under any constructor
plans_once : (make : Day → Text → Text → Asked) (command : Text) (words : List Text) (d : Day) (p l : Text)
    (d' : Day) (p' l' : Text) → IsOfPlan command words d p l → IsOfPlan command words d' p' l' → make d p l ≡ make d' p' l'
plans_once make command words d p l d' p' l' h k =
    let x = h.words_are in
    let y = k.words_are in
    let word : k.word ≡ h.word = cc in
    let days : d ≡ d' = days_once h.word d d' h.day_is (subst (λ t. IsDayWord t d') word k.day_is) in
    let plans : p ≡ p' = cc in
    let limits : l ≡ l' = cc in
    ap (λ z. make z p l) days ∙ ap (λ z. make d' z l) plans ∙ ap (λ z. make d' p' z) limits

files_once : (make : Text → Asked) (command : Text) (words : List Text) (f g : Text) → IsOfFile command words f →
    IsOfFile command words g → make f ≡ make g
files_once make command words f g h k =
    let x = h.words_are in
    let y = k.words_are in
    let same : f ≡ g = cc in
    ap make same

by_verb : (words : List Text) (a b : Asked) → asked_verb a ≡ asked_verb b → Ask words a → Ask words b → a ≡ b
by_verb words asked.nothing asked.nothing e h k = refl
by_verb words (asked.plan d p l) (asked.plan d' p' l') e h k =
    plans_once asked.plan (codes "plan") words d p l d' p' l' h k
by_verb words (asked.drop d) (asked.drop d') e h k =
    let x = h.words_are in
    let y = k.words_are in
    let word : k.word ≡ h.word = cc in
    ap asked.drop (days_once h.word d d' h.day_is (subst (λ t. IsDayWord t d') word k.day_is))
by_verb words (asked.add r) (asked.add s) e h k = ap asked.add (runs_once (codes "add") words r s h k)
by_verb words (asked.change r) (asked.change s) e h k = ap asked.change (runs_once (codes "change") words r s h k)
by_verb words (asked.withdraw w t) (asked.withdraw w' t') e h k = meant_once asked.withdraw (codes "withdraw") words w t w' t' h k
by_verb words (asked.load f) (asked.load g) e h k = files_once asked.load (codes "load") words f g h k
by_verb words asked.report asked.report e h k = refl
by_verb words asked.work asked.work e h k = refl
by_verb words (asked.trace w t) (asked.trace w' t') e h k = meant_once asked.trace (codes "trace") words w t w' t' h k
by_verb words (asked.filing m) (asked.filing m') e h k =
    let x = h.words_are in
    let y = k.words_are in
    let word : k.word ≡ h.word = cc in
    ap asked.filing (months_once h.word m m' h.month_is (subst (λ t. IsMonthText t m'.year m'.month) word k.month_is))
by_verb words asked.owed asked.owed e h k = refl
by_verb words (asked.opening f) (asked.opening g) e h k = files_once asked.opening (codes "open") words f g h k
by_verb words (asked.trial d p l) (asked.trial d' p' l') e h k =
    plans_once asked.trial (codes "try") words d p l d' p' l' h k
by_verb words a b e h k = cc e

ask_once : (words : List Text) (a b : Asked) → Ask words a → Ask words b → a ≡ b
ask_once words a b h k = elim (spoken words a h) [
  | inl none ↦ elim (spoken words b k) [
    | inl also ↦ none ∙ sym also
    | inr s ↦ absurd (loud words s.verb s.rest s.words_are (subst (Ask words) none h))
  ]
  | inr s ↦ elim (spoken words b k) [
    | inl none ↦ absurd (loud words s.verb s.rest s.words_are (subst (Ask words) none k))
    | inr t ↦ by_verb words a b (s.verb_is ∙ ap Some (same_parts words s.verb t.verb s.rest t.rest s.words_are t.words_are).0 ∙ sym t.verb_is) h k
  ]
]

-- ---- lines

data Why (line : Text) : LineFault → Type 0 where
  too_long : 65536 + 1 ≤ length line → Why line fault.LineLong
  wrong : (f : LineFault) → length line ≤ 65536 → Wrong (words_in_line line) f → Why line f

why : (line : Text) (f : LineFault) → LineSays line (Err f) → Why line f
why line fault.Command h = wrong _ h.0 (no_verb h.1)
why line fault.Words h = wrong _ h.0 (by_none h.1)
why line fault.Employee h = wrong _ h.0 (first _ h.1)
why line fault.Month h = wrong _ h.0 (first _ h.1)
why line fault.Day h = wrong _ h.0 (first _ h.1)
why line (fault.Value n) h = wrong _ h.0 (first _ h.1)
why line (fault.Twice name) h = wrong _ h.0 (first _ h.1)
why line fault.LineLong h = too_long (omega (arith, h))
why line (fault.Memory e) h = absurd h

line_why : (line : Text) (what : Asked) (f : LineFault) → IsLine line what → Why line f → ⊥
line_why line what f h (too_long l) = let short = h.short in omega arith
line_why line what f h (wrong g short w) = ask_wrong (words_in_line line) what g h.ask w

whys_once : (line : Text) (f g : LineFault) → Why line f → Why line g → f ≡ g
whys_once line f g (too_long l) (too_long m) = refl
whys_once line f g (too_long l) (wrong e short w) = absurd (omega arith)
whys_once line f g (wrong e short w) (too_long l) = absurd (omega arith)
whys_once line f g (wrong e short w) (wrong d short' w') = wrong_once (words_in_line line) e d w w'

pub line_once : (line : Text) (x y : Result Asked LineFault) → LineSays line x → LineSays line y → x ≡ y
line_once line (Ok a) (Ok b) h k = ap Ok (ask_once (words_in_line line) a b h.ask k.ask)
line_once line (Ok a) (Err g) h k = absurd (line_why line a g h (why line g k))
line_once line (Err f) (Ok b) h k = absurd (line_why line b f k (why line f h))
line_once line (Err f) (Err g) h k = ap Err (whys_once line f g (why line f h) (why line g k))
