-- A line has an answer.
use Rattle.std.proofs.Common.{◌≡◌, ◌≢◌, ◌==◌, ◌≤◌, Bool, true, false, List, [], ◌∷◌, length, Result, Ok, Err, refl, sym, ap, ◌∙◌, subst, ◌⊎◌, inl, inr}
use Rattle.std.specs.Prelude.{IsTrue, codes, slice_index, if◌then◌else◌}
use Rattle.std.specs.List.{AllByRecursion}
use Rattle.std.proofs.lemmas.Bool.{cases_lt, false≢true, leb-true}
use Rattle.payroll_records.specs.Days.{IsDaySpelled}
use Rattle.payroll_records.specs.Employees.{is_employee}
use Rattle.payroll_records.specs.Tables.{Text}
use Rattle.payroll_records.specs.Whens.{IsWhenText}
use Rattle.payroll_records.specs.declared.day.Day.{Day}
use Rattle.payroll_records.specs.declared.record.Record.{Record}
use Rattle.payroll_records.specs.declared.when.When.{When}
use Rattle.payroll_records.specs.declared.when.When.TheVariants as when
use Rattle.payroll_records.proofs.Laws.{Decided, both, by_iff, true_decided, eq_decided, text_decided, month_decided, day_spelled_decided, day_decided, value_word_decided}
use Rattle.script_lang.specs.Commands as asked
use Rattle.script_lang.specs.Commands.{Asked}
use Rattle.script_lang.specs.Fields.{Field, IsGood, fault_of, employee, month, day, day_in, value, new_name, name_in, time_field}
use Rattle.script_lang.specs.Lines.{Verb, plan, drop, add, change, withdraw, load, report, work, trace, filing, owed, opening, trial}
use Rattle.script_lang.specs.Lines.{text_of, takes_words, fields_of, IsSilent, IsOfRun, IsOfRecord, IsOfPlan, IsOfFile}
use Rattle.script_lang.specs.Lines.{Ask, IsFirstFault, HaveFirstFault, LineSays}
use Rattle.script_lang.specs.Words.{words_in_line}
use Rattle.script_lang.specs.declared.fault.LineFault.{LineFault}
use Rattle.script_lang.specs.declared.fault.LineFault.TheVariants as fault
use Rattle.script_lang.proofs.FieldLemmas.{first_here, first_later, no_first_command, no_first_words, no_first_long, no_first_memory}
use Rattle.script_lang.proofs.FileLemmas.{and_first, and_second}
use Rattle.script_lang.proofs.ValueLemmas.{good_words}

-- ---- fields

not_decided : {P : Type 0} → Decided P → Decided (P → ⊥)
not_decided (inl p) = inr (λ n. n p)
not_decided (inr n) = inl n

names_decided : (word : Text) (before : List Text) → Decided (AllByRecursion (λ other. name_in other ≢ name_in word) before)
names_decided word [] = inl tt
names_decided word (w ∷ ws) = both (not_decided (text_decided (name_in w) (name_in word))) (names_decided word ws)

good_decided : (f : Field) → Decided (IsGood f)
good_decided (employee word) = true_decided (is_employee word)
good_decided (month word) = month_decided word
good_decided (day word) = day_spelled_decided word
good_decided (day_in first second) =
    by_iff (λ h. (h.0, h.1, h.2, h.3.0, h.3.1)) (λ h. (h.0, h.1, h.2, (h.3, h.4))) (day_decided ([] ∷ first ∷ second ∷ []))
good_decided (value n word) = value_word_decided word
good_decided (new_name before word) = names_decided word before

-- all are good, or one is the first that is not
GoodOrFault : List Field → Type 0
GoodOrFault fields = AllByRecursion IsGood fields ⊎ ((f : LineFault) × IsFirstFault fields f)

good_or_fault : (fields : List Field) → GoodOrFault fields
unfolding GoodOrFault
good_or_fault [] = inl tt
good_or_fault (x ∷ xs) = elim (good_decided x) [
  | inr bad ↦ inr (fault_of x, first_here x xs (fault_of x) bad refl)
  | inl good ↦ elim (good_or_fault xs) [
    | inl rest ↦ inl (good, rest)
    | inr f ↦ inr (f.0, first_later x xs f.0 good f.1)
  ]
]

-- ---- first words

VerbOrNone : Text → Type 0
VerbOrNone w = ((v : Verb) × (w ≡ text_of v)) ⊎ ((v : Verb) → w ≢ text_of v)

verb_or_none : (w : Text) → VerbOrNone w
unfolding VerbOrNone
verb_or_none w = elim (text_decided w (codes "plan")) [
  | inl e ↦ inl (plan, e)
  | inr a ↦ elim (text_decided w (codes "drop")) [
    | inl e ↦ inl (drop, e)
    | inr b ↦ elim (text_decided w (codes "add")) [
      | inl e ↦ inl (add, e)
      | inr c ↦ elim (text_decided w (codes "change")) [
        | inl e ↦ inl (change, e)
        | inr d ↦ elim (text_decided w (codes "withdraw")) [
          | inl e ↦ inl (withdraw, e)
          | inr f ↦ elim (text_decided w (codes "load")) [
            | inl e ↦ inl (load, e)
            | inr g ↦ elim (text_decided w (codes "report")) [
              | inl e ↦ inl (report, e)
              | inr h ↦ elim (text_decided w (codes "work")) [
                | inl e ↦ inl (work, e)
                | inr i ↦ elim (text_decided w (codes "trace")) [
                  | inl e ↦ inl (trace, e)
                  | inr j ↦ elim (text_decided w (codes "file")) [
                    | inl e ↦ inl (filing, e)
                    | inr k ↦ elim (text_decided w (codes "owed")) [
                      | inl e ↦ inl (owed, e)
                      | inr l ↦ elim (text_decided w (codes "open")) [
                        | inl e ↦ inl (opening, e)
                        | inr m ↦ elim (text_decided w (codes "try")) [
                          | inl e ↦ inl (trial, e)
                          | inr n ↦ inr (none a b c d f g h i j k l m n)
                        ]
                      ]
                    ]
                  ]
                ]
              ]
            ]
          ]
        ]
      ]
    ]
  ]
] where
  none : w ≢ codes "plan" → w ≢ codes "drop" → w ≢ codes "add" → w ≢ codes "change" → w ≢ codes "withdraw" → w ≢ codes "load" →
      w ≢ codes "report" → w ≢ codes "work" → w ≢ codes "trace" → w ≢ codes "file" → w ≢ codes "owed" →
      w ≢ codes "open" → w ≢ codes "try" → (v : Verb) → w ≢ text_of v
  none a b c d f g h i j k l m n plan = a
  none a b c d f g h i j k l m n drop = b
  none a b c d f g h i j k l m n add = c
  none a b c d f g h i j k l m n change = d
  none a b c d f g h i j k l m n withdraw = f
  none a b c d f g h i j k l m n load = g
  none a b c d f g h i j k l m n report = h
  none a b c d f g h i j k l m n work = i
  none a b c d f g h i j k l m n trace = j
  none a b c d f g h i j k l m n filing = k
  none a b c d f g h i j k l m n owed = l
  none a b c d f g h i j k l m n opening = m
  none a b c d f g h i j k l m n trial = n

-- ---- what good words ask for

abbrev day_of_text : (word : Text) → IsDaySpelled word → Day
day_of_text word h = record { year = h.0; month = h.1; day = h.2; exists = h.3.exists }

time_of : (word : Text) → IsGood (time_field word) → (t : When) × IsWhenText word t
time_of word h = by (length word == 7) h
  where
    by : (b : Bool) → IsGood (if b then month word else day word) → (t : When) × IsWhenText word t
    by true g = (when.Month (record { year = g.0; month = g.1; exists = g.2.exists }), g.2)
    by false g = (when.Day (day_of_text word g), g.3)

run_of : (command : Text) (rest : List Text) → IsTrue (takes_words add rest) → AllByRecursion IsGood (fields_of add rest) → (r : Record) × IsOfRecord command (command ∷ rest) r
run_of command (e ∷ m ∷ d ∷ vs) taken good =
    let who = good.0 in
    let when = good.1.0 in
    let what = good.1.1.0 in
    let values = good_words vs (leb-true _ _ taken) good.1.1.1 in (
      record { employee = e; day = record { year = what.0; month = what.1; day = what.2; exists = what.3.exists }; values = values.0 },
      record { month_word = m; day_word = d; value_words = vs; words_are = refl; employee_is = who; month_is = what.4; day_is = what.3; values_are = values.1 },
    )
run_of command rest taken good = absurd (false≢true taken)

meant_of : (command : Text) (rest : List Text) → IsTrue (takes_words withdraw rest) → AllByRecursion IsGood (fields_of withdraw rest) → (e : Text) × (t : When) × IsOfRun command (command ∷ rest) e t
meant_of command (e ∷ w ∷ []) taken good =
    let t = time_of w good.1.0 in
    (e, t.0, record { word = w; words_are = refl; employee_is = good.0; time_is = t.1 })
meant_of command rest taken good = absurd (false≢true taken)

plan_of : (command : Text) (rest : List Text) → IsTrue (takes_words plan rest) → AllByRecursion IsGood (fields_of plan rest) →
    (d : Day) × (p : Text) × (l : Text) × IsOfPlan command (command ∷ rest) d p l
plan_of command (w ∷ p ∷ l ∷ []) taken good = (
  day_of_text w good.0,
  p,
  l,
  record { word = w; words_are = refl; plan_is = and_first _ _ taken; limits_is = and_second _ _ taken; day_is = good.0.3 },
)
plan_of command rest taken good = absurd (false≢true taken)

file_of : (command : Text) (rest : List Text) → IsTrue (takes_words load rest) → (f : Text) × IsOfFile command (command ∷ rest) f
file_of command (f ∷ []) taken = (f, record { words_are = refl; file_is = taken })
file_of command rest taken = absurd (false≢true taken)

asked_by : (verb : Verb) (rest : List Text) → IsTrue (takes_words verb rest) → AllByRecursion IsGood (fields_of verb rest) → (what : Asked) × Ask (text_of verb ∷ rest) what
asked_by plan rest taken good = let p = plan_of (codes "plan") rest taken good in (asked.plan p.0 p.1 p.2, p.3)
asked_by drop (w ∷ []) taken good = (asked.drop (day_of_text w good.0), record { word = w; words_are = refl; day_is = good.0.3 })
asked_by add rest taken good = let r = run_of (codes "add") rest taken good in (asked.add r.0, r.1)
asked_by change rest taken good = let r = run_of (codes "change") rest taken good in (asked.change r.0, r.1)
asked_by withdraw rest taken good = let r = meant_of (codes "withdraw") rest taken good in (asked.withdraw r.0 r.1, r.2)
asked_by load rest taken good = let f = file_of (codes "load") rest taken in (asked.load f.0, f.1)
asked_by report [] taken good = (asked.report, refl)
asked_by work [] taken good = (asked.work, refl)
asked_by trace rest taken good = let r = meant_of (codes "trace") rest taken good in (asked.trace r.0 r.1, r.2)
asked_by filing (w ∷ []) taken good =
    (asked.filing (record { year = good.0.0; month = good.0.1; exists = good.0.2.exists }), record { word = w; words_are = refl; month_is = good.0.2 })
asked_by owed [] taken good = (asked.owed, refl)
asked_by opening rest taken good = let f = file_of (codes "open") rest taken in (asked.opening f.0, f.1)
asked_by trial rest taken good = let p = plan_of (codes "try") rest taken good in (asked.trial p.0 p.1 p.2, p.3)
asked_by verb rest taken good = absurd (false≢true taken)

-- ---- lines

Answered : Text → Type 0
Answered line = (x : Result Asked LineFault) × LineSays line x

first_says : (line : Text) (f : LineFault) → length line ≤ 65536 → (h : HaveFirstFault (words_in_line line) f) → LineSays line (Err f)
first_says line fault.Command short h = absurd (no_first_command _ h.first)
first_says line fault.Words short h = absurd (no_first_words _ h.first)
first_says line fault.Employee short h = (short, h)
first_says line fault.Month short h = (short, h)
first_says line fault.Day short h = (short, h)
first_says line (fault.Value n) short h = (short, h)
first_says line (fault.Twice name) short h = (short, h)
first_says line fault.LineLong short h = absurd (no_first_long _ h.first)
first_says line (fault.Memory e) short h = absurd (no_first_memory _ e h.first)

spoken_some : (line : Text) → length line ≤ 65536 → (verb : Verb) (rest : List Text) → words_in_line line ≡ text_of verb ∷ rest → Answered line
unfolding Answered GoodOrFault
spoken_some line short verb rest e = by (true_decided (takes_words verb rest)) (good_or_fault (fields_of verb rest))
  where
    no_true : (b : Bool) → (IsTrue b → ⊥) → b ≡ false
    no_true true n = absurd (n refl)
    no_true false n = refl

    by : Decided (IsTrue (takes_words verb rest)) → GoodOrFault (fields_of verb rest) → Answered line
    by (inr none) g = (Err fault.Words, (short, record { verb = verb; rest = rest; words_are = e; wrong = no_true _ none }))
    by (inl taken) (inr f) = (Err f.0, first_says line f.0 short (record { verb = verb; rest = rest; words_are = e; taken = taken; first = f.1 }))
    by (inl taken) (inl good) = let a = asked_by verb rest taken good in (Ok a.0, record { short = short; ask = subst (λ ws. Ask ws a.0) (sym e) a.1 })

words_some : (line : Text) → length line ≤ 65536 → (words : List Text) → words_in_line line ≡ words → Answered line
unfolding Answered VerbOrNone
words_some line short [] e = (Ok asked.nothing, record { short = short; ask = subst IsSilent (sym e) tt })
words_some line short (w ∷ ws) e = elim (eq_decided (slice_index w 0) 35) [
  | inl comment ↦ (Ok asked.nothing, record { short = short; ask = subst IsSilent (sym e) comment })
  | inr said ↦ elim (verb_or_none w) [
    | inl v ↦ spoken_some line short v.0 ws (e ∙ ap (λ x. x ∷ ws) v.1)
    | inr none ↦ (
      Err fault.Command,
      (
        short,
        record {
          said = λ s. said (subst IsSilent e s);
          unknown = λ v rest is. let same : w ≡ text_of v = cc in none v same;
        },
      ),
    )
  ]
]

pub line_some : (line : Text) → (x : Result Asked LineFault) × LineSays line x
unfolding Answered
line_some line = elim (cases_lt 65536 (length line)) [
  | inl long ↦ (Err fault.LineLong, long)
  | inr short ↦ words_some line short (words_in_line line) refl
]
