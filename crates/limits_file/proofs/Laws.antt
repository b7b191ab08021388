-- What callers may rest on: a range file says one thing, its limits or its first fault.
use Rattle.std.proofs.Common.{◌≡◌, ℕ, ◌≤◌, Bool, true, false, List, length, Option, Some, None, Result, Ok, Err, codes, refl, sym, ◌∙◌, subst, arith, inl, inr}
use Rattle.std.specs.Prelude.{MatchBool, ⊤}
use Rattle.std.specs.Str.{bytes_eq, is_utf8}
use Rattle.std.proofs.lemmas.Bool.{cases_lt, cases_Bool, false≢true}
use Rattle.std.proofs.lemmas.Str.{IsUtf8-from_is_utf8, is_utf8-from_IsUtf8}
use Rattle.toml.specs.Data.{Data, table, string, integer, float, boolean, datetime, array, Members}
use Rattle.toml.specs.Parse.{parse_document}
use Rattle.limits_file.specs.declared.limits.Limits.{Limits}
use Rattle.limits_file.specs.Labels.{label_of}
use Rattle.limits_file.specs.Faults.{Fault, too_long, no_toml, bad_key, bad_bound}
use Rattle.limits_file.specs.Walks.{KeysSay}
use Rattle.limits_file.specs.Inputs.{InputSays}
use Rattle.limits_file.specs.Bindings.{BindingSays}
use Rattle.limits_file.specs.Limits.{longest_limits}
use Rattle.limits_file.specs.RangeFiles.{with_inputs, with_bindings, joined_limits, SectionSays, IsNoToml, IsToml, FileSays}
use Rattle.limits_file.proofs.WalkLemmas.{SaysOne, SaysSome, table_once, table_some, table_fault}
use Rattle.limits_file.proofs.InputLemmas.{input_once, input_some}
use Rattle.limits_file.proofs.BindingLemmas.{binding_once, binding_some}

one_of : (b : Bool) (P Q : Result Limits Fault → Type 0) → ((x y : Result Limits Fault) → P x → P y → x ≡ y) → ((x y : Result Limits Fault) → Q x → Q y → x ≡ y) → (x y : Result Limits Fault) → MatchBool b (P x) (Q x) → MatchBool b (P y) (Q y) → x ≡ y
one_of true P Q p q x y h h' = p x y h h'
one_of false P Q p q x y h h' = q x y h h'

some_of : (b : Bool) (P Q : Result Limits Fault → Type 0) → ((x : Result Limits Fault) × P x) → ((x : Result Limits Fault) × Q x) → (x : Result Limits Fault) × MatchBool b (P x) (Q x)
some_of true P Q p q = p
some_of false P Q p q = q

section_once : SaysOne SectionSays
section_once n key (table entries) x y h h' =
    one_of (bytes_eq key (codes "bind")) (KeysSay BindingSays with_bindings entries) (λ a. MatchBool (bytes_eq key (codes "input")) (KeysSay InputSays with_inputs entries a) (a ≡ Err (bad_key (label_of key))))
    (table_once BindingSays binding_once with_bindings entries)
    (one_of (bytes_eq key (codes "input")) (KeysSay InputSays with_inputs entries) (λ a. a ≡ Err (bad_key (label_of key))) (table_once InputSays input_once with_inputs entries) (λ a b e e'. e ∙ sym e'))
    x y h h'
section_once n key (string v) x y h h' = h ∙ sym h'
section_once n key (integer v) x y h h' = h ∙ sym h'
section_once n key (float v) x y h h' = h ∙ sym h'
section_once n key (boolean v) x y h h' = h ∙ sym h'
section_once n key (datetime v) x y h h' = h ∙ sym h'
section_once n key (array v) x y h h' = h ∙ sym h'

section_some : SaysSome SectionSays
section_some n key (table entries) =
    some_of (bytes_eq key (codes "bind")) (KeysSay BindingSays with_bindings entries) (λ a. MatchBool (bytes_eq key (codes "input")) (KeysSay InputSays with_inputs entries a) (a ≡ Err (bad_key (label_of key))))
    (table_some BindingSays binding_some with_bindings entries)
    (some_of (bytes_eq key (codes "input")) (KeysSay InputSays with_inputs entries) (λ a. a ≡ Err (bad_key (label_of key))) (table_some InputSays input_some with_inputs entries) (Err (bad_key (label_of key)), refl))
section_some n key (string v) = (Err (bad_key (label_of key)), refl)
section_some n key (integer v) = (Err (bad_key (label_of key)), refl)
section_some n key (float v) = (Err (bad_key (label_of key)), refl)
section_some n key (boolean v) = (Err (bad_key (label_of key)), refl)
section_some n key (datetime v) = (Err (bad_key (label_of key)), refl)
section_some n key (array v) = (Err (bad_key (label_of key)), refl)

-- the faults of keys and of inputs
IsInside : Fault → Type 0
IsInside (bad_key label) = ⊤
IsInside (bad_bound label) = ⊤
IsInside too_long = ⊥
IsInside no_toml = ⊥

input_inside : (n : ℕ) (key : List ℕ) (value : Data) (f : Fault) → InputSays n key value (Err f) → IsInside f
unfolding IsInside
input_inside n key value (bad_key label) h = tt
input_inside n key value (bad_bound label) h = tt
input_inside n key value too_long h = absurd h
input_inside n key value no_toml h = absurd h

binding_inside : (n : ℕ) (key : List ℕ) (value : Data) (f : Fault) → BindingSays n key value (Err f) → IsInside f
unfolding IsInside
binding_inside n key value (bad_key label) h = tt
binding_inside n key value (bad_bound label) h = tt
binding_inside n key value too_long h = absurd h
binding_inside n key value no_toml h = absurd h

SaysKey : Result Limits Fault → List ℕ → Type 0
SaysKey x label = x ≡ Err (bad_key label)

key_inside : (f : Fault) (label : List ℕ) → SaysKey (Err f) label → IsInside f
unfolding IsInside SaysKey
key_inside (bad_key k) label e = tt
key_inside (bad_bound k) label e = tt
key_inside too_long label e = absurd (cc e)
key_inside no_toml label e = absurd (cc e)

either : (b : Bool) (P Q R : Type 0) → (P → R) → (Q → R) → MatchBool b P Q → R
either true P Q R p q h = p h
either false P Q R p q h = q h

section_inside : (n : ℕ) (key : List ℕ) (value : Data) (f : Fault) → SectionSays n key value (Err f) → IsInside f
unfolding SaysKey
section_inside n key (table entries) f h =
    either (bytes_eq key (codes "bind")) _ _ (IsInside f) (table_fault BindingSays IsInside binding_inside 0 entries f)
    (either (bytes_eq key (codes "input")) _ _ (IsInside f) (table_fault InputSays IsInside input_inside 0 entries f) (key_inside f (label_of key)))
    h
section_inside n key (string v) f h = key_inside f (label_of key) h
section_inside n key (integer v) f h = key_inside f (label_of key) h
section_inside n key (float v) f h = key_inside f (label_of key) h
section_inside n key (boolean v) f h = key_inside f (label_of key) h
section_inside n key (datetime v) f h = key_inside f (label_of key) h
section_inside n key (array v) f h = key_inside f (label_of key) h

-- what the table of a file says
TextSays : List ℕ → Result Limits Fault → Type 0
TextSays bytes answer = (file : Members) × IsToml bytes file × KeysSay SectionSays joined_limits file answer

text_once : (bytes : List ℕ) (x y : Result Limits Fault) → TextSays bytes x → TextSays bytes y → x ≡ y
unfolding TextSays
text_once bytes x y h h' =
    let parsed = h.1.parsed in
    let parsed' = h'.1.parsed in
    let same : h'.0 ≡ h.0 = cc in
    table_once SectionSays section_once joined_limits h.0 x y h.2 (subst (λ file. KeysSay SectionSays joined_limits file y) same h'.2)

text_not_refused : (bytes : List ℕ) (x : Result Limits Fault) → TextSays bytes x → IsNoToml bytes → ⊥
unfolding TextSays
text_not_refused bytes x h r = let parsed = h.1.parsed in let refused = r.refused h.1.text in not_some _ _ refused parsed where
  not_some : (found : Option Members) (file : Members) → found ≡ None → found ≡ Some file → ⊥
  not_some None file e h = cc h
  not_some (Some other) file e h = cc e

-- whether an answer is one that a table gives, and what the file's answer then is
pub file_once : (bytes : List ℕ) (x y : Result Limits Fault) → FileSays bytes x → FileSays bytes y → x ≡ y
unfolding TextSays
file_once bytes (Err too_long) (Err too_long) h h' = refl
file_once bytes (Err too_long) (Err no_toml) h h' = absurd (let short = h'.short in omega arith)
file_once bytes (Err too_long) (Err (bad_key k)) h h' = absurd (let short = h'.1.short in omega arith)
file_once bytes (Err too_long) (Err (bad_bound k)) h h' = absurd (let short = h'.1.short in omega arith)
file_once bytes (Err too_long) (Ok l) h h' = absurd (let short = h'.1.short in omega arith)
file_once bytes (Err no_toml) (Err too_long) h h' = absurd (let short = h.short in omega arith)
file_once bytes (Err no_toml) (Err no_toml) h h' = refl
file_once bytes (Err no_toml) (Err (bad_key k)) h h' = absurd (text_not_refused bytes (Err (bad_key k)) h' h)
file_once bytes (Err no_toml) (Err (bad_bound k)) h h' = absurd (text_not_refused bytes (Err (bad_bound k)) h' h)
file_once bytes (Err no_toml) (Ok l) h h' = absurd (text_not_refused bytes (Ok l) h' h)
file_once bytes (Err (bad_key k)) (Err too_long) h h' = absurd (let short = h.1.short in omega arith)
file_once bytes (Err (bad_key k)) (Err no_toml) h h' = absurd (text_not_refused bytes (Err (bad_key k)) h h')
file_once bytes (Err (bad_key k)) (Err (bad_key k')) h h' = text_once bytes (Err (bad_key k)) (Err (bad_key k')) h h'
file_once bytes (Err (bad_key k)) (Err (bad_bound k')) h h' = text_once bytes (Err (bad_key k)) (Err (bad_bound k')) h h'
file_once bytes (Err (bad_key k)) (Ok l) h h' = text_once bytes (Err (bad_key k)) (Ok l) h h'
file_once bytes (Err (bad_bound k)) (Err too_long) h h' = absurd (let short = h.1.short in omega arith)
file_once bytes (Err (bad_bound k)) (Err no_toml) h h' = absurd (text_not_refused bytes (Err (bad_bound k)) h h')
file_once bytes (Err (bad_bound k)) (Err (bad_key k')) h h' = text_once bytes (Err (bad_bound k)) (Err (bad_key k')) h h'
file_once bytes (Err (bad_bound k)) (Err (bad_bound k')) h h' = text_once bytes (Err (bad_bound k)) (Err (bad_bound k')) h h'
file_once bytes (Err (bad_bound k)) (Ok l) h h' = text_once bytes (Err (bad_bound k)) (Ok l) h h'
file_once bytes (Ok l) (Err too_long) h h' = absurd (let short = h.1.short in omega arith)
file_once bytes (Ok l) (Err no_toml) h h' = absurd (text_not_refused bytes (Ok l) h h')
file_once bytes (Ok l) (Err (bad_key k)) h h' = text_once bytes (Ok l) (Err (bad_key k)) h h'
file_once bytes (Ok l) (Err (bad_bound k)) h h' = text_once bytes (Ok l) (Err (bad_bound k)) h h'
file_once bytes (Ok l) (Ok m) h h' = text_once bytes (Ok l) (Ok m) h h'

file_from : (bytes : List ℕ) (file : Members) → IsToml bytes file → (x : Result Limits Fault) → KeysSay SectionSays joined_limits file x → (y : Result Limits Fault) × FileSays bytes y
unfolding IsInside
file_from bytes file toml (Ok l) h = (Ok l, (file, toml, h))
file_from bytes file toml (Err (bad_key k)) h = (Err (bad_key k), (file, toml, h))
file_from bytes file toml (Err (bad_bound k)) h = (Err (bad_bound k), (file, toml, h))
file_from bytes file toml (Err too_long) h = absurd (table_fault SectionSays IsInside section_inside 0 file too_long h)
file_from bytes file toml (Err no_toml) h = absurd (table_fault SectionSays IsInside section_inside 0 file no_toml h)

pub file_some : (bytes : List ℕ) → (x : Result Limits Fault) × FileSays bytes x
file_some bytes = elim (cases_lt longest_limits (length bytes)) [
  | inl long ↦ (Err too_long, long)
  | inr short ↦ at short (parse_document bytes) refl
] where
  at : length bytes ≤ longest_limits → (found : Option Members) → parse_document bytes ≡ found → (x : Result Limits Fault) × FileSays bytes x
  at short None e = (Err no_toml, record { short = short; refused = λ _. e })
  at short (Some file) e = elim (cases_Bool (is_utf8 bytes)) [
    | inl good ↦ (
        let toml : IsToml bytes file = record { short = short; text = IsUtf8-from_is_utf8 bytes good; parsed = e } in
        let says = table_some SectionSays section_some joined_limits file in
        file_from bytes file toml says.0 says.1)
    | inr bad ↦ (Err no_toml, record { short = short; refused = λ text. absurd (false≢true (sym bad ∙ is_utf8-from_IsUtf8 bytes text)) })
  ]

-- the faults of a whole text are none of its table's
pub never_long : (file : Members) → KeysSay SectionSays joined_limits file (Err too_long) → ⊥
unfolding IsInside
never_long file h = table_fault SectionSays IsInside section_inside 0 file too_long h

pub never_refused : (file : Members) → KeysSay SectionSays joined_limits file (Err no_toml) → ⊥
unfolding IsInside
never_refused file h = table_fault SectionSays IsInside section_inside 0 file no_toml h
