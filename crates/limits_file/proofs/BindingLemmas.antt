-- An entry of a binding says one thing.
use Rattle.std.proofs.Common.{◌≡◌, ℕ, Bool, true, false, not, ◌&&◌, ◌||◌, List, [], ◌∷◌, Option, Some, None, if◌then◌else◌, Result, Ok, Err, codes, option_map, is_some, option_and_then, refl, sym, ap, ◌∙◌, subst, inl, inr}
use Rattle.std.specs.List.{list_all}
use Rattle.std.specs.Option.{option_map_or}
use Rattle.std.specs.Str.{bytes_eq}
use Rattle.std.proofs.lemmas.Bool.{cases_Bool, and_parts, or_cases, false≢true, false_from_ne_true}
use Rattle.std.proofs.lemmas.Slice.Eq.{bytes_eq-Decides}
use Rattle.toml.specs.Data.{Data, table, string, integer, float, boolean, datetime, array, Members, get_member, as_str}
use Rattle.pap_tree.specs.Names.{is_name}
use Rattle.limits_file.specs.declared.limits.Carry.{Carry}
use Rattle.limits_file.specs.declared.limits.Carry.TheVariants.{Sum, Last, Count}
use Rattle.limits_file.specs.declared.limits.Binding.{Binding}
use Rattle.limits_file.specs.Labels.{label_of}
use Rattle.limits_file.specs.Faults.{Fault, too_long, no_toml, bad_key, bad_bound}
use Rattle.limits_file.specs.Entries.{has_key, text_at, first_unsuited, entry_members, failing_key}
use Rattle.limits_file.specs.Bindings.{is_count, is_binding_kind, suits_binding, binding_form, IsCarryOf, BindingSays}
use Rattle.limits_file.specs.private.BindingViews.{is_whole, GivesCarry}
use Rattle.limits_file.proofs.WalkLemmas.{SaysOne, SaysSome}
use Rattle.limits_file.proofs.EntryLemmas.{suited, IsFit, fit, is_table}

same_output : (o o' : List ℕ) (found : Option (List ℕ)) → found ≡ Some o → found ≡ Some o' → o ≡ o'
same_output o o' found h h' = cc

other_kind : (k k' : List ℕ) (found : Option (List ℕ)) → bytes_eq k k' ≡ false → found ≡ Some k → found ≡ Some k' → ⊥
other_kind k k' found apart h h' = let same : k ≡ k' = cc in false≢true (sym apart ∙ (bytes_eq-Decides k k').1 same)

carry_once : (entry : Members) (c c' : Carry) → IsCarryOf entry c → IsCarryOf entry c' → c ≡ c'
carry_once entry (Sum o) (Sum o') h h' = ap Sum (same_output o o' _ h.1 h'.1)
carry_once entry (Sum o) (Last o') h h' = absurd (other_kind _ _ _ refl h.0 h'.0)
carry_once entry (Sum o) Count h h' = absurd (other_kind _ _ _ refl h.0 h')
carry_once entry (Last o) (Sum o') h h' = absurd (other_kind _ _ _ refl h.0 h'.0)
carry_once entry (Last o) (Last o') h h' = ap Last (same_output o o' _ h.1 h'.1)
carry_once entry (Last o) Count h h' = absurd (other_kind _ _ _ refl h.0 h')
carry_once entry Count (Sum o') h h' = absurd (other_kind _ _ _ refl h h'.0)
carry_once entry Count (Last o') h h' = absurd (other_kind _ _ _ refl h h'.0)
carry_once entry Count Count h h' = refl

same_binding : (b c : Binding) → b.input ≡ c.input → b.carry ≡ c.carry → b ≡ c
same_binding b c input carry = λ i. record { input = input i; carry = carry i }

no_key : (label : List ℕ) (found : Option (List ℕ)) → found ≡ None → option_map label_of found ≡ Some label → ⊥
no_key label None e h = cc h
no_key label (Some k) e h = cc e

key_once : (label label' : List ℕ) (found : Option (List ℕ)) → option_map label_of found ≡ Some label → option_map label_of found ≡ Some label' → label ≡ label'
key_once label label' found h h' = cc

pub binding_once : SaysOne BindingSays
binding_once n name value (Ok b) (Ok c) h h' = ap Ok (same_binding b c (h.1 ∙ sym h'.1) (carry_once (entry_members value) b.carry c.carry h.2 h'.2))
binding_once n name value (Ok b) (Err (bad_key k)) h h' = absurd (no_key k _ h.0 h')
binding_once n name value (Ok b) (Err (bad_bound k)) h h' = absurd h'
binding_once n name value (Ok b) (Err too_long) h h' = absurd h'
binding_once n name value (Ok b) (Err no_toml) h h' = absurd h'
binding_once n name value (Err (bad_key k)) (Ok c) h h' = absurd (no_key k _ h'.0 h)
binding_once n name value (Err (bad_key k)) (Err (bad_key k')) h h' = ap (λ x. Err (bad_key x)) (key_once k k' _ h h')
binding_once n name value (Err (bad_key k)) (Err (bad_bound k')) h h' = absurd h'
binding_once n name value (Err (bad_key k)) (Err too_long) h h' = absurd h'
binding_once n name value (Err (bad_key k)) (Err no_toml) h h' = absurd h'
binding_once n name value (Err (bad_bound k)) b h h' = absurd h
binding_once n name value (Err too_long) b h h' = absurd h
binding_once n name value (Err no_toml) b h h' = absurd h

-- what a key that stands in a fit entry holds

or_false : (b c : Bool) → (b || (false && c)) ≡ true → b ≡ true
or_false true c h = refl
or_false false c h = h

pub kind_text : (entry : Members) (d : Data) → suits_binding (is_count entry) (codes "kind") d ≡ true → (text : List ℕ) × ((d ≡ string text) × (is_binding_kind text ≡ true))
kind_text entry (string text) h = (text, (refl, or_false (is_binding_kind text) (is_name text && not (is_count entry)) h))
kind_text entry (integer z) h = absurd (cc h)
kind_text entry (float x) h = absurd (cc h)
kind_text entry (boolean x) h = absurd (cc h)
kind_text entry (datetime x) h = absurd (cc h)
kind_text entry (array x) h = absurd (cc h)
kind_text entry (table x) h = absurd (cc h)

pub output_text : (entry : Members) (d : Data) → suits_binding (is_count entry) (codes "output") d ≡ true → (text : List ℕ) × ((d ≡ string text) × (is_name text ≡ true) × (is_count entry ≡ false))
output_text entry (string text) h = (text, (refl, (and_parts (is_name text) (not (is_count entry)) h).0, no_count (is_count entry) (and_parts (is_name text) (not (is_count entry)) h).1)) where
  no_count : (b : Bool) → not b ≡ true → b ≡ false
  no_count true h = absurd (cc h)
  no_count false h = refl
output_text entry (integer z) h = absurd (cc h)
output_text entry (float x) h = absurd (cc h)
output_text entry (boolean x) h = absurd (cc h)
output_text entry (datetime x) h = absurd (cc h)
output_text entry (array x) h = absurd (cc h)
output_text entry (table x) h = absurd (cc h)

some_from : (found : Option Data) → is_some found ≡ true → (d : Data) × (found ≡ Some d)
some_from (Some d) h = (d, refl)
some_from None h = absurd (cc h)

text_of : (entry : Members) (key : List ℕ) (d : Data) (text : List ℕ) → get_member key entry ≡ Some d → d ≡ string text → text_at key entry ≡ Some text
text_of entry key d text stands is = rw stands (rw is refl)

module _ (entry : Members) (all : first_unsuited (suits_binding (is_count entry)) entry ≡ None) where
  pub kind_at : has_key entry (codes "kind") ≡ true → (text : List ℕ) × ((text_at (codes "kind") entry ≡ Some text) × (is_binding_kind text ≡ true))
  kind_at here =
      let found = some_from (get_member (codes "kind") entry) here in
      let text = kind_text entry found.0 (suited (suits_binding (is_count entry)) entry (codes "kind") found.0 all found.1) in
      (text.0, (text_of entry (codes "kind") found.0 text.0 found.1 text.1.0, text.1.1))

  pub output_at : has_key entry (codes "output") ≡ true → (text : List ℕ) × ((text_at (codes "output") entry ≡ Some text) × (is_name text ≡ true))
  output_at here =
      let found = some_from (get_member (codes "output") entry) here in
      let text = output_text entry found.0 (suited (suits_binding (is_count entry)) entry (codes "output") found.0 all found.1) in
      (text.0, (text_of entry (codes "output") found.0 text.0 found.1 text.1.0, text.1.1))

no_count : (entry : Members) (kind : List ℕ) → text_at (codes "kind") entry ≡ Some kind → bytes_eq kind (codes "count") ≡ false → is_count entry ≡ false
no_count entry kind e apart = ap (λ o. option_map_or (λ k. bytes_eq k (codes "count")) o false) e ∙ apart

-- a kind that reads an output needs one
pub needs_output : (entry : Members) → is_count entry ≡ false → list_all (has_key entry) (binding_form.needed entry) ≡ true → has_key entry (codes "output") ≡ true
needs_output entry e h =
    let both = and_parts (has_key entry (codes "kind")) (list_all (has_key entry) (if is_count entry then [] else codes "output" ∷ [])) h in
    let output : list_all (has_key entry) (codes "output" ∷ []) ≡ true = subst (λ b. list_all (has_key entry) (if b then [] else codes "output" ∷ []) ≡ true) e both.1 in
    (and_parts (has_key entry (codes "output")) true output).0

none_stands : (found : Option (List ℕ)) (text : List ℕ) → found ≡ None → found ≡ Some text → ⊥
none_stands None text e h = cc h
none_stands (Some t) text e h = cc e

module _ (entry : Members) (all : first_unsuited (suits_binding (is_count entry)) entry ≡ None) where
  -- a kind or an output that isn't there is missing
  pub kind_missing : text_at (codes "kind") entry ≡ None → is_whole entry ≡ false
  kind_missing none = false_from_ne_true _ (λ whole. (let here = kind_at entry all (and_parts (has_key entry (codes "kind")) (list_all (has_key entry) (if is_count entry then [] else codes "output" ∷ [])) whole).0 in none_stands _ here.0 none here.1.0))

  pub output_missing : (kind : List ℕ) → text_at (codes "kind") entry ≡ Some kind → bytes_eq kind (codes "count") ≡ false → text_at (codes "output") entry ≡ None → is_whole entry ≡ false
  output_missing kind e apart none = false_from_ne_true _ (λ whole. (let here = output_at entry all (needs_output entry (no_count entry kind e apart) whole) in none_stands _ here.0 none here.1.0))

stands : (entry : Members) (key text : List ℕ) → text_at key entry ≡ Some text → has_key entry key ≡ true
stands entry key text e = at (get_member key entry) e where
  at : (found : Option Data) → option_and_then as_str found ≡ Some text → is_some found ≡ true
  at None h = absurd (cc h)
  at (Some d) h = refl

whole_count : (entry : Members) → text_at (codes "kind") entry ≡ Some (codes "count") → is_whole entry ≡ true
whole_count entry e =
    let here = stands entry (codes "kind") (codes "count") e in
    let counts : is_count entry ≡ true = ap (λ o. option_map_or (λ k. bytes_eq k (codes "count")) o false) e in
    rw (here, counts) refl

whole_output : (entry : Members) (kind output : List ℕ) → text_at (codes "kind") entry ≡ Some kind → bytes_eq kind (codes "count") ≡ false → text_at (codes "output") entry ≡ Some output → is_whole entry ≡ true
whole_output entry kind output e apart o =
    let here = stands entry (codes "kind") kind e in
    let there = stands entry (codes "output") output o in
    let counts = no_count entry kind e apart in
    rw (here, counts, there) refl

-- what the code finds

pub gives_count : (entry : Members) (kind : List ℕ) → text_at (codes "kind") entry ≡ Some kind → bytes_eq kind (codes "count") ≡ true → GivesCarry entry Count
gives_count entry kind e same =
    let count = e ∙ ap Some ((bytes_eq-Decides kind (codes "count")).0 same) in
    record { carry_of = count; whole = whole_count entry count }

module _ (entry : Members) (kind output : List ℕ) (e : text_at (codes "kind") entry ≡ Some kind) (apart : bytes_eq kind (codes "count") ≡ false) (o : text_at (codes "output") entry ≡ Some output) where
  pub gives_sum : bytes_eq kind (codes "sum") ≡ true → GivesCarry entry (Sum output)
  gives_sum same = record { carry_of = (e ∙ ap Some ((bytes_eq-Decides kind (codes "sum")).0 same), o); whole = whole_output entry kind output e apart o }

  pub gives_last : first_unsuited (suits_binding (is_count entry)) entry ≡ None → bytes_eq kind (codes "sum") ≡ false → GivesCarry entry (Last output)
  gives_last all other =
      let found = kind_at entry all (stands entry (codes "kind") kind e) in
      let same : found.0 ≡ kind = same_output found.0 kind _ found.1.0 e in
      let three : is_binding_kind kind ≡ true = subst (λ k. is_binding_kind k ≡ true) same found.1.1 in
      let last : bytes_eq kind (codes "last") ≡ true = elim (or_cases _ _ three) [
        | inl two ↦ elim (or_cases _ _ two) [ inl sum ↦ absurd (false≢true (sym other ∙ sum)) | inr last ↦ last ]
        | inr count ↦ absurd (false≢true (sym apart ∙ count))
      ] in
      record { carry_of = (e ∙ ap Some ((bytes_eq-Decides kind (codes "last")).0 last), o); whole = whole_output entry kind output e apart o }

-- an output that stands there is a name
pub output_named : (entry : Members) → first_unsuited (suits_binding (is_count entry)) entry ≡ None → (output : List ℕ) → text_at (codes "output") entry ≡ Some output → is_name output ≡ true
output_named entry all output o =
    let found = output_at entry all (stands entry (codes "output") output o) in
    let same : found.0 ≡ output = same_output found.0 output _ found.1.0 o in
    subst (λ t. is_name t ≡ true) same found.1.1

carry_some : (name : List ℕ) (entry : Members) → IsFit binding_form name entry → (c : Carry) × IsCarryOf entry c
carry_some name entry f =
    let kind = kind_at entry f.suited (and_parts (has_key entry (codes "kind")) (list_all (has_key entry) (if is_count entry then [] else codes "output" ∷ [])) f.whole).0 in
    elim (cases_Bool (bytes_eq kind.0 (codes "count"))) [
      | inl same ↦ (Count, kind.1.0 ∙ ap Some ((bytes_eq-Decides kind.0 (codes "count")).0 same))
      | inr apart ↦ reads kind.0 kind.1.0 kind.1.1 apart (output_at entry f.suited (needs_output entry (no_count entry kind.0 kind.1.0 apart) f.whole))
    ] where
      reads : (kind : List ℕ) → text_at (codes "kind") entry ≡ Some kind → is_binding_kind kind ≡ true → bytes_eq kind (codes "count") ≡ false → (output : List ℕ) × ((text_at (codes "output") entry ≡ Some output) × (is_name output ≡ true)) → (c : Carry) × IsCarryOf entry c
      reads kind e three apart output = elim (or_cases _ _ three) [
        | inl two ↦ elim (or_cases _ _ two) [
          | inl same ↦ (Sum output.0, (e ∙ ap Some ((bytes_eq-Decides kind (codes "sum")).0 same), output.1.0))
          | inr same ↦ (Last output.0, (e ∙ ap Some ((bytes_eq-Decides kind (codes "last")).0 same), output.1.0))
        ]
        | inr same ↦ absurd (false≢true (sym apart ∙ same))
      ]

pub binding_some : SaysSome BindingSays
binding_some n name value = at (failing_key binding_form name value) refl where
  at : (found : Option (List ℕ)) → failing_key binding_form name value ≡ found → (a : Result Binding Fault) × BindingSays n name value a
  at (Some key) e = (Err (bad_key (label_of key)), ap (option_map label_of) e)
  at None e =
      let whole = subst (λ v. failing_key binding_form name v ≡ None) (is_table binding_form name value e) e in
      let carry = carry_some name (entry_members value) (fit binding_form name (entry_members value) whole) in
      (Ok (record { input = name; carry = carry.0 }), (e, refl, carry.1))
