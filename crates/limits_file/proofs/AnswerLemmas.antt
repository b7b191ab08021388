-- What an entry's answer tells, from the key at which the entry fails.
use Rattle.std.proofs.Common.{◌≡◌, ℕ, ◌≤◌, Bool, true, false, not, List, Some, None, Err, option_map, refl, ap, ◌⊎◌}
use Rattle.std.specs.List.{list_all}
use Rattle.toml.specs.Data.{Data, table, Members}
use Rattle.pap_tree.specs.Names.{is_name}
use Rattle.pap_tree.specs.Limits.{most_inputs}
use Rattle.limits_file.specs.declared.fault.LimitsFault.{LimitsFault}
use Rattle.limits_file.specs.declared.fault.LimitsFault.TheVariants as answered
use Rattle.limits_file.specs.declared.limits.InputLimit.{InputLimit}
use Rattle.limits_file.specs.declared.limits.Binding.{Binding}
use Rattle.limits_file.specs.private.AnswerViews.{Tells}
use Rattle.limits_file.specs.Labels.{label_of}
use Rattle.limits_file.specs.Entries.{EntryForm, has_key, first_unsuited, failing_key}
use Rattle.limits_file.specs.Inputs.{input_form, InputSays, GivesNoLimit}
use Rattle.limits_file.specs.Bindings.{binding_form, BindingSays}

pub not_true : {b : Bool} → not b ≡ true → b ≡ false
not_true {b = true} h = absurd (cc h)
not_true {b = false} h = refl

pub not_false : {b : Bool} → not b ≡ false → b ≡ true
not_false {b = true} h = refl
not_false {b = false} h = absurd (cc h)

module _ (form : EntryForm) (name : List ℕ) (entry : Members) where
  pub misnamed : is_name name ≡ false → failing_key form name (table entry) ≡ Some name
  misnamed e = rw e refl

  pub lacking : is_name name ≡ true → first_unsuited (form.suits entry) entry ≡ None → list_all (has_key entry) (form.needed entry) ≡ false → failing_key form name (table entry) ≡ Some name
  lacking named suited lacks = rw (named, suited, lacks) refl

  pub nothing_fails : is_name name ≡ true → first_unsuited (form.suits entry) entry ≡ None → list_all (has_key entry) (form.needed entry) ≡ true → failing_key form name (table entry) ≡ None
  nothing_fails named suited whole = rw (named, suited, whole) refl

pub input_key : (n : ℕ) (name : List ℕ) (value : Data) (entry : Members) (key : List ℕ) (e : LimitsFault) → value ≡ table entry → failing_key input_form name (table entry) ≡ Some key → e ≡ answered.Key (label_of key) → Tells {A = InputLimit} (InputSays n name value) (Err e)
input_key n name value entry key e is fails made = rw made (rw is (ap (option_map label_of) fails))

pub binding_key : (n : ℕ) (name : List ℕ) (value : Data) (entry : Members) (key : List ℕ) (e : LimitsFault) → value ≡ table entry → failing_key binding_form name (table entry) ≡ Some key → e ≡ answered.Key (label_of key) → Tells {A = Binding} (BindingSays n name value) (Err e)
binding_key n name value entry key e is fails made = rw made (rw is (ap (option_map label_of) fails))

pub input_bound : (n : ℕ) (name : List ℕ) (value : Data) (entry : Members) (e : LimitsFault) → value ≡ table entry → failing_key input_form name (table entry) ≡ None → e ≡ answered.Bound (label_of name) → (most_inputs ≤ n) ⊎ GivesNoLimit name entry → Tells {A = InputLimit} (InputSays n name value) (Err e)
input_bound n name value entry e is fit made why = rw made (rw is (fit, refl, why))
