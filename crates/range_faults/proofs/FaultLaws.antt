-- A range file has one list of faults, of which it is refused for the first.
use Rattle.std.proofs.Common.{◌≡◌, ℕ, suc, Bool, true, false, not, List, [], ◌∷◌, ◌++◌, map, Option, Some, None, Result, Ok, Err, codes, option_map, refl, sym, ap, ap₂, subst, ◌∙◌, ◌⊎◌, inl, inr}
use Rattle.std.specs.Prelude.{if◌then◌else◌, MatchBool, MatchOption, slice_get}
use Rattle.std.specs.Option.{option_or}
use Rattle.std.specs.Str.{bytes_eq}
use Rattle.toml.specs.Data.{Data, table, string, integer, float, boolean, datetime, array, Members, no_members, member}
use Rattle.pap_tree.specs.Names.{is_name}
use Rattle.limits_file.specs.declared.limits.InputLimit.{InputLimit}
use Rattle.limits_file.specs.declared.limits.Binding.{Binding}
use Rattle.limits_file.specs.declared.limits.Limits.{Limits}
use Rattle.limits_file.specs.Labels.{label_of}
use Rattle.limits_file.specs.Faults.{Fault, too_long, no_toml, bad_key, bad_bound}
use Rattle.limits_file.specs.Entries.{EntryForm, first_unsuited, has_needed_keys, failing_key}
use Rattle.limits_file.specs.Walks.{AllOrFirstFault, KeysSay}
use Rattle.limits_file.specs.Inputs.{input_form, InputSays}
use Rattle.limits_file.specs.Bindings.{binding_form, BindingSays}
use Rattle.limits_file.specs.RangeFiles.{with_inputs, with_bindings, joined_limits, SectionSays, IsToml, FileSays}
use Rattle.limits_file.proofs.InputLemmas.{input_once, input_some}
use Rattle.limits_file.proofs.BindingLemmas.{binding_some}
use Rattle.range_faults.specs.declared.fault.Section.{Section}
use Rattle.range_faults.specs.declared.fault.Section.TheVariants.{Bind, Input}
use Rattle.range_faults.specs.declared.fault.EntryFault.{EntryFault}
use Rattle.range_faults.specs.declared.fault.EntryFault.TheVariants as faults
use Rattle.range_faults.specs.EntryFaults.{entry_form, refused_for, unsuited_keys, key_faults, AreBindingFaults, AreWithBounds, AreInputFaults}
use Rattle.range_faults.specs.FileFaults.{AreFaultsOfAll, AreSectionFaults, AreTableFaults, AreFileFaults, HasOneList}

abbrev Found : Type 0
Found = List EntryFault

-- ---- the first of the faults of an entry's keys

-- the key at which an entry fails is that of the first fault
abbrev pub First : Option (List ℕ) → Found → Type 0
First failing [] = failing ≡ None
First failing (fault ∷ more) = (key : List ℕ) × (failing ≡ Some key) × (refused_for fault ≡ bad_key (label_of key))

first_of : (s : Section) (name : List ℕ) (named : Bool) (unsuited : List (List ℕ)) (whole : Bool)
    → First (if not named then Some name else option_or (slice_get unsuited 0) (if whole then None else Some name))
    (if not named then faults.Entry s name ∷ [] else map (faults.Key s name) unsuited ++ (if whole then [] else faults.Entry s name ∷ []))
first_of s name false unsuited whole = (name, refl, refl)
first_of s name true [] true = refl
first_of s name true [] false = (name, refl, refl)
first_of s name true (key ∷ keys) whole = (key, refl, refl)

unsuited_first : (suits : List ℕ → Data → Bool) (ms : Members) → slice_get (unsuited_keys suits ms) 0 ≡ first_unsuited suits ms
unsuited_first suits no_members = refl
unsuited_first suits (member key value rest) = by (suits key value) (unsuited_first suits rest) where
  by : (b : Bool) → slice_get (unsuited_keys suits rest) 0 ≡ first_unsuited suits rest
      → slice_get (if b then unsuited_keys suits rest else key ∷ unsuited_keys suits rest) 0 ≡ (if b then first_unsuited suits rest else Some key)
  by true h = h
  by false h = refl

pub key_first : (s : Section) (name : List ℕ) (value : Data) → First (failing_key (entry_form s) name value) (key_faults s name value)
key_first s name (table entry) =
    let suits = (entry_form s).suits entry in
    let whole = has_needed_keys (entry_form s) entry in
    subst (λ o. First (if not (is_name name) then Some name else option_or o (if whole then None else Some name)) (key_faults s name (table entry)))
    (unsuited_first suits entry) (first_of s name (is_name name) (unsuited_keys suits entry) whole)
key_first s name (string v) = (name, refl, refl)
key_first s name (integer v) = (name, refl, refl)
key_first s name (float v) = (name, refl, refl)
key_first s name (boolean v) = (name, refl, refl)
key_first s name (datetime v) = (name, refl, refl)
key_first s name (array v) = (name, refl, refl)

no_label : (label : List ℕ) (found : Option (List ℕ)) → found ≡ None → option_map label_of found ≡ Some label → ⊥
no_label label None e h = cc h
no_label label (Some k) e h = cc e

-- ---- the first of all

-- what is said is the first of the faults, and where there is none something else
abbrev Answered : {A : Type 0} → (Result A Fault → Type 0) → Found → Type 0
Answered {A} Says [] = (x : A) × Says (Ok x)
Answered Says (fault ∷ more) = Says (Err (refused_for fault))

binding_first : (n : ℕ) (name : List ℕ) (value : Data) (found : Found) → AreBindingFaults n name value found → Answered (BindingSays n name value) found
binding_first n name value found h =
    subst (Answered (BindingSays n name value)) (sym h) (by (key_faults Bind name value) (key_first Bind name value))
  where
    some : failing_key binding_form name value ≡ None → (a : Result Binding Fault) → BindingSays n name value a → (x : Binding) × BindingSays n name value (Ok x)
    some none (Ok x) s = (x, s)
    some none (Err (bad_key label)) s = absurd (no_label label _ none s)
    some none (Err (bad_bound label)) s = absurd s
    some none (Err too_long) s = absurd s
    some none (Err no_toml) s = absurd s

    by : (keys : Found) → First (failing_key binding_form name value) keys → Answered (BindingSays n name value) keys
    by [] none = let a = binding_some n name value in some none a.0 a.1
    by (fault ∷ more) k = subst (λ f. BindingSays n name value (Err f)) (sym k.2) (ap (option_map label_of) k.1)

input_first : (n : ℕ) (name : List ℕ) (value : Data) (found : Found) → AreInputFaults n name value found → Answered (InputSays n name value) found
input_first n name value found h = by (key_faults Input name value) (key_first Input name value) h where
  by : (keys : Found) → First (failing_key input_form name value) keys → AreWithBounds n name value keys found → Answered (InputSays n name value) found
  by [] none (inl k) = subst (Answered (InputSays n name value)) (sym k.2) (k.0, k.1)
  by [] none (inr k) = subst (Answered (InputSays n name value)) (sym k.1) k.0
  by (fault ∷ more) k e =
      subst (Answered (InputSays n name value)) (sym e)
      (subst (λ f. InputSays n name value (Err f)) (sym k.2) (ap (option_map label_of) k.1))

module _ {A : Type 0} (Are : ℕ → List ℕ → Data → Found → Type 0) (Says : ℕ → List ℕ → Data → Result A Fault → Type 0)
    (each : (n : ℕ) (key : List ℕ) (value : Data) (found : Found) → Are n key value found → Answered (Says n key value) found) where
  both : (n : ℕ) (key : List ℕ) (value : Data) (rest : Members) (own later : Found) → Answered (Says n key value) own
      → Answered (AllOrFirstFault Says (suc n) rest) later → Answered (AllOrFirstFault Says n (member key value rest)) (own ++ later)
  both n key value rest [] [] here more = (here.0 ∷ more.0, (here.1, more.1))
  both n key value rest [] (fault ∷ faults) here more = inr (here.0, here.1, more)
  both n key value rest (fault ∷ faults) later here more = inl here

  all_first : (n : ℕ) (ms : Members) (found : Found) → AreFaultsOfAll Are n ms found → Answered (AllOrFirstFault Says n ms) found
  all_first n no_members found h = subst (Answered (AllOrFirstFault Says n no_members)) (sym h) ([], refl)
  all_first n (member key value rest) found h =
      subst (Answered (AllOrFirstFault Says n (member key value rest))) (sym h.4)
      (both n key value rest h.0 h.1 (each n key value h.0 h.2) (all_first (suc n) rest h.1 h.3))

  table_first : {B : Type 0} (together : List A → B) (ms : Members) (found : Found) → AreFaultsOfAll Are 0 ms found → Answered (KeysSay Says together ms) found
  table_first together ms found h = by found (all_first 0 ms found h) where
    by : (found : Found) → Answered (AllOrFirstFault Says 0 ms) found → Answered (KeysSay Says together ms) found
    by [] k = (together k.0, (k.0, k.1, refl))
    by (fault ∷ more) k = k

section_first : (n : ℕ) (key : List ℕ) (value : Data) (found : Found) → AreSectionFaults n key value found → Answered (SectionSays n key value) found
section_first n key (table entries) found h = by (bytes_eq key (codes "bind")) (bytes_eq key (codes "input")) h where
  by : (b c : Bool)
      → MatchBool b (AreFaultsOfAll AreBindingFaults 0 entries found) (MatchBool c (AreFaultsOfAll AreInputFaults 0 entries found) (found ≡ faults.NoSection key ∷ []))
      → Answered {A = Limits} (λ a. MatchBool b (KeysSay BindingSays with_bindings entries a) (MatchBool c (KeysSay InputSays with_inputs entries a) (a ≡ Err (bad_key (label_of key))))) found
  by true c k = table_first AreBindingFaults BindingSays binding_first with_bindings entries found k
  by false true k = table_first AreInputFaults InputSays input_first with_inputs entries found k
  by false false k = subst (Answered {A = Limits} (λ a. a ≡ Err (bad_key (label_of key)))) (sym k) refl
section_first n key (string v) found h = subst (Answered {A = Limits} (λ a. a ≡ Err (bad_key (label_of key)))) (sym h) refl
section_first n key (integer v) found h = subst (Answered {A = Limits} (λ a. a ≡ Err (bad_key (label_of key)))) (sym h) refl
section_first n key (float v) found h = subst (Answered {A = Limits} (λ a. a ≡ Err (bad_key (label_of key)))) (sym h) refl
section_first n key (boolean v) found h = subst (Answered {A = Limits} (λ a. a ≡ Err (bad_key (label_of key)))) (sym h) refl
section_first n key (datetime v) found h = subst (Answered {A = Limits} (λ a. a ≡ Err (bad_key (label_of key)))) (sym h) refl
section_first n key (array v) found h = subst (Answered {A = Limits} (λ a. a ≡ Err (bad_key (label_of key)))) (sym h) refl

pub file_first : (bytes : List ℕ) (found : Found) → AreFileFaults bytes found
    → MatchOption (slice_get found 0) ((limits : Limits) × FileSays bytes (Ok limits)) (λ fault. FileSays bytes (Err (refused_for fault)))
file_first bytes found h = by found (all_first AreSectionFaults SectionSays section_first 0 h.0 found h.2) where
  says : (fault : EntryFault) → AllOrFirstFault SectionSays 0 h.0 (Err (refused_for fault)) → FileSays bytes (Err (refused_for fault))
  says (faults.NoSection key) k = (h.0, h.1, k)
  says (faults.Entry section entry) k = (h.0, h.1, k)
  says (faults.Key section entry key) k = (h.0, h.1, k)
  says (faults.Bounds entry) k = (h.0, h.1, k)

  by : (found : Found) → Answered (AllOrFirstFault SectionSays 0 h.0) found
      → MatchOption (slice_get found 0) ((limits : Limits) × FileSays bytes (Ok limits)) (λ fault. FileSays bytes (Err (refused_for fault)))
  by [] k = (joined_limits k.0, (h.0, h.1, (k.0, k.1, refl)))
  by (fault ∷ more) k = says fault k

-- ---- one list

abbrev One : (ℕ → List ℕ → Data → Found → Type 0) → Type 0
One Are = (n : ℕ) (key : List ℕ) (value : Data) (a b : Found) → Are n key value a → Are n key value b → a ≡ b

abbrev Any : (ℕ → List ℕ → Data → Found → Type 0) → Type 0
Any Are = (n : ℕ) (key : List ℕ) (value : Data) → (found : Found) × Are n key value found

all_once : (Are : ℕ → List ℕ → Data → Found → Type 0) → One Are → (n : ℕ) (ms : Members) (a b : Found) → AreFaultsOfAll Are n ms a → AreFaultsOfAll Are n ms b → a ≡ b
all_once Are one n no_members a b h k = h ∙ sym k
all_once Are one n (member key value rest) a b h k =
    h.4 ∙ ap₂ (λ x y. x ++ y) (one n key value h.0 k.0 h.2 k.2) (all_once Are one (suc n) rest h.1 k.1 h.3 k.3) ∙ sym k.4

all_some : (Are : ℕ → List ℕ → Data → Found → Type 0) → Any Are → (n : ℕ) (ms : Members) → (found : Found) × AreFaultsOfAll Are n ms found
all_some Are some n no_members = ([], refl)
all_some Are some n (member key value rest) =
    let own = some n key value in
    let later = all_some Are some (suc n) rest in
    (own.0 ++ later.0, (own.0, later.0, own.1, later.1, refl))

binding_one : One AreBindingFaults
binding_one n name value a b h k = h ∙ sym k

binding_any : Any AreBindingFaults
binding_any n name value = (key_faults Bind name value, refl)

ok_err : (l : InputLimit) (fault : Fault) → ◌≡◌ {A = Result InputLimit Fault} (Ok l) (Err fault) → ⊥
ok_err l fault e = cc

input_one : One AreInputFaults
input_one n name value a b h k = by (key_faults Input name value) h k where
  by : (keys : Found) → AreWithBounds n name value keys a → AreWithBounds n name value keys b → a ≡ b
  by [] (inl x) (inl y) = x.2 ∙ sym y.2
  by [] (inr x) (inr y) = x.1 ∙ sym y.1
  by [] (inl x) (inr y) = absurd (ok_err x.0 _ (input_once n name value (Ok x.0) (Err (bad_bound (label_of name))) x.1 y.0))
  by [] (inr x) (inl y) = absurd (ok_err y.0 _ (input_once n name value (Ok y.0) (Err (bad_bound (label_of name))) y.1 x.0))
  by (fault ∷ more) x y = x ∙ sym y

input_any : Any AreInputFaults
input_any n name value = by (key_faults Input name value) (key_first Input name value) where
  bounds : failing_key input_form name value ≡ None → (a : Result InputLimit Fault) → InputSays n name value a → (found : Found) × AreWithBounds n name value [] found
  bounds none (Ok l) s = ([], inl (l, s, refl))
  bounds none (Err (bad_bound label)) s = (faults.Bounds name ∷ [], inr ((s.0, refl, s.2), refl))
  bounds none (Err (bad_key label)) s = absurd (no_label label _ none s)
  bounds none (Err too_long) s = absurd s
  bounds none (Err no_toml) s = absurd s

  by : (keys : Found) → First (failing_key input_form name value) keys → (found : Found) × AreWithBounds n name value keys found
  by [] none = let a = input_some n name value in bounds none a.0 a.1
  by (fault ∷ more) k = (fault ∷ more, refl)

section_one : One AreSectionFaults
section_one n key (table entries) a b h k = by (bytes_eq key (codes "bind")) (bytes_eq key (codes "input")) h k where
  by : (x y : Bool)
      → MatchBool x (AreFaultsOfAll AreBindingFaults 0 entries a) (MatchBool y (AreFaultsOfAll AreInputFaults 0 entries a) (a ≡ faults.NoSection key ∷ []))
      → MatchBool x (AreFaultsOfAll AreBindingFaults 0 entries b) (MatchBool y (AreFaultsOfAll AreInputFaults 0 entries b) (b ≡ faults.NoSection key ∷ [])) → a ≡ b
  by true y h k = all_once AreBindingFaults binding_one 0 entries a b h k
  by false true h k = all_once AreInputFaults input_one 0 entries a b h k
  by false false h k = h ∙ sym k
section_one n key (string v) a b h k = h ∙ sym k
section_one n key (integer v) a b h k = h ∙ sym k
section_one n key (float v) a b h k = h ∙ sym k
section_one n key (boolean v) a b h k = h ∙ sym k
section_one n key (datetime v) a b h k = h ∙ sym k
section_one n key (array v) a b h k = h ∙ sym k

section_any : Any AreSectionFaults
section_any n key (table entries) = by (bytes_eq key (codes "bind")) (bytes_eq key (codes "input")) where
  by : (x y : Bool) → (found : Found)
      × MatchBool x (AreFaultsOfAll AreBindingFaults 0 entries found) (MatchBool y (AreFaultsOfAll AreInputFaults 0 entries found) (found ≡ faults.NoSection key ∷ []))
  by true y = all_some AreBindingFaults binding_any 0 entries
  by false true = all_some AreInputFaults input_any 0 entries
  by false false = (faults.NoSection key ∷ [], refl)
section_any n key (string v) = (faults.NoSection key ∷ [], refl)
section_any n key (integer v) = (faults.NoSection key ∷ [], refl)
section_any n key (float v) = (faults.NoSection key ∷ [], refl)
section_any n key (boolean v) = (faults.NoSection key ∷ [], refl)
section_any n key (datetime v) = (faults.NoSection key ∷ [], refl)
section_any n key (array v) = (faults.NoSection key ∷ [], refl)

same_file : (bytes : List ℕ) (file other : Members) → IsToml bytes file → IsToml bytes other → other ≡ file
same_file bytes file other h k = let parsed = h.parsed in let again = k.parsed in cc

pub one_list : (bytes : List ℕ) (file : Members) → IsToml bytes file → HasOneList bytes
one_list bytes file toml =
    let found = all_some AreSectionFaults section_any 0 file in
    record {
      faults = found.0;
      are = (file, toml, found.1);
      alone = λ other h.
          let same = same_file bytes file h.0 toml h.1 in
          all_once AreSectionFaults section_one 0 file other found.0 (subst (λ f. AreTableFaults f other) same h.2) found.1;
    }
