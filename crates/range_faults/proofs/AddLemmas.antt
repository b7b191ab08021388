-- Faults that are added one after the other.
use Rattle.std.proofs.Common.{◌≡◌, ◌↔◌, IsTrue, ℕ, suc, ◌+◌, ◌-◌, ◌<◌, ◌≤◌, Bool, true, false, not, List, [], ◌∷◌, ◌++◌, length, length-append, map, codes, Option, Some, None, String, Global, string_bytes, refl, sym, ap, subst, ◌∙◌, append_assoc, arith, ◌⊎◌, inl, inr}
use Rattle.std.specs.Prelude.{if◌then◌else◌, MatchBool, MatchOption}
use Rattle.std.specs.Str.{bytes_eq}
use Rattle.std.proofs.lemmas.Bool.{cases_lt, false≢true}
use Rattle.std.proofs.lemmas.List.{append-nil}
use Rattle.std.proofs.lemmas.Option.{none-some, same_Some}
use Rattle.toml.specs.declared.value.Value.{Value}
use Rattle.toml.specs.Data.{Data, table, string, integer, float, boolean, datetime, array, Members, no_members, member, as_table}
use Rattle.toml.specs.View.{view, members_view}
use Rattle.pap_tree.specs.Limits.{most_inputs}
use Rattle.pap_tree.specs.Names.{is_name}
use Rattle.limits_file.specs.declared.limits.InputLimit.{InputLimit}
use Rattle.limits_file.specs.Entries.{entry_members, failing_key}
use Rattle.limits_file.specs.Inputs.{input_form, GivesNoLimit, IsLimitOf}
use Rattle.limits_file.proofs.EntryLemmas.{fit, is_table}
use Rattle.limits_file.proofs.InputParts.{low_missing, no_value}
use Rattle.range_faults.specs.declared.fault.Section.{Section}
use Rattle.range_faults.specs.declared.fault.Section.TheVariants.{Input}
use Rattle.range_faults.specs.declared.fault.EntryFault.{EntryFault}
use Rattle.range_faults.specs.declared.fault.EntryFault.TheVariants.{NoSection, Entry, Bounds}
use Rattle.range_faults.specs.EntryFaults.{unsuited_keys, key_faults, named_faults, AreWithBounds, AreBindingFaults, AreInputFaults}
use Rattle.range_faults.specs.FileFaults.{AreFaultsOfAll, AreSectionFaults}
use Rattle.range_faults.specs.private.FaultViews.{Adds, named_entry, LacksLimit, IsAccepted, IsUnaccepted}
use Rattle.range_faults.proofs.FaultLaws.{First, key_first}

abbrev pub Found : Type 0
Found = List EntryFault

abbrev pub Entries : Type 0
Entries = List (String Global × Value)

-- some faults, and others behind them
pub adds_both : (P Q R : Found → Type 0) → ((a b : Found) → P a → Q b → R (a ++ b)) → (before now after : Found)
    → Adds P before now → Adds Q now after → Adds R before after
adds_both P Q R join before now after f g = record {
  own = f.own ++ g.own;
  are = join f.own g.own f.are g.are;
  is = g.is ∙ ap (λ t. t ++ g.own) f.is ∙ append_assoc before f.own g.own;
}

-- ---- the keys of a table, as far as they are looked at

-- with the faults of the keys that are left, what was found is what all keys have
pub record Walks (Are : ℕ → List ℕ → Data → Found → Type 0) (n : ℕ) (left all : Members) (before now : Found) : Type 0 where
  pub on : (after : Found) → Adds (AreFaultsOfAll Are n left) now after → Adds (AreFaultsOfAll Are 0 all) before after

pub begins : (Are : ℕ → List ℕ → Data → Found → Type 0) (all : Members) (before : Found) → Walks Are 0 all all before before
begins Are all before = record { on = λ after h. h }

goes_on : (Are : ℕ → List ℕ → Data → Found → Type 0) (n : ℕ) (key : List ℕ) (value : Data) (left all : Members) (before now new : Found)
    → Walks Are n (member key value left) all before now → Adds (Are n key value) now new → Walks Are (suc n) left all before new
goes_on Are n key value left all before now new w f = record {
  on = λ after k. w.on after
      (adds_both (Are n key value) (AreFaultsOfAll Are (suc n) left) (AreFaultsOfAll Are n (member key value left))
      (λ own later a l. (own, later, a, l, refl)) now new after f k);
}

pub loop_on : (Are : ℕ → List ℕ → Data → Found → Type 0) (n : ℕ) (text : List ℕ) (key : String Global) (value : Value) (entries left all : Entries) (before now new : Found)
    → text ≡ string_bytes key → entries ≡ (key, value) ∷ left → Walks Are n (members_view entries) (members_view all) before now
    → Adds (Are n text (view value)) now new → Walks Are (suc n) (members_view left) (members_view all) before new
loop_on Are n text key value entries left all before now new bytes next w f =
    goes_on Are n (string_bytes key) (view value) (members_view left) (members_view all) before now new
    (subst (λ es. Walks Are n (members_view es) (members_view all) before now) next w)
    (subst (λ k. Adds (Are n k (view value)) now new) bytes f)

pub loop_ends : (Are : ℕ → List ℕ → Data → Found → Type 0) (n : ℕ) (entries all : Entries) (before now : Found) → entries ≡ []
    → Walks Are n (members_view entries) (members_view all) before now → Adds (AreFaultsOfAll Are 0 (members_view all)) before now
loop_ends Are n entries all before now none w =
    let at_end = subst (λ es. Walks Are n (members_view es) (members_view all) before now) none w in
    at_end.on now (record { own = []; are = refl; is = sym (append-nil now) })

-- ---- the keys of an entry that don't suit it

-- what the rest adds is what all add
abbrev pub Unsuited : (List ℕ → Data → Bool) → (List ℕ → EntryFault) → Members → Members → Found → Found → Type 0
Unsuited suits fault left all before now =
    now ++ map fault (unsuited_keys suits left) ≡ before ++ map fault (unsuited_keys suits all)

key_step : (fault : List ℕ → EntryFault) (b : Bool) (key : List ℕ) (keys : List (List ℕ)) (now new whole : Found)
    → new ≡ now ++ (if b then [] else fault key ∷ []) → now ++ map fault (if b then keys else key ∷ keys) ≡ whole → new ++ map fault keys ≡ whole
key_step fault true key keys now new whole more h = ap (λ t. t ++ map fault keys) (more ∙ append-nil now) ∙ h
key_step fault false key keys now new whole more h =
    ap (λ t. t ++ map fault keys) more ∙ append_assoc now (fault key ∷ []) (map fault keys) ∙ h

pub keys_on : (suits : List ℕ → Data → Bool) (fault : List ℕ → EntryFault) (text : List ℕ) (key : String Global) (value : Value) (entries left all : Entries)
    (before now new : Found) → text ≡ string_bytes key → entries ≡ (key, value) ∷ left
    → new ≡ now ++ (if suits text (view value) then [] else fault text ∷ []) → Unsuited suits fault (members_view entries) (members_view all) before now
    → Unsuited suits fault (members_view left) (members_view all) before new
keys_on suits fault text key value entries left all before now new bytes next more h =
    let own = subst (λ k. new ≡ now ++ (if suits k (view value) then [] else fault k ∷ [])) bytes more in
    key_step fault (suits (string_bytes key) (view value)) (string_bytes key) (unsuited_keys suits (members_view left)) now new
    (before ++ map fault (unsuited_keys suits (members_view all))) own
    (subst (λ es. Unsuited suits fault (members_view es) (members_view all) before now) next h)

pub keys_end : (suits : List ℕ → Data → Bool) (fault : List ℕ → EntryFault) (entries all : Entries) (before now : Found) → entries ≡ []
    → Unsuited suits fault (members_view entries) (members_view all) before now → now ≡ before ++ map fault (unsuited_keys suits (members_view all))
keys_end suits fault entries all before now none h =
    sym (append-nil now) ∙ subst (λ es. Unsuited suits fault (members_view es) (members_view all) before now) none h

-- ---- the keys of an entry

pub keys_whole : (whole : Bool) (keys own before now : Found) → whole ≡ true → now ≡ before ++ keys
    → now ≡ before ++ (keys ++ (if whole then [] else own))
keys_whole whole keys own before now is h =
    h ∙ sym (ap (λ b. before ++ (keys ++ (if b then [] else own))) is ∙ ap (λ t. before ++ t) (append-nil keys))

pub keys_lacking : (whole : Bool) (keys own before now new : Found) → whole ≡ false → now ≡ before ++ keys → new ≡ now ++ own
    → new ≡ before ++ (keys ++ (if whole then [] else own))
keys_lacking whole keys own before now new is h more =
    more ∙ ap (λ t. t ++ own) h ∙ append_assoc before keys own ∙ sym (ap (λ b. before ++ (keys ++ (if b then [] else own))) is)

-- ---- an entry that is named

not_some : (b : Bool) (e : Members) → ◌≡◌ {A = Option Members} (if b then None else None) (Some e) → ⊥
not_some true e h = none-some e h
not_some false e h = none-some e h

table_keys : (b : Bool) (own : Found) (keys : Members → Found) (e f : Members) → ◌≡◌ {A = Option Members} (if b then Some e else None) (Some f)
    → (if not b then own else keys e) ≡ keys f
table_keys true own keys e f h = ap keys (same_Some e f h)
table_keys false own keys e f h = absurd (none-some f h)

pub named_keys : (s : Section) (name : List ℕ) (value : Data) (e : Members) → named_entry name value ≡ Some e → key_faults s name value ≡ named_faults s name e
named_keys s name (table f) e h = table_keys (is_name name) (Entry s name ∷ []) (named_faults s name) f e h
named_keys s name (string v) e h = absurd (not_some (is_name name) e h)
named_keys s name (integer v) e h = absurd (not_some (is_name name) e h)
named_keys s name (float v) e h = absurd (not_some (is_name name) e h)
named_keys s name (boolean v) e h = absurd (not_some (is_name name) e h)
named_keys s name (datetime v) e h = absurd (not_some (is_name name) e h)
named_keys s name (array v) e h = absurd (not_some (is_name name) e h)

table_unnamed : (b : Bool) (own keys : Found) (e : Members) → ◌≡◌ {A = Option Members} (if b then Some e else None) None → (if not b then own else keys) ≡ own
table_unnamed true own keys e h = absurd (none-some e (sym h))
table_unnamed false own keys e h = refl

pub unnamed_keys : (s : Section) (name : List ℕ) (value : Data) → named_entry name value ≡ None → key_faults s name value ≡ Entry s name ∷ []
unnamed_keys s name (table e) h = table_unnamed (is_name name) (Entry s name ∷ []) (named_faults s name e) e h
unnamed_keys s name (string v) h = refl
unnamed_keys s name (integer v) h = refl
unnamed_keys s name (float v) h = refl
unnamed_keys s name (boolean v) h = refl
unnamed_keys s name (datetime v) h = refl
unnamed_keys s name (array v) h = refl

-- ---- the limit of an entry

members_are : (name : List ℕ) (value : Data) (e : Members) → named_entry name value ≡ Some e → entry_members value ≡ e
members_are name (table f) e h = table_is (is_name name) f e h where
  table_is : (b : Bool) (f e : Members) → ◌≡◌ {A = Option Members} (if b then Some f else None) (Some e) → f ≡ e
  table_is true f e h = same_Some f e h
  table_is false f e h = absurd (none-some e h)
members_are name (string v) e h = absurd (not_some (is_name name) e h)
members_are name (integer v) e h = absurd (not_some (is_name name) e h)
members_are name (float v) e h = absurd (not_some (is_name name) e h)
members_are name (boolean v) e h = absurd (not_some (is_name name) e h)
members_are name (datetime v) e h = absurd (not_some (is_name name) e h)
members_are name (array v) e h = absurd (not_some (is_name name) e h)

nothing_given : (name : List ℕ) → GivesNoLimit name no_members
nothing_given name = low_missing name no_members (no_value (codes "low") no_members refl)

pub unnamed_lacks : (name : List ℕ) (value : Data) → named_entry name value ≡ None → LacksLimit name value
unnamed_lacks name (table e) h named = absurd (none-some e (sym (ap (λ b. if b then Some e else None) (sym named) ∙ h)))
unnamed_lacks name (string v) h named = nothing_given name
unnamed_lacks name (integer v) h named = nothing_given name
unnamed_lacks name (float v) h named = nothing_given name
unnamed_lacks name (boolean v) h named = nothing_given name
unnamed_lacks name (datetime v) h named = nothing_given name
unnamed_lacks name (array v) h named = nothing_given name

pub limit_there : (r : Option InputLimit) (name own : List ℕ) (value : Data) (e : Members) → own ≡ name → named_entry name value ≡ Some e
    → MatchOption r (GivesNoLimit own e) (IsLimitOf own e) → MatchOption r (LacksLimit name value) (IsLimitOf name (entry_members value))
limit_there None name own value e same at h =
    λ named. subst (λ k. GivesNoLimit k (entry_members value)) same (subst (λ ms. GivesNoLimit own ms) (sym (members_are name value e at)) h)
limit_there (Some l) name own value e same at h =
    subst (λ k. IsLimitOf k (entry_members value) l) same (subst (λ ms. IsLimitOf own ms l) (sym (members_are name value e at)) h)

-- ---- the faults of an input's entry

no_keys : (keys before now : Found) → now ≡ before ++ keys → ¬ (length before < length now) → keys ≡ []
no_keys [] before now is few = refl
no_keys (fault ∷ more) before now is few =
    let longer : length (before ++ (fault ∷ more)) ≡ length before + suc (length more) = simp length-append (omega arith) in
    let same = ap length is in
    absurd (few (omega (arith, longer, same)))

some_keys : (n : ℕ) (name : List ℕ) (value : Data) (keys before now : Found) → now ≡ before ++ keys → length before < length now → AreWithBounds n name value keys keys
some_keys n name value [] before now is more =
    let same = ap length (is ∙ append-nil before) in
    absurd (omega (arith, same))
some_keys n name value (fault ∷ faults) before now is more = refl

pub input_keys : (n : ℕ) (name : List ℕ) (value : Data) (before now : Found) → now ≡ before ++ key_faults Input name value → length before < length now
    → Adds (AreInputFaults n name value) before now
input_keys n name value before now is more =
    record { own = key_faults Input name value; are = some_keys n name value (key_faults Input name value) before now is more; is = is }

-- no key fails
none_fails : (name : List ℕ) (value : Data) → key_faults Input name value ≡ [] → failing_key input_form name value ≡ None
none_fails name value none = subst (First (failing_key input_form name value)) none (key_first Input name value)

pub input_fits : (n room : ℕ) (name : List ℕ) (value : Data) (before now : Found) → now ≡ before ++ key_faults Input name value
    → ¬ (length before < length now) → room ≡ most_inputs - n → IsAccepted room name value → Adds (AreInputFaults n name value) before now
input_fits n room name value before now is few left h =
    let none = no_keys (key_faults Input name value) before now is few in
    let less : n < most_inputs = (let some = h.0 in omega arith) in
    record {
      own = [];
      are = subst (λ keys. AreWithBounds n name value keys []) (sym none) (inl (h.1.0, (none_fails name value none, less, h.1.1), refl));
      is = is ∙ ap (λ keys. before ++ keys) none;
    }

-- whose key is a name where none fails
named : (name : List ℕ) (value : Data) → failing_key input_form name value ≡ None → is_name name ≡ true
named name value none = let whole = is_table input_form name value none in (fit input_form name (entry_members value) (subst (λ v. failing_key input_form name v ≡ None) whole none)).named

pub input_breaks : (n room : ℕ) (name : List ℕ) (value : Data) (before now new : Found) → now ≡ before ++ key_faults Input name value
    → ¬ (length before < length now) → room ≡ most_inputs - n → IsUnaccepted room name value → new ≡ now ++ (Bounds name ∷ [])
    → Adds (AreInputFaults n name value) before new
input_breaks n room name value before now new is few left h more =
    let none = no_keys (key_faults Input name value) before now is few in
    let fits = none_fails name value none in
    record {
      own = Bounds name ∷ [];
      are = subst (λ keys. AreWithBounds n name value keys (Bounds name ∷ [])) (sym none) (inr ((fits, refl, why fits h), refl));
      is = more ∙ ap (λ t. t ++ (Bounds name ∷ [])) (is ∙ ap (λ keys. before ++ keys) none ∙ append-nil before);
    }
  where
    why : failing_key input_form name value ≡ None → IsUnaccepted room name value → (most_inputs ≤ n) ⊎ GivesNoLimit name (entry_members value)
    why fits (inl full) = inl (omega arith)
    why fits (inr lacks) = inr (lacks (named name value fits))

-- ---- one key of an entry

pub key_suits : (b : Bool) (before own : Found) → b ≡ true → before ≡ before ++ (if b then [] else own)
key_suits b before own is = sym (ap (λ c. before ++ (if c then [] else own)) is ∙ append-nil before)

pub key_put : (b : Bool) (before after own : Found) → b ≡ false → after ≡ before ++ own → after ≡ before ++ (if b then [] else own)
key_put b before after own is more = more ∙ sym (ap (λ c. before ++ (if c then [] else own)) is)

-- ---- room for an input

pub room_left : (b : Bool) (room : ℕ) (name : List ℕ) (value : Data) (limit : InputLimit) → IsTrue b ↔ (0 < room)
    → IsLimitOf name (entry_members value) limit → MatchBool b (IsAccepted room name value) (IsUnaccepted room name value)
room_left true room name value limit left h = (left.0 refl, (limit, h))
room_left false room name value limit left h = elim (cases_lt 0 room) [
  | inl more ↦ absurd (false≢true (left.1 more))
  | inr none ↦ inl (omega arith)
]

-- ---- a key of the file

no_table_section : (n : ℕ) (key : List ℕ) (value : Data) → as_table value ≡ None → AreSectionFaults n key value (NoSection key ∷ [])
no_table_section n key (table e) h = absurd (none-some e (sym h))
no_table_section n key (string v) h = refl
no_table_section n key (integer v) h = refl
no_table_section n key (float v) h = refl
no_table_section n key (boolean v) h = refl
no_table_section n key (datetime v) h = refl
no_table_section n key (array v) h = refl

pub no_table_adds : (n : ℕ) (key : List ℕ) (value : Data) (before after : Found) → as_table value ≡ None → after ≡ before ++ (NoSection key ∷ [])
    → Adds (AreSectionFaults n key value) before after
no_table_adds n key value before after none is = record { own = NoSection key ∷ []; are = no_table_section n key value none; is = is }

-- what a table has under a key that is one of the two or is none
abbrev pub SectionIs : Bool → Bool → List ℕ → Members → Found → Type 0
SectionIs bind input key entries found =
    MatchBool bind (AreFaultsOfAll AreBindingFaults 0 entries found)
    (MatchBool input (AreFaultsOfAll AreInputFaults 0 entries found) (found ≡ NoSection key ∷ []))

whole_table : (value : Data) (e : Members) → as_table value ≡ Some e → value ≡ table e
whole_table (table f) e h = ap table (same_Some f e h)
whole_table (string v) e h = absurd (none-some e h)
whole_table (integer v) e h = absurd (none-some e h)
whole_table (float v) e h = absurd (none-some e h)
whole_table (boolean v) e h = absurd (none-some e h)
whole_table (datetime v) e h = absurd (none-some e h)
whole_table (array v) e h = absurd (none-some e h)

section_of : (n : ℕ) (key : List ℕ) (value : Data) (entries : Members) (found : Found) → as_table value ≡ Some entries
    → SectionIs (bytes_eq key (codes "bind")) (bytes_eq key (codes "input")) key entries found → AreSectionFaults n key value found
section_of n key value entries found at h = subst (λ v. AreSectionFaults n key v found) (sym (whole_table value entries at)) h

pub bind_adds : (n : ℕ) (key : List ℕ) (value : Data) (entries : Members) (before after : Found) → as_table value ≡ Some entries
    → bytes_eq key (codes "bind") ≡ true → Adds (AreFaultsOfAll AreBindingFaults 0 entries) before after → Adds (AreSectionFaults n key value) before after
bind_adds n key value entries before after at is h = record {
  own = h.own;
  are = section_of n key value entries h.own at
      (subst (λ b. SectionIs b (bytes_eq key (codes "input")) key entries h.own) (sym is) h.are);
  is = h.is;
}

pub input_adds : (n : ℕ) (key : List ℕ) (value : Data) (entries : Members) (before after : Found) → as_table value ≡ Some entries
    → bytes_eq key (codes "bind") ≡ false → bytes_eq key (codes "input") ≡ true → Adds (AreFaultsOfAll AreInputFaults 0 entries) before after
    → Adds (AreSectionFaults n key value) before after
input_adds n key value entries before after at unbound is h = record {
  own = h.own;
  are = section_of n key value entries h.own at
      (subst (λ b. SectionIs b (bytes_eq key (codes "input")) key entries h.own) (sym unbound)
      (subst (λ c. SectionIs false c key entries h.own) (sym is) h.are));
  is = h.is;
}

pub other_adds : (n : ℕ) (key : List ℕ) (value : Data) (entries : Members) (before after : Found) → as_table value ≡ Some entries
    → bytes_eq key (codes "bind") ≡ false → bytes_eq key (codes "input") ≡ false → after ≡ before ++ (NoSection key ∷ [])
    → Adds (AreSectionFaults n key value) before after
other_adds n key value entries before after at unbound uninput is = record {
  own = NoSection key ∷ [];
  are = section_of n key value entries (NoSection key ∷ []) at
      (subst (λ b. SectionIs b (bytes_eq key (codes "input")) key entries (NoSection key ∷ [])) (sym unbound)
      (subst (λ c. SectionIs false c key entries (NoSection key ∷ [])) (sym uninput) refl));
  is = is;
}
