-- What it means that no key of an entry fails.
use Rattle.std.proofs.Common.{◌≡◌, ℕ, Bool, true, false, not, List, Option, Some, None, if◌then◌else◌, refl, sym, ◌∙◌, Ordering, Less, Equal, Greater, nat_cmp, is_eq}
use Rattle.std.specs.Cmp.Lexicographic.{slice_cmp}
use Rattle.std.specs.List.{list_all}
use Rattle.std.specs.Option.{option_or}
use Rattle.std.specs.Ordering.{match_ordering}
use Rattle.std.proofs.lemmas.Slice.Eq.{bytes_eq-Decides}
use Rattle.std.proofs.lemmas.Map.Text.{is_eq-slice_cmp}
use Rattle.toml.specs.Data.{Data, table, string, integer, float, boolean, datetime, array, Members, no_members, member, get_member}
use Rattle.pap_tree.specs.Names.{is_name}
use Rattle.limits_file.specs.Entries.{EntryForm, has_key, first_unsuited, entry_members, failing_key}

-- two texts that compare as equal are one text
same_text : (k l : List ℕ) → is_eq (slice_cmp nat_cmp k l) ≡ true → k ≡ l
same_text k l e = (bytes_eq-Decides k l).0 (sym (is_eq-slice_cmp k l) ∙ e)

module _ (suits : List ℕ → Data → Bool) where
  all_from : (k : List ℕ) (v : Data) (rest : Members) (b : Bool) → (if b then first_unsuited suits rest else Some k) ≡ None → (b ≡ true) × (first_unsuited suits rest ≡ None)
  all_from k v rest true e = (refl, e)
  all_from k v rest false e = absurd (cc e)

  found_at : (o : Ordering) (k l : List ℕ) (v d : Data) (later : Option Data) → (is_eq o ≡ true → k ≡ l) → suits l v ≡ true → (later ≡ Some d → suits k d ≡ true) → match_ordering o later (Some v) later ≡ Some d → suits k d ≡ true
  found_at Less k l v d later same here more e = more e
  found_at Equal k l v d later same here more e = (let key = same refl in let value : v ≡ d = cc in cc)
  found_at Greater k l v d later same here more e = more e

  -- where each key suits, the one that is looked up does
  pub suited : (ms : Members) (k : List ℕ) (d : Data) → first_unsuited suits ms ≡ None → get_member k ms ≡ Some d → suits k d ≡ true
  suited no_members k d all e = absurd (cc e)
  suited (member l v rest) k d all e =
      let parts = all_from l v rest (suits l v) all in
      found_at (slice_cmp nat_cmp k l) k l v d (get_member k rest) (same_text k l) parts.0 (suited rest k d parts.1) e

-- an entry of which no key fails
pub record IsFit (form : EntryForm) (name : List ℕ) (entry : Members) : Type 0 where
  pub named : is_name name ≡ true
  pub suited : first_unsuited (form.suits entry) entry ≡ None
  pub whole : list_all (has_key entry) (form.needed entry) ≡ true

fit_parts : {X : Type 0} (b : Bool) (o : Option X) (c : Bool) (x : X) → (if not b then Some x else option_or o (if c then None else Some x)) ≡ None → (b ≡ true) × (o ≡ None) × (c ≡ true)
fit_parts true None true x e = (refl, refl, refl)
fit_parts true None false x e = absurd (cc e)
fit_parts true (Some y) c x e = absurd (cc e)
fit_parts false o c x e = absurd (cc e)

pub fit : (form : EntryForm) (name : List ℕ) (entry : Members) → failing_key form name (table entry) ≡ None → IsFit form name entry
fit form name entry e =
    let parts = fit_parts (is_name name) (first_unsuited (form.suits entry) entry) (list_all (has_key entry) (form.needed entry)) name e in
    record { named = parts.0; suited = parts.1; whole = parts.2 }

-- an entry that is no table fails
pub is_table : (form : EntryForm) (name : List ℕ) (value : Data) → failing_key form name value ≡ None → value ≡ table (entry_members value)
is_table form name (table entry) e = refl
is_table form name (string s) e = absurd (cc e)
is_table form name (integer z) e = absurd (cc e)
is_table form name (float x) e = absurd (cc e)
is_table form name (boolean b) e = absurd (cc e)
is_table form name (datetime d) e = absurd (cc e)
is_table form name (array items) e = absurd (cc e)
