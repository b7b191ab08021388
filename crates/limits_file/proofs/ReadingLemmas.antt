-- The walk over a whole file, and what it has found so far.
use Rattle.std.proofs.Common.{◌≡◌, ◌≢◌, ℕ, false, List, [], ◌∷◌, ◌++◌, length, map, String, Global, string_bytes, Less, nat_cmp, Result, Ok, Err, Some, None, codes, refl, sym, ap, ◌∙◌, subst, ◌⊎◌, inl, inr}
use Rattle.std.specs.Prelude.{flat_map}
use Rattle.std.specs.Cmp.Lexicographic.{slice_cmp}
use Rattle.std.specs.Cmp.{tied_itself}
use Rattle.std.proofs.lemmas.Cmp.{nat_list_cmp_total}
use Rattle.std.proofs.lemmas.Grind.{flat_map-append}
use Rattle.std.proofs.lemmas.List.{append-nil}
use Rattle.std.proofs.lemmas.Bool.{false_from_ne_true}
use Rattle.std.proofs.lemmas.Slice.Eq.{bytes_eq-Decides}
use Rattle.std.specs.List.{AllByRecursion}
use Rattle.std.specs.List.Sorted.{IsStrictlySortedBy}
use Rattle.std.specs.Map.{keys_of}
use Rattle.std.specs.String.{string_cmp}
use Rattle.std.specs.Str.{bytes_eq}
use Rattle.toml.specs.declared.value.Value.{Value}
use Rattle.toml.specs.Data.{Data, table, string, integer, float, boolean, datetime, array, Members, as_table}
use Rattle.toml.specs.View.{view, members_view}
use Rattle.limits_file.specs.declared.fault.LimitsFault.{LimitsFault}
use Rattle.limits_file.specs.declared.fault.LimitsFault.TheVariants as answered
use Rattle.limits_file.specs.declared.limits.InputLimit.{InputLimit}
use Rattle.limits_file.specs.declared.limits.Binding.{Binding}
use Rattle.limits_file.specs.declared.limits.Limits.{Limits}
use Rattle.limits_file.specs.private.AnswerViews.{Tells}
use Rattle.limits_file.specs.Labels.{label_of}
use Rattle.limits_file.specs.Faults.{Fault, bad_key}
use Rattle.limits_file.specs.Walks.{AllOrFirstFault, KeysSay}
use Rattle.limits_file.specs.Inputs.{InputSays}
use Rattle.limits_file.specs.Bindings.{BindingSays}
use Rattle.limits_file.specs.RangeFiles.{with_inputs, with_bindings, joined_limits, SectionSays, NamesAscend, NamesAreInOrder}
use Rattle.limits_file.proofs.WalkLemmas.{GoesOn, begins, goes_on, stops, ends}
use Rattle.limits_file.proofs.LoopLemmas.{tells_fault}
use Rattle.limits_file.proofs.OrderLemmas.{Entries}

-- none of the keys is this one
abbrev pub LacksKey : List ℕ → Entries → Type 0
LacksKey key es = AllByRecursion (λ k. string_bytes k ≢ key) (keys_of es)

-- how far the walk has come
pub record Progress (es all : Entries) (limits : Limits) : Type 0 where
  pub parts : List Limits
  pub goes : GoesOn SectionSays parts (members_view es) (members_view all)
  pub whole : joined_limits parts ≡ limits
  pub keys : IsStrictlySortedBy string_cmp (keys_of es)
  pub bindings_last : (limits.bindings ≡ []) ⊎ LacksKey (codes "bind") es
  pub inputs_last : (limits.inputs ≡ []) ⊎ LacksKey (codes "input") es
  pub ordered : NamesAreInOrder limits

none : Limits
none = record { inputs = []; bindings = [] }

in_order_none : NamesAreInOrder none
unfolding none IsStrictlySortedBy
in_order_none = record { inputs = tt; bindings = tt }

pub starts : (all : Entries) (limits : Limits) → limits ≡ record { inputs = []; bindings = [] } → IsStrictlySortedBy string_cmp (keys_of all) → Progress all all limits
unfolding none
starts all limits e sorted = subst (λ l. Progress all all l) (sym e) (record {
  parts = [];
  goes = begins SectionSays (members_view all);
  whole = refl;
  keys = sorted;
  bindings_last = inl refl;
  inputs_last = inl refl;
  ordered = in_order_none;
})

-- after a key, no other is the same
later : (key : String Global) (name : List ℕ) (ks : List (String Global)) → string_bytes key ≡ name → AllByRecursion (λ k. string_cmp key k ≡ Less) ks → AllByRecursion (λ k. string_bytes k ≢ name) ks
later key name [] e below = tt
later key name (k ∷ ks) e below = (
  λ same. (let itself = tied_itself nat_list_cmp_total (string_bytes key) in let equal : string_bytes k ≡ string_bytes key = same ∙ sym e in let less = subst (λ t. slice_cmp nat_cmp (string_bytes key) t ≡ Less) equal below.0 in cc),
  later key name ks e below.1,
)

sorted_head : (key : String Global) (ks : List (String Global)) → IsStrictlySortedBy string_cmp (key ∷ ks) → AllByRecursion (λ k. string_cmp key k ≡ Less) ks
unfolding IsStrictlySortedBy
sorted_head key ks h = h.0

sorted_tail : (key : String Global) (ks : List (String Global)) → IsStrictlySortedBy string_cmp (key ∷ ks) → IsStrictlySortedBy string_cmp ks
unfolding IsStrictlySortedBy
sorted_tail key ks h = h.1

pub same_limits : (l m : Limits) → l.inputs ≡ m.inputs → l.bindings ≡ m.bindings → l ≡ m
same_limits l m inputs bindings = λ i. record { inputs = inputs i; bindings = bindings i }

joined_more : (parts : List Limits) (part : Limits) → joined_limits (parts ++ part ∷ []) ≡ record { inputs = (joined_limits parts).inputs ++ part.inputs; bindings = (joined_limits parts).bindings ++ part.bindings }
joined_more parts part = same_limits _ _
    (flat_map-append (λ p. p.inputs) parts (part ∷ []) ∙ ap (λ xs. flat_map (λ p. p.inputs) parts ++ xs) (append-nil part.inputs))
    (flat_map-append (λ p. p.bindings) parts (part ∷ []) ∙ ap (λ xs. flat_map (λ p. p.bindings) parts ++ xs) (append-nil part.bindings))

free : {A : Type 0} (key : String Global) (name : List ℕ) (found : List A) (rest : Entries) (value : Value) → string_bytes key ≡ name → (found ≡ []) ⊎ LacksKey name ((key, value) ∷ rest) → found ≡ []
free key name found rest value e (inl empty) = empty
free key name found rest value e (inr lacks) = absurd (lacks.0 e)

rest_lacks : {A : Type 0} (key : String Global) (name : List ℕ) (found : List A) (rest : Entries) (value : Value) → (found ≡ []) ⊎ LacksKey name ((key, value) ∷ rest) → (found ≡ []) ⊎ LacksKey name rest
rest_lacks key name found rest value (inl empty) = inl empty
rest_lacks key name found rest value (inr lacks) = inr lacks.1

module _ (es all : Entries) (limits : Limits) (key : String Global) (value : Value) (rest : Entries)
    (before : Progress es all limits) (next : es ≡ (key, value) ∷ rest) where
  here : Progress ((key, value) ∷ rest) all limits
  here = subst (λ l. Progress l all limits) next before

  section_stops : (f : Fault) → ((n : ℕ) → SectionSays n (string_bytes key) (view value) (Err f)) → AllOrFirstFault SectionSays 0 (members_view all) (Err f)
  section_stops f h = stops SectionSays here.parts (string_bytes key) (view value) (members_view rest) (members_view all) f (h (length here.parts)) here.goes

  section_goes : (part : Limits) → ((n : ℕ) → SectionSays n (string_bytes key) (view value) (Ok part)) → GoesOn SectionSays (here.parts ++ part ∷ []) (members_view rest) (members_view all)
  section_goes part h = goes_on SectionSays here.parts (string_bytes key) (view value) (members_view rest) (members_view all) part (h (length here.parts)) here.goes

  section_whole : (part : Limits) → joined_limits (here.parts ++ part ∷ []) ≡ record { inputs = limits.inputs ++ part.inputs; bindings = limits.bindings ++ part.bindings }
  section_whole part = joined_more here.parts part ∙ ap (λ l. with_more l part) here.whole where
    with_more : Limits → Limits → Limits
    with_more l p = record { inputs = l.inputs ++ p.inputs; bindings = l.bindings ++ p.bindings }

  -- a key that is none of the two, or no table
  pub stranger : (e : LimitsFault) → e ≡ answered.Key (label_of (string_bytes key)) → ((n : ℕ) → SectionSays n (string_bytes key) (view value) (Err (bad_key (label_of (string_bytes key))))) → Tells (KeysSay SectionSays joined_limits (members_view all)) (Err e)
  stranger e made h = rw made (section_stops (bad_key (label_of (string_bytes key))) h)

  -- `bind`
  module _ (entries : Members) (named : string_bytes key ≡ codes "bind") (is : view value ≡ table entries) where
    bind_says : (answer : Result Limits Fault) → KeysSay BindingSays with_bindings entries answer → (n : ℕ) → SectionSays n (string_bytes key) (view value) answer
    bind_says answer h n = subst (λ d. SectionSays n (string_bytes key) d answer) (sym is) (subst (λ k. SectionSays n k (table entries) answer) (sym named) h)

    pub bind_stops : (e : LimitsFault) → Tells (AllOrFirstFault BindingSays 0 entries) (Err e) → Tells (KeysSay SectionSays joined_limits (members_view all)) (Err e)
    bind_stops = tells_fault (AllOrFirstFault BindingSays 0 entries) (KeysSay SectionSays joined_limits (members_view all)) (λ f h. section_stops f (bind_says (Err f) h))

    pub bind_goes : (bindings : List Binding) → AllOrFirstFault BindingSays 0 entries (Ok bindings) → NamesAscend (map (λ binding. binding.input) bindings) → Progress rest all (record { inputs = limits.inputs; bindings = bindings })
    bind_goes bindings h ascends = record {
      parts = here.parts ++ with_bindings bindings ∷ [];
      goes = section_goes (with_bindings bindings) (bind_says (Ok (with_bindings bindings)) (bindings, h, refl));
      whole = section_whole (with_bindings bindings) ∙ same_limits _ _ (append-nil limits.inputs) (ap (λ xs. xs ++ bindings) (free key (codes "bind") limits.bindings rest value named here.bindings_last));
      keys = sorted_tail key (keys_of rest) here.keys;
      bindings_last = inr (later key (codes "bind") (keys_of rest) named (sorted_head key (keys_of rest) here.keys));
      inputs_last = rest_lacks key (codes "input") limits.inputs rest value here.inputs_last;
      ordered = record { inputs = here.ordered.inputs; bindings = ascends };
    }

  -- `input`
  module _ (entries : Members) (named : string_bytes key ≡ codes "input") (is : view value ≡ table entries) where
    input_says : (answer : Result Limits Fault) → KeysSay InputSays with_inputs entries answer → (n : ℕ) → SectionSays n (string_bytes key) (view value) answer
    input_says answer h n = subst (λ d. SectionSays n (string_bytes key) d answer) (sym is) (subst (λ k. SectionSays n k (table entries) answer) (sym named) h)

    pub input_stops : (e : LimitsFault) → Tells (AllOrFirstFault InputSays 0 entries) (Err e) → Tells (KeysSay SectionSays joined_limits (members_view all)) (Err e)
    input_stops = tells_fault (AllOrFirstFault InputSays 0 entries) (KeysSay SectionSays joined_limits (members_view all)) (λ f h. section_stops f (input_says (Err f) h))

    pub input_goes : (inputs : List InputLimit) → AllOrFirstFault InputSays 0 entries (Ok inputs) → NamesAscend (map (λ limit. limit.name) inputs) → Progress rest all (record { inputs = inputs; bindings = limits.bindings })
    input_goes inputs h ascends = record {
      parts = here.parts ++ with_inputs inputs ∷ [];
      goes = section_goes (with_inputs inputs) (input_says (Ok (with_inputs inputs)) (inputs, h, refl));
      whole = section_whole (with_inputs inputs) ∙ same_limits _ _ (ap (λ xs. xs ++ inputs) (free key (codes "input") limits.inputs rest value named here.inputs_last)) (append-nil limits.bindings);
      keys = sorted_tail key (keys_of rest) here.keys;
      bindings_last = rest_lacks key (codes "bind") limits.bindings rest value here.bindings_last;
      inputs_last = inr (later key (codes "input") (keys_of rest) named (sorted_head key (keys_of rest) here.keys));
      ordered = record { inputs = ascends; bindings = here.ordered.bindings };
    }

-- the walk is over
pub whole_says : (es all : Entries) (limits : Limits) → Progress es all limits → es ≡ [] → KeysSay SectionSays joined_limits (members_view all) (Ok limits)
whole_says es all limits p e =
    let over = subst (λ l. GoesOn SectionSays p.parts (members_view l) (members_view all)) e p.goes in
    (p.parts, ends SectionSays p.parts (members_view all) over, sym p.whole)

pub no_section : (n : ℕ) (name : List ℕ) (entries : Members) → bytes_eq name (codes "bind") ≡ false → bytes_eq name (codes "input") ≡ false → SectionSays n name (table entries) (Err (bad_key (label_of name)))
no_section n name entries bind input = rw (bind, input) refl

pub no_table : (n : ℕ) (name : List ℕ) (d : Data) → as_table d ≡ None → SectionSays n name d (Err (bad_key (label_of name)))
no_table n name (table entries) e = absurd (cc e)
no_table n name (string x) e = refl
no_table n name (integer x) e = refl
no_table n name (float x) e = refl
no_table n name (boolean x) e = refl
no_table n name (datetime x) e = refl
no_table n name (array x) e = refl

pub is_table : (d : Data) (entries : Members) → as_table d ≡ Some entries → d ≡ table entries
is_table (table entries) m e = ap table (cc e)
is_table (string x) m e = absurd (cc e)
is_table (integer x) m e = absurd (cc e)
is_table (float x) m e = absurd (cc e)
is_table (boolean x) m e = absurd (cc e)
is_table (datetime x) m e = absurd (cc e)
is_table (array x) m e = absurd (cc e)

pub other_text : (a b : List ℕ) → (a ≡ b → ⊥) → bytes_eq a b ≡ false
other_text a b apart = false_from_ne_true (bytes_eq a b) (λ e. apart ((bytes_eq-Decides a b).0 e))
