-- The faults of names, one after the other.
use Rattle.std.proofs.Common.{◌≡◌, ℕ, Bool, true, false, not, ◌||◌, List, [], ◌∷◌, ◌++◌, map, Some, None, Result, Ok, Err, refl, sym, ap, ap₂, subst, ◌∙◌, append-nil, append_assoc, true≢false}
use Rattle.std.specs.Prelude.{if◌then◌else◌}
use Rattle.std.specs.List.{list_any}
use Rattle.std.specs.Option.{option_map_or, option_to_list}
use Rattle.std.specs.Str.{bytes_eq}
use Rattle.std.proofs.lemmas.Bool.{or_parts, or_right}
use Rattle.std.proofs.lemmas.List.{map-append}
use Rattle.std.proofs.lemmas.List.Folds.{list_any-append}
use Rattle.std.proofs.lemmas.Slice.Eq.{bytes_eq-Decides}
use Rattle.pap_tree.specs.declared.plan.PlanText.{PlanText}
use Rattle.pap_tree.specs.Declarations.{Declaration}
use Rattle.pap_tree.specs.Flowchart.{Routine, Flowchart, flowchart_of}
use Rattle.pap_tree.specs.Names.{main_name}
use Rattle.pap_types.specs.declared.fault.TypeFault.{TypeFault}
use Rattle.pap_types.specs.declared.fault.TypeFault.TheVariants as faults
use Rattle.pap_types.specs.declared.scope.Names.{Names}
use Rattle.pap_types.specs.Scopes.{names_of, variables_of}
use Rattle.pap_types.specs.Routines.{method_names}
use Rattle.pap_types.specs.Typing.{declarations_of}
use Rattle.pap_types.specs.Checks.{Check, first_fault, has_name, is_of_type, declaration_checks, method_checks}
use Rattle.pap_types.specs.AllFaults.{own_fault, declaration_faults, method_name_faults, is_twice}
use Rattle.pap_types.specs.private.DeclarationViews.{UnlessMemory, IsAdded, IsDeclared, IsPlaced}
use Rattle.pap_types.specs.private.FaultViews.{KeepsFault, FindsNames, as_declaration, AreNameFaults}
use Rattle.pap_types.specs.private.StatementViews.{IsVerdict}
use Rattle.pap_types.proofs.NamingLemmas.{always}

-- ---- a verdict on checks

kept_fault : (cs : List Check) (f : TypeFault) (before after : List TypeFault) → UnlessMemory f (first_fault cs ≡ Some f) → KeepsFault (Err f) before after
    → after ≡ before ++ own_fault cs
kept_fault cs (faults.Memory e) before after h k = absurd k
kept_fault cs (faults.Twice x) before after h k = k ∙ ap (λ o. before ++ option_to_list o) (sym h)
kept_fault cs (faults.Unknown x p) before after h k = k ∙ ap (λ o. before ++ option_to_list o) (sym h)
kept_fault cs (faults.Kind p) before after h k = k ∙ ap (λ o. before ++ option_to_list o) (sym h)
kept_fault cs (faults.ConstantWritten p) before after h k = k ∙ ap (λ o. before ++ option_to_list o) (sym h)
kept_fault cs (faults.NoMethod p) before after h k = k ∙ ap (λ o. before ++ option_to_list o) (sym h)
kept_fault cs (faults.Value x) before after h k = k ∙ ap (λ o. before ++ option_to_list o) (sym h)

-- what was kept of a verdict is the fault of its checks
pub kept_own : (cs : List Check) (r : Result (Unit {0}) TypeFault) (before after : List TypeFault) → IsVerdict cs r → KeepsFault r before after
    → after ≡ before ++ own_fault cs
kept_own cs (Ok u) before after h k = k ∙ sym (append-nil before) ∙ ap (λ o. before ++ option_to_list o) (sym h)
kept_own cs (Err f) before after h k = kept_fault cs f before after (always f (first_fault cs ≡ Some f) h) k

-- ---- names that are known

-- the same names are among these and those
abbrev HaveSame : List (List ℕ) → List (List ℕ) → Type 0
HaveSame a b = (x : List ℕ) → has_name a x ≡ has_name b x

name_more : (a : List (List ℕ)) (y x : List ℕ) → has_name (a ++ (y ∷ [])) x ≡ (has_name a x || has_name (y ∷ []) x)
name_more a y x = list_any-append (bytes_eq x) a (y ∷ [])

same_more : (a b : List (List ℕ)) (y : List ℕ) → HaveSame a b → HaveSame (a ++ (y ∷ [])) (b ++ (y ∷ []))
same_more a b y h x = name_more a y x ∙ ap (λ t. t || has_name (y ∷ []) x) (h x) ∙ sym (name_more b y x)

or_nothing : (t : Bool) → (t || (false || false)) ≡ t
or_nothing true = refl
or_nothing false = refl

-- a name that is known adds none
known_same : (a : List (List ℕ)) (y : List ℕ) → has_name a y ≡ true → HaveSame (a ++ (y ∷ [])) a
known_same a y known x = name_more a y x ∙ by_test (bytes_eq x y) refl
  where
    by_test : (t : Bool) → bytes_eq x y ≡ t → (has_name a x || (t || false)) ≡ has_name a x
    by_test true e = (let k : has_name a x ≡ true = ap (has_name a) ((bytes_eq-Decides x y).0 e) ∙ known in rw k refl)
    by_test false e = or_nothing (has_name a x)

-- the fault of a declaration, where its name is taken or not
abbrev fault_if : Declaration → Bool → List TypeFault
fault_if d taken =
    option_to_list (if not taken then (if option_map_or (is_of_type d.kind) d.value true then None else Some (faults.Value d.name)) else Some (faults.Twice d.name))

same_faults : (a b : List (List ℕ)) (ds : List Declaration) → HaveSame a b → declaration_faults a ds ≡ declaration_faults b ds
same_faults a b [] h = refl
same_faults a b (d ∷ ds) h =
    ap₂ (λ x y. x ++ y) (ap (fault_if d) (h d.name)) (same_faults (a ++ (d.name ∷ [])) (b ++ (d.name ∷ [])) ds (same_more a b d.name h))

-- ---- lists of declarations

no_twice_before : (after before more : List TypeFault) → after ++ [] ≡ before ++ more → list_any is_twice after ≡ false → list_any is_twice before ≡ false
no_twice_before after before more e h =
    (or_parts (list_any is_twice before) (list_any is_twice more)
    (sym (list_any-append is_twice before more) ∙ ap (list_any is_twice) (sym e ∙ append-nil after) ∙ h)).0

pub finds_none : (earlier old : List (List ℕ)) (before : List TypeFault) → FindsNames earlier old old before before []
finds_none earlier old before = record { faults = λ rest. refl; names = λ none. sym (append-nil old) }

pub finds_both : (earlier a b c : List (List ℕ)) (k l m : List TypeFault) (xs ys : List Declaration) → FindsNames earlier a b k l xs
    → FindsNames earlier b c l m ys → FindsNames earlier a c k m (xs ++ ys)
finds_both earlier a b c k l m xs ys h g = record {
  faults = λ rest. g.faults rest ∙ h.faults (ys ++ rest) ∙ ap (λ ds. k ++ declaration_faults (earlier ++ a) ds) (sym (append_assoc xs ys rest));
  names = λ none.
      g.names none
      ∙ ap (λ ns. ns ++ names_of ys) (h.names (no_twice_before m l (declaration_faults (earlier ++ b) (ys ++ [])) (g.faults []) none))
      ∙ append_assoc a (names_of xs) (names_of ys)
      ∙ ap (λ ns. a ++ ns) (sym (map-append (λ (d : Declaration). d.name) xs ys));
}

-- what is found in the declarations that are left is, behind what was found, what is found in all
pub record NamesGoOn (earlier old now : List (List ℕ)) (before found : List TypeFault) (all left : List Declaration) : Type 0 where
  pub on : (new : List (List ℕ)) (after : List TypeFault) → FindsNames earlier now new found after left → FindsNames earlier old new before after all

pub names_begin : (earlier old : List (List ℕ)) (before : List TypeFault) (all : List Declaration) → NamesGoOn earlier old old before before all all
names_begin earlier old before all = record { on = λ new after h. h }

pub names_go_on : (earlier old now new : List (List ℕ)) (before found after : List TypeFault) (all left : List Declaration) (d : Declaration)
    → NamesGoOn earlier old now before found all (d ∷ left) → FindsNames earlier now new found after (d ∷ []) → NamesGoOn earlier old new before after all left
names_go_on earlier old now new before found after all left d h f = record {
  on = λ last told k. h.on last told (finds_both earlier now new last found after told (d ∷ []) left f k);
}

pub names_end : (earlier old now : List (List ℕ)) (before found : List TypeFault) (all left : List Declaration) → left ≡ []
    → NamesGoOn earlier old now before found all left → FindsNames earlier old now before found all
names_end earlier old now before found all left none h =
    (subst (λ l. NamesGoOn earlier old now before found all l) none h).on now found (finds_none earlier now found)

-- ---- one declaration

module _ (earlier old new : List (List ℕ)) (before after : List TypeFault) (d : Declaration) where
  abbrev own : List TypeFault
  own = own_fault (declaration_checks (earlier ++ old) (d ∷ []))

  abbrev behind : List Declaration → List TypeFault
  behind rest = declaration_faults ((earlier ++ old) ++ (d.name ∷ [])) rest

  found_placed : after ≡ before ++ own → new ≡ old ++ (d.name ∷ []) → FindsNames earlier old new before after (d ∷ [])
  found_placed kept placed = record {
    faults = λ rest.
        ap₂ (λ l ns. l ++ declaration_faults ns rest) kept (ap (λ ns. earlier ++ ns) placed ∙ sym (append_assoc earlier old (d.name ∷ [])))
        ∙ append_assoc before own (behind rest);
    names = λ none. placed;
  }

  twice_told : after ≡ before ++ own → has_name (earlier ++ old) d.name ≡ true → list_any is_twice after ≡ true
  twice_told kept taken =
      ap (list_any is_twice) (kept ∙ ap (λ l. before ++ l) (ap (fault_if d) taken))
      ∙ list_any-append is_twice before (faults.Twice d.name ∷ [])
      ∙ or_right (list_any is_twice before) true refl

  found_taken : after ≡ before ++ own → has_name (earlier ++ old) d.name ≡ true → new ≡ old → FindsNames earlier old new before after (d ∷ [])
  found_taken kept taken same = record {
    faults = λ rest.
        ap₂ (λ l ns. l ++ declaration_faults (earlier ++ ns) rest) kept same
        ∙ ap (λ l. (before ++ own) ++ l) (sym (same_faults ((earlier ++ old) ++ (d.name ∷ [])) (earlier ++ old) rest (known_same (earlier ++ old) d.name taken)))
        ∙ append_assoc before own (behind rest);
    names = λ none. absurd (true≢false (sym (twice_told kept taken) ∙ none));
  }

  pub found_declared : (r : Result (Unit {0}) TypeFault) → IsDeclared earlier old new d r → IsPlaced earlier old new d.name r → KeepsFault r before after
      → FindsNames earlier old new before after (d ∷ [])
  found_declared (Ok u) h p k = found_placed (k ∙ sym (append-nil before) ∙ ap (λ o. before ++ option_to_list o) (sym (h.1 []))) p
  found_declared (Err (faults.Memory e)) h p k = absurd k
  found_declared (Err (faults.Value x)) h p k = found_placed (k ∙ ap (λ o. before ++ option_to_list o) (sym (h []))) p
  found_declared (Err (faults.Twice x)) h p k = found_taken (k ∙ ap (λ o. before ++ option_to_list o) (sym (h []))) p.0 p.1
  found_declared (Err (faults.Unknown x q)) h p k = absurd p
  found_declared (Err (faults.Kind q)) h p k = absurd p
  found_declared (Err (faults.ConstantWritten q)) h p k = absurd p
  found_declared (Err (faults.NoMethod q)) h p k = absurd p

-- ---- the name of a method

same_rest : (x : List ℕ) (a b : List (List ℕ)) → x ∷ a ≡ x ∷ b → a ≡ b
same_rest x a b e = cc

module _ (old new : List (List ℕ)) (before after : List TypeFault) (m : Routine) where
  taken_name : (f : TypeFault) → (has_name (main_name ∷ old) m.name ≡ true) × (f ≡ faults.Twice m.name) × (main_name ∷ new ≡ main_name ∷ old)
      → after ≡ before ++ (f ∷ []) → FindsNames (main_name ∷ []) old new before after (as_declaration m ∷ [])
  taken_name f h k =
      found_taken (main_name ∷ []) old new before after (as_declaration m)
      (k ∙ ap (λ g. before ++ (g ∷ [])) h.1 ∙ ap (λ l. before ++ l) (sym (ap (fault_if (as_declaration m)) h.0))) h.0 (same_rest main_name new old h.2)

  pub found_name : (r : Result (Unit {0}) TypeFault) → IsAdded (main_name ∷ old) (main_name ∷ new) m.name r → KeepsFault r before after
      → FindsNames (main_name ∷ []) old new before after (as_declaration m ∷ [])
  found_name (Ok u) h k =
      found_placed (main_name ∷ []) old new before after (as_declaration m)
      (k ∙ sym (append-nil before) ∙ ap (λ l. before ++ l) (sym (ap (fault_if (as_declaration m)) h.0)))
      (same_rest main_name new (old ++ (m.name ∷ [])) h.1)
  found_name (Err (faults.Memory e)) h k = absurd k
  found_name (Err (faults.Value x)) h k = taken_name (faults.Value x) h k
  found_name (Err (faults.Twice x)) h k = taken_name (faults.Twice x) h k
  found_name (Err (faults.Unknown x q)) h k = taken_name (faults.Unknown x q) h k
  found_name (Err (faults.Kind q)) h k = taken_name (faults.Kind q) h k
  found_name (Err (faults.ConstantWritten q)) h k = taken_name (faults.ConstantWritten q) h k
  found_name (Err (faults.NoMethod q)) h k = taken_name (faults.NoMethod q) h k

-- ---- all names of a plan

named_faults : (a : List (List ℕ)) (ms : List Routine) → declaration_faults a (map as_declaration ms) ≡ method_name_faults a ms
named_faults a [] = refl
named_faults a (m ∷ ms) = ap (λ l. own_fault (method_checks a (m ∷ [])) ++ l) (named_faults (a ++ (m.name ∷ [])) ms)

names_as : (ms : List Routine) → names_of (map as_declaration ms) ≡ method_names ms
names_as [] = refl
names_as (m ∷ ms) = ap (λ l. m.name ∷ l) (names_as ms)

all_declarations : (f : Flowchart) → variables_of f ++ f.constants ≡ declarations_of f
all_declarations f =
    append_assoc f.inputs (f.outputs ++ f.internals) f.constants ∙ ap (λ l. f.inputs ++ l) (append_assoc f.outputs f.internals f.constants)

module _ (plan : PlanText) (names : Names) (none old before start : List (List ℕ)) (a b c d : List TypeFault)
    (n : none ≡ []) (o : old ≡ []) (s : before ≡ []) (t : start ≡ []) (e : a ≡ [])
    (variables : FindsNames none old names.variables a b (variables_of (flowchart_of plan)))
    (constants : FindsNames names.variables before names.constants b c (flowchart_of plan).constants)
    (methods : FindsNames (main_name ∷ []) start names.methods c d (map as_declaration (flowchart_of plan).methods)) where
  abbrev f : Flowchart
  f = flowchart_of plan

  declared_found : c ≡ declaration_faults [] (declarations_of f)
  declared_found =
      sym (append-nil c)
      ∙ constants.faults []
      ∙ ap₂ (λ ns ds. b ++ declaration_faults ns ds) (ap (λ ns. names.variables ++ ns) s ∙ append-nil names.variables) (append-nil f.constants)
      ∙ ap (λ ns. b ++ declaration_faults ns f.constants) (sym (ap (λ ns. ns ++ names.variables) n))
      ∙ variables.faults f.constants
      ∙ ap₂ (λ l ns. l ++ declaration_faults ns (variables_of f ++ f.constants)) e (ap₂ (λ x y. x ++ y) n o)
      ∙ ap (declaration_faults []) (all_declarations f)

  -- where no name of all stands twice, none does of the declarations, or of the variables
  constants_free : list_any is_twice d ≡ false → list_any is_twice c ≡ false
  constants_free = no_twice_before d c (declaration_faults ((main_name ∷ []) ++ start) (map as_declaration f.methods ++ [])) (methods.faults [])

  variables_free : list_any is_twice d ≡ false → list_any is_twice b ≡ false
  variables_free h = no_twice_before c b (declaration_faults (names.variables ++ before) (f.constants ++ [])) (constants.faults []) (constants_free h)

  pub all_named : AreNameFaults plan names d
  all_named = record {
    are =
        sym (append-nil d)
        ∙ methods.faults []
        ∙ ap₂ (λ l k. l ++ k) declared_found
        (ap₂ (λ ns ds. declaration_faults (main_name ∷ ns) ds) t (append-nil (map as_declaration f.methods)) ∙ named_faults (main_name ∷ []) f.methods);
    numbered = λ free. record {
      variables = variables.names (variables_free free) ∙ ap (λ ns. ns ++ names_of (variables_of f)) o;
      constants = constants.names (constants_free free) ∙ ap (λ ns. ns ++ names_of f.constants) s;
      methods = methods.names free ∙ ap (λ ns. ns ++ names_of (map as_declaration f.methods)) t ∙ names_as f.methods;
    };
  }
