-- Names by number: where a name stands among the variables and in an environment that has their values.
use Rattle.std.proofs.Common.{◌≡◌, ℕ, suc, ◌+◌, ◌<◌, List, [], ◌∷◌, ◌++◌, length, map, Bool, true, false, Option, Some, None, if◌then◌else◌, refl, sym, ap, ◌∙◌, arith, cond, nat_lt, ◌⊎◌, inl, inr, get_or}
use Rattle.std.specs.Prelude.{slice_get, slice_set, not, ⊤}
use Rattle.std.specs.List.{position_or_len}
use Rattle.std.specs.Option.{option_map}
use Rattle.std.specs.Str.{bytes_eq}
use Rattle.std.proofs.lemmas.Bool.{cases_lt, cases_Bool}
use Rattle.std.proofs.lemmas.Bool.Decides.{nat_tests, same_from_decides}
use Rattle.std.proofs.lemmas.Slice.Eq.{bytes_eq-Decides}
use Rattle.scaled_decimal.specs.Decimals.{Decimal, scale_of}
use Rattle.pap_tree.specs.Declarations.{Declaration}
use Rattle.pap_types.specs.Scopes.{declared_as, names_of, number_of}
use Rattle.pap_types.specs.Kinds.{declared_kind, is_whole}
use Rattle.pap_types.specs.Values.{Env, Variable, look, put_value}
use Rattle.pap_types.specs.Typing.{AreDistinct}

-- ---- names that are the same

pub same_bytes : (a b : List ℕ) → bytes_eq a b ≡ true → a ≡ b
same_bytes a b = (bytes_eq-Decides a b).0

pub bytes_same : (a : List ℕ) → bytes_eq a a ≡ true
bytes_same a = (bytes_eq-Decides a a).1 refl

pub bytes_swap : (a b : List ℕ) → bytes_eq a b ≡ bytes_eq b a
bytes_swap a b = same_from_decides (bytes_eq a b) (bytes_eq b a) (bytes_eq-Decides a b) (λ h. sym (same_bytes b a h), λ e. (bytes_eq-Decides b a).1 (sym e))

-- ---- the number of a name, by recursion

abbrev pub place_of : List (List ℕ) → List ℕ → Option ℕ
place_of [] x = None
place_of (n ∷ ns) x = if bytes_eq x n then Some 0 else option_map suc (place_of ns x)

one_behind : (at n : ℕ) → cond (nat_lt (1 + at) (suc n)) (Some (1 + at)) None ≡ option_map suc (cond (nat_lt at n) (Some at) None)
one_behind at n = elim (cases_lt at n) [
  | inl less ↦ (let s : nat_lt (1 + at) (suc n) ≡ true = grind (arith, nat_tests) in
      let t : nat_lt at n ≡ true = grind (arith, nat_tests) in
      let e : 1 + at ≡ suc at = omega arith in
      rw (s, t) (ap Some e))
  | inr past ↦ (let s : nat_lt (1 + at) (suc n) ≡ false = grind (arith, nat_tests) in
      let t : nat_lt at n ≡ false = grind (arith, nat_tests) in
      rw (s, t) refl)
]

pub number_is : (names : List (List ℕ)) (x : List ℕ) → number_of names x ≡ place_of names x
number_is [] x = refl
number_is (n ∷ ns) x = by_name (bytes_eq x n) (number_is ns x)
  where
    by_name : (t : Bool) → number_of ns x ≡ place_of ns x → cond (nat_lt (cond (not t) (1 + position_or_len (bytes_eq x) ns) 0) (length (n ∷ ns))) (Some (cond (not t) (1 + position_or_len (bytes_eq x) ns) 0)) None ≡ (if t then Some 0 else option_map suc (place_of ns x))
    by_name true later = let s : nat_lt 0 (length (n ∷ ns)) ≡ true = grind (arith, nat_tests) in rw s refl
    by_name false later = one_behind (position_or_len (bytes_eq x) ns) (length ns) ∙ ap (option_map suc) later

-- ---- values by number

abbrev pub values_of : Env → List Decimal
values_of env = map (λ v. v.value) env

-- the environment has the variables with their names, and whole numbers where they are declared so
abbrev pub AreHeld : List Declaration → Env → Type 0
AreHeld [] [] = ⊤
AreHeld (d ∷ ds) (v ∷ vs) = (v.name ≡ d.name) × (is_whole (declared_kind d.kind) ≡ true → scale_of v.value ≡ 0) × AreHeld ds vs
AreHeld _ _ = ⊥

-- a name that no variable has
pub record IsMissing (ds : List Declaration) (env : Env) (x : List ℕ) : Type 0 where
  pub declared : declared_as ds x ≡ None
  pub looks : look env x ≡ None
  pub number : place_of (names_of ds) x ≡ None

-- a variable's name
pub record IsFound (ds : List Declaration) (env : Env) (x : List ℕ) : Type 0 where
  pub declaration : Declaration
  pub declared : declared_as ds x ≡ Some declaration
  pub at : ℕ
  pub number : place_of (names_of ds) x ≡ Some at
  pub value : Decimal
  pub looks : look env x ≡ Some value
  pub within : at < length (values_of env)
  pub there : slice_get (values_of env) at ≡ Some value
  pub whole : is_whole (declared_kind declaration.kind) ≡ true → scale_of value ≡ 0
  pub puts : (e : Decimal) → slice_set (values_of env) at e ≡ values_of (put_value env x e)
  pub keeps : (e : Decimal) → (is_whole (declared_kind declaration.kind) ≡ true → scale_of e ≡ 0) → AreHeld ds (put_value env x e)

module _ (d : Declaration) (ds : List Declaration) (v : Variable) (vs : Env) (x : List ℕ) (name : v.name ≡ d.name) (whole : is_whole (declared_kind d.kind) ≡ true → scale_of v.value ≡ 0) (held : AreHeld ds vs) where
  here : bytes_eq x d.name ≡ true → bytes_eq v.name x ≡ true → IsFound (d ∷ ds) (v ∷ vs) x
  here s t = record {
    declaration = d;
    declared = rw s refl;
    at = 0;
    number = rw s refl;
    value = v.value;
    looks = rw t refl;
    within = omega arith;
    there = refl;
    whole = whole;
    puts = λ e. rw t refl;
    keeps = λ e w. rw t (name, w, held);
  }

  there : bytes_eq x d.name ≡ false → bytes_eq v.name x ≡ false → IsFound ds vs x → IsFound (d ∷ ds) (v ∷ vs) x
  there s t f = record {
    declaration = f.declaration;
    declared = rw s f.declared;
    at = suc f.at;
    number = rw (s, f.number) refl;
    value = f.value;
    looks = rw t f.looks;
    within = (let l = f.within in omega arith);
    there = f.there;
    whole = f.whole;
    puts = λ e. rw t (ap (λ l. v.value ∷ l) (f.puts e));
    keeps = λ e w. rw t (name, whole, f.keeps e w);
  }

  nowhere : bytes_eq x d.name ≡ false → bytes_eq v.name x ≡ false → IsMissing ds vs x → IsMissing (d ∷ ds) (v ∷ vs) x
  nowhere s t m = record { declared = rw s m.declared; looks = rw t m.looks; number = rw (s, m.number) refl }

  next : IsMissing ds vs x ⊎ IsFound ds vs x → IsMissing (d ∷ ds) (v ∷ vs) x ⊎ IsFound (d ∷ ds) (v ∷ vs) x
  next r = elim (cases_Bool (bytes_eq x d.name)) [
    | inl s ↦ inr (here s (bytes_swap v.name x ∙ ap (bytes_eq x) name ∙ s))
    | inr s ↦ elim r [
      | inl m ↦ inl (nowhere s (bytes_swap v.name x ∙ ap (bytes_eq x) name ∙ s) m)
      | inr f ↦ inr (there s (bytes_swap v.name x ∙ ap (bytes_eq x) name ∙ s) f)
    ]
  ]

pub looked : (ds : List Declaration) (env : Env) (x : List ℕ) → AreHeld ds env → IsMissing ds env x ⊎ IsFound ds env x
looked [] [] x h = inl (record { declared = refl; looks = refl; number = refl })
looked [] (v ∷ vs) x h = absurd h
looked (d ∷ ds) [] x h = absurd h
looked (d ∷ ds) (v ∷ vs) x h = next d ds v vs x h.0 h.1 h.2 (looked ds vs x h.2)

-- ---- declarations

-- a declared name stands among the names
named_at : (ds : List Declaration) (x : List ℕ) (c : Declaration) → declared_as ds x ≡ Some c → (j : ℕ) × ((j < length (names_of ds)) × ((e : List ℕ) → get_or (names_of ds) j e ≡ x))
named_at [] x c is = absurd (cc)
named_at (d ∷ ds) x c is = elim (cases_Bool (bytes_eq x d.name)) [
  | inl s ↦ (0, (omega arith, λ e. sym (same_bytes x d.name s)))
  | inr s ↦ (let k = named_at ds x c (rw s at is) in (suc k.0, (let l = k.1.0 in omega arith, k.1.1)))
]

-- what is declared among the last declarations is declared among all
declared_behind : (vs cs : List Declaration) (x : List ℕ) (c : Declaration) → declared_as cs x ≡ Some c → (d : Declaration) × (declared_as (vs ++ cs) x ≡ Some d)
declared_behind [] cs x c is = (c, is)
declared_behind (d ∷ vs) cs x c is = by_name (bytes_eq x d.name) (declared_behind vs cs x c is)
  where
    by_name : (t : Bool) → (d : Declaration) × (declared_as (vs ++ cs) x ≡ Some d) → (e : Declaration) × ((if t then Some d else declared_as (vs ++ cs) x) ≡ Some e)
    by_name true later = (d, refl)
    by_name false later = later

-- no name is a variable's and a constant's
pub apart : (vs cs : List Declaration) (x : List ℕ) (v c : Declaration) → AreDistinct (names_of (vs ++ cs)) → declared_as vs x ≡ Some v → declared_as cs x ≡ Some c → ⊥
apart [] cs x v c h e f = cc
apart (d ∷ vs) cs x v c h e f = elim (cases_Bool (bytes_eq x d.name)) [
  | inl s ↦ (let k = declared_behind vs cs x c f in
      let j = named_at (vs ++ cs) x k.0 k.1 in
      let less = j.1.0 in
      h 0 (suc j.0) [] (omega arith) (omega arith) (sym (same_bytes x d.name s) ∙ sym (j.1.1 [])))
  | inr s ↦ apart vs cs x v c (λ i j e lt l. h (suc i) (suc j) e (omega (arith, lt)) (omega (arith, l))) (rw s at e) f
]

-- a declaration stands at its number
pub stands_at : {A : Type 0} (f : Declaration → A) (ds : List Declaration) (x : List ℕ) (d : Declaration) → declared_as ds x ≡ Some d → (k : ℕ) × ((place_of (names_of ds) x ≡ Some k) × (slice_get (map f ds) k ≡ Some (f d)))
stands_at f [] x d e = absurd (cc)
stands_at f (c ∷ ds) x d e = elim (cases_Bool (bytes_eq x c.name)) [
  | inl s ↦ (let e' : Some c ≡ Some d = rw s at e in let same : c ≡ d = cc in (0, (rw s refl, ap (λ y. Some (f y)) same)))
  | inr s ↦ (let k = stands_at f ds x d (rw s at e) in (suc k.0, (rw (s, k.1.0) refl, k.1.1)))
]

-- what isn't declared has no number
pub no_number : (ds : List Declaration) (x : List ℕ) → declared_as ds x ≡ None → place_of (names_of ds) x ≡ None
no_number [] x e = refl
no_number (c ∷ ds) x e = elim (cases_Bool (bytes_eq x c.name)) [
  | inl s ↦ (let e' : Some c ≡ None = rw s at e in absurd (cc))
  | inr s ↦ rw (s, no_number ds x (rw s at e)) refl
]
