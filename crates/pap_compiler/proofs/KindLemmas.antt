-- What the kind of an expression says of its value: a truth is 1 or 0, and a whole number has no places.
use Rattle.std.proofs.Common.{◌≡◌, ℕ, List, Bool, true, false, Option, Some, None, if◌then◌else◌, refl, sym, ◌∙◌, subst, ◌⊎◌, inl, inr}
use Rattle.std.specs.Prelude.{◌&&◌, ◌||◌, not}
use Rattle.std.specs.Option.{option_map, option_map_or, option_and_then}
use Rattle.std.specs.List.{All}
use Rattle.scaled_decimal.specs.Decimals.{Decimal, scale_of}
use Rattle.scaled_decimal.specs.WholeNumbers.{truth}
use Rattle.pap_tree.specs.declared.declaration.Kind.{Kind as DeclaredKind}
use Rattle.pap_tree.specs.declared.declaration.Kind.TheVariants as declares
use Rattle.pap_tree.specs.declared.expression.Unary.TheVariants.{Minus, Not, Negate, Abs}
use Rattle.pap_tree.specs.declared.expression.Binary.{Binary}
use Rattle.pap_tree.specs.declared.expression.Binary.TheVariants as binaries
use Rattle.pap_tree.specs.declared.expression.Call.TheVariants as calls
use Rattle.pap_tree.specs.Term.{whole, long, point, text, known, named, Term, leaf, item, one, two, choice, unary, value_of, value_of_scaled, new_big, set_scale, Two, operator, method, divide}
use Rattle.pap_tree.specs.Declarations.{Declaration, DeclaredLiteral, number, big, table}
use Rattle.pap_types.specs.declared.kinds.NodeKind.{NodeKind}
use Rattle.pap_types.specs.declared.kinds.NodeKind.TheVariants.{Int, Long, Big, Truth, Fraction, Factor, Table}
use Rattle.pap_types.specs.Scopes.{Scope, declared_as, declaration_in, first_value, kept_as, declared_decimal}
use Rattle.pap_types.specs.Kinds.{kind_of, name_kind, declared_kind, wider, is_whole, is_int, is_big, is_truth, are_parts}
use Rattle.pap_types.specs.Operations.{is_zero, of_two, unless_zero, comparison_value}
use Rattle.pap_types.specs.Values.{Env, value, named_value, goes_right}
use Rattle.pap_types.specs.Checks.{is_of_type}
use Rattle.pap_types.specs.Typing.{IsTypedTerm, HasItsType}
use Rattle.pap_types.proofs.Laws.{declared_type}
use Rattle.pap_compiler.proofs.NameLemmas.{AreHeld, looked}

pub both_true : (a b : Bool) → (a && b) ≡ true → (a ≡ true) × (b ≡ true)
both_true true b h = (refl, h)
both_true false b h = absurd (cc)

-- ---- values that are there

pub and_then_some : {A B : Type 0} (go : A → Option B) (o : Option A) (d : B) → option_and_then go o ≡ Some d → (a : A) × ((o ≡ Some a) × (go a ≡ Some d))
and_then_some go None d e = absurd (cc)
and_then_some go (Some a) d e = (a, (refl, e))

pub map_some : {A B : Type 0} (f : A → B) (o : Option A) (d : B) → option_map f o ≡ Some d → (a : A) × ((o ≡ Some a) × (f a ≡ d))
map_some f None d e = absurd (cc)
map_some f (Some a) d e = (a, (refl, (cc)))

pub some_is : {A : Type 0} (x y : A) → Some x ≡ Some y → x ≡ y
some_is x y e = cc

pub unless_some : (b x d : Decimal) → unless_zero b x ≡ Some d → (is_zero b ≡ false) × (x ≡ d)
unless_some b x d e = by_zero (is_zero b) refl e
  where
    by_zero : (z : Bool) → is_zero b ≡ z → (if z then None else Some x) ≡ Some d → (is_zero b ≡ false) × (x ≡ d)
    by_zero true is e = absurd (cc)
    by_zero false is e = (is, (cc))

-- ---- kinds

pub no_truth : (k : NodeKind) → is_whole k ≡ true → is_truth k ≡ true → ⊥
no_truth Int h e = cc
no_truth Long h e = cc
no_truth Big h e = cc
no_truth Truth h e = cc
no_truth Fraction h e = cc
no_truth Factor h e = cc
no_truth Table h e = cc

pub int_whole : (k : NodeKind) → is_int k ≡ true → is_whole k ≡ true
int_whole Int h = refl
int_whole Long h = absurd (cc)
int_whole Big h = absurd (cc)
int_whole Truth h = absurd (cc)
int_whole Fraction h = absurd (cc)
int_whole Factor h = absurd (cc)
int_whole Table h = absurd (cc)

no_big : (k : NodeKind) → is_big k ≡ true → is_truth k ≡ true → ⊥
no_big Int h e = cc
no_big Long h e = cc
no_big Big h e = cc
no_big Truth h e = cc
no_big Fraction h e = cc
no_big Factor h e = cc
no_big Table h e = cc

no_whole_big : (k : NodeKind) → is_big k ≡ true → is_whole k ≡ true → ⊥
no_whole_big Int h e = cc
no_whole_big Long h e = cc
no_whole_big Big h e = cc
no_whole_big Truth h e = cc
no_whole_big Fraction h e = cc
no_whole_big Factor h e = cc
no_whole_big Table h e = cc

wider_cases : (j k : NodeKind) → (wider j k ≡ j) ⊎ (wider j k ≡ k)
wider_cases j Long = inr refl
wider_cases j Int = inl refl
wider_cases j Big = inl refl
wider_cases j Truth = inl refl
wider_cases j Fraction = inl refl
wider_cases j Factor = inl refl
wider_cases j Table = inl refl

either_true : (a b : Bool) → (a || b) ≡ true → (a ≡ true) ⊎ (b ≡ true)
either_true true b h = inl refl
either_true false b h = inr h

-- the parts of a conditional are both decimals or both whole numbers
parts_are : (j k : NodeKind) → are_parts j k ≡ true → ((is_big j ≡ true) × (is_big k ≡ true)) ⊎ ((is_whole j ≡ true) × (is_whole k ≡ true))
parts_are j k h = elim (either_true (is_big j && is_big k) (is_whole j && is_whole k) h) [
  | inl e ↦ inl (both_true (is_big j) (is_big k) e)
  | inr e ↦ inr (both_true (is_whole j) (is_whole k) e)
]

along : (P : NodeKind → Type 0) (j k : NodeKind) → P j → P k → P (wider j k)
along P j k x y = elim (wider_cases j k) [ inl e ↦ subst P (sym e) x | inr e ↦ subst P (sym e) y ]

-- what comes of two whole numbers is one
wholes_no_truth : (j k : NodeKind) → is_whole j ≡ true → is_whole k ≡ true → is_truth (wider j k) ≡ true → ⊥
wholes_no_truth j k h h' e = no_truth (wider j k) (along (λ x. is_whole x ≡ true) j k h h') e

parts_no_truth : (j k : NodeKind) → are_parts j k ≡ true → is_truth (wider j k) ≡ true → ⊥
parts_no_truth j k h e = elim (parts_are j k h) [
  | inl b ↦ no_big (wider j k) (along (λ x. is_big x ≡ true) j k b.0 b.1) e
  | inr w ↦ wholes_no_truth j k w.0 w.1 e
]

parts_whole : (j k : NodeKind) → are_parts j k ≡ true → is_whole (wider j k) ≡ true → (is_whole j ≡ true) × (is_whole k ≡ true)
parts_whole j k h e = elim (parts_are j k h) [
  | inl b ↦ absurd (no_whole_big (wider j k) (along (λ x. is_big x ≡ true) j k b.0 b.1) e)
  | inr w ↦ w
]

name_no_truth : (o : Option Declaration) → is_truth (option_map_or (λ d. declared_kind d.kind) o Int) ≡ true → ⊥
name_no_truth None e = cc
name_no_truth (Some d) e = by_kind d.kind e
  where
    by_kind : (k : DeclaredKind) → is_truth (declared_kind k) ≡ true → ⊥
    by_kind declares.Int e = cc
    by_kind declares.Long e = cc
    by_kind declares.Big e = cc
    by_kind declares.Factor e = cc
    by_kind declares.Table e = cc

-- ---- truths

abbrev pub IsTruthValue : Decimal → Type 0
IsTruthValue d = (b : Bool) × (d ≡ truth b)

of_truth : (b : Bool) (d : Decimal) → Some (truth b) ≡ Some d → IsTruthValue d
of_truth b d e = (b, some_is d (truth b) (sym e))

pub zero_of_truth : (b : Bool) → is_zero (truth b) ≡ not b
zero_of_truth true = refl
zero_of_truth false = refl

-- a declared whole number has no places
literal_whole : (k : DeclaredKind) (o : Option DeclaredLiteral) → is_whole (declared_kind k) ≡ true → option_map_or (is_of_type k) o true ≡ true → scale_of (kept_as k (declared_decimal o)) ≡ 0
literal_whole declares.Int None h t = refl
literal_whole declares.Int (Some (number (whole n))) h t = refl
literal_whole declares.Int (Some (number (long n))) h t = absurd (cc)
literal_whole declares.Int (Some (number (point n))) h t = absurd (cc)
literal_whole declares.Int (Some (number (text n))) h t = absurd (cc)
literal_whole declares.Int (Some (number (known n))) h t = absurd (cc)
literal_whole declares.Int (Some (number (named n))) h t = absurd (cc)
literal_whole declares.Int (Some (big n)) h t = absurd (cc)
literal_whole declares.Int (Some (table n)) h t = absurd (cc)
literal_whole declares.Long None h t = refl
literal_whole declares.Long (Some (number (whole n))) h t = refl
literal_whole declares.Long (Some (number (long n))) h t = refl
literal_whole declares.Long (Some (number (point n))) h t = absurd (cc)
literal_whole declares.Long (Some (number (text n))) h t = absurd (cc)
literal_whole declares.Long (Some (number (known n))) h t = absurd (cc)
literal_whole declares.Long (Some (number (named n))) h t = absurd (cc)
literal_whole declares.Long (Some (big n)) h t = absurd (cc)
literal_whole declares.Long (Some (table n)) h t = absurd (cc)
literal_whole declares.Big o h t = absurd (cc)
literal_whole declares.Factor o h t = absurd (cc)
literal_whole declares.Table o h t = absurd (cc)

pub first_whole : (d : Declaration) → HasItsType d → is_whole (declared_kind d.kind) ≡ true → scale_of (first_value d) ≡ 0
first_whole d t h = literal_whole d.kind d.value h t

module _ (scope : Scope) (env : Env) where
  -- the value of && or ||: that of the right operand where it is evaluated, else that of the left one
  joined : (op : Two) (e f : Term) (d : Decimal) → ((a b : Decimal) → of_two op a b ≡ Some b) → ((x : Decimal) → value scope e env ≡ Some x → IsTruthValue x) → ((x : Decimal) → value scope f env ≡ Some x → IsTruthValue x) → value scope (two op e f) env ≡ Some d → IsTruthValue d
  joined op e f d gives left right h =
      let k = and_then_some (λ a. if goes_right op a then option_and_then (λ b. of_two op a b) (value scope f env) else Some a) (value scope e env) d h in
      by_right k.0 k.1.0 (goes_right op k.0) k.1.1
    where
      by_right : (a : Decimal) → value scope e env ≡ Some a → (t : Bool) → (if t then option_and_then (λ b. of_two op a b) (value scope f env) else Some a) ≡ Some d → IsTruthValue d
      by_right a is true g =
          let k = and_then_some (λ b. of_two op a b) (value scope f env) d g in
          let same : k.0 ≡ d = some_is k.0 d (sym (gives a k.0) ∙ k.1.1) in
          subst IsTruthValue same (right k.0 k.1.0)
      by_right a is false g = let same : a ≡ d = cc in subst IsTruthValue same (left a is)

  comparison_truth : (op : Binary) (e f : Term) (d : Decimal) → ((a : Decimal) → goes_right (operator op) a ≡ true) → ((a b : Decimal) → of_two (operator op) a b ≡ comparison_value op a b) → value scope (two (operator op) e f) env ≡ Some d → IsTruthValue d
  comparison_truth op e f d goes gives h =
      let k = and_then_some (λ a. if goes_right (operator op) a then option_and_then (λ b. of_two (operator op) a b) (value scope f env) else Some a) (value scope e env) d h in
      let g : option_and_then (λ b. of_two (operator op) k.0 b) (value scope f env) ≡ Some d = subst (λ t. (if t then option_and_then (λ b. of_two (operator op) k.0 b) (value scope f env) else Some k.0) ≡ Some d) (goes k.0) k.1.1 in
      let l = and_then_some (λ b. of_two (operator op) k.0 b) (value scope f env) d g in
      of_truth _ d (sym (gives k.0 l.0) ∙ l.1.1)

  pub truth_of : (t : Term) (d : Decimal) → IsTypedTerm scope t → is_truth (kind_of scope t) ≡ true → value scope t env ≡ Some d → IsTruthValue d
  truth_of (leaf (whole n)) d h k e = absurd (cc)
  truth_of (leaf (long n)) d h k e = absurd (cc)
  truth_of (leaf (point n)) d h k e = absurd (cc)
  truth_of (leaf (text n)) d h k e = absurd (cc)
  truth_of (leaf (known n)) d h k e = absurd (cc)
  truth_of (leaf (named x)) d h k e = absurd (name_no_truth (declaration_in scope x) k)
  truth_of (item x t) d h k e = absurd (cc)
  truth_of (one (unary Minus) t) d h k e = absurd (no_truth (kind_of scope t) h.1 k)
  truth_of (one (unary Not) t) d h k e =
      let m = map_some (λ a. truth (is_zero a)) (value scope t env) d e in
      (is_zero m.0, sym m.1.1)
  truth_of (one (unary Negate) t) d h k e = absurd (cc)
  truth_of (one (unary Abs) t) d h k e = absurd (cc)
  truth_of (one value_of t) d h k e = absurd (cc)
  truth_of (one (value_of_scaled s) t) d h k e = absurd (cc)
  truth_of (one new_big t) d h k e = absurd (cc)
  truth_of (one (set_scale s m) t) d h k e = absurd (cc)
  truth_of (two (operator binaries.Mul) e f) d h k v = absurd (let w = both_true (is_whole (kind_of scope e)) (is_whole (kind_of scope f)) h.2 in wholes_no_truth (kind_of scope e) (kind_of scope f) w.0 w.1 k)
  truth_of (two (operator binaries.Div) e f) d h k v = absurd (let w = both_true (is_whole (kind_of scope e)) (is_whole (kind_of scope f)) h.2 in wholes_no_truth (kind_of scope e) (kind_of scope f) w.0 w.1 k)
  truth_of (two (operator binaries.Rem) e f) d h k v = absurd (let w = both_true (is_whole (kind_of scope e)) (is_whole (kind_of scope f)) h.2 in wholes_no_truth (kind_of scope e) (kind_of scope f) w.0 w.1 k)
  truth_of (two (operator binaries.Plus) e f) d h k v = absurd (let w = both_true (is_whole (kind_of scope e)) (is_whole (kind_of scope f)) h.2 in wholes_no_truth (kind_of scope e) (kind_of scope f) w.0 w.1 k)
  truth_of (two (operator binaries.Sub) e f) d h k v = absurd (let w = both_true (is_whole (kind_of scope e)) (is_whole (kind_of scope f)) h.2 in wholes_no_truth (kind_of scope e) (kind_of scope f) w.0 w.1 k)
  truth_of (two (operator binaries.Less) e f) d h k v = comparison_truth binaries.Less e f d (λ a. refl) (λ a b. refl) v
  truth_of (two (operator binaries.LessEq) e f) d h k v = comparison_truth binaries.LessEq e f d (λ a. refl) (λ a b. refl) v
  truth_of (two (operator binaries.More) e f) d h k v = comparison_truth binaries.More e f d (λ a. refl) (λ a b. refl) v
  truth_of (two (operator binaries.MoreEq) e f) d h k v = comparison_truth binaries.MoreEq e f d (λ a. refl) (λ a b. refl) v
  truth_of (two (operator binaries.Same) e f) d h k v = comparison_truth binaries.Same e f d (λ a. refl) (λ a b. refl) v
  truth_of (two (operator binaries.Differs) e f) d h k v = comparison_truth binaries.Differs e f d (λ a. refl) (λ a b. refl) v
  truth_of (two (operator binaries.And) e f) d h k v =
      let w = both_true (is_truth (kind_of scope e)) (is_truth (kind_of scope f)) h.2 in
      joined (operator binaries.And) e f d (λ a b. refl) (λ x is. truth_of e x h.0 w.0 is) (λ x is. truth_of f x h.1 w.1 is) v
  truth_of (two (operator binaries.Or) e f) d h k v =
      let w = both_true (is_truth (kind_of scope e)) (is_truth (kind_of scope f)) h.2 in
      joined (operator binaries.Or) e f d (λ a b. refl) (λ x is. truth_of e x h.0 w.0 is) (λ x is. truth_of f x h.1 w.1 is) v
  truth_of (two (method calls.CompareTo) e f) d h k v = absurd (cc)
  truth_of (two (method m) e f) d h k v = absurd (cc)
  truth_of (two (divide s m) e f) d h k v = absurd (cc)
  truth_of (choice c e f) d h k v = absurd (parts_no_truth (kind_of scope e) (kind_of scope f) h.3.parts k)

  -- ---- whole numbers

  module _ (held : AreHeld scope.variables env) (types : All HasItsType scope.constants) where
    name_whole : (x : List ℕ) (d : Decimal) → is_whole (name_kind scope x) ≡ true → named_value scope x env ≡ Some d → scale_of d ≡ 0
    name_whole x d h e = elim (looked scope.variables env x held) [
      | inl m ↦ of_constant (declared_as scope.constants x) refl (rw m.declared at h) (rw m.looks at e)
      | inr f ↦ (let same : f.value ≡ d = some_is f.value d (rw f.looks at e) in subst (λ v. scale_of v ≡ 0) same (f.whole (rw f.declared at h)))
    ]
      where
        of_constant : (o : Option Declaration) → declared_as scope.constants x ≡ o → is_whole (option_map_or (λ c. declared_kind c.kind) o Int) ≡ true → option_map first_value o ≡ Some d → scale_of d ≡ 0
        of_constant None is h e = absurd (cc)
        of_constant (Some c) is h e =
            let same : first_value c ≡ d = some_is (first_value c) d e in
            subst (λ v. scale_of v ≡ 0) same (first_whole c (declared_type scope.constants x c types is) h)

    -- an operation on two operands whose results have no places
    two_whole : (op : Two) (e f : Term) (d : Decimal) → ((a : Decimal) → goes_right op a ≡ true) → ((a b : Decimal) → of_two op a b ≡ Some d → scale_of d ≡ 0) → value scope (two op e f) env ≡ Some d → scale_of d ≡ 0
    two_whole op e f d goes gives h =
        let k = and_then_some (λ a. if goes_right op a then option_and_then (λ b. of_two op a b) (value scope f env) else Some a) (value scope e env) d h in
        let g : option_and_then (λ b. of_two op k.0 b) (value scope f env) ≡ Some d = subst (λ t. (if t then option_and_then (λ b. of_two op k.0 b) (value scope f env) else Some k.0) ≡ Some d) (goes k.0) k.1.1 in
        let l = and_then_some (λ b. of_two op k.0 b) (value scope f env) d g in
        gives k.0 l.0 l.1.1

    some_whole : (x d : Decimal) → Some x ≡ Some d → scale_of x ≡ 0 → scale_of d ≡ 0
    some_whole x d e w = let same = some_is x d e in subst (λ v. scale_of v ≡ 0) same w

    unless_whole : (b x d : Decimal) → unless_zero b x ≡ Some d → scale_of x ≡ 0 → scale_of d ≡ 0
    unless_whole b x d e w = subst (λ v. scale_of v ≡ 0) (unless_some b x d e).1 w

    pub whole_of : (t : Term) (d : Decimal) → IsTypedTerm scope t → is_whole (kind_of scope t) ≡ true → value scope t env ≡ Some d → scale_of d ≡ 0
    whole_of (leaf (whole n)) d h k e = some_whole _ d e refl
    whole_of (leaf (long n)) d h k e = some_whole _ d e refl
    whole_of (leaf (point n)) d h k e = absurd (cc)
    whole_of (leaf (text n)) d h k e = absurd (cc)
    whole_of (leaf (known n)) d h k e = absurd (cc)
    whole_of (leaf (named x)) d h k e = name_whole x d k e
    whole_of (item x t) d h k e = absurd (cc)
    whole_of (one (unary Minus) t) d h k e =
        let m = map_some _ (value scope t env) d e in
        subst (λ v. scale_of v ≡ 0) m.1.1 refl
    whole_of (one (unary Not) t) d h k e = absurd (cc)
    whole_of (one (unary Negate) t) d h k e = absurd (cc)
    whole_of (one (unary Abs) t) d h k e = absurd (cc)
    whole_of (one value_of t) d h k e = absurd (cc)
    whole_of (one (value_of_scaled s) t) d h k e = absurd (cc)
    whole_of (one new_big t) d h k e = absurd (cc)
    whole_of (one (set_scale s m) t) d h k e = absurd (cc)
    whole_of (two (operator binaries.Mul) e f) d h k v = two_whole (operator binaries.Mul) e f d (λ a. refl) (λ a b g. some_whole _ d g refl) v
    whole_of (two (operator binaries.Div) e f) d h k v = two_whole (operator binaries.Div) e f d (λ a. refl) (λ a b g. unless_whole b _ d g refl) v
    whole_of (two (operator binaries.Rem) e f) d h k v = two_whole (operator binaries.Rem) e f d (λ a. refl) (λ a b g. unless_whole b _ d g refl) v
    whole_of (two (operator binaries.Plus) e f) d h k v = two_whole (operator binaries.Plus) e f d (λ a. refl) (λ a b g. some_whole _ d g refl) v
    whole_of (two (operator binaries.Sub) e f) d h k v = two_whole (operator binaries.Sub) e f d (λ a. refl) (λ a b g. some_whole _ d g refl) v
    whole_of (two (operator o) e f) d h k v = absurd (cc)
    whole_of (two (method calls.CompareTo) e f) d h k v = two_whole (method calls.CompareTo) e f d (λ a. refl) (λ a b g. some_whole _ d g refl) v
    whole_of (two (method m) e f) d h k v = absurd (cc)
    whole_of (two (divide s m) e f) d h k v = absurd (cc)
    whole_of (choice c e f) d h k v =
        let w = parts_whole (kind_of scope e) (kind_of scope f) h.3.parts k in
        let l = and_then_some (λ t. if is_zero t then value scope f env else value scope e env) (value scope c env) d v in
        by_zero (is_zero l.0) (λ g. whole_of e d h.1 w.0 g) (λ g. whole_of f d h.2 w.1 g) l.1.1
      where
        by_zero : (z : Bool) → (value scope e env ≡ Some d → scale_of d ≡ 0) → (value scope f env ≡ Some d → scale_of d ≡ 0) → (if z then value scope f env else value scope e env) ≡ Some d → scale_of d ≡ 0
        by_zero true first second g = second g
        by_zero false first second g = first g
