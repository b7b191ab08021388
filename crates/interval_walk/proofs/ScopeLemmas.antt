-- What the names of a typed plan stand for, and the divisor that its text shows.
use Rattle.std.proofs.Common.{◌≡◌, ℕ, ℤ, List, true, false, Option, Some, None, refl, ap, ◌∙◌, subst}
use Rattle.std.specs.Option.{option_map_or, option_and_then}
use Rattle.scaled_decimal.specs.Decimals.{Decimal, decimal, numerator_of}
use Rattle.scaled_decimal.specs.ExactQuotients.{IsPlainDivisor}
use Rattle.pap_tree.specs.declared.declaration.Kind.{Kind}
use Rattle.pap_tree.specs.declared.declaration.Kind.TheVariants as declares
use Rattle.pap_tree.specs.Term.{whole, long, point, text, known, named, Term, leaf, item, one, two, choice, unary, value_of, value_of_scaled, new_big, set_scale}
use Rattle.pap_tree.specs.Declarations.{Declaration, DeclaredLiteral, number, big, table}
use Rattle.pap_types.specs.Scopes.{Scope, declared_as, kept_as, declared_decimal, first_value}
use Rattle.pap_types.specs.Kinds.{is_plain_divisor, literal_big, written_decimal, int_literal, shown_divisor, shows_plain_divisor}
use Rattle.pap_types.specs.Checks.{is_of_type}
use Rattle.pap_types.specs.Typing.{HasItsType}
use Rattle.pap_types.specs.Values.{Env, value, named_value}
use Rattle.pap_types.proofs.Laws.{plain_divisor}
use Rattle.interval_walk.specs.private.Soundness.{AreVariables}

-- what the soundness of an expression takes of the names of a plan
pub record IsSoundScope (scope : Scope) : Type 0 where
  -- a constant is no variable
  pub apart : (x : List ℕ) (d : Declaration) → declared_as scope.constants x ≡ Some d → declared_as scope.variables x ≡ None
  -- a constant's literal is of its type
  pub typed : (x : List ℕ) (d : Declaration) → declared_as scope.constants x ≡ Some d → HasItsType d

-- ---- the divisor that the text shows is the value of the operand

-- what a step of options had
some_of : {A B : Type 0} (f : A → Option B) (o : Option A) (b : B) → option_and_then f o ≡ Some b → (a : A) × (o ≡ Some a) × (f a ≡ Some b)
some_of f (Some a) b e = (a, refl, e)
some_of f None b e = absurd (cc)

big_literal : (l : DeclaredLiteral) (d : Decimal) → literal_big l ≡ Some d → l ≡ big d
big_literal (number l) d e = absurd (cc)
big_literal (big c) d e = let same : c ≡ d = cc in ap big same
big_literal (table ds) d e = absurd (cc)

-- a decimal is kept as it is by the type that has it
big_kept : (k : Kind) (d : Decimal) → is_of_type k (big d) ≡ true → kept_as k d ≡ d
big_kept declares.Big d e = refl
big_kept declares.Int d e = refl
big_kept declares.Long d e = refl
big_kept declares.Factor d e = absurd (cc)
big_kept declares.Table d e = refl

first_is : (c : Declaration) (d : Decimal) → HasItsType c → c.value ≡ Some (big d) → first_value c ≡ d
first_is c d t e =
    let same : first_value c ≡ kept_as c.kind d = ap (λ v. kept_as c.kind (declared_decimal v)) e in
    let typed : is_of_type c.kind (big d) ≡ true = subst (λ v. option_map_or (is_of_type c.kind) v true ≡ true) e t in
    same ∙ big_kept c.kind d typed

pub int_literal_is : (e : Term) (d : Decimal) → int_literal e ≡ Some d → (i : ℤ) × (e ≡ leaf (whole i)) × (decimal i 0 ≡ d)
int_literal_is (leaf (whole i)) d e = let same : decimal i 0 ≡ d = cc in (i, refl, same)
int_literal_is (leaf (long i)) d e = absurd (cc)
int_literal_is (leaf (point i)) d e = absurd (cc)
int_literal_is (leaf (text i)) d e = absurd (cc)
int_literal_is (leaf (known i)) d e = absurd (cc)
int_literal_is (leaf (named i)) d e = absurd (cc)
int_literal_is (item x i) d e = absurd (cc)
int_literal_is (one op i) d e = absurd (cc)
int_literal_is (two op i j) d e = absurd (cc)
int_literal_is (choice c i j) d e = absurd (cc)

module _ (scope : Scope) (ok : IsSoundScope scope) (env : Env) (only : AreVariables scope env) where
  constant_value : (x : List ℕ) (d : Decimal) → option_and_then written_decimal (declared_as scope.constants x) ≡ Some d → named_value scope x env ≡ Some d
  constant_value x d e =
      let c = some_of written_decimal (declared_as scope.constants x) d e in
      let v = some_of literal_big c.0.value d c.2 in
      let big_is = big_literal v.0 d v.2 in
      let written : c.0.value ≡ Some (big d) = v.1 ∙ ap Some big_is in
      let none = only x (ok.apart x c.0 c.1) in
      let first = first_is c.0 d (ok.typed x c.0 c.1) written in
      rw (none, c.1, first) refl

  pub shown_value : (f : Term) (d : Decimal) → shown_divisor scope f ≡ Some d → value scope f env ≡ Some d
  shown_value (leaf (named x)) d e = constant_value x d e
  shown_value (leaf (known k)) d e = e
  shown_value (leaf (whole i)) d e = absurd (cc)
  shown_value (leaf (long i)) d e = absurd (cc)
  shown_value (leaf (point i)) d e = absurd (cc)
  shown_value (leaf (text i)) d e = absurd (cc)
  shown_value (item x i) d e = absurd (cc)
  shown_value (one value_of t) d e =
      let l = int_literal_is t d e in
      rw l.1 (ap Some l.2)
  shown_value (one new_big t) d e =
      let l = int_literal_is t d e in
      rw l.1 (ap Some l.2)
  shown_value (one (unary u) t) d e = absurd (cc)
  shown_value (one (value_of_scaled s) t) d e = absurd (cc)
  shown_value (one (set_scale s m) t) d e = absurd (cc)
  shown_value (two op i j) d e = absurd (cc)
  shown_value (choice c i j) d e = absurd (cc)

-- the divisor is there, and is a plain one
pub shown_plain : (scope : Scope) (f : Term) → shows_plain_divisor scope f ≡ true → (d : Decimal) × (shown_divisor scope f ≡ Some d) × IsPlainDivisor (numerator_of d)
shown_plain scope f e = by_some (shown_divisor scope f) refl e
  where
    by_some : (o : Option Decimal) → shown_divisor scope f ≡ o → option_map_or is_plain_divisor o false ≡ true → (d : Decimal) × (shown_divisor scope f ≡ Some d) × IsPlainDivisor (numerator_of d)
    by_some (Some d) g h = (d, g, plain_divisor d h)
    by_some None g h = absurd (cc)
