-- The divisor that the text of a divide(d) shows is the divisor's value, and a plain one.
use Rattle.std.proofs.Common.{◌≡◌, ℕ, List, ◌++◌, true, false, Option, Some, None, refl, sym, ap, ◌∙◌, subst, inl, inr}
use Rattle.std.specs.Prelude.{pos}
use Rattle.std.specs.List.{All}
use Rattle.std.specs.Option.{option_map_or, option_and_then}
use Rattle.scaled_decimal.specs.Decimals.{Decimal, numerator_of}
use Rattle.scaled_decimal.specs.ExactQuotients.{IsPlainDivisor}
use Rattle.pap_tree.specs.declared.declaration.Kind.{Kind as DeclaredKind}
use Rattle.pap_tree.specs.declared.declaration.Kind.TheVariants as declares
use Rattle.pap_tree.specs.Term.{whole, long, point, text, known, named, Term, leaf, item, one, two, choice, One, unary, value_of, value_of_scaled, new_big, set_scale}
use Rattle.pap_tree.specs.Declarations.{DeclaredLiteral, number, big, table}
use Rattle.pap_types.specs.Scopes.{Scope, names_of, declared_as, first_value, kept_as, declared_decimal}
use Rattle.pap_types.specs.Kinds.{literal_big, written_decimal, int_literal, shown_divisor, shows_plain_divisor, is_plain_divisor}
use Rattle.pap_types.specs.Values.{Env, value, named_value}
use Rattle.pap_types.specs.Operations.{of_one}
use Rattle.pap_types.specs.Checks.{is_of_type}
use Rattle.pap_compiler.specs.CodeDecisions.{shown_number}
use Rattle.pap_types.specs.Typing.{HasItsType, AreDistinct}
use Rattle.pap_types.proofs.Laws.{declared_type, plain_divisor}
use Rattle.pap_compiler.proofs.NameLemmas.{AreHeld, looked, apart}
use Rattle.pap_compiler.proofs.KindLemmas.{and_then_some, map_some, some_is}

-- a declaration that writes a decimal begins with it
written : (k : DeclaredKind) (o : Option DeclaredLiteral) (s : Decimal) → option_map_or (is_of_type k) o true ≡ true → option_and_then literal_big o ≡ Some s → kept_as k (declared_decimal o) ≡ s
written k None s t e = absurd (cc)
written k (Some (number l)) s t e = absurd (cc)
written k (Some (table ds)) s t e = absurd (cc)
written declares.Big (Some (big d)) s t e = some_is d s e
written declares.Int (Some (big d)) s t e = absurd (cc)
written declares.Long (Some (big d)) s t e = absurd (cc)
written declares.Factor (Some (big d)) s t e = absurd (cc)
written declares.Table (Some (big d)) s t e = absurd (cc)

module _ (scope : Scope) (env : Env) (held : AreHeld scope.variables env) (types : All HasItsType scope.constants) (distinct : AreDistinct (names_of (scope.variables ++ scope.constants))) where
  of_constant : (x : List ℕ) (s b : Decimal) → option_and_then written_decimal (declared_as scope.constants x) ≡ Some s → named_value scope x env ≡ Some b → b ≡ s
  of_constant x s b e v =
      let k = and_then_some written_decimal (declared_as scope.constants x) s e in
      let c = k.0 in
      elim (looked scope.variables env x held) [
        | inl m ↦ (let v' : Some (first_value c) ≡ Some b = rw (m.looks, k.1.0) at v in
            sym (some_is (first_value c) b v') ∙ written c.kind c.value s (declared_type scope.constants x c types k.1.0) k.1.1)
        | inr f ↦ absurd (apart scope.variables scope.constants x f.declaration c distinct f.declared k.1.0)
      ]

  of_literal : (e : Term) (s b : Decimal) → int_literal e ≡ Some s → value scope e env ≡ Some b → b ≡ s
  of_literal (leaf (whole n)) s b e v = some_is b s (sym v ∙ e)
  of_literal (leaf (long n)) s b e v = absurd (cc)
  of_literal (leaf (point n)) s b e v = absurd (cc)
  of_literal (leaf (text n)) s b e v = absurd (cc)
  of_literal (leaf (known n)) s b e v = absurd (cc)
  of_literal (leaf (named n)) s b e v = absurd (cc)
  of_literal (item x t) s b e v = absurd (cc)
  of_literal (one op t) s b e v = absurd (cc)
  of_literal (two op t u) s b e v = absurd (cc)
  of_literal (choice c t u) s b e v = absurd (cc)

  -- an `int` literal as a decimal
  as_literal : (op : One) (t : Term) (s b : Decimal) → ((a : Decimal) → int_literal t ≡ Some a → of_one op t a ≡ a) → int_literal t ≡ Some s → value scope (one op t) env ≡ Some b → b ≡ s
  as_literal op t s b same e v =
      let k = map_some (of_one op t) (value scope t env) b v in
      let is = of_literal t s k.0 e k.1.0 in
      sym k.1.1 ∙ ap (of_one op t) is ∙ same s e

  literal_kept : (t : Term) (a : Decimal) → int_literal t ≡ Some a → of_one value_of t a ≡ a
  literal_kept (leaf (whole n)) a e = refl
  literal_kept (leaf (long n)) a e = absurd (cc)
  literal_kept (leaf (point n)) a e = absurd (cc)
  literal_kept (leaf (text n)) a e = absurd (cc)
  literal_kept (leaf (known n)) a e = absurd (cc)
  literal_kept (leaf (named n)) a e = absurd (cc)
  literal_kept (item x t) a e = absurd (cc)
  literal_kept (one op t) a e = absurd (cc)
  literal_kept (two op t u) a e = absurd (cc)
  literal_kept (choice c t u) a e = absurd (cc)

  shown : (f : Term) (s b : Decimal) → shown_divisor scope f ≡ Some s → value scope f env ≡ Some b → b ≡ s
  shown (leaf (named x)) s b e v = of_constant x s b e v
  shown (leaf (known k)) s b e v = some_is b s (sym v ∙ e)
  shown (leaf (whole n)) s b e v = absurd (cc)
  shown (leaf (long n)) s b e v = absurd (cc)
  shown (leaf (point n)) s b e v = absurd (cc)
  shown (leaf (text n)) s b e v = absurd (cc)
  shown (item x t) s b e v = absurd (cc)
  shown (one value_of t) s b e v = as_literal value_of t s b (literal_kept t) e v
  shown (one new_big t) s b e v = as_literal new_big t s b (λ a e. refl) e v
  shown (one (unary u) t) s b e v = absurd (cc)
  shown (one (value_of_scaled n) t) s b e v = absurd (cc)
  shown (one (set_scale n m) t) s b e v = absurd (cc)
  shown (two op t u) s b e v = absurd (cc)
  shown (choice c t u) s b e v = absurd (cc)

  -- the shown number is the divisor's, and plain
  pub record IsShown (f : Term) (b : Decimal) : Type 0 where
    pub number : numerator_of b ≡ shown_number scope f
    pub plain : IsPlainDivisor (shown_number scope f)

  pub divisor_shown : (f : Term) (b : Decimal) → shows_plain_divisor scope f ≡ true → value scope f env ≡ Some b → IsShown f b
  divisor_shown f b h v = by_shown (shown_divisor scope f) refl h
    where
      by_shown : (o : Option Decimal) → shown_divisor scope f ≡ o → option_map_or is_plain_divisor o false ≡ true → IsShown f b
      by_shown None is h = absurd (cc)
      by_shown (Some s) is h =
          let n : shown_number scope f ≡ numerator_of s = ap (λ o. option_map_or numerator_of o (pos 0)) is in
          record { number = ap numerator_of (shown f s b is v) ∙ sym n; plain = subst IsPlainDivisor (sym n) (plain_divisor s h) }
