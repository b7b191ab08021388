-- What an operation on two operands comes to, from what these come to.
use Rattle.std.proofs.Common.{◌≡◌, Bool, true, false, Option, Some, refl, sym, ap, ◌∙◌, subst, true≢false}
use Rattle.std.specs.Prelude.{if◌then◌else◌}
use Rattle.std.specs.Option.{option_and_then}
use Rattle.scaled_decimal.specs.Decimals.{Decimal}
use Rattle.pap_tree.specs.Term.{Term, two, Two}
use Rattle.pap_types.specs.Kinds.{kind_of}
use Rattle.pap_types.specs.Operations.{of_two}
use Rattle.pap_types.specs.Safety.{TwoFits}
use Rattle.pap_types.specs.Scopes.{Scope}
use Rattle.pap_types.specs.Values.{Env, value, goes_right}
use Rattle.checked_run.specs.RunFailures.{EvaluatesTo}

pub some_same : (a b : Decimal) → Some a ≡ Some b → a ≡ b
some_same a b e = cc

-- the value is the one that was found
pub same_value : (scope : Scope) (e : Term) (env : Env) (a b : Decimal) → EvaluatesTo scope e env a
    → value scope e env ≡ Some b → a ≡ b
same_value scope e env a b h is = some_same a b (sym h.is ∙ is)

goes : (t : Bool) (x y : Option Decimal) → t ≡ true → (if t then x else y) ≡ x
goes true x y e = refl
goes false x y e = absurd (true≢false (sym e))

pub two_to : (scope : Scope) (env : Env) (op : Two) (e f : Term) (a b v : Decimal) → EvaluatesTo scope e env a
    → goes_right op a ≡ true → EvaluatesTo scope f env b → TwoFits op (kind_of scope (two op e f)) a b
    → of_two op a b ≡ Some v → EvaluatesTo scope (two op e f) env v
two_to scope env op e f a b v h onward g fits is =
    let behind =
    λ (a : Decimal). if goes_right op a then option_and_then (λ b. of_two op a b) (value scope f env) else Some a in
    record {
      safe = (
        h.safe,
        λ c ce right. (
          g.safe,
          λ d de.
              subst (λ c. TwoFits op (kind_of scope (two op e f)) c d) (same_value scope e env a c h ce)
              (subst (TwoFits op (kind_of scope (two op e f)) a) (same_value scope f env b d g de) fits),
        ),
      );
      is =
          ap (option_and_then behind) h.is
          ∙ goes (goes_right op a) (option_and_then (λ b. of_two op a b) (value scope f env)) (Some a) onward
          ∙ ap (option_and_then (λ b. of_two op a b)) g.is
          ∙ is;
    }
