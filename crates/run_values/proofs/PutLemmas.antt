-- A variable gets a value.
use Rattle.std.proofs.Common.{◌≡◌, ℕ, List, Some, true, set, sym, ap, ◌∙◌}
use Rattle.scaled_decimal.specs.Decimals.{Decimal, decimal}
use Rattle.pap_tree.specs.declared.declaration.Kind.{Kind}
use Rattle.pap_tree.specs.declared.declaration.Kind.TheVariants as declares
use Rattle.pap_tree.specs.Flowchart.{Flowchart}
use Rattle.pap_tree.specs.Term.{Term, leaf, item, one, two, choice, whole, long, point, text, known, named}
use Rattle.pap_types.specs.declared.kinds.NodeKind.{NodeKind}
use Rattle.pap_types.specs.Kinds.{suits, is_factor_literal}
use Rattle.pap_types.specs.Runs.{assigned}
use Rattle.pap_types.specs.Scopes.{Scope, scope_of, variables_of, names_of, number_of}
use Rattle.pap_types.specs.Values.{Env, value, put_value}
use Rattle.run_values.specs.NumberedValues.{HasOneEach, variables_with, value_put}
use Rattle.run_values.specs.private.ValueViews.{IsFactorOf, CanKeep}
use Rattle.run_values.proofs.NameLemmas.{put_by}

pub put_kept : (f : Flowchart) (vs : List Decimal) (x : List ℕ) (a kept : Decimal) (i : ℕ) → HasOneEach f vs
    → Some i ≡ number_of (names_of (variables_of f)) x → kept ≡ value_put (scope_of f) x a
    → variables_with f (set vs i kept) ≡ assigned (scope_of f) x a (variables_with f vs)
put_kept f vs x a kept i sized number is =
    sym (put_by (names_of (variables_of f)) vs x kept i sized (sym number)) ∙ ap (put_value (variables_with f vs) x) is

-- ---- a literal that goes to a `double`

some_same : (a b : Decimal) → Some a ≡ Some b → a ≡ b
some_same a b e = cc

literal_of : (scope : Scope) (e : Term) (env : Env) (v : Decimal) → is_factor_literal e ≡ true
    → value scope e env ≡ Some v → IsFactorOf e v
literal_of scope (leaf (whole i)) env v f h = sym (some_same (decimal i 0) v h)
literal_of scope (leaf (point d)) env v f h = (sym (some_same d v h), f)
literal_of scope (leaf (long i)) env v f h = absurd (cc)
literal_of scope (leaf (text d)) env v f h = absurd (cc)
literal_of scope (leaf (known k)) env v f h = absurd (cc)
literal_of scope (leaf (named x)) env v f h = absurd (cc)
literal_of scope (item x t) env v f h = absurd (cc)
literal_of scope (one op t) env v f h = absurd (cc)
literal_of scope (two op t u) env v f h = absurd (cc)
literal_of scope (choice t u w) env v f h = absurd (cc)

keeps : (scope : Scope) (kind : Kind) (e : Term) (k : NodeKind) (env : Env) (v : Decimal) → suits kind e k ≡ true
    → value scope e env ≡ Some v → CanKeep kind e v
keeps scope declares.Factor e k env v s h = literal_of scope e env v s h
keeps scope declares.Int e k env v s h = tt
keeps scope declares.Long e k env v s h = tt
keeps scope declares.Big e k env v s h = tt
keeps scope declares.Table e k env v s h = tt
