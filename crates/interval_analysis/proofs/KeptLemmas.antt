-- A range as a variable of a type keeps it.
use Rattle.std.proofs.Common.{◌≡◌, ℕ, ◌-◌, ◌≤◌, Bool, true, false, ◌&&◌, nat_le, ℤ, ◌*ℤ◌, List, Some, None, Ok, refl, sym, ap, ◌∙◌, subst, arith}
use Rattle.std.specs.Prelude.{unsigned_abs, slice_get}
use Rattle.std.specs.Int.{w128}
use Rattle.std.specs.Option.{option_map_or}
use Rattle.std.proofs.Common.{to_z, of_z, set, inl, inr}
use Rattle.std.proofs.lemmas.List.{length-map}
use Rattle.std.proofs.lemmas.Option.{slice_get_cases}
use Rattle.std.proofs.lemmas.Bool.Decides.{nat_tests}
use Rattle.std.proofs.lemmas.Int.{ints, to_z-of_z, fits_signed_from_abs}
use Rattle.scaled_decimal.specs.Decimals.{Decimal, scale_of, numerator_of, numerator_at, ten_to}
use Rattle.scaled_decimal.specs.Limits.{limit, IsWithinLimit}
use Rattle.scaled_decimal.specs.WholeNumbers.{int_bits, IsOfBits}
use Rattle.pap_tree.specs.declared.declaration.Kind.{Kind}
use Rattle.pap_tree.specs.declared.declaration.Kind.TheVariants as declares
use Rattle.pap_tree.specs.declared.plan.PlanText.{PlanText}
use Rattle.pap_tree.specs.Term.{Term, leaf, item, one, two, choice, whole, long, point, text, known, named}
use Rattle.interval_num.specs.Intervals.{Interval, IsWholeOfBits}
use Rattle.pap_types.specs.declared.kinds.NodeKind.{NodeKind}
use Rattle.pap_types.specs.Scopes.{Scope, names_of, number_of, declared_as, declaration_in, at_factor_scale}
use Rattle.pap_tree.specs.Declarations.{Declaration}
use Rattle.pap_types.specs.declared.kinds.NodeKind.TheVariants.{Int}
use Rattle.pap_types.specs.Kinds.{declared_kind, name_kind, suits, is_factor_literal, has_few_places, kind_of}
use Rattle.pap_types.specs.Typing.{TargetSuits}
use Rattle.pap_types.proofs.Laws.{declared_by}
use Rattle.interval_walk.specs.Ranges.{Ranges, single, put_range}
use Rattle.interval_walk.specs.NodeRanges.{leaf_range}
use Rattle.interval_walk.specs.Ranged.{ranged}
use Rattle.interval_walk.proofs.Laws.{leaf_shape, passed_node}
use Rattle.interval_walk.specs.Walked.{range_kept_as, kept_range, assigned_range}
use Rattle.pap_types.specs.private.ScopeViews.{scope_in, variables_in}
use Rattle.interval_analysis.specs.private.PlanViews.{IsSized, kind_at, ranges_in}
use Rattle.interval_analysis.proofs.NameLemmas.{number_in, put_by, put_none}
use Rattle.interval_analysis.specs.private.StatementViews.{FitsFactor, CanKeep, CanPut}

pub both : (s t : Bool) → (s && t) ≡ true → (s ≡ true) × (t ≡ true)
both true t e = (refl, e)
both false t e = absurd (cc)

-- a whole number of 32 bits at three places
whole_kept : (n : ℤ) → IsOfBits int_bits n → IsWithinLimit (n *ℤ ten_to 3)
whole_kept n h = let low = h.low in let high = h.high in omega (arith, ints, low, high)

whole_fits : (a : Interval) → IsWholeOfBits int_bits a → FitsFactor a
whole_fits a h =
    let zero = h.whole.greatest_scale in
    let places : 3 ≡ 3 - a.s_hi = omega (arith, zero) in
    record {
      places = omega (arith, zero);
      ends = record {
        low = subst (λ k. IsWithinLimit (a.lo *ℤ ten_to k)) places (whole_kept a.lo h.low);
        high = subst (λ k. IsWithinLimit (a.hi *ℤ ten_to k)) places (whole_kept a.hi h.high);
      };
    }

point_fits : (d : Decimal) → has_few_places d ≡ true → FitsFactor (single d)
point_fits d e =
    let p = both (nat_le (scale_of d) 3) (nat_le (unsigned_abs (numerator_of (at_factor_scale d))) limit) e in
    let places : scale_of d ≤ 3 = grind (arith, nat_tests, p.0) in
    let kept : IsWithinLimit (numerator_at 3 d) = grind (arith, nat_tests, p.1) in
    record { places = places; ends = record { low = kept; high = kept } }

-- a literal that goes to a `double`
literal_fits : (scope : Scope) (e : Term) (at : ℕ) (env : Ranges) (a : Interval) → is_factor_literal e ≡ true → ranged scope e at env ≡ Ok a → FitsFactor a
literal_fits scope (leaf (whole i)) at env a f h = whole_fits a (leaf_shape scope (whole i) env a (passed_node at _ (leaf_range scope (whole i) env) a h)).1.suits
literal_fits scope (leaf (point d)) at env a f h =
    let read = (leaf_shape scope (point d) env a (passed_node at _ (leaf_range scope (point d) env) a h)).0 in
    let same : single d ≡ a = cc in
    subst FitsFactor same (point_fits d f)
literal_fits scope (leaf (long i)) at env a f h = absurd (cc)
literal_fits scope (leaf (text d)) at env a f h = absurd (cc)
literal_fits scope (leaf (known k)) at env a f h = absurd (cc)
literal_fits scope (leaf (named x)) at env a f h = absurd (cc)
literal_fits scope (item x t) at env a f h = absurd (cc)
literal_fits scope (one op t) at env a f h = absurd (cc)
literal_fits scope (two op t u) at env a f h = absurd (cc)
literal_fits scope (choice t u v) at env a f h = absurd (cc)

keeps : (scope : Scope) (kind : Kind) (e : Term) (k : NodeKind) (at : ℕ) (env : Ranges) (a : Interval) → suits kind e k ≡ true → ranged scope e at env ≡ Ok a → CanKeep kind a
keeps scope declares.Factor e k at env a s h = literal_fits scope e at env a s h
keeps scope declares.Int e k at env a s h = tt
keeps scope declares.Long e k at env a s h = tt
keeps scope declares.Big e k at env a s h = tt
keeps scope declares.Table e k at env a s h = tt

pub can_put : (p : PlanText) (x : List ℕ) (e : Term) (env : Ranges) (a : Interval) → TargetSuits (scope_in p) x e → ranged (scope_in p) e 0 env ≡ Ok a → CanPut p x a
can_put p x e env a t h d is =
    let found = t.declared in
    let same : t.declaration ≡ d = cc in
    subst (λ d. CanKeep d.kind a) same (keeps (scope_in p) t.declaration.kind e (kind_of (scope_in p) e) 0 env a t.suits h)

-- ---- numbers in the machine

pub held_is : (z : ℤ) → IsWithinLimit z → to_z w128 (of_z w128 z) ≡ z
held_is z h = to_z-of_z w128 z (fits_signed_from_abs w128 z (omega arith))

pub product_is : (x y m n : ℤ) → x ≡ m → y ≡ n → IsWithinLimit m → IsWithinLimit n → IsWithinLimit (m *ℤ n) → to_z w128 (of_z w128 (to_z w128 (of_z w128 x) *ℤ to_z w128 (of_z w128 y))) ≡ m *ℤ n
product_is x y m n ex ey hm hn kept =
    ap (λ z. to_z w128 (of_z w128 (to_z w128 (of_z w128 z) *ℤ to_z w128 (of_z w128 y)))) ex
    ∙ ap (λ z. to_z w128 (of_z w128 (to_z w128 (of_z w128 m) *ℤ to_z w128 (of_z w128 z)))) ey
    ∙ ap (λ z. to_z w128 (of_z w128 (z *ℤ to_z w128 (of_z w128 n)))) (held_is m hm)
    ∙ ap (λ z. to_z w128 (of_z w128 (m *ℤ z))) (held_is n hn)
    ∙ held_is (m *ℤ n) kept

-- ---- a variable gets a range

-- a name that has a variable's number is declared as that variable
pub variable_of : (scope : Scope) (x : List ℕ) (i : ℕ) → Some i ≡ number_of (names_of scope.variables) x → declaration_in scope x ≡ declared_as scope.variables x
variable_of scope x i number =
    let vs = scope.variables in
    let at : slice_get vs i ≡ declared_as vs x = declared_by vs x (names_of vs) (Some i) refl number in
    let within = (number_in (names_of vs) x i (sym number)).1 in
    elim (slice_get_cases vs i).1 [
      | inl here ↦ (let is : declared_as vs x ≡ Some here.0 = sym at ∙ here.2 in rw is refl)
      | inr past ↦ absurd (omega (arith, within, past.0, length-map vs (λ d. d.name)))
    ]

-- it stands at its number
pub declared_at : (vs : List Declaration) (x : List ℕ) (i : ℕ) → Some i ≡ number_of (names_of vs) x → slice_get vs i ≡ declared_as vs x
declared_at vs x i number = declared_by vs x (names_of vs) (Some i) refl number

pub kind_by : (scope : Scope) (x : List ℕ) (i : ℕ) → Some i ≡ number_of (names_of scope.variables) x → kind_at scope i ≡ name_kind scope x
kind_by scope x i number =
    ap (λ o. option_map_or (λ d. declared_kind d.kind) o Int) (declared_at scope.variables x i number ∙ sym (variable_of scope x i number))

pub put_kept : (p : PlanText) (rs : List Interval) (x : List ℕ) (a kept : Interval) (i : ℕ) → IsSized p rs → Some i ≡ number_of (variables_in p) x → kept ≡ option_map_or (λ d. range_kept_as d.kind a) (declared_as (scope_in p).variables x) a → ranges_in p (set rs i kept) ≡ assigned_range (scope_in p) x a (ranges_in p rs)
put_kept p rs x a kept i sized number is =
    sym (put_by (variables_in p) rs x kept i sized (sym number)) ∙ ap (put_range (ranges_in p rs) x) is

pub put_nothing : (p : PlanText) (rs : List Interval) (x : List ℕ) (a : Interval) → IsSized p rs → None ≡ number_of (variables_in p) x → ranges_in p rs ≡ assigned_range (scope_in p) x a (ranges_in p rs)
put_nothing p rs x a sized number = sym (put_none (variables_in p) rs x (option_map_or (λ d. range_kept_as d.kind a) (declared_as (scope_in p).variables x) a) sized (sym number))

-- what has no variable's number is declared by no variable, and is kept as it is
pub kept_nothing : (p : PlanText) (x : List ℕ) (a : Interval) → None ≡ number_of (variables_in p) x → a ≡ kept_range (scope_in p) x a
kept_nothing p x a number = ap (λ o. option_map_or (λ d. range_kept_as d.kind a) o a) (declared_by (scope_in p).variables x (variables_in p) None refl number)
