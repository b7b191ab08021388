-- The start: admitted inputs lie in the ranges of their limits, and other variables are what they begin with.
use Rattle.std.proofs.Common.{◌≡◌, ℕ, ◌-◌, ◌^◌, ◌≤◌, ℤ, ◌*ℤ◌, ◌≤ℤ◌, ◌<ℤ◌, List, [], ◌∷◌, ◌++◌, map, Bool, true, false, if◌then◌else◌, Option, Some, None, Ordering, Less, Equal, Greater, refl, sym, subst, arith}
use Rattle.std.specs.Prelude.{All}
use Rattle.std.specs.Option.{option_map_or}
use Rattle.std.specs.Ordering.{int_cmp, is_gt, ordering_reverse, MatchOrdering}
use Rattle.std.specs.Cmp.{int_ranks, int_cmp_total}
use Rattle.std.specs.Str.{bytes_eq}
use Rattle.std.proofs.lemmas.Int.{ints}
use Rattle.std.proofs.lemmas.List.Elements.{All-head, All-tail}
use Rattle.std.proofs.lemmas.Slice.Eq.{bytes_eq-Decides}
use Rattle.scaled_decimal.specs.Decimals.{Decimal, numerator_of, scale_of, numerator_at, ten_to, value_order, greater_scale}
use Rattle.scaled_decimal.proofs.Laws.{aligned_order, le_times}
use Rattle.pap_tree.specs.declared.declaration.Kind.{Kind}
use Rattle.pap_tree.specs.declared.declaration.Kind.TheVariants as declares
use Rattle.pap_tree.specs.Declarations.{Declaration}
use Rattle.pap_tree.specs.Flowchart.{Flowchart}
use Rattle.interval_num.specs.Intervals.{interval, Contains}
use Rattle.limits_file.specs.declared.limits.InputLimit.{InputLimit}
use Rattle.limits_file.specs.declared.limits.Limits.{Limits}
use Rattle.limits_file.specs.Limits.{Fits, HasSoundBounds, IsFactorLimit}
use Rattle.pap_types.specs.Scopes.{declared_as, scope_of, first_value, factor_places}
use Rattle.pap_types.specs.Values.{look}
use Rattle.pap_types.specs.Meaning.{first_entry, given, start, SuitsKind, AreInputs}
use Rattle.interval_walk.specs.Ranges.{single}
use Rattle.interval_walk.specs.Admission.{SuitsLimit, HasLimit, HaveLimits, FitsAsFactor, FitsAs, IsAdmitted, IsAdmittedFor, AllAdmitted, AreAdmitted}
use Rattle.interval_walk.specs.Analysis.{limit_range, input_range, first_range, start_ranges}
use Rattle.interval_walk.specs.Soundness.{AreWithin}
use Rattle.interval_walk.specs.private.Soundness.{AreVariables}
use Rattle.interval_walk.proofs.NodeSound.{single_inside}
use Rattle.interval_walk.proofs.PlanLemmas.{other_name}
use Rattle.interval_walk.proofs.WalkSound.{at_greater}

-- ---- values in order

order_says : (u v : ℤ) (o : Ordering) → int_cmp u v ≡ o → is_gt o ≡ false → u ≤ℤ v
order_says u v o e f = by_ranks o (subst (λ o. MatchOrdering o (u <ℤ v) (u ≡ v) (v <ℤ u)) e (int_ranks u v)) f
  where
    by_ranks : (o : Ordering) → MatchOrdering o (u <ℤ v) (u ≡ v) (v <ℤ u) → is_gt o ≡ false → u ≤ℤ v
    by_ranks Less m f = omega (arith, ints)
    by_ranks Equal m f = omega (arith, ints)
    by_ranks Greater m f = absurd (cc)

-- a value that is at most another has a numerator that is, at each scale that both have
pub at_most : (a b : Decimal) (q : ℕ) → scale_of a ≤ q → scale_of b ≤ q → is_gt (value_order a b) ≡ false → numerator_at q a ≤ℤ numerator_at q b
at_most a b q la lb f =
    let s = greater_scale a b in
    let less = order_says (numerator_at s a) (numerator_at s b) (value_order a b) (aligned_order a b) f in
    let more = le_times (numerator_at s a) (numerator_at s b) (10 ^ (q - s)) less in
    subst (λ n. n ≤ℤ numerator_at q b) (at_greater a s q (omega arith) (omega arith))
    (subst (λ n. (numerator_at s a *ℤ ten_to (q - s)) ≤ℤ n) (at_greater b s q (omega arith) (omega arith)) more)

not_greater : (o : Ordering) → o ≡ Equal → (is_gt o ≡ false) × (is_gt (ordering_reverse o) ≡ false)
not_greater Equal e = (refl, refl)
not_greater Less e = absurd (cc)
not_greater Greater e = absurd (cc)

back : (a b : Decimal) → value_order a b ≡ Equal → is_gt (value_order b a) ≡ false
back a b e =
    let turned : ordering_reverse (value_order a b) ≡ value_order b a = sym (int_cmp_total.antisymm (numerator_of b *ℤ ten_to (scale_of a)) (numerator_of a *ℤ ten_to (scale_of b))) in
    subst (λ o. is_gt o ≡ false) turned (not_greater (value_order a b) e).1

-- ---- inputs

plain_inside : (l : InputLimit) (v : Decimal) → HasSoundBounds l → Fits l v → Contains (interval (numerator_at l.places l.low) (numerator_at l.places l.high) 0 l.places) v
plain_inside l v s f = record {
  least_scale = omega arith;
  greatest_scale = f.places;
  low = at_most l.low v l.places s.low_places f.places f.above;
  high = at_most v l.high l.places f.places s.high_places f.below;
}

factor_inside : (l : InputLimit) (v : Decimal) → HasSoundBounds l → IsFactorLimit l → FitsAsFactor l v → Contains (limit_range declares.Factor l) v
factor_inside l v s t f =
    let u = f.equal in
    let few = t.places in
    let lu : scale_of u ≤ factor_places = omega (arith, f.fits.places) in
    let lv : scale_of v ≤ factor_places = omega (arith, f.places) in
    let llow : scale_of l.low ≤ factor_places = omega (arith, s.low_places) in
    let lhigh : scale_of l.high ≤ factor_places = omega (arith, s.high_places) in
    let uv = at_most u v factor_places lu lv (not_greater (value_order u v) f.same).0 in
    let vu = at_most v u factor_places lv lu (back u v f.same) in
    let low = at_most l.low u factor_places llow lu f.fits.above in
    let high = at_most u l.high factor_places lu lhigh f.fits.below in
    record {
      least_scale = omega (arith, f.places);
      greatest_scale = omega (arith, f.places);
      low = omega (arith, ints);
      high = omega (arith, ints);
    }

limit_inside : (k : Kind) (l : InputLimit) (v : Decimal) → HasSoundBounds l → SuitsLimit k l → FitsAs k l v → Contains (limit_range k l) v
limit_inside declares.Int l v s t f = plain_inside l v s f
limit_inside declares.Long l v s t f = plain_inside l v s f
limit_inside declares.Big l v s t f = plain_inside l v s f
limit_inside declares.Factor l v s t f = factor_inside l v s t f
limit_inside declares.Table l v s t f = plain_inside l v s f

suits_kind : (k : Kind) (l : InputLimit) (v : Decimal) → SuitsLimit k l → IsAdmitted k l v → SuitsKind k v
suits_kind declares.Int l v t a = let z = t.places in (a.kept, omega (arith, a.fits.places))
suits_kind declares.Long l v t a = let z = t.places in (a.kept, omega (arith, a.fits.places))
suits_kind declares.Factor l v t a = (a.kept, a.fits.places)
suits_kind declares.Big l v t a = a.kept
suits_kind declares.Table l v t a = a.kept

-- the limit of a declared input is the one that admits its value
the_limit : (limits : Limits) (d : Declaration) (v : Decimal) (h : HasLimit limits d) → IsAdmittedFor limits d v → IsAdmitted d.kind h.limit v
the_limit limits d v h a =
    let is = h.is in
    let found = a.is in
    let same : a.limit ≡ h.limit = cc in
    subst (λ l. IsAdmitted d.kind l v) same a.admitted

input_inside : (limits : Limits) (d : Declaration) (v : Decimal) → HasLimit limits d → IsAdmittedFor limits d v → Contains (input_range limits d).range v
input_inside limits d v h a =
    let inside = limit_inside d.kind h.limit v h.sound h.suits (the_limit limits d v h a).fits in
    subst (λ o. Contains (option_map_or (limit_range d.kind) o (single (first_value d))) v) (sym h.is) inside

pub are_inputs : (limits : Limits) (ds : List Declaration) (vs : List Decimal) → All (HasLimit limits) ds → AllAdmitted limits ds vs → AreInputs ds vs
are_inputs limits [] [] h a = tt
are_inputs limits [] (v ∷ vs) h a = absurd a
are_inputs limits (d ∷ ds) [] h a = absurd a
are_inputs limits (d ∷ ds) (v ∷ vs) h a =
    let here = All-head (HasLimit limits) d ds h in
    (suits_kind d.kind here.limit v here.suits (the_limit limits d v here a.0), are_inputs limits ds vs (All-tail (HasLimit limits) d ds h) a.1)

-- ---- all variables

others_inside : (ds : List Declaration) → AreWithin (map first_range ds) (map first_entry ds)
others_inside [] = tt
others_inside (d ∷ ds) = (refl, single_inside (first_value d), others_inside ds)

all_inside : (limits : Limits) (ds : List Declaration) (vs : List Decimal) (es : List Declaration) → All (HasLimit limits) ds → AllAdmitted limits ds vs → AreWithin (map (input_range limits) ds ++ map first_range es) (given ds vs ++ map first_entry es)
all_inside limits [] [] es h a = others_inside es
all_inside limits [] (v ∷ vs) es h a = absurd a
all_inside limits (d ∷ ds) [] es h a = absurd a
all_inside limits (d ∷ ds) (v ∷ vs) es h a =
    (refl, input_inside limits d v (All-head (HasLimit limits) d ds h) a.0, all_inside limits ds vs es (All-tail (HasLimit limits) d ds h) a.1)

pub start_inside : (f : Flowchart) (limits : Limits) (inputs : List Decimal) → HaveLimits f limits → AreAdmitted f limits inputs → AreWithin (start_ranges f limits) (start f inputs)
start_inside f limits inputs h a = all_inside limits f.inputs inputs (f.outputs ++ f.internals) h a

-- ---- their names

-- a name that isn't that of a declaration
differs : (x : List ℕ) (d : Declaration) (rest : Option Declaration) → (if bytes_eq x d.name then Some d else rest) ≡ None → (bytes_eq d.name x ≡ false) × (rest ≡ None)
differs x d rest e = by_test (bytes_eq x d.name) refl e
  where
    by_test : (t : Bool) → bytes_eq x d.name ≡ t → (if t then Some d else rest) ≡ None → (bytes_eq d.name x ≡ false) × (rest ≡ None)
    by_test true f g = absurd (cc)
    by_test false f g = (other_name d.name x (λ same. (let k : bytes_eq x d.name ≡ true = (bytes_eq-Decides x d.name).1 (sym same) in cc)), g)

others_named : (ds : List Declaration) (x : List ℕ) → declared_as ds x ≡ None → look (map first_entry ds) x ≡ None
others_named [] x e = refl
others_named (d ∷ ds) x e = let k = differs x d (declared_as ds x) e in rw k.0 (others_named ds x k.1)

all_named : (limits : Limits) (ds : List Declaration) (vs : List Decimal) (es : List Declaration) (x : List ℕ) → AllAdmitted limits ds vs → declared_as (ds ++ es) x ≡ None → look (given ds vs ++ map first_entry es) x ≡ None
all_named limits [] [] es x a e = others_named es x e
all_named limits [] (v ∷ vs) es x a e = absurd a
all_named limits (d ∷ ds) [] es x a e = absurd a
all_named limits (d ∷ ds) (v ∷ vs) es x a e = let k = differs x d (declared_as (ds ++ es) x) e in rw k.0 (all_named limits ds vs es x a.1 k.1)

pub start_variables : (f : Flowchart) (limits : Limits) (inputs : List Decimal) → AreAdmitted f limits inputs → AreVariables (scope_of f) (start f inputs)
start_variables f limits inputs a x e = all_named limits f.inputs inputs (f.outputs ++ f.internals) x a e
