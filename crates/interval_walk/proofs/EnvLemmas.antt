-- The values of the variables lie in their ranges.
use Rattle.std.proofs.Common.{◌≡◌, ℕ, List, [], ◌∷◌, Bool, true, false, if◌then◌else◌, Some, None, refl, ap, subst}
use Rattle.std.specs.Str.{bytes_eq}
use Rattle.scaled_decimal.specs.Decimals.{Decimal}
use Rattle.interval_num.specs.Intervals.{Interval, Contains}
use Rattle.pap_types.specs.Scopes.{Scope}
use Rattle.pap_types.specs.Values.{Env, look, put_value}
use Rattle.interval_walk.specs.Ranges.{Ranges, range_named, put_range}
use Rattle.interval_walk.specs.Soundness.{AreWithin}
use Rattle.interval_walk.specs.private.Soundness.{AreVariables}

-- a variable has a value in its range
pub look_inside : (rs : Ranges) (env : Env) (x : List ℕ) (a : Interval) → AreWithin rs env → range_named rs x ≡ Some a → (d : Decimal) × (look env x ≡ Some d) × Contains a d
look_inside [] [] x a w e = absurd (cc)
look_inside [] (v ∷ vs) x a w e = absurd w
look_inside (r ∷ rs) [] x a w e = absurd w
look_inside (r ∷ rs) (v ∷ vs) x a w e = by_test (bytes_eq r.name x) (look_inside rs vs x a w.2) refl e
  where
    by_test : (t : Bool) → (range_named rs x ≡ Some a → (d : Decimal) × (look vs x ≡ Some d) × Contains a d) → bytes_eq r.name x ≡ t → (if t then Some r.range else range_named rs x) ≡ Some a → (d : Decimal) × (look (v ∷ vs) x ≡ Some d) × Contains a d
    by_test true later f g =
        let same : r.range ≡ a = cc in
        let named : bytes_eq v.name x ≡ true = subst (λ n. bytes_eq n x ≡ true) w.0 f in
        (v.value, rw named refl, subst (λ a. Contains a v.value) same w.1)
    by_test false later f g =
        let l = later g in
        let named : bytes_eq v.name x ≡ false = subst (λ n. bytes_eq n x ≡ false) w.0 f in
        (l.0, rw named l.1, l.2)

-- what has no range has no value
pub look_none : (rs : Ranges) (env : Env) (x : List ℕ) → AreWithin rs env → range_named rs x ≡ None → look env x ≡ None
look_none [] [] x w e = refl
look_none [] (v ∷ vs) x w e = absurd w
look_none (r ∷ rs) [] x w e = absurd w
look_none (r ∷ rs) (v ∷ vs) x w e = by_test (bytes_eq r.name x) (look_none rs vs x w.2) refl e
  where
    by_test : (t : Bool) → (range_named rs x ≡ None → look vs x ≡ None) → bytes_eq r.name x ≡ t → (if t then Some r.range else range_named rs x) ≡ None → look (v ∷ vs) x ≡ None
    by_test true later f g = absurd (cc)
    by_test false later f g =
        let named : bytes_eq v.name x ≡ false = subst (λ n. bytes_eq n x ≡ false) w.0 f in
        rw named (later g)

-- a variable's range replaced by another that holds its value
pub within_narrow : (rs : Ranges) (env : Env) (x : List ℕ) (a : Interval) (d : Decimal) → AreWithin rs env → look env x ≡ Some d → Contains a d → AreWithin (put_range rs x a) env
within_narrow [] [] x a d w e h = tt
within_narrow [] (v ∷ vs) x a d w e h = absurd w
within_narrow (r ∷ rs) [] x a d w e h = absurd w
within_narrow (r ∷ rs) (v ∷ vs) x a d w e h = by_test (bytes_eq r.name x) refl (within_narrow rs vs x a d w.2)
  where
    by_test : (t : Bool) → bytes_eq r.name x ≡ t → (look vs x ≡ Some d → Contains a d → AreWithin (put_range rs x a) vs) → AreWithin (if t then record r { range = a } ∷ rs else r ∷ put_range rs x a) (v ∷ vs)
    by_test true f later =
        let g : bytes_eq v.name x ≡ true = subst (λ n. bytes_eq n x ≡ true) w.0 f in
        let here : Some v.value ≡ Some d = subst (λ b. (if b then Some v.value else look vs x) ≡ Some d) g e in
        let same : d ≡ v.value = cc in
        (w.0, subst (Contains a) same h, w.2)
    by_test false f later =
        let g : bytes_eq v.name x ≡ false = subst (λ n. bytes_eq n x ≡ false) w.0 f in
        let there : look vs x ≡ Some d = subst (λ b. (if b then Some v.value else look vs x) ≡ Some d) g e in
        (w.0, w.1, later there h)

-- both replaced
pub within_put : (rs : Ranges) (env : Env) (x : List ℕ) (a : Interval) (d : Decimal) → AreWithin rs env → Contains a d → AreWithin (put_range rs x a) (put_value env x d)
within_put [] [] x a d w h = tt
within_put [] (v ∷ vs) x a d w h = absurd w
within_put (r ∷ rs) [] x a d w h = absurd w
within_put (r ∷ rs) (v ∷ vs) x a d w h = by_test (bytes_eq r.name x) (bytes_eq v.name x) (ap (λ n. bytes_eq n x) w.0) (within_put rs vs x a d w.2 h)
  where
    by_test : (t u : Bool) → t ≡ u → AreWithin (put_range rs x a) (put_value vs x d) → AreWithin (if t then record r { range = a } ∷ rs else r ∷ put_range rs x a) (if u then record v { value = d } ∷ vs else v ∷ put_value vs x d)
    by_test true true e later = (w.0, h, w.2)
    by_test false false e later = (w.0, w.1, later)
    by_test true false e later = absurd (cc)
    by_test false true e later = absurd (cc)

-- an assignment gives no name a value that has none
pub none_put : (env : Env) (x y : List ℕ) (d : Decimal) → look env y ≡ None → look (put_value env x d) y ≡ None
none_put [] x y d e = refl
none_put (v ∷ vs) x y d e = by_named (bytes_eq v.name x) (bytes_eq v.name y) refl e (none_put vs x y d)
  where
    by_named : (t u : Bool) → bytes_eq v.name y ≡ u → (if u then Some v.value else look vs y) ≡ None → (look vs y ≡ None → look (put_value vs x d) y ≡ None) → look (if t then record v { value = d } ∷ vs else v ∷ put_value vs x d) y ≡ None
    by_named t true f g later = absurd (cc)
    by_named true false f g later = rw f g
    by_named false false f g later = rw f (later g)

pub variables_put : (scope : Scope) (env : Env) (x : List ℕ) (d : Decimal) → AreVariables scope env → AreVariables scope (put_value env x d)
variables_put scope env x d only y none = none_put env x y d (only y none)
