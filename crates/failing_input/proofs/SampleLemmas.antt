-- Samples are admitted.
use Rattle.std.proofs.Common.{◌≡◌, ℕ, zero, suc, ◌+◌, ◌<◌, ◌≤◌, List, [], ◌∷◌, ◌++◌, take, add-one, length, get_or, map, Bool, true, false, ◌&&◌, Some, None, refl, sym, ap, ◌∙◌, subst, true≢false, unsigned_abs, arith}
use Rattle.std.specs.Prelude.{All, IsTrue, nat_le, Option, IfSome}
use Rattle.std.proofs.lemmas.Bool.Decides.{nat_tests}
use Rattle.std.specs.List.{AllZip}
use Rattle.std.proofs.lemmas.List.Elements.{All-nil, All-cons, All-head, All-tail}
use Rattle.std.proofs.lemmas.Option.{none-some}
use Rattle.scaled_decimal.specs.Decimals.{Decimal, scale_of, numerator_at}
use Rattle.scaled_decimal.specs.Limits.{limit}
use Rattle.pap_tree.specs.declared.declaration.Declared.{Declared}
use Rattle.pap_tree.specs.declared.declaration.Kind.{Kind}
use Rattle.pap_tree.specs.declared.declaration.Kind.TheVariants as declares
use Rattle.pap_tree.specs.Declarations.{Declaration, declaration_of}
use Rattle.pap_tree.specs.Flowchart.{Flowchart}
use Rattle.limits_file.specs.declared.limits.InputLimit.{InputLimit}
use Rattle.limits_file.specs.declared.limits.Limits.{Limits}
use Rattle.limits_file.specs.Limits.{limit_named, HasSoundBounds, Fits}
use Rattle.pap_types.specs.Scopes.{factor_places, at_factor_scale}
use Rattle.pap_types.specs.Kinds.{has_few_places}
use Rattle.interval_walk.proofs.Laws.{factor_admitted}
use Rattle.interval_walk.specs.Admission.{HasLimit, SuitsLimit, IsAdmitted, AllAdmitted, AreAdmitted}
use Rattle.failing_input.specs.declared.failure.Failure.{Failure}
use Rattle.failing_input.specs.Searches.{FailsOn, IsFailingInput}
use Rattle.failing_input.specs.declared.samples.InputRange.{InputRange}
use Rattle.failing_input.specs.private.SampleViews.{IsSoundRange, IsRangeOf, AreRangesOf, AreChosen}

some_limit : (a b : InputLimit) → Some a ≡ Some b → a ≡ b
some_limit a b e = cc

-- the limit that is found of a declared input is its limit
pub range_is : (limits : Limits) (d : Declaration) (r : InputRange) → HasLimit limits d → r.kind ≡ d.kind
    → limit_named limits d.name ≡ Some r.limit → IsRangeOf limits d r
range_is limits d r h kind is =
    let same = some_limit h.limit r.limit (sym h.is ∙ is) in
    record {
      kind = kind;
      is = is;
      sound = record {
        sound = subst (λ l. HasSoundBounds l) same h.sound;
        suits = subst (λ k. SuitsLimit k r.limit) (sym kind) (subst (SuitsLimit d.kind) same h.suits);
      };
    }

pub sound_ranges : (limits : Limits) (ds : List Declared) (rs : List InputRange) → AreRangesOf limits ds rs
    → All IsSoundRange rs
sound_ranges limits [] [] h = All-nil IsSoundRange
sound_ranges limits [] (r ∷ rs) h = absurd h
sound_ranges limits (d ∷ ds) [] h = absurd h
sound_ranges limits (d ∷ ds) (r ∷ rs) h =
    All-cons IsSoundRange r rs h.0.sound (sound_ranges limits ds rs h.1)

-- values of the ranges are admitted
pub chosen_admitted : (limits : Limits) (ds : List Declared) (rs : List InputRange) (vs : List Decimal)
    → AreRangesOf limits ds rs → AreChosen rs vs → AllAdmitted limits (map declaration_of ds) vs
chosen_admitted limits [] [] [] h c = tt
chosen_admitted limits [] [] (v ∷ vs) h c = absurd c
chosen_admitted limits [] (r ∷ rs) vs h c = absurd h
chosen_admitted limits (d ∷ ds) [] vs h c = absurd h
chosen_admitted limits (d ∷ ds) (r ∷ rs) [] h c = absurd c
chosen_admitted limits (d ∷ ds) (r ∷ rs) (v ∷ vs) h c = (
  record {
    limit = r.limit;
    is = h.0.is;
    admitted = subst (λ k. IsAdmitted k r.limit v) h.0.kind c.0;
  },
  chosen_admitted limits ds rs vs h.1 c.1,
)

pub no_limit : (limits : Limits) (d : Declaration) → HasLimit limits d → None ≡ limit_named limits d.name → ⊥
no_limit limits d h none = none-some h.limit (none ∙ h.is)

pub sound_at : (rs : List InputRange) (i : ℕ) (r : InputRange) → r ≡ get_or rs i r → i < length rs → All IsSoundRange rs
    → IsSoundRange r
sound_at rs i r is lt h = subst IsSoundRange (sym is) (h i r lt)

-- what holds of all declared inputs holds of each
pub declared_there : (P : Declaration → Type 0) (ds : List Declared) (i : ℕ) (d : Declared) → d ≡ get_or ds i d
    → i < length ds → All P (map declaration_of ds) → P (declaration_of d)
declared_there P [] i d is l all = absurd (omega arith)
declared_there P (x ∷ ds) zero d is l all =
    subst (λ y. P (declaration_of y)) (sym is) (All-head P (declaration_of x) (map declaration_of ds) all)
declared_there P (x ∷ ds) (suc i) d is l all =
    declared_there P ds i d is (omega arith) (All-tail P (declaration_of x) (map declaration_of ds) all)

-- ---- a value of a `double`

and_true : (s t : Bool) → s ≡ true → t ≡ true → (s && t) ≡ true
and_true true t e f = f
and_true false t e f = absurd (true≢false (sym e))

le_true : (m n : ℕ) → m ≤ n → nat_le m n ≡ true
le_true m n le = grind (arith, nat_tests)

pub few_places : (kind : Kind) (l : InputLimit) (u : Decimal) → kind ≡ declares.Factor → HasSoundBounds l
    → SuitsLimit kind l → Fits l u → IsTrue (has_few_places u)
few_places kind l u e sound suits fits =
    let factor = subst (λ k. SuitsLimit k l) e suits in
    let admitted = factor_admitted l u sound factor fits in
    let kept = admitted.kept.numerator in
    and_true (nat_le (scale_of u) factor_places) (nat_le (unsigned_abs (numerator_at factor_places u)) limit)
    (le_true (scale_of u) factor_places (omega (arith, fits.places, factor.places)))
    (le_true (unsigned_abs (numerator_at factor_places u)) limit kept)

-- so it is admitted, brought to three places
pub factor_chosen : (kind : Kind) (l : InputLimit) (u v : Decimal) → kind ≡ declares.Factor → HasSoundBounds l
    → SuitsLimit kind l → Fits l u → v ≡ at_factor_scale u → IsAdmitted kind l v
factor_chosen kind l u v e sound suits fits same =
    let factor = subst (λ k. SuitsLimit k l) e suits in
    subst (λ k. IsAdmitted k l v) (sym e)
    (subst (λ w. IsAdmitted declares.Factor l w) (sym same) (factor_admitted l u sound factor fits))

-- ---- one more

zip_suc : {X Y : Type 0} (R : X → Y → Type 0) (xs : List X) (ys : List Y) (i : ℕ) (x : X) (y : Y) → i < length xs
    → x ≡ get_or xs i x → AllZip R (take i xs) ys → R x y → AllZip R (take (suc i) xs) (ys ++ y ∷ [])
zip_suc R [] ys i x y lt is h r = absurd (omega arith)
zip_suc R (w ∷ xs) [] zero x y lt is h r = (subst (λ v. R v y) is r, tt)
zip_suc R (w ∷ xs) (z ∷ zs) zero x y lt is h r = absurd h
zip_suc R (w ∷ xs) [] (suc i) x y lt is h r = absurd h
zip_suc R (w ∷ xs) (z ∷ zs) (suc i) x y lt is h r = (h.0, zip_suc R xs zs i x y (omega arith) is h.1 r)

pub zip_more : {X Y : Type 0} (R : X → Y → Type 0) (xs : List X) (ys : List Y) (i : ℕ) (x : X) (y : Y) → i < length xs
    → x ≡ get_or xs i x → AllZip R (take i xs) ys → R x y → AllZip R (take (i + 1) xs) (ys ++ y ∷ [])
zip_more R xs ys i x y lt is h r =
    subst (λ n. AllZip R (take n xs) (ys ++ y ∷ [])) (sym (add-one i)) (zip_suc R xs ys i x y lt is h r)

-- ---- a sample on which the run fails

pub failing_there : (f : Flowchart) (limits : Limits) (values given : List Decimal) (o : Option Failure) (x : Failure)
    → AreAdmitted f limits values → o ≡ Some x → IfSome o (FailsOn f given) → given ≡ values
    → IsFailingInput f limits values x
failing_there f limits values given o x a e h same = record {
  admitted = a;
  fails = subst (λ vs. FailsOn f vs x) same (subst (λ o. IfSome o (FailsOn f given)) e h);
}
