-- Which values are admitted: one that fits, and for a `double` one that fits, brought to three places.
use Rattle.std.proofs.Common.{◌≡◌, ◌-◌, ◌≤◌, ℤ, ◌*ℤ◌, ◌≤ℤ◌, unsigned_abs, Equal, true, refl, sym, ap, ◌∙◌, arith}
use Rattle.std.specs.Prelude.{nat_le}
use Rattle.std.specs.Cmp.{int_cmp_is}
use Rattle.std.proofs.lemmas.Int.{ints}
use Rattle.std.proofs.lemmas.Bool.Decides.{nat_tests}
use Rattle.scaled_decimal.specs.Decimals.{Decimal, numerator_of, scale_of, numerator_at, ten_to, value_order}
use Rattle.scaled_decimal.specs.Limits.{IsWithinLimit, limit}
use Rattle.scaled_decimal.proofs.Laws.{times_assoc, ten_add}
use Rattle.pap_tree.specs.declared.declaration.Kind.TheVariants as declares
use Rattle.limits_file.specs.declared.limits.InputLimit.{InputLimit}
use Rattle.limits_file.specs.Limits.{Fits, HasSoundBounds, IsFactorLimit}
use Rattle.pap_types.specs.Scopes.{factor_places, at_factor_scale}
use Rattle.pap_types.specs.Kinds.{has_few_places}
use Rattle.interval_walk.specs.Admission.{IsAdmitted}
use Rattle.interval_walk.proofs.RowShapes.{both_true}
use Rattle.interval_walk.proofs.StartSound.{at_most}

within : (d : Decimal) → has_few_places d ≡ true → IsWithinLimit (numerator_at factor_places d)
within d e =
    let t = (both_true (nat_le (scale_of d) factor_places) (nat_le (unsigned_abs (numerator_of (at_factor_scale d))) limit) e).1 in
    grind (arith, nat_tests)

between : (l z h : ℤ) → IsWithinLimit l → IsWithinLimit h → l ≤ℤ z → z ≤ℤ h → IsWithinLimit z
between l z h a b p q = omega (arith, ints)

-- three places change no value
same_value : (u : Decimal) → scale_of u ≤ factor_places → value_order u (at_factor_scale u) ≡ Equal
same_value u few =
    let longer : numerator_at factor_places u *ℤ ten_to (scale_of u) ≡ numerator_of u *ℤ ten_to factor_places =
    times_assoc (numerator_of u) (ten_to (factor_places - scale_of u)) (ten_to (scale_of u))
    ∙ ap (λ t. numerator_of u *ℤ t) (ten_add (factor_places - scale_of u) (scale_of u) factor_places (omega arith)) in
    sym (int_cmp_is (numerator_of u *ℤ ten_to factor_places) (numerator_at factor_places u *ℤ ten_to (scale_of u)) Equal (sym longer))

pub factor_admitted : (l : InputLimit) (u : Decimal) → HasSoundBounds l → IsFactorLimit l → Fits l u → IsAdmitted declares.Factor l (at_factor_scale u)
factor_admitted l u s t f =
    let few = t.places in
    let lu : scale_of u ≤ factor_places = omega (arith, f.places) in
    let llow : scale_of l.low ≤ factor_places = omega (arith, s.low_places) in
    let lhigh : scale_of l.high ≤ factor_places = omega (arith, s.high_places) in
    let low = at_most l.low u factor_places llow lu f.above in
    let high = at_most u l.high factor_places lu lhigh f.below in
    record {
      kept = record {
        numerator = between (numerator_at factor_places l.low) (numerator_at factor_places u) (numerator_at factor_places l.high) (within l.low t.low) (within l.high t.high) low high;
        scale = omega arith;
      };
      fits = record { places = refl; equal = u; same = same_value u lu; fits = f };
    }
