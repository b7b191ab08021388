-- Causes are the same exactly where they are equal.
use Rattle.std.proofs.Common.{◌≡◌, ◌∙◌, true, refl, ap, sym}
use Rattle.std.proofs.lemmas.Slice.Eq.{bytes_eq-Decides}
use Rattle.std.proofs.lemmas.Bool.Decides.{same_from_decides}
use Rattle.open_runs.specs.declared.cause.Cause.{Cause}
use Rattle.open_runs.specs.declared.cause.Cause.TheVariants.{NoPlan, Waits, Unknown, Missing, Range}
use Rattle.open_runs.specs.OpenRuns.{same_reason}

-- a cause is the same as itself
pub same_itself : (a : Cause) → same_reason a a ≡ true
same_itself NoPlan = refl
same_itself Waits = refl
same_itself (Unknown a) = (bytes_eq-Decides a a).1 refl
same_itself (Missing a) = (bytes_eq-Decides a a).1 refl
same_itself (Range a) = (bytes_eq-Decides a a).1 refl

-- causes that are the same are equal
pub same_equal : (a b : Cause) → same_reason a b ≡ true → a ≡ b
same_equal NoPlan NoPlan h = refl
same_equal Waits Waits h = refl
same_equal (Unknown a) (Unknown b) h = ap (λ v. Unknown v) ((bytes_eq-Decides a b).0 h)
same_equal (Missing a) (Missing b) h = ap (λ v. Missing v) ((bytes_eq-Decides a b).0 h)
same_equal (Range a) (Range b) h = ap (λ v. Range v) ((bytes_eq-Decides a b).0 h)
same_equal NoPlan Waits h = cc
same_equal NoPlan (Unknown b) h = cc
same_equal NoPlan (Missing b) h = cc
same_equal NoPlan (Range b) h = cc
same_equal Waits NoPlan h = cc
same_equal Waits (Unknown b) h = cc
same_equal Waits (Missing b) h = cc
same_equal Waits (Range b) h = cc
same_equal (Unknown a) NoPlan h = cc
same_equal (Unknown a) Waits h = cc
same_equal (Unknown a) (Missing b) h = cc
same_equal (Unknown a) (Range b) h = cc
same_equal (Missing a) NoPlan h = cc
same_equal (Missing a) Waits h = cc
same_equal (Missing a) (Unknown b) h = cc
same_equal (Missing a) (Range b) h = cc
same_equal (Range a) NoPlan h = cc
same_equal (Range a) Waits h = cc
same_equal (Range a) (Unknown b) h = cc
same_equal (Range a) (Missing b) h = cc

-- in either order
pub same_turned : (a b : Cause) → same_reason a b ≡ same_reason b a
same_turned a b = same_from_decides (same_reason a b) (same_reason b a)
    (same_equal a b, λ (e : a ≡ b). ap (λ v. same_reason a v) (sym e) ∙ same_itself a)
    (λ h. sym (same_equal b a h), λ (e : a ≡ b). ap (λ v. same_reason b v) e ∙ same_itself b)
