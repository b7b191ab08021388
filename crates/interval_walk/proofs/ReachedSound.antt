-- Some branch of a test can be reached.
use Rattle.std.proofs.Common.{◌≡◌, [], ◌∷◌, Bool, true, false, ◌||◌, Option, refl}
use Rattle.std.specs.Prelude.{All, IsTrue, is_some}
use Rattle.std.proofs.lemmas.List.Elements.{All-head, All-tail}
use Rattle.scaled_decimal.specs.Decimals.{Decimal, decimal}
use Rattle.pap_types.specs.Scopes.{scope_of}
use Rattle.pap_types.specs.Operations.{is_zero}
use Rattle.pap_types.specs.Values.{Env}
use Rattle.pap_types.proofs.Laws.{has_types}
use Rattle.interval_walk.specs.Ranges.{Ranges}
use Rattle.interval_walk.specs.Soundness.{AreWithin, AreReachedWithin, IsFilled, SomeBranchIsReached}
use Rattle.interval_walk.specs.private.Soundness.{AreVariables}
use Rattle.interval_walk.proofs.EnvLemmas.{look_none}
use Rattle.interval_walk.proofs.RowLaws.{low_inside}
use Rattle.interval_walk.proofs.PlanLemmas.{sound_scope}
use Rattle.interval_walk.proofs.TermSound.{test_sound}

-- each variable at the low end of its range
pub lows : Ranges → Env
lows [] = []
lows (v ∷ vs) = record { name = v.name; value = decimal v.range.lo v.range.s_hi } ∷ lows vs

pub lows_inside : (rs : Ranges) → All (λ v. IsFilled v.range) rs → AreWithin rs (lows rs)
unfolding lows
lows_inside [] h = tt
lows_inside (v ∷ vs) h =
    let here = All-head (λ v. IsFilled v.range) v vs h in
    (refl, low_inside v.range here.order here.scales, lows_inside vs (All-tail (λ v. IsFilled v.range) v vs h))

some_reached : {o : Option Ranges} {env : Env} → AreReachedWithin o env → is_some o ≡ true
some_reached h = let i = h.is in rw i refl

either_right : (t : Bool) → (t || true) ≡ true
either_right true = refl
either_right false = refl

pub some_branch : SomeBranchIsReached
some_branch f t at rs br typed typed_term keeps filled e =
    let env = lows rs in
    let within = lows_inside rs filled.ranges in
    let only : AreVariables (scope_of f) env = (λ x none. look_none rs env x within (filled.variables x none)) in
    let h = test_sound (scope_of f) (sound_scope f (has_types f typed)) env only t at rs br within typed_term keeps e in
    by_value h.gives h.holds h.fails (is_zero h.gives) refl
  where
    by_value : (v : Decimal) → (is_zero v ≡ false → AreReachedWithin br.holds (lows rs)) → (is_zero v ≡ true → AreReachedWithin br.fails (lows rs)) → (z : Bool) → is_zero v ≡ z → IsTrue (is_some br.holds || is_some br.fails)
    by_value v holds fails false z = rw (some_reached (holds z)) refl
    by_value v holds fails true z = rw (some_reached (fails z)) (either_right (is_some br.holds))
