-- Limits of the same inputs admit the same values; where the walk passes, admitted inputs are safe.
use Rattle.std.proofs.Common.{◌≡◌, ℕ, suc, length, List, [], ◌∷◌, Bool, true, false, true≢false, Result, Ok, Err, Some, refl, sym, ap, ◌∙◌, subst}
use Rattle.std.specs.Prelude.{All, map, is_ok, IfOk, IfErr}
use Rattle.std.specs.List.{find}
use Rattle.std.specs.Str.{bytes_eq}
use Rattle.std.proofs.lemmas.List.Elements.{All-nil, All-cons, All-weaker}
use Rattle.scaled_decimal.specs.Decimals.{Decimal}
use Rattle.pap_tree.specs.Declarations.{Declaration}
use Rattle.pap_tree.specs.Flowchart.{Flowchart}
use Rattle.limits_file.specs.declared.limits.InputLimit.{InputLimit}
use Rattle.limits_file.specs.declared.limits.Limits.{Limits}
use Rattle.limits_file.specs.Limits.{limit_named, IsWithinBound}
use Rattle.pap_types.specs.Checks.{IsWellTyped}
use Rattle.pap_types.specs.Counts.{IsWithinCounts}
use Rattle.pap_types.specs.Meaning.{outputs_in}
use Rattle.interval_walk.specs.Admission.{HasLimit, HaveLimits, AllAdmitted, AreAdmitted}
use Rattle.interval_walk.specs.Analysis.{analysed}
use Rattle.interval_walk.specs.Failures.{WalkFault}
use Rattle.interval_walk.specs.Ranges.{Ranges}
use Rattle.interval_walk.specs.Soundness.{AreOutputs}
use Rattle.interval_walk.proofs.Laws.{analysis_sound}
use Rattle.interval_analysis.specs.declared.fault.RangeFault.{RangeFault}
use Rattle.interval_analysis.specs.declared.fault.RangeFault.TheVariants as faults
use Rattle.interval_analysis.specs.declared.verdict.Verdict.{Verdict}
use Rattle.interval_analysis.specs.Answers.{named_range, IsWalkFaultOrMemory}
use Rattle.range_parts.specs.Parts.{IsRangePart}
use Rattle.failing_input.specs.declared.failure.Failure.{Failure}
use Rattle.failing_input.specs.Searches.{PassesWalk, IsWhollySafe, IsFailingInput}
use Rattle.failing_input.specs.private.PartViews.{IsEnd}

-- ---- the same inputs

limit_same : (l m : Limits) (x : List ℕ) → l.inputs ≡ m.inputs → limit_named l x ≡ limit_named m x
limit_same l m x e = ap (find (λ i. bytes_eq i.name x)) e

pub admitted_same : (l m : Limits) (ds : List Declaration) (vs : List Decimal) → l.inputs ≡ m.inputs
    → AllAdmitted l ds vs → AllAdmitted m ds vs
admitted_same l m [] [] e h = tt
admitted_same l m [] (v ∷ vs) e h = absurd h
admitted_same l m (d ∷ ds) [] e h = absurd h
admitted_same l m (d ∷ ds) (v ∷ vs) e h = (
  record { limit = h.0.limit; is = sym (limit_same l m d.name e) ∙ h.0.is; admitted = h.0.admitted },
  admitted_same l m ds vs e h.1,
)

-- the walk asks for the inputs' limits alone
of_inputs : Flowchart → List InputLimit → Type 0
of_inputs f is = PassesWalk f (record { inputs = is; bindings = [] })

pub passed_same : (f : Flowchart) (l m : Limits) → l.inputs ≡ m.inputs → PassesWalk f l → PassesWalk f m
unfolding of_inputs
passed_same f l m e h =
    let moved : of_inputs f m.inputs = subst (of_inputs f) e (h.0, h.1) in
    (moved.0, moved.1)

-- ---- where the walk passes

bounded : (rs : Ranges) (vs : List Decimal) → AreOutputs rs vs → All IsWithinBound vs
bounded [] [] h = All-nil IsWithinBound
bounded [] (v ∷ vs) h = absurd h
bounded (r ∷ rs) [] h = absurd h
bounded (r ∷ rs) (v ∷ vs) h = All-cons IsWithinBound v vs h.0.bound (bounded rs vs h.1)

pub passed_safe : (f : Flowchart) (l : Limits) (inputs : List Decimal) → IsWellTyped f → IsWithinCounts f
    → HaveLimits f l → PassesWalk f l → AreAdmitted f l inputs → IsWhollySafe f inputs
passed_safe f l inputs typed counts limits passed admitted =
    let h = analysis_sound f l passed.0 typed counts limits passed.1 inputs admitted in
    record { safe = h.safe; outputs = bounded passed.0 (outputs_in f h.safe.ends) h.outputs }

pub limits_same : (f : Flowchart) (l m : Limits) → l.inputs ≡ m.inputs → HaveLimits f l → HaveLimits f m
limits_same f l m e h = All-weaker (HasLimit l) (HasLimit m) one f.inputs h
  where
    one : (d : Declaration) → HasLimit l d → HasLimit m d
    one d x = record { limit = x.limit; is = sym (limit_same l m d.name e) ∙ x.is; sound = x.sound; suits = x.suits }

-- ---- whether the walk passes

pub judged : (f : Flowchart) (limits : Limits) (r : Result Verdict RangeFault) (b : Bool)
    → IfOk r (λ v. analysed f limits ≡ Ok (map named_range v.outputs.items))
    → IfErr r (IsWalkFaultOrMemory f limits) → IsEnd r b → b ≡ is_ok (analysed f limits)
judged f limits (Ok v) b walked fault h = h ∙ sym (ap (λ (r : Result Ranges WalkFault). is_ok r) walked)
judged f limits (Err (faults.At place cause)) b walked fault h =
    h ∙ sym (ap (λ (r : Result Ranges WalkFault). is_ok r) fault.1)
judged f limits (Err (faults.Output name)) b walked fault h =
    h ∙ sym (ap (λ (r : Result Ranges WalkFault). is_ok r) fault.1)
judged f limits (Err (faults.Memory e)) b walked fault h = absurd h

ok_there : (r : Result Ranges WalkFault) → true ≡ is_ok r → (x : Ranges) × (r ≡ Ok x)
ok_there (Ok x) e = (x, refl)
ok_there (Err w) e = absurd (true≢false e)

pub passes_walk : (f : Flowchart) (limits : Limits) (b : Bool) → b ≡ true → b ≡ is_ok (analysed f limits)
    → PassesWalk f limits
passes_walk f limits b t e = let there = ok_there (analysed f limits) (sym t ∙ e) in (there.0, there.1)

pub fails_walk : (f : Flowchart) (limits : Limits) (b : Bool) → b ≡ false → b ≡ is_ok (analysed f limits)
    → ¬ (PassesWalk f limits)
fails_walk f limits b n e = λ p. true≢false (sym (ap (λ (r : Result Ranges WalkFault). is_ok r) p.1) ∙ sym e ∙ n)

-- inputs of a part that fail are inputs of the whole
pub fails_in : (f : Flowchart) (limits part : Limits) (inputs : List Decimal) (x : Failure) → IsRangePart f limits part
    → IsFailingInput f part inputs x → IsFailingInput f limits inputs x
fails_in f limits part inputs x p h = record { admitted = p.within inputs h.admitted; fails = h.fails }

-- admitted values are as many as declared inputs
pub admitted_many : (limits : Limits) (ds : List Declaration) (vs : List Decimal) → AllAdmitted limits ds vs
    → length ds ≡ length vs
admitted_many limits [] [] h = refl
admitted_many limits [] (v ∷ vs) h = absurd h
admitted_many limits (d ∷ ds) [] h = absurd h
admitted_many limits (d ∷ ds) (v ∷ vs) h = ap suc (admitted_many limits ds vs h.1)
