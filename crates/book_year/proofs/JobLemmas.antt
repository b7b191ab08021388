-- Whether the old job is the new one.
use Rattle.std.proofs.Common.{◌≡◌, List, [], ◌∷◌, Bool, true, false, ◌&&◌, if◌then◌else◌, refl, sym, ap, ◌∙◌}
use Rattle.std.specs.Prelude.{Option, Some, None, nat_eq}
use Rattle.std.specs.Bool.{Decides}
use Rattle.std.specs.Cmp.{signed_Decides, unsigned_Decides}
use Rattle.std.specs.Option.{option_map}
use Rattle.std.specs.Ordering.{int_eq}
use Rattle.std.proofs.lemmas.Slice.Eq.{slice_eq-Decides}
use Rattle.scaled_decimal.specs.Decimals.{Decimal, numerator_of, scale_of}
use Rattle.plan_calendar.specs.Picking.{Entry, plan_of}
use Rattle.carry_bindings.specs.Conditions.{AreBounded}
use Rattle.pap_plan.specs.Acceptance.{Meaning}
use Rattle.pay_run.proofs.Laws.{same_outputs}
use Rattle.pay_run.specs.Runs.{run_outputs}
use Rattle.book_year.specs.Accepted.{Accepted}
use Rattle.book_year.specs.declared.chain.OldJob.{OldJob}
use Rattle.book_year.specs.Rows.{Job, job_of}
use Rattle.book_year.specs.Jobs.{has_texts, same_decimal, same_inputs, new_job}
use Rattle.book_year.specs.Picks.{KnowsSame, same_plan, meaning_of}
use Rattle.book_year.specs.private.ChainClauses.{HasJob}

both : (a b : Bool) → (a && b) ≡ true → (a ≡ true) × (b ≡ true)
both true b e = (refl, e)
both false b e = cc

pub and_true : (a b : Bool) → a ≡ true → b ≡ true → (a && b) ≡ true
and_true a b e f = rw (e, f)

and_false : (a b : Bool) → b ≡ false → (a && b) ≡ false
and_false true b e = e
and_false false b e = refl

pub decimal_decides : (a b : Decimal) → Decides (same_decimal a b) (a ≡ b)
decimal_decides a b = (
  λ e. let h = both (int_eq (numerator_of a) (numerator_of b)) (nat_eq (scale_of a) (scale_of b)) e in
      let n = (signed_Decides (numerator_of a) (numerator_of b)).0 h.0 in
      let s = (unsigned_Decides (scale_of a) (scale_of b)).0 h.1 in
      λ i. (n i, s i),
  λ e. and_true (int_eq (numerator_of a) (numerator_of b)) (nat_eq (scale_of a) (scale_of b)) ((signed_Decides (numerator_of a) (numerator_of b)).1 (ap numerator_of e)) ((unsigned_Decides (scale_of a) (scale_of b)).1 (ap scale_of e)),
)

inputs_same : (a b : List Decimal) → same_inputs a b ≡ true → a ≡ b
inputs_same a b e = (slice_eq-Decides decimal_decides a b (same_inputs a b) refl).0 e

texts_are : (was : Option (Entry Accepted)) (p : Accepted) (e : Entry Accepted) → option_map plan_of was ≡ Some p → same_plan was (Some e) ≡ has_texts p (plan_of e)
texts_are None p e h = cc
texts_are (Some w) p e h = ap (λ x. has_texts x (plan_of e)) (some_same (plan_of w) p h)
  where
    some_same : (x y : Accepted) → ◌≡◌ {A = Option Accepted} (Some x) (Some y) → x ≡ y
    some_same x y h = cc

means_are : (was : Option (Entry Accepted)) (p : Accepted) (e : Entry Accepted) → option_map plan_of was ≡ Some p → meaning_of was ≡ meaning_of (Some e) → p.meaning ≡ (plan_of e).meaning
means_are None p e h k = cc
means_are (Some w) p e h k = sym (ap (λ (x : Accepted). x.meaning) (some_same (plan_of w) p h)) ∙ same_meaning (plan_of w).meaning (plan_of e).meaning k
  where
    some_same : (x y : Accepted) → ◌≡◌ {A = Option Accepted} (Some x) (Some y) → x ≡ y
    some_same x y h = cc

    same_meaning : (x y : Meaning) → ◌≡◌ {A = Option Meaning} (Some x) (Some y) → x ≡ y
    same_meaning x y h = cc

module _ (was : Option (Entry Accepted)) (job : Option Job) (e : Entry Accepted) (same : Bool) (old : OldJob) (inputs : List Decimal) (knows : KnowsSame was (Some e) same) (has : HasJob was job old) where
  abbrev next : Job
  next = job_of (plan_of e) inputs

  texts : same ≡ has_texts has.plan (plan_of e)
  texts = knows.texts ∙ texts_are was has.plan e has.planned

  new_by : (t s : Bool) → same ≡ t → same_inputs old.inputs.now inputs ≡ s → new_job job (Some next) ≡ (if t && s then [] else next ∷ [])
  new_by t s h k = ap (λ j. new_job j (Some next)) has.is ∙ ap (λ b. if b && same_inputs old.inputs.now inputs then [] else next ∷ []) (sym texts ∙ h) ∙ ap (λ b. if t && b then [] else next ∷ []) k

  -- the texts differ, or the inputs
  pub other_texts : same ≡ false → new_job job (Some next) ≡ next ∷ []
  other_texts h = new_by false (same_inputs old.inputs.now inputs) h refl

  pub other_inputs : same_inputs old.inputs.now inputs ≡ false → new_job job (Some next) ≡ next ∷ []
  other_inputs k = new_by same false refl k ∙ ap (λ b. if b then [] else next ∷ []) (and_false same false refl)

  -- the job is the old one
  pub same_job : same ≡ true → same_inputs old.inputs.now inputs ≡ true → (new_job job (Some next) ≡ []) × (old.outputs.now ≡ run_outputs (plan_of e) inputs) × AreBounded (Some old.outputs.now)
  same_job h k = (
    new_by true true h k,
    has.outputs ∙ ap (run_outputs has.plan) (inputs_same old.inputs.now inputs k) ∙ same_outputs has.plan (plan_of e) inputs (means_are was has.plan e has.planned (knows.means h)),
    has.bounded,
  )
