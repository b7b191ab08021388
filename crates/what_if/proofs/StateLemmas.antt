-- Two states are told the same exactly where they are.
use Rattle.std.proofs.Common.{◌≡◌, ℕ, List, Bool, true, false, ◌&&◌, refl, sym, ap, ◌∙◌}
use Rattle.std.specs.Bool.{Decides}
use Rattle.std.specs.Ordering.{is_eq}
use Rattle.std.specs.Str.{bytes_eq}
use Rattle.std.specs.Cmp.Lexicographic.{pointwise}
use Rattle.std.proofs.lemmas.Bool.{false≢true}
use Rattle.std.proofs.lemmas.Cmp.{tied_itself}
use Rattle.std.proofs.lemmas.Slice.Eq.{bytes_eq-Decides, slice_eq-Decides}
use Rattle.rising_lists.proofs.Laws.{tied}
use Rattle.payroll_records.specs.declared.day.Day.{Day}
use Rattle.payroll_records.specs.declared.values.NamedValue.{NamedValue}
use Rattle.payroll_records.specs.Orders.{day_cmp}
use Rattle.payroll_records.proofs.Laws.{day_total, day_same}
use Rattle.carry_bindings.specs.declared.filling.Blocked.{Blocked}
use Rattle.carry_bindings.specs.declared.filling.Blocked.TheVariants as blocked
use Rattle.book_year.specs.declared.outcome.State.{State}
use Rattle.book_year.specs.declared.outcome.State.TheVariants as state
use Rattle.book_year.specs.Jobs.{same_decimal}
use Rattle.book_year.proofs.Laws.{decimal_decides}
use Rattle.what_if.specs.TrialLaws.{SameStatesAreOne}
use Rattle.what_if.specs.Changes.{same_cause, same_output, same_state}

both : (a b : Bool) → (a && b) ≡ true → (a ≡ true) × (b ≡ true)
both true b e = (refl, e)
both false b e = absurd (false≢true e)

and_true : (a b : Bool) → a ≡ true → b ≡ true → (a && b) ≡ true
and_true a b e f = rw (e, f)

output_decides : (v w : NamedValue) → Decides (same_output v w) (v ≡ w)
output_decides v w = (
  λ e. let h = both (bytes_eq v.name w.name) (same_decimal v.value w.value) e in
      let n = (bytes_eq-Decides v.name w.name).0 h.0 in
      let d = (decimal_decides v.value w.value).0 h.1 in
      λ i. record { name = n i; value = d i },
  λ e. and_true (bytes_eq v.name w.name) (same_decimal v.value w.value)
      ((bytes_eq-Decides v.name w.name).1 (ap (λ (x : NamedValue). x.name) e))
      ((decimal_decides v.value w.value).1 (ap (λ (x : NamedValue). x.value) e)),
)

outputs_decide : (vs ws : List NamedValue) → Decides (pointwise same_output vs ws) (vs ≡ ws)
outputs_decide vs ws = slice_eq-Decides output_decides vs ws (pointwise same_output vs ws) refl

-- ---- from the test

days_one : (d e : Day) → is_eq (day_cmp d e) ≡ true → d ≡ e
days_one d e t = day_same d e (tied (day_cmp d e) t)

names_one : (m n : List ℕ) → bytes_eq m n ≡ true → m ≡ n
names_one m n t = (bytes_eq-Decides m n).0 t

cause_one : (b c : Blocked) → same_cause b c ≡ true → b ≡ c
cause_one (blocked.Waits d) (blocked.Waits e) t = ap (λ x. blocked.Waits x) (days_one d e t)
cause_one (blocked.Unknown m) (blocked.Unknown n) t = ap (λ x. blocked.Unknown x) (names_one m n t)
cause_one (blocked.Missing m) (blocked.Missing n) t = ap (λ x. blocked.Missing x) (names_one m n t)
cause_one (blocked.Range m) (blocked.Range n) t = ap (λ x. blocked.Range x) (names_one m n t)
cause_one (blocked.Waits d) (blocked.Unknown n) t = absurd (false≢true t)
cause_one (blocked.Waits d) (blocked.Missing n) t = absurd (false≢true t)
cause_one (blocked.Waits d) (blocked.Range n) t = absurd (false≢true t)
cause_one (blocked.Unknown m) (blocked.Waits e) t = absurd (false≢true t)
cause_one (blocked.Unknown m) (blocked.Missing n) t = absurd (false≢true t)
cause_one (blocked.Unknown m) (blocked.Range n) t = absurd (false≢true t)
cause_one (blocked.Missing m) (blocked.Waits e) t = absurd (false≢true t)
cause_one (blocked.Missing m) (blocked.Unknown n) t = absurd (false≢true t)
cause_one (blocked.Missing m) (blocked.Range n) t = absurd (false≢true t)
cause_one (blocked.Range m) (blocked.Waits e) t = absurd (false≢true t)
cause_one (blocked.Range m) (blocked.Unknown n) t = absurd (false≢true t)
cause_one (blocked.Range m) (blocked.Missing n) t = absurd (false≢true t)

pub state_one : (s t : State) → same_state s t ≡ true → s ≡ t
state_one state.NoPlan state.NoPlan h = refl
state_one (state.Blocked b) (state.Blocked c) h = ap (λ x. state.Blocked x) (cause_one b c h)
state_one (state.Done vs) (state.Done ws) h = ap (λ x. state.Done x) ((outputs_decide vs ws).0 h)
state_one state.NoPlan (state.Blocked c) h = absurd (false≢true h)
state_one state.NoPlan (state.Done ws) h = absurd (false≢true h)
state_one (state.Blocked b) state.NoPlan h = absurd (false≢true h)
state_one (state.Blocked b) (state.Done ws) h = absurd (false≢true h)
state_one (state.Done vs) state.NoPlan h = absurd (false≢true h)
state_one (state.Done vs) (state.Blocked c) h = absurd (false≢true h)

-- ---- to the test

cause_own : (b : Blocked) → same_cause b b ≡ true
cause_own (blocked.Waits d) = ap is_eq (tied_itself day_total d)
cause_own (blocked.Unknown m) = (bytes_eq-Decides m m).1 refl
cause_own (blocked.Missing m) = (bytes_eq-Decides m m).1 refl
cause_own (blocked.Range m) = (bytes_eq-Decides m m).1 refl

pub state_own : (s : State) → same_state s s ≡ true
state_own state.NoPlan = refl
state_own (state.Blocked b) = cause_own b
state_own (state.Done vs) = (outputs_decide vs vs).1 refl

pub states_one : SameStatesAreOne
states_one s t = (state_one s t, λ e. ap (same_state s) (sym e) ∙ state_own s)
