-- The first runs of each cause, with one run more.
use Rattle.std.proofs.Common.{◌≡◌, ◌∙◌, ◌+◌, List, [], ◌∷◌, ◌++◌, length, Bool, true, false, not, ◌||◌, cond, if◌then◌else◌, refl, ap, sym, zero-add}
use Rattle.std.specs.Prelude.{filter, count_by}
use Rattle.std.specs.List.{list_any}
use Rattle.std.proofs.lemmas.List.Elements.{filter-append}
use Rattle.std.proofs.lemmas.List.Sums.{length-filter, sum_by-append}
use Rattle.open_runs.specs.declared.cause.Cause.{Cause}
use Rattle.open_runs.specs.OpenRuns.{OpenRun, has_cause, has_other_cause, firsts, same_reason}
use Rattle.open_runs.proofs.CauseLemmas.{same_equal, same_turned}

-- ---- any of them

any_cons : {X : Type 0} (p q : X → Bool) (x : X) (xs : List X) (a b : Bool) → p x ≡ a → q x ≡ b → (a ≡ true → b ≡ true) →
    list_any p (filter q xs) ≡ list_any p xs → list_any p (filter q (x ∷ xs)) ≡ list_any p (x ∷ xs)
any_cons p q x xs a true is kept h on = rw kept (ap (λ v. p x || v) on)
any_cons p q x xs false false is kept h on = rw kept (rw is on)
any_cons p q x xs true false is kept h on = let e = h refl in cc

-- a filter that lets through whatever passes a test leaves whether one passes
any_filter : {X : Type 0} (p q : X → Bool) → ((x : X) → p x ≡ true → q x ≡ true) → (xs : List X) →
    list_any p (filter q xs) ≡ list_any p xs
any_filter p q h [] = refl
any_filter p q h (x ∷ xs) = any_cons p q x xs (p x) (q x) refl refl (h x) (any_filter p q h xs)

-- ---- the first runs

others_kept : (cause : Cause) (run other : OpenRun) → has_cause cause run ≡ false →
    has_cause cause other ≡ true → has_other_cause run.cause other ≡ true
others_kept cause run other differs is =
    let e : other.cause ≡ cause = same_equal other.cause cause is in
    let turned : has_cause run.cause other ≡ false =
    ap (λ v. same_reason v run.cause) e ∙ (same_turned cause run.cause ∙ differs) in
    ap not turned

any_first : (cause : Cause) (run : OpenRun) (runs : List OpenRun) (b : Bool) → has_cause cause run ≡ b →
    list_any (has_cause cause) (firsts runs) ≡ list_any (has_cause cause) runs →
    list_any (has_cause cause) (firsts (run ∷ runs)) ≡ list_any (has_cause cause) (run ∷ runs)
any_first cause run runs true is h = rw is refl
any_first cause run runs false is h =
    ap (λ v. v || list_any (has_cause cause) (filter (has_other_cause run.cause) (firsts runs))) is
    ∙ (any_filter (has_cause cause) (has_other_cause run.cause)
    (λ other has. others_kept cause run other is has) (firsts runs)
    ∙ (h ∙ sym (ap (λ v. v || list_any (has_cause cause) runs) is)))

-- a cause that a run has, one of the first runs has
pub any_firsts : (cause : Cause) (runs : List OpenRun) →
    list_any (has_cause cause) (firsts runs) ≡ list_any (has_cause cause) runs
any_firsts cause [] = refl
any_firsts cause (run ∷ runs) = any_first cause run runs (has_cause cause run) refl (any_firsts cause runs)

-- the run, where its cause isn't among those before
abbrev pub new_run : Bool → OpenRun → List OpenRun
new_run stands run = if stands then [] else run ∷ []

new_kept : (run next : OpenRun) (a b : Bool) → has_cause next.cause run ≡ a →
    filter (has_other_cause run.cause) (new_run b next) ≡ new_run (a || b) next
new_kept run next true true is = refl
new_kept run next false true is = refl
new_kept run next true false is = rw (same_turned next.cause run.cause ∙ is) refl
new_kept run next false false is = rw (same_turned next.cause run.cause ∙ is) refl

-- one run more is the first of its cause where no run before it has that
pub firsts_next : (runs : List OpenRun) (next : OpenRun) →
    firsts (runs ++ next ∷ []) ≡ firsts runs ++ new_run (list_any (has_cause next.cause) runs) next
firsts_next [] next = refl
firsts_next (run ∷ runs) next =
    ap (λ v. run ∷ filter (has_other_cause run.cause) v) (firsts_next runs next)
    ∙ ap (λ v. run ∷ v) (filter-append (has_other_cause run.cause) (firsts runs) (new_run (list_any (has_cause next.cause) runs) next)
    ∙ ap (λ v. filter (has_other_cause run.cause) (firsts runs) ++ v)
    (new_kept run next (has_cause next.cause run) (list_any (has_cause next.cause) runs) refl))

-- ---- counts

-- one more is counted where it passes
pub count_next : {X : Type 0} (p : X → Bool) (xs : List X) (y : X) →
    count_by p (xs ++ y ∷ []) ≡ count_by p xs + cond (p y) 1 0
count_next p xs y =
    sum_by-append (λ x. cond (p x) 1 0) xs (y ∷ []) ∙ ap (λ v. count_by p xs + v) (zero-add (cond (p y) 1 0))

none_cons : {X : Type 0} (p : X → Bool) (x : X) (xs : List X) (b : Bool) → p x ≡ b → (list_any p xs ≡ false → filter p xs ≡ []) →
    p x || list_any p xs ≡ false → filter p (x ∷ xs) ≡ []
none_cons p x xs true is h none = let e : true ≡ false = sym (ap (λ v. v || list_any p xs) is) ∙ none in cc
none_cons p x xs false is h none = rw is (h (sym (ap (λ v. v || list_any p xs) is) ∙ none))

none_filtered : {X : Type 0} (p : X → Bool) (xs : List X) → list_any p xs ≡ false → filter p xs ≡ []
none_filtered p [] none = refl
none_filtered p (x ∷ xs) none = none_cons p x xs (p x) refl (none_filtered p xs) none

-- none is counted where none passes
pub none_counted : {X : Type 0} (p : X → Bool) (xs : List X) → list_any p xs ≡ false → count_by p xs ≡ 0
none_counted p xs none = sym (length-filter p xs) ∙ ap (λ v. length v) (none_filtered p xs none)
