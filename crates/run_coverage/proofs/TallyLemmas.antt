-- A run counts once, however often it comes somewhere.
use Rattle.std.proofs.Common.{◌≡◌, ℕ, ◌+◌, ◌<◌, Bool, true, false, List, [], ◌∷◌, refl, sym, ap, ◌∙◌, arith, if◌then◌else◌}
use Rattle.std.specs.Prelude.{◌&&◌, ◌||◌, nat_lt}
use Rattle.std.specs.List.{fold, list_any}
use Rattle.std.proofs.lemmas.Bool.{lt-ltb, ltb-true}
use Rattle.month_trace.specs.declared.step.TraceStep.{TraceStep}
use Rattle.run_coverage.specs.private.TallyStates.{TallyState}
use Rattle.run_coverage.specs.declared.statement.StatementTally.{StatementTally}
use Rattle.run_coverage.specs.Coverage.{is_yes, is_no}
use Rattle.run_coverage.specs.private.Tallies.{with_run, hit, with_step}

-- a tally with one run more
abbrev pub counted : Bool → ℕ → TallyState → TallyState
counted is run t = if is then record { runs = t.runs + 1; last = run } else t

first_time : (run : ℕ) (t : TallyState) → t.last < run → with_run run t ≡ record { runs = t.runs + 1; last = run }
first_time run t lt = ap (λ b. counted b run t) (lt-ltb t.last run lt)

not_less : (a b : ℕ) (t : Bool) → nat_lt a b ≡ t → a ≡ b → nat_lt a b ≡ false
not_less a b true is e = absurd (let lt = ltb-true a b is in omega (arith, lt, e))
not_less a b false is e = is

again : (run : ℕ) (t : TallyState) → t.last ≡ run → with_run run t ≡ t
again run t e = ap (λ b. counted b run t) (not_less t.last run (nat_lt t.last run) refl e)

hit_again : (b : Bool) (run : ℕ) (t : TallyState) → t.last ≡ run → hit b run t ≡ t
hit_again true run t e = again run t e
hit_again false run t e = refl

module _ (p : TraceStep → Bool) (run : ℕ) where
  -- the steps of one run at a tally
  abbrev pub hits : TallyState → List TraceStep → TallyState
  hits t steps = fold (λ u s. hit (p s) run u) t steps

  hits_again : (steps : List TraceStep) (t : TallyState) → t.last ≡ run → hits t steps ≡ t
  hits_again [] t e = refl
  hits_again (s ∷ steps) t e =
      ap (λ u. hits u steps) (hit_again (p s) run t e) ∙ hits_again steps t e

  hits_by : (s : TraceStep) (steps : List TraceStep) (t : TallyState) (b : Bool) → p s ≡ b → t.last < run
      → (hits t steps ≡ counted (list_any p steps) run t) → hits (hit (p s) run t) steps ≡ counted (p s || list_any p steps) run t
  hits_by s steps t true is lt rest =
      let u : TallyState = record { runs = t.runs + 1; last = run } in
      ap (λ b. hits (hit b run t) steps) is ∙ ap (λ u. hits u steps) (first_time run t lt) ∙ hits_again steps u refl
      ∙ ap (λ b. counted (b || list_any p steps) run t) (sym is)
  hits_by s steps t false is lt rest =
      ap (λ b. hits (hit b run t) steps) is ∙ rest ∙ ap (λ b. counted (b || list_any p steps) run t) (sym is)

  pub hits_once : (steps : List TraceStep) (t : TallyState) → t.last < run → hits t steps ≡ counted (list_any p steps) run t
  hits_once [] t lt = refl
  hits_once (s ∷ steps) t lt = hits_by s steps t (p s) refl lt (hits_once steps t lt)

-- ---- a statement

-- a statement's tallies with a step, where it is of the statement
abbrev pub stepped : (TraceStep → Bool) → ℕ → StatementTally → TraceStep → StatementTally
stepped is run t s = if is s then with_step run s t else t

module _ (is : TraceStep → Bool) (run : ℕ) where
  all_by : (s : TraceStep) (t : StatementTally) (b : Bool) → (if b then with_step run s t else t).all ≡ hit b run t.all
  all_by s t true = refl
  all_by s t false = refl

  yes_by : (s : TraceStep) (t : StatementTally) (b : Bool) → (if b then with_step run s t else t).yes ≡ hit (b && is_yes s) run t.yes
  yes_by s t true = refl
  yes_by s t false = refl

  no_by : (s : TraceStep) (t : StatementTally) (b : Bool) → (if b then with_step run s t else t).no ≡ hit (b && is_no s) run t.no
  no_by s t true = refl
  no_by s t false = refl

  pub all_hits : (steps : List TraceStep) (t : StatementTally) → (fold (stepped is run) t steps).all ≡ hits is run t.all steps
  all_hits [] t = refl
  all_hits (s ∷ steps) t = all_hits steps (stepped is run t s) ∙ ap (λ u. hits is run u steps) (all_by s t (is s))

  pub yes_hits : (steps : List TraceStep) (t : StatementTally)
      → (fold (stepped is run) t steps).yes ≡ hits (λ s. is s && is_yes s) run t.yes steps
  yes_hits [] t = refl
  yes_hits (s ∷ steps) t =
      yes_hits steps (stepped is run t s) ∙ ap (λ u. hits (λ s. is s && is_yes s) run u steps) (yes_by s t (is s))

  pub no_hits : (steps : List TraceStep) (t : StatementTally)
      → (fold (stepped is run) t steps).no ≡ hits (λ s. is s && is_no s) run t.no steps
  no_hits [] t = refl
  no_hits (s ∷ steps) t =
      no_hits steps (stepped is run t s) ∙ ap (λ u. hits (λ s. is s && is_no s) run u steps) (no_by s t (is s))
