-- The statements that findings say to be idle aren't among those that a run may execute.
use Rattle.std.proofs.Common.{◌≡◌, ℕ, ◌+◌, List, [], ◌∷◌, ◌++◌, Bool, true, false, Option, Some, None, refl, sym, ap, subst, ◌∙◌}
use Rattle.std.specs.Prelude.{if◌then◌else◌, All, IfSome}
use Rattle.std.specs.BTreeSet.{BTreeSet, contains}
use Rattle.std.specs.Option.{option_map}
use Rattle.std.proofs.lemmas.Bool.{false≢true, not-true}
use Rattle.std.proofs.lemmas.List.Elements.{All-nil, All-cons, All-append, All-weaker}
use Rattle.scaled_decimal.specs.Decimals.{Decimal}
use Rattle.pap_tree.specs.Declarations.{Declaration}
use Rattle.pap_tree.specs.Flowchart.{Body, done, eval, branch, execute, Routine, Flowchart}
use Rattle.pap_tree.specs.Names.{main_name}
use Rattle.pap_tree.specs.Statements.{written}
use Rattle.interval_analysis.specs.Surveys.{StatementPlace, ExitPlace, place_cmp, HaveExecuted}
use Rattle.flowchart_findings.specs.declared.finding.Group.{Group}
use Rattle.flowchart_findings.specs.declared.finding.Group.TheVariants.{Input, Output, Internal, Constant}
use Rattle.flowchart_findings.specs.declared.finding.DeclarationSite.{DeclarationSite}
use Rattle.flowchart_findings.specs.declared.finding.Finding.{Finding}
use Rattle.flowchart_findings.specs.declared.finding.Finding.TheVariants.{Unread, Unassigned, DeadMethod, DeadStatement, UnusedValue, NeverTrue, NeverFalse}
use Rattle.flowchart_findings.specs.Uses.{is_read, is_assigned, is_unused}
use Rattle.flowchart_findings.specs.Findings.{is_unread, is_unassigned, declaration_site, declaration_finding, declaration_findings, declared_findings, begins_dead, dead_first, MethodFacts, known_site, dead_findings, value_findings, never_true_findings, never_false_findings, test_findings, body_findings, method_findings, is_dead_in, method_facts, methods_findings, findings_of}
use Rattle.flowchart_findings.specs.NeverExecuted.{idle_place, IsNeverExecuted, AreNeverExecuted}

module _ (reached : BTreeSet StatementPlace) (exits : BTreeSet ExitPlace) where
  -- the idle statement of a finding isn't among them
  abbrev IsIdle : Finding → Type 0
  IsIdle d = IfSome (idle_place d) (λ p. contains place_cmp reached p ≡ false)

  abbrev AreIdle : List Finding → Type 0
  AreIdle = All IsIdle

  none : AreIdle []
  none = All-nil IsIdle

  single : (d : Finding) → IsIdle d → AreIdle (d ∷ [])
  single d h = All-cons IsIdle d [] h none

  both : (xs ys : List Finding) → AreIdle xs → AreIdle ys → AreIdle (xs ++ ys)
  both xs ys h g = All-append IsIdle xs ys h g

  -- findings where a test holds
  where_true : (b : Bool) (xs ys : List Finding) → (b ≡ true → AreIdle xs) → AreIdle ys → AreIdle (if b then xs else ys)
  where_true true xs ys h g = h refl
  where_true false xs ys h g = g

  -- ---- declarations

  module _ (read assigned : List ℕ → Bool) where
    declaration_idle : (site : DeclarationSite) → AreIdle (declaration_finding read assigned site)
    declaration_idle site =
        where_true (is_unread read site) (Unread site ∷ []) _ (λ _. single (Unread site) tt)
        (where_true (is_unassigned assigned site) (Unassigned site ∷ []) [] (λ _. single (Unassigned site) tt) none)

    declarations_idle : (group : Group) (number : ℕ) (ds : List Declaration) → AreIdle (declaration_findings read assigned group number ds)
    declarations_idle group number [] = none
    declarations_idle group number (d ∷ ds) =
        both (declaration_finding read assigned (declaration_site group number d)) (declaration_findings read assigned group (number + 1) ds)
        (declaration_idle (declaration_site group number d)) (declarations_idle group (number + 1) ds)

    declared_idle : (f : Flowchart) → AreIdle (declared_findings read assigned f)
    declared_idle f =
        both (declaration_findings read assigned Input 0 f.inputs) _ (declarations_idle Input 0 f.inputs)
        (both (declaration_findings read assigned Output 0 f.outputs) _ (declarations_idle Output 0 f.outputs)
        (both (declaration_findings read assigned Internal 0 f.internals) _ (declarations_idle Internal 0 f.internals)
        (declarations_idle Constant 0 f.constants)))

  -- ---- statements

  module _ (unused : List ℕ → Bool) (method : List ℕ) (number : ℕ) where
    abbrev known : MethodFacts
    known = method_facts reached exits unused method number

    abbrev dead : ℕ → Bool
    dead = is_dead_in reached method

    out : (at : ℕ) → dead at ≡ true → contains place_cmp reached (method, at) ≡ false
    out at h = not-true (contains place_cmp reached (method, at)) h

    begins_out : (at : ℕ) (b : Body) → begins_dead dead at b ≡ true → contains place_cmp reached (method, at) ≡ false
    begins_out at done h = absurd (false≢true h)
    begins_out at (eval x e rest) h = out at h
    begins_out at (branch t a b rest) h = out at h
    begins_out at (execute m rest) h = out at h

    -- the first statement of a list that is never taken, where it has one
    first_out_where : (at : ℕ) (b : Bool) → (b ≡ true → contains place_cmp reached (method, at) ≡ false)
        → IfSome (option_map (λ n. (method, n)) (if b then Some at else None)) (λ p. contains place_cmp reached p ≡ false)
    first_out_where at true h = h refl
    first_out_where at false h = tt

    first_out : (at : ℕ) (b : Body)
        → IfSome (option_map (λ n. (method, n)) (dead_first dead at b)) (λ p. contains place_cmp reached p ≡ false)
    first_out at b = first_out_where at (begins_dead dead at b) (begins_out at b)

    dead_idle : (at : ℕ) (behind : Bool) → dead at ≡ true → AreIdle (dead_findings known at behind)
    dead_idle at true h = none
    dead_idle at false h = single (DeadStatement (known_site known at)) (out at h)

    value_idle : (x : List ℕ) (at : ℕ) → AreIdle (value_findings known x at)
    value_idle x at =
        where_true (unused x) (UnusedValue (known_site known at) x ∷ []) []
        (λ _. single (UnusedValue (known_site known at) x) tt) none

    test_idle : (at : ℕ) (a : Body) (second : ℕ) (b : Body) → AreIdle (test_findings known at a second b)
    test_idle at a second b =
        let first_true = dead_first dead (at + 1) a in
        let first_false = dead_first dead second b in
        both (never_true_findings known at (at + 1) a) (never_false_findings known at second b)
        (where_true (known.is_closed at true) (NeverTrue (known_site known at) first_true ∷ []) []
        (λ _. single (NeverTrue (known_site known at) first_true) (first_out (at + 1) a)) none)
        (where_true (known.is_closed at false) (NeverFalse (known_site known at) first_false ∷ []) []
        (λ _. single (NeverFalse (known_site known at) first_false) (first_out second b)) none)

    abbrev found : ℕ → Bool → Body → List Finding
    found = body_findings known

    body_idle : (at : ℕ) (behind : Bool) (b : Body) → AreIdle (found at behind b)
    body_idle at behind done = none
    body_idle at behind (eval x e rest) =
        both (if dead at then dead_findings known at behind else value_findings known x at)
        (found (at + 1) (dead at) rest)
        (where_true (dead at) (dead_findings known at behind) (value_findings known x at)
        (dead_idle at behind) (value_idle x at))
        (body_idle (at + 1) (dead at) rest)
    body_idle at behind (branch t a b rest) =
        let tests = test_findings known at a (at + 1 + written a) b in
        let inside = tests ++ (found (at + 1) false a ++ found (at + 1 + written a) false b) in
        both (if dead at then dead_findings known at behind else inside)
        (found (at + 1 + written a + written b) (dead at) rest)
        (where_true (dead at) (dead_findings known at behind) inside (dead_idle at behind)
        (both tests (found (at + 1) false a ++ found (at + 1 + written a) false b) (test_idle at a (at + 1 + written a) b)
        (both (found (at + 1) false a) (found (at + 1 + written a) false b) (body_idle (at + 1) false a)
        (body_idle (at + 1 + written a) false b))))
        (body_idle (at + 1 + written a + written b) (dead at) rest)
    body_idle at behind (execute m rest) =
        both (if dead at then dead_findings known at behind else []) (found (at + 1) (dead at) rest)
        (where_true (dead at) (dead_findings known at behind) [] (dead_idle at behind) none)
        (body_idle (at + 1) (dead at) rest)

    method_idle : (b : Body) → AreIdle (method_findings known b)
    method_idle b =
        where_true (begins_dead dead 0 b) (DeadMethod method number ∷ []) (found 0 false b)
        (λ h. single (DeadMethod method number) (begins_out 0 b h)) (body_idle 0 false b)

  methods_idle : (unused : List ℕ → Bool) (number : ℕ) (ms : List Routine) → AreIdle (methods_findings reached exits unused number ms)
  methods_idle unused number [] = none
  methods_idle unused number (m ∷ ms) =
      both (method_findings (method_facts reached exits unused m.name number) m.body) (methods_findings reached exits unused (number + 1) ms)
      (method_idle unused m.name number m.body) (methods_idle unused (number + 1) ms)

  found_idle : (f : Flowchart) → AreIdle (findings_of f reached exits)
  found_idle f =
      both (declared_findings (is_read f) (is_assigned f) f) _ (declared_idle (is_read f) (is_assigned f) f)
      (both (body_findings (method_facts reached exits (is_unused f) main_name 0) 0 false f.main)
      (methods_findings reached exits (is_unused f) 1 f.methods)
      (body_idle (is_unused f) main_name 0 0 false f.main) (methods_idle (is_unused f) 1 f.methods))

  -- ---- runs

  module _ (f : Flowchart) (inputs : List Decimal) (all : HaveExecuted f inputs reached) where
    left_never : (p : StatementPlace) → contains place_cmp reached p ≡ false → IsNeverExecuted f inputs p
    left_never p h x runs same = false≢true (sym h ∙ ap (contains place_cmp reached) (sym same) ∙ all x runs)

    place_never : (o : Option StatementPlace) → IfSome o (λ p. contains place_cmp reached p ≡ false) → IfSome o (IsNeverExecuted f inputs)
    place_never (Some p) h = left_never p h
    place_never None h = tt

    pub never_executed : (found : List Finding) → found ≡ findings_of f reached exits → AreNeverExecuted f inputs found
    never_executed found is =
        All-weaker IsIdle (λ d. IfSome (idle_place d) (IsNeverExecuted f inputs)) (λ d. place_never (idle_place d)) found
        (subst AreIdle (sym is) (found_idle f))
