-- The exits that findings say to be never taken are those of reached IFs that aren't open.
use Rattle.std.proofs.Common.{◌≡◌, ℕ, ◌+◌, List, [], ◌∷◌, ◌++◌, Bool, true, false, Some, refl, sym, ap, subst, ◌∙◌}
use Rattle.std.specs.Prelude.{if◌then◌else◌, All, IfSome, filter, filter_map}
use Rattle.std.specs.BTreeSet.{BTreeSet, contains}
use Rattle.std.proofs.lemmas.Bool.{false≢true, not-true}
use Rattle.std.proofs.lemmas.List.Elements.{All-nil, All-cons, All-head, All-tail, All-weaker, filter-append, filter_map-append}
use Rattle.scaled_decimal.specs.Decimals.{Decimal}
use Rattle.pap_tree.specs.Declarations.{Declaration}
use Rattle.pap_tree.specs.Flowchart.{Body, done, eval, branch, execute, Routine, Flowchart}
use Rattle.pap_tree.specs.Names.{main_name}
use Rattle.pap_tree.specs.Statements.{written}
use Rattle.interval_analysis.specs.Surveys.{StatementPlace, ExitPlace, exit_cmp, HaveTaken}
use Rattle.flowchart_findings.specs.declared.finding.Group.{Group}
use Rattle.flowchart_findings.specs.declared.finding.Group.TheVariants.{Input, Output, Internal, Constant}
use Rattle.flowchart_findings.specs.declared.finding.DeclarationSite.{DeclarationSite}
use Rattle.flowchart_findings.specs.declared.finding.Finding.{Finding}
use Rattle.flowchart_findings.specs.declared.finding.Finding.TheVariants.{Unread, Unassigned, DeadMethod, DeadStatement, UnusedValue, NeverTrue, NeverFalse, LongCarry}
use Rattle.flowchart_findings.specs.Uses.{is_read, is_assigned, is_unused}
use Rattle.flowchart_findings.specs.Findings.{is_unread, is_unassigned, declaration_site, declaration_finding, declaration_findings, declared_findings, begins_dead, dead_first, MethodFacts, known_site, dead_findings, value_findings, never_true_findings, never_false_findings, test_findings, body_findings, method_findings, is_dead_in, is_closed_exit, method_facts, methods_findings, findings_of}
use Rattle.flowchart_findings.specs.NeverExecuted.{told_exit, IsNeverTaken, AreNeverTaken}
use Rattle.flowchart_findings.specs.ClosedExits.{if_exits, body_exits, method_exits, methods_exits, reached_exits, TellClosedExits}

-- the exits that findings tell
abbrev told : List Finding → List ExitPlace
told = filter_map told_exit

told_both : (xs ys : List Finding) (ps qs : List ExitPlace) → told xs ≡ ps → told ys ≡ qs → told (xs ++ ys) ≡ ps ++ qs
told_both xs ys ps qs h g = filter_map-append told_exit xs ys ∙ (λ i. h i ++ g i)

-- findings that tell no exit
told_none : (b : Bool) (xs ys : List Finding) → told xs ≡ [] → told ys ≡ [] → told (if b then xs else ys) ≡ []
told_none true xs ys h g = h
told_none false xs ys h g = g

-- ---- declarations

module _ (read assigned : List ℕ → Bool) where
  declaration_untold : (site : DeclarationSite) → told (declaration_finding read assigned site) ≡ []
  declaration_untold site =
      told_none (is_unread read site) (Unread site ∷ []) _ refl
      (told_none (is_unassigned assigned site) (Unassigned site ∷ []) [] refl refl)

  declarations_untold : (group : Group) (number : ℕ) (ds : List Declaration) → told (declaration_findings read assigned group number ds) ≡ []
  declarations_untold group number [] = refl
  declarations_untold group number (d ∷ ds) =
      told_both (declaration_finding read assigned (declaration_site group number d)) (declaration_findings read assigned group (number + 1) ds) [] []
      (declaration_untold (declaration_site group number d)) (declarations_untold group (number + 1) ds)

  declared_untold : (f : Flowchart) → told (declared_findings read assigned f) ≡ []
  declared_untold f =
      told_both (declaration_findings read assigned Input 0 f.inputs) _ [] [] (declarations_untold Input 0 f.inputs)
      (told_both (declaration_findings read assigned Output 0 f.outputs) _ [] [] (declarations_untold Output 0 f.outputs)
      (told_both (declaration_findings read assigned Internal 0 f.internals) _ [] [] (declarations_untold Internal 0 f.internals)
      (declarations_untold Constant 0 f.constants)))

module _ (reached : BTreeSet StatementPlace) (exits : BTreeSet ExitPlace) where
  -- those of some exits that are closed
  abbrev closed : List ExitPlace → List ExitPlace
  closed = filter (is_closed_exit exits)

  -- findings that tell the closed ones of some exits, and others behind them
  then_told : (xs ys : List Finding) (ps qs : List ExitPlace) → told xs ≡ closed ps → told ys ≡ closed qs
      → told (xs ++ ys) ≡ closed (ps ++ qs)
  then_told xs ys ps qs h g =
      told_both xs ys (closed ps) (closed qs) h g ∙ sym (filter-append (is_closed_exit exits) ps qs)

  -- where a statement is dead its findings tell no exit
  unless_dead : (b : Bool) (xs ys : List Finding) (qs : List ExitPlace) → told xs ≡ [] → told ys ≡ closed qs
      → told (if b then xs else ys) ≡ closed (if b then [] else qs)
  unless_dead true xs ys qs h g = h
  unless_dead false xs ys qs h g = g

  -- a finding that tells an exit, where that is closed
  one_told : (b : Bool) (d : Finding) (q : ExitPlace) → told_exit d ≡ Some q
      → told (if b then d ∷ [] else []) ≡ (if b then q ∷ [] else [])
  one_told true d q is = ap (λ o. filter_map (λ _. o) (d ∷ [])) is
  one_told false d q is = refl

  module _ (unused : List ℕ → Bool) (method : List ℕ) (number : ℕ) where
    abbrev known : MethodFacts
    known = method_facts reached exits unused method number

    abbrev dead : ℕ → Bool
    dead = is_dead_in reached method

    abbrev found : ℕ → Bool → Body → List Finding
    found = body_findings known

    dead_untold : (at : ℕ) (behind : Bool) → told (dead_findings known at behind) ≡ []
    dead_untold at true = refl
    dead_untold at false = refl

    value_untold : (x : List ℕ) (at : ℕ) → told (value_findings known x at) ≡ []
    value_untold x at = told_none (unused x) (UnusedValue (known_site known at) x ∷ []) [] refl refl

    test_told : (at : ℕ) (a : Body) (second : ℕ) (b : Body) → told (test_findings known at a second b) ≡ closed (if_exits method at)
    test_told at a second b =
        then_told (never_true_findings known at (at + 1) a) (never_false_findings known at second b)
        ((method, at, true) ∷ []) ((method, at, false) ∷ [])
        (one_told (known.is_closed at true) (NeverTrue (known_site known at) (dead_first dead (at + 1) a)) (method, at, true) refl)
        (one_told (known.is_closed at false) (NeverFalse (known_site known at) (dead_first dead second b)) (method, at, false) refl)

    body_told : (at : ℕ) (behind : Bool) (b : Body) → told (found at behind b) ≡ closed (body_exits method dead at b)
    body_told at behind done = refl
    body_told at behind (eval x e rest) =
        told_both (if dead at then dead_findings known at behind else value_findings known x at) (found (at + 1) (dead at) rest)
        [] (closed (body_exits method dead (at + 1) rest))
        (told_none (dead at) (dead_findings known at behind) (value_findings known x at) (dead_untold at behind) (value_untold x at))
        (body_told (at + 1) (dead at) rest)
    body_told at behind (branch t a b rest) =
        let second = at + 1 + written a in
        let tests = test_findings known at a second b in
        let parts = found (at + 1) false a ++ found second false b in
        let inside = if_exits method at ++ (body_exits method dead (at + 1) a ++ body_exits method dead second b) in
        then_told (if dead at then dead_findings known at behind else tests ++ parts) (found (second + written b) (dead at) rest)
        (if dead at then [] else inside) (body_exits method dead (second + written b) rest)
        (unless_dead (dead at) (dead_findings known at behind) (tests ++ parts) inside (dead_untold at behind)
        (then_told tests parts (if_exits method at) (body_exits method dead (at + 1) a ++ body_exits method dead second b)
        (test_told at a second b)
        (then_told (found (at + 1) false a) (found second false b) (body_exits method dead (at + 1) a) (body_exits method dead second b)
        (body_told (at + 1) false a) (body_told second false b))))
        (body_told (second + written b) (dead at) rest)
    body_told at behind (execute m rest) =
        told_both (if dead at then dead_findings known at behind else []) (found (at + 1) (dead at) rest)
        [] (closed (body_exits method dead (at + 1) rest))
        (told_none (dead at) (dead_findings known at behind) [] (dead_untold at behind) refl)
        (body_told (at + 1) (dead at) rest)

    method_told : (b : Body) → told (method_findings known b) ≡ closed (method_exits method dead b)
    method_told b =
        unless_dead (begins_dead dead 0 b) (DeadMethod method number ∷ []) (found 0 false b) (body_exits method dead 0 b) refl
        (body_told 0 false b)

  methods_told : (unused : List ℕ → Bool) (number : ℕ) (ms : List Routine)
      → told (methods_findings reached exits unused number ms) ≡ closed (methods_exits reached ms)
  methods_told unused number [] = refl
  methods_told unused number (m ∷ ms) =
      then_told (method_findings (method_facts reached exits unused m.name number) m.body) (methods_findings reached exits unused (number + 1) ms)
      (method_exits m.name (is_dead_in reached m.name) m.body) (methods_exits reached ms)
      (method_told unused m.name number m.body) (methods_told unused (number + 1) ms)

  pub closed_told : (f : Flowchart) (found : List Finding) → found ≡ findings_of f reached exits → TellClosedExits f reached exits found
  closed_told f found is =
      let main = body_findings (method_facts reached exits (is_unused f) main_name 0) 0 false f.main in
      let others = methods_findings reached exits (is_unused f) 1 f.methods in
      ap told is
      ∙ told_both (declared_findings (is_read f) (is_assigned f) f) (main ++ others) [] (closed (reached_exits f reached))
      (declared_untold (is_read f) (is_assigned f) f)
      (then_told main others (body_exits main_name (is_dead_in reached main_name) 0 f.main) (methods_exits reached f.methods)
      (body_told (is_unused f) main_name 0 0 false f.main) (methods_told (is_unused f) 1 f.methods))

-- ---- runs

-- what passes a filter passes its test
one_passed : {X : Type 0} (p : X → Bool) (b : Bool) (x : X) (xs : List X) → p x ≡ b → All (λ y. p y ≡ true) xs
    → All (λ y. p y ≡ true) (if b then x ∷ xs else xs)
one_passed p true x xs h rest = All-cons (λ y. p y ≡ true) x xs h rest
one_passed p false x xs h rest = rest

passed : {X : Type 0} (p : X → Bool) (xs : List X) → All (λ y. p y ≡ true) (filter p xs)
passed p [] = All-nil (λ y. p y ≡ true)
passed p (x ∷ xs) = one_passed p (p x) x (filter p xs) refl (passed p xs)

-- what holds of all exits that are told holds of the exit of each finding
module _ (P : ExitPlace → Type 0) where
  abbrev HasExit : Finding → Type 0
  HasExit d = IfSome (told_exit d) P

  exit_then : (d : Finding) (q : ExitPlace) (ds : List Finding) → (P q → HasExit d) → All P (q ∷ told ds)
      → (All P (told ds) → All HasExit ds) → All HasExit (d ∷ ds)
  exit_then d q ds one h rest =
      All-cons HasExit d ds (one (All-head P q (told ds) h)) (rest (All-tail P q (told ds) h))

  each_exit : (ds : List Finding) → All P (told ds) → All HasExit ds
  each_exit [] h = All-nil HasExit
  each_exit (Unread site ∷ ds) h = All-cons HasExit (Unread site) ds tt (each_exit ds h)
  each_exit (Unassigned site ∷ ds) h = All-cons HasExit (Unassigned site) ds tt (each_exit ds h)
  each_exit (DeadMethod m n ∷ ds) h = All-cons HasExit (DeadMethod m n) ds tt (each_exit ds h)
  each_exit (DeadStatement site ∷ ds) h = All-cons HasExit (DeadStatement site) ds tt (each_exit ds h)
  each_exit (UnusedValue site x ∷ ds) h = All-cons HasExit (UnusedValue site x) ds tt (each_exit ds h)
  each_exit (NeverTrue site first ∷ ds) h =
      exit_then (NeverTrue site first) (site.method, site.statement, true) ds (λ p. p) h (each_exit ds)
  each_exit (NeverFalse site first ∷ ds) h =
      exit_then (NeverFalse site first) (site.method, site.statement, false) ds (λ p. p) h (each_exit ds)
  each_exit (LongCarry site input places takes ∷ ds) h = All-cons HasExit (LongCarry site input places takes) ds tt (each_exit ds h)

module _ (f : Flowchart) (inputs : List Decimal) (exits : BTreeSet ExitPlace) (all : HaveTaken f inputs exits) where
  closed_never : (q : ExitPlace) → is_closed_exit exits q ≡ true → IsNeverTaken f inputs q
  closed_never q h x runs takes same =
      false≢true (sym (not-true (contains exit_cmp exits q) h) ∙ ap (λ p. contains exit_cmp exits (p.0, p.1, q.2)) (sym same) ∙ all x q.2 runs takes)

  pub never_taken : (reached : BTreeSet StatementPlace) (found : List Finding) → TellClosedExits f reached exits found
      → AreNeverTaken f inputs found
  never_taken reached found tells =
      each_exit (IsNeverTaken f inputs) found
      (All-weaker (λ q. is_closed_exit exits q ≡ true) (IsNeverTaken f inputs) closed_never (told found)
      (subst (All (λ q. is_closed_exit exits q ≡ true)) (sym tells) (passed (is_closed_exit exits) (reached_exits f reached))))
