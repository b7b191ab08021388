-- A plan has one list of faults of its expressions, and is refused with the first of them.
use Rattle.std.proofs.Common.{◌≡◌, ℕ, ◌+◌, ◌⊎◌, inl, inr, List, [], ◌∷◌, ◌++◌, Option, Some, None, refl, sym, ap, ap₂, subst, ◌∙◌}
use Rattle.std.specs.Prelude.{slice_get}
use Rattle.std.specs.List.{All}
use Rattle.std.proofs.lemmas.List.Elements.{All-nil, All-cons, All-head, All-tail, All-append}
use Rattle.pap_tree.specs.declared.declaration.Kind.{Kind}
use Rattle.pap_tree.specs.Expressions.{IsWrong}
use Rattle.pap_tree.specs.Grammar.{Line, Level, Assignment, Constant}
use Rattle.pap_tree.specs.Names.{main_name}
use Rattle.pap_tree.specs.Stopping.{Cause, syntax, unsupported, binary_fraction, number, deep}
use Rattle.expr_grammar.specs.Lines.{IsWholeLine, a_test, an_assignment, a_constant}
use Rattle.expr_grammar.proofs.Laws.{accepted_or_wrong, one_wrong}
use Rattle.expr_tokens.proofs.Laws.{one_reading}
use Rattle.pap_expr.specs.declared.fault.ExprFault.{ExprFault}
use Rattle.pap_expr.specs.declared.fault.ExprFault.TheVariants as exprs
use Rattle.plan_text.specs.declared.fault.PlanFault.{PlanFault}
use Rattle.plan_text.specs.declared.fault.PlanFault.TheVariants as texts
use Rattle.pap_reader.specs.declared.fault.ReadFault.{ReadFault}
use Rattle.pap_reader.specs.Elements.{IsElements, IsFault}
use Rattle.pap_reader.specs.Trees.{RawDeclaration, RawBody, RawRoutine, ElementTree}
use Rattle.pap_reader.specs.Trees as raw
use Rattle.pap_reader.specs.TreeLimits.{raw_written}
use Rattle.pap_reader.proofs.Laws.{always_one}
use Rattle.plan_text.specs.declared.fault.Spot.{Spot}
use Rattle.plan_text.specs.declared.fault.Spot.TheVariants.{Statement, Declared}
use Rattle.plan_text.specs.ExprFaults.{IsExprFault}
use Rattle.plan_text.specs.Sites.{Site, text_site, literal_sites, declared_sites, body_sites, routine_sites, sites_of, IsReadable, IsFirstFault}
use Rattle.diagnostics.specs.ExpressionFaults.{AreFaultsOf, HaveOneFaultList, FirstFaultIsAnswered}

-- ---- one text

-- why and where a fault says that a text is wrong
abbrev cause_of : ExprFault → Cause
cause_of (exprs.Syntax at) = syntax
cause_of (exprs.Unsupported at) = unsupported
cause_of (exprs.BinaryFraction at) = binary_fraction
cause_of (exprs.Number at) = number
cause_of (exprs.Deep at) = deep
cause_of exprs.Memory = syntax

abbrev place_of : ExprFault → ℕ
place_of (exprs.Syntax at) = at
place_of (exprs.Unsupported at) = at
place_of (exprs.BinaryFraction at) = at
place_of (exprs.Number at) = at
place_of (exprs.Deep at) = at
place_of exprs.Memory = 0

abbrev fault_of : Cause → ℕ → ExprFault
fault_of syntax at = exprs.Syntax at
fault_of unsupported at = exprs.Unsupported at
fault_of binary_fraction at = exprs.BinaryFraction at
fault_of number at = exprs.Number at
fault_of deep at = exprs.Deep at

is_wrong : (l : Line) (text : List ℕ) (f : ExprFault) → IsExprFault l text f → IsWrong l text (cause_of f) (place_of f) × (fault_of (cause_of f) (place_of f) ≡ f)
is_wrong l text (exprs.Syntax at) h = (h, refl)
is_wrong l text (exprs.Unsupported at) h = (h, refl)
is_wrong l text (exprs.BinaryFraction at) h = (h, refl)
is_wrong l text (exprs.Number at) h = (h, refl)
is_wrong l text (exprs.Deep at) h = (h, refl)
is_wrong l text exprs.Memory h = absurd h

one_fault : (s : Site) → IsWholeLine s.line → (f g : ExprFault) → IsExprFault s.line s.text f → IsExprFault s.line s.text g → f ≡ g
one_fault s w f g h k =
    let a = is_wrong s.line s.text f h in
    let b = is_wrong s.line s.text g k in
    let e = one_wrong (one_reading 0) s.line w s.text (cause_of f) (cause_of g) (place_of f) (place_of g) a.0 b.0 in
    sym a.1 ∙ ap (λ c. fault_of c (place_of f)) e.0 ∙ ap (fault_of (cause_of g)) e.1 ∙ b.1

not_both : (s : Site) → IsWholeLine s.line → IsReadable s → (f : ExprFault) → IsExprFault s.line s.text f → ⊥
not_both s w r f k =
    let a = is_wrong s.line s.text f k in
    accepted_or_wrong (one_reading 0) s.line w s.text r.0 (cause_of f) (place_of f) r.1 a.0

-- ---- all texts of a plan are read by lines that stand alone

abbrev Whole : Site → Type 0
Whole s = IsWholeLine s.line

value_whole : (name : List ℕ) (kind : Kind) (v : Option (List ℕ)) → All Whole (literal_sites (record { name = name; kind = kind; value = v }))
value_whole name kind None = All-nil Whole
value_whole name kind (Some text) = All-cons Whole (text_site Constant text (Declared name)) [] a_constant (All-nil Whole)

declared_whole : (ds : List RawDeclaration) → All Whole (declared_sites ds)
declared_whole [] = All-nil Whole
declared_whole (d ∷ ds) = All-append Whole (literal_sites d) (declared_sites ds) (value_whole d.name d.kind d.value) (declared_whole ds)

body_whole : (m : List ℕ) (at : ℕ) (b : RawBody) → All Whole (body_sites m at b)
body_whole m at raw.done = All-nil Whole
body_whole m at (raw.eval text rest) = All-cons Whole (text_site Assignment text (Statement m at)) (body_sites m (at + 1) rest) an_assignment (body_whole m (at + 1) rest)
body_whole m at (raw.branch text a b rest) =
    let n = at + 1 + raw_written a in
    let k = at + 1 + raw_written a + raw_written b in
    All-cons Whole (text_site (Level 0) text (Statement m at)) (body_sites m (at + 1) a ++ (body_sites m n b ++ body_sites m k rest)) a_test
    (All-append Whole (body_sites m (at + 1) a) (body_sites m n b ++ body_sites m k rest) (body_whole m (at + 1) a)
    (All-append Whole (body_sites m n b) (body_sites m k rest) (body_whole m n b) (body_whole m k rest)))
body_whole m at (raw.execute x rest) = body_whole m (at + 1) rest

routines_whole : (ms : List RawRoutine) → All Whole (routine_sites ms)
routines_whole [] = All-nil Whole
routines_whole (m ∷ ms) = All-append Whole (body_sites m.name 0 m.body) (routine_sites ms) (body_whole m.name 0 m.body) (routines_whole ms)

sites_whole : (x : ElementTree) → All Whole (sites_of x)
sites_whole x =
    All-append Whole (declared_sites x.inputs) _ (declared_whole x.inputs)
    (All-append Whole (declared_sites x.outputs) _ (declared_whole x.outputs)
    (All-append Whole (declared_sites x.internals) _ (declared_whole x.internals)
    (All-append Whole (declared_sites x.constants) _ (declared_whole x.constants)
    (All-append Whole (body_sites main_name 0 x.main) (routine_sites x.methods) (body_whole main_name 0 x.main) (routines_whole x.methods)))))

-- ---- one list of faults

one_list : (sites : List Site) → All Whole sites → (a b : List PlanFault) → AreFaultsOf sites a → AreFaultsOf sites b → a ≡ b
one_list [] w a b h k = h ∙ sym k
one_list (s ∷ sites) w a b (inl h) (inl k) = one_list sites (All-tail Whole s sites w) a b h.1 k.1
one_list (s ∷ sites) w a b (inl h) (inr k) = absurd (not_both s (All-head Whole s sites w) h.0 k.0 k.2)
one_list (s ∷ sites) w a b (inr h) (inl k) = absurd (not_both s (All-head Whole s sites w) k.0 h.0 h.2)
one_list (s ∷ sites) w a b (inr h) (inr k) =
    h.3 ∙ ap₂ (λ f l. texts.Expr s.spot f ∷ l) (one_fault s (All-head Whole s sites w) h.0 k.0 h.2 k.2)
    (one_list sites (All-tail Whole s sites w) h.1 k.1 h.4 k.4) ∙ sym k.3

pub one_fault_list : HaveOneFaultList
one_fault_list plan a b h k = by (always_one plan)
  where
    by : ((x : ElementTree) × IsElements plan x) ⊎ ((f : ReadFault) × IsFault plan f) → a ≡ b
    by (inl e) = one_list (sites_of e.0) (sites_whole e.0) a b (h.read e.0 e.1) (k.read e.0 e.1)
    by (inr e) = h.unread e.0 e.1 ∙ sym (k.unread e.0 e.1)

-- ---- the first of them

-- the first fault is the first of all
first_told : (before : List Site) (stop : Site) (after : List Site) → All Whole (before ++ (stop ∷ after)) → All IsReadable before
    → (fault : ExprFault) → IsExprFault stop.line stop.text fault → (faults : List PlanFault) → AreFaultsOf (before ++ (stop ∷ after)) faults
    → slice_get faults 0 ≡ Some (texts.Expr stop.spot fault)
first_told [] stop after w r fault k faults (inl h) = absurd (not_both stop (All-head Whole stop after w) h.0 fault k)
first_told [] stop after w r fault k faults (inr h) =
    ap (λ l. slice_get l 0) h.3 ∙ ap (λ f. Some (texts.Expr stop.spot f)) (one_fault stop (All-head Whole stop after w) h.0 fault h.2 k)
first_told (s ∷ before) stop after w r fault k faults (inl h) =
    first_told before stop after (All-tail Whole s (before ++ (stop ∷ after)) w) (All-tail IsReadable s before r) fault k faults h.1
first_told (s ∷ before) stop after w r fault k faults (inr h) =
    absurd (not_both s (All-head Whole s (before ++ (stop ∷ after)) w) (All-head IsReadable s before r) h.0 h.2)

none_first : (f : PlanFault) → ◌≡◌ {A = Option PlanFault} None (Some f) → ⊥
none_first f e = cc

same_spot : (s t : Spot) (f g : ExprFault) → ◌≡◌ {A = Option PlanFault} (Some (texts.Expr s f)) (Some (texts.Expr t g)) → s ≡ t
same_spot s t f g e = cc

same_fault : (s t : Spot) (f g : ExprFault) → ◌≡◌ {A = Option PlanFault} (Some (texts.Expr s f)) (Some (texts.Expr t g)) → f ≡ g
same_fault s t f g e = cc

-- the first of all is the first fault
first_is : (sites : List Site) (faults : List PlanFault) → AreFaultsOf sites faults → (spot : Spot) (fault : ExprFault)
    → slice_get faults 0 ≡ Some (texts.Expr spot fault) → IsFirstFault sites spot fault
first_is [] faults h spot fault e = absurd (none_first (texts.Expr spot fault) (sym (ap (λ l. slice_get l 0) h) ∙ e))
first_is (s ∷ sites) faults (inl h) spot fault e =
    let k = first_is sites faults h.1 spot fault e in
    record {
      before = s ∷ k.before;
      stop = k.stop;
      after = k.after;
      whole = ap (λ l. s ∷ l) k.whole;
      read = All-cons IsReadable s k.before h.0 k.read;
      fails = k.fails;
      there = k.there;
    }
first_is (s ∷ sites) faults (inr h) spot fault e =
    let k = sym (ap (λ l. slice_get l 0) h.3) ∙ e in
    record {
      before = [];
      stop = s;
      after = sites;
      whole = refl;
      read = All-nil IsReadable;
      fails = subst (IsExprFault s.line s.text) (same_fault s.spot spot h.0 fault k) h.2;
      there = sym (same_spot s.spot spot h.0 fault k);
    }

-- where the elements are read: the first of all faults is that of the first text that isn't an expression
first_among : (sites : List Site) → All Whole sites → (faults : List PlanFault) → AreFaultsOf sites faults → (spot : Spot) (fault : ExprFault)
    → IsFirstFault sites spot fault → slice_get faults 0 ≡ Some (texts.Expr spot fault)
first_among sites w faults h spot fault k =
    first_told k.before k.stop k.after (subst (All Whole) k.whole w) k.read fault k.fails faults (subst (λ l. AreFaultsOf l faults) k.whole h)
    ∙ ap (λ s. Some (texts.Expr s fault)) (sym k.there)

pub first_answered : FirstFaultIsAnswered
first_answered plan limits faults h spot fault = (
  λ k. first_among (sites_of k.0) (sites_whole k.0) faults (h.read k.0 k.1) spot fault k.2,
  λ e. by e (always_one plan),
)
  where
    by : slice_get faults 0 ≡ Some (texts.Expr spot fault) → ((x : ElementTree) × IsElements plan x) ⊎ ((f : ReadFault) × IsFault plan f)
        → (x : ElementTree) × IsElements plan x × IsFirstFault (sites_of x) spot fault
    by e (inl x) = (x.0, x.1, first_is (sites_of x.0) faults (h.read x.0 x.1) spot fault e)
    by e (inr f) = absurd (none_first (texts.Expr spot fault) (sym (ap (λ l. slice_get l 0) (h.unread f.0 f.1)) ∙ e))
