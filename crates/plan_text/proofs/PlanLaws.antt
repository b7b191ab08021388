-- Bytes are the text of one plan, or have one fault.
use Rattle.std.proofs.Common.{◌≡◌, ℕ, ◌+◌, ◌⊎◌, inl, inr, List, [], ◌∷◌, ◌++◌, Option, Some, None, refl, sym, ap, subst, ◌∙◌}
use Rattle.std.specs.List.{All}
use Rattle.std.proofs.lemmas.List.Elements.{All-nil, All-cons, All-head, All-tail}
use Rattle.pap_tree.specs.declared.declaration.Kind.{Kind}
use Rattle.pap_tree.specs.Term.{Term}
use Rattle.pap_tree.specs.Declarations.{Declaration, DeclaredLiteral}
use Rattle.pap_tree.specs.Grammar.{Line, Level, Assignment, Constant, LineMeaning, tree, assignment, declared}
use Rattle.pap_tree.specs.Expressions.{IsAccepted, IsWrong}
use Rattle.pap_tree.specs.Stopping.{Cause, syntax, unsupported, binary_fraction, number, deep}
use Rattle.pap_tree.specs.Tokens.{plain}
use Rattle.pap_tree.specs.Flowchart.{Body, done, eval, branch, execute, Routine, Flowchart}
use Rattle.expr_grammar.specs.Lines.{IsWholeLine, a_test, an_assignment, a_constant}
use Rattle.expr_grammar.proofs.Laws as grammar
use Rattle.expr_tokens.proofs.Laws.{one_reading, always_read}
use Rattle.pap_expr.specs.declared.fault.ExprFault.{ExprFault}
use Rattle.pap_expr.specs.declared.fault.ExprFault.TheVariants as exprs
use Rattle.pap_reader.specs.declared.fault.ReadFault.{ReadFault}
use Rattle.pap_reader.specs.Trees.{RawDeclaration, RawBody, RawRoutine, ElementTree}
use Rattle.pap_reader.specs.Trees as raw
use Rattle.pap_reader.specs.TreeLimits.{raw_written}
use Rattle.pap_reader.specs.Elements.{IsElements, IsFault}
use Rattle.pap_reader.proofs.Laws as elements
use Rattle.plan_text.specs.declared.fault.Spot.{Spot}
use Rattle.plan_text.specs.declared.fault.Spot.TheVariants.{Statement, Declared}
use Rattle.plan_text.specs.declared.fault.PlanFault.{PlanFault}
use Rattle.plan_text.specs.declared.fault.PlanFault.TheVariants as faults
use Rattle.plan_text.specs.ExprFaults.{IsExprFault}
use Rattle.plan_text.specs.Sites.{Site, text_site, literal_sites, declared_sites, body_sites, routine_sites, sites_of, IsReadable, IsFirstFault}
use Rattle.pap_tree.specs.Names.{main_name}
use Rattle.plan_text.specs.Plans.{IsLiteralText, IsDeclaration, AreDeclarations, IsBody, AreRoutines, HasFlowchart, IsPlan, IsPlanFault}
use Rattle.plan_text.proofs.MeaningLemmas.{of_text}
use Rattle.plan_text.proofs.ReadLemmas.{declared_readable, body_readable, routines_readable}

-- ---- lists of which all elements are so

All-front : {X : Type 0} (P : X → Type 0) (xs ys : List X) → All P (xs ++ ys) → All P xs
All-front P [] ys h = All-nil P
All-front P (x ∷ xs) ys h = All-cons P x xs (All-head P x (xs ++ ys) h) (All-front P xs ys (All-tail P x (xs ++ ys) h))

All-back : {X : Type 0} (P : X → Type 0) (xs ys : List X) → All P (xs ++ ys) → All P ys
All-back P [] ys h = h
All-back P (x ∷ xs) ys h = All-back P xs ys (All-tail P x (xs ++ ys) h)

-- ---- one expression's text

one_text : (bytes : List ℕ) (l : Line) → IsWholeLine l → (x y : LineMeaning) → IsAccepted l bytes x → IsAccepted l bytes y → x ≡ y
one_text bytes l w x y h k =
    grammar.one_text (one_reading 0) l w bytes x y (record { spots = h.spots; tokens = h.tokens; text = h.text }) (record { spots = k.spots; tokens = k.tokens; text = k.text })

-- why and where a fault says that a text is wrong
abbrev cause_of : ExprFault → Cause
cause_of (exprs.Syntax at) = syntax
cause_of (exprs.Unsupported at) = unsupported
cause_of (exprs.BinaryFraction at) = binary_fraction
cause_of (exprs.Number at) = number
cause_of (exprs.Deep at) = deep
cause_of exprs.Memory = syntax

abbrev place_of : ExprFault → ℕ
place_of (exprs.Syntax at) = at
place_of (exprs.Unsupported at) = at
place_of (exprs.BinaryFraction at) = at
place_of (exprs.Number at) = at
place_of (exprs.Deep at) = at
place_of exprs.Memory = 0

abbrev fault_of : Cause → ℕ → ExprFault
fault_of syntax at = exprs.Syntax at
fault_of unsupported at = exprs.Unsupported at
fault_of binary_fraction at = exprs.BinaryFraction at
fault_of number at = exprs.Number at
fault_of deep at = exprs.Deep at

is_wrong : (l : Line) (text : List ℕ) (f : ExprFault) → IsExprFault l text f → IsWrong l text (cause_of f) (place_of f) × (fault_of (cause_of f) (place_of f) ≡ f)
is_wrong l text (exprs.Syntax at) h = (h, refl)
is_wrong l text (exprs.Unsupported at) h = (h, refl)
is_wrong l text (exprs.BinaryFraction at) h = (h, refl)
is_wrong l text (exprs.Number at) h = (h, refl)
is_wrong l text (exprs.Deep at) h = (h, refl)
is_wrong l text exprs.Memory h = absurd h

is_fault : (l : Line) (text : List ℕ) (c : Cause) (at : ℕ) → IsWrong l text c at → IsExprFault l text (fault_of c at)
is_fault l text syntax at h = h
is_fault l text unsupported at h = h
is_fault l text binary_fraction at h = h
is_fault l text number at h = h
is_fault l text deep at h = h

one_expr_fault : (l : Line) (text : List ℕ) → IsWholeLine l → (f g : ExprFault) → IsExprFault l text f → IsExprFault l text g → f ≡ g
one_expr_fault l text w f g h k =
    let a = is_wrong l text f h in
    let b = is_wrong l text g k in
    let e = grammar.one_wrong (one_reading 0) l w text (cause_of f) (cause_of g) (place_of f) (place_of g) a.0 b.0 in
    sym a.1 ∙ ap (λ c. fault_of c (place_of f)) e.0 ∙ ap (fault_of (cause_of g)) e.1 ∙ b.1

never_wrong : (l : Line) (text : List ℕ) → IsWholeLine l → (x : LineMeaning) (f : ExprFault) → IsAccepted l text x → IsExprFault l text f → ⊥
never_wrong l text w x f h k = let a = is_wrong l text f k in grammar.accepted_or_wrong (one_reading 0) l w text x (cause_of f) (place_of f) h a.0

-- ---- the first fault of some texts

-- each text is read by a line that stands alone
abbrev AreWhole : List Site → Type 0
AreWhole sites = All (λ s. IsWholeLine s.line) sites

readable_or_not : (s : Site) → IsWholeLine s.line → IsReadable s ⊎ ((f : ExprFault) × IsExprFault s.line s.text f)
readable_or_not s w = by_answer (grammar.always_said (λ bytes. always_read 0 bytes) s.line w s.text)
  where
    by_answer : ((x : LineMeaning) × IsAccepted s.line s.text x) ⊎ ((c : Cause) × (at : ℕ) × IsWrong s.line s.text c at) → IsReadable s ⊎ ((f : ExprFault) × IsExprFault s.line s.text f)
    by_answer (inl h) = inl h
    by_answer (inr h) = inr (fault_of h.0 h.1, is_fault s.line s.text h.0 h.1 h.2)

first_or_none : (sites : List Site) → AreWhole sites → All IsReadable sites ⊎ ((spot : Spot) × (f : ExprFault) × IsFirstFault sites spot f)
first_or_none [] w = inl (All-nil IsReadable)
first_or_none (s ∷ sites) w = by_first (readable_or_not s (All-head (λ t. IsWholeLine t.line) s sites w)) (first_or_none sites (All-tail (λ t. IsWholeLine t.line) s sites w))
  where
    by_first : IsReadable s ⊎ ((f : ExprFault) × IsExprFault s.line s.text f) → All IsReadable sites ⊎ ((spot : Spot) × (f : ExprFault) × IsFirstFault sites spot f)
        → All IsReadable (s ∷ sites) ⊎ ((spot : Spot) × (f : ExprFault) × IsFirstFault (s ∷ sites) spot f)
    by_first (inr k) r = inr (s.spot, k.0, record { before = []; stop = s; after = sites; whole = refl; read = All-nil IsReadable; fails = k.1; there = refl })
    by_first (inl h) (inl r) = inl (All-cons IsReadable s sites h r)
    by_first (inl h) (inr k) =
        inr (k.0, k.1, record { before = s ∷ k.2.before; stop = k.2.stop; after = k.2.after; whole = ap (λ l. s ∷ l) k.2.whole; read = All-cons IsReadable s k.2.before h k.2.read; fails = k.2.fails; there = k.2.there })

-- the head and the tail of equal lists
heads : (s t : Site) (p q : List Site) → s ∷ p ≡ t ∷ q → s ≡ t
heads s t p q e = cc

tails : (s t : Site) (p q : List Site) → s ∷ p ≡ t ∷ q → p ≡ q
tails s t p q e = cc

not_readable : (s t : Site) (g : ExprFault) → s ≡ t → IsWholeLine s.line → IsReadable s → IsExprFault t.line t.text g → ⊥
not_readable s t g e w r k = never_wrong s.line s.text w r.0 g r.1 (subst (λ x. IsExprFault x.line x.text g) (sym e) k)

-- of two ways to split texts before their first fault, both stop at the same
same_stop : (a b p q : List Site) (s t : Site) (f g : ExprFault) → a ++ (s ∷ p) ≡ b ++ (t ∷ q) → AreWhole (a ++ (s ∷ p)) → All IsReadable a → All IsReadable b
    → IsExprFault s.line s.text f → IsExprFault t.line t.text g → s ≡ t
same_stop [] [] p q s t f g e w ra rb h k = heads s t p q e
same_stop [] (y ∷ b) p q s t f g e w ra rb h k =
    let same = heads s y p (b ++ (t ∷ q)) e in
    absurd (not_readable y s f (sym same) (subst (λ x. IsWholeLine x.line) same (All-head (λ x. IsWholeLine x.line) s p w)) (All-head IsReadable y b rb) h)
same_stop (x ∷ a) [] p q s t f g e w ra rb h k =
    let same = heads x t (a ++ (s ∷ p)) q e in
    absurd (not_readable x t g same (All-head (λ y. IsWholeLine y.line) x (a ++ (s ∷ p)) w) (All-head IsReadable x a ra) k)
same_stop (x ∷ a) (y ∷ b) p q s t f g e w ra rb h k =
    same_stop a b p q s t f g (tails x y (a ++ (s ∷ p)) (b ++ (t ∷ q)) e) (All-tail (λ z. IsWholeLine z.line) x (a ++ (s ∷ p)) w) (All-tail IsReadable x a ra) (All-tail IsReadable y b rb) h k

one_first : (sites : List Site) → AreWhole sites → (u v : Spot) (f g : ExprFault) → IsFirstFault sites u f → IsFirstFault sites v g → (u ≡ v) × (f ≡ g)
one_first sites w u v f g h k =
    let whole = subst AreWhole h.whole w in
    let same = same_stop h.before k.before h.after k.after h.stop k.stop f g (sym h.whole ∙ k.whole) whole h.read k.read h.fails k.fails in
    let line = All-head (λ x. IsWholeLine x.line) h.stop h.after (All-back (λ x. IsWholeLine x.line) h.before (h.stop ∷ h.after) whole) in (
      h.there ∙ ap (λ s. s.spot) same ∙ sym k.there,
      one_expr_fault h.stop.line h.stop.text line f g h.fails (subst (λ x. IsExprFault x.line x.text g) (sym same) k.fails),
    )

never_first : (sites : List Site) → AreWhole sites → All IsReadable sites → (u : Spot) (f : ExprFault) → IsFirstFault sites u f → ⊥
never_first sites w r u f h =
    let whole = subst AreWhole h.whole w in
    let line = All-head (λ x. IsWholeLine x.line) h.stop h.after (All-back (λ x. IsWholeLine x.line) h.before (h.stop ∷ h.after) whole) in
    let read = All-head IsReadable h.stop h.after (All-back IsReadable h.before (h.stop ∷ h.after) (subst (All IsReadable) h.whole r)) in
    not_readable h.stop h.stop f refl line read h.fails

-- ---- the texts of a plan

whole_append : (xs ys : List Site) → AreWhole xs → AreWhole ys → AreWhole (xs ++ ys)
whole_append xs ys h k = all_append xs h
  where
    all_append : (zs : List Site) → AreWhole zs → AreWhole (zs ++ ys)
    all_append [] r = k
    all_append (z ∷ zs) r = All-cons (λ x. IsWholeLine x.line) z (zs ++ ys) (All-head (λ x. IsWholeLine x.line) z zs r) (all_append zs (All-tail (λ x. IsWholeLine x.line) z zs r))

value_whole : (name : List ℕ) (kind : Kind) (v : Option (List ℕ)) → AreWhole (literal_sites (record { name = name; kind = kind; value = v }))
value_whole name kind None = All-nil (λ x. IsWholeLine x.line)
value_whole name kind (Some text) = All-cons (λ x. IsWholeLine x.line) (text_site Constant text (Declared name)) [] a_constant (All-nil (λ x. IsWholeLine x.line))

declared_whole : (ds : List RawDeclaration) → AreWhole (declared_sites ds)
declared_whole [] = All-nil (λ x. IsWholeLine x.line)
declared_whole (d ∷ ds) = whole_append (literal_sites d) (declared_sites ds) (value_whole d.name d.kind d.value) (declared_whole ds)

body_whole : (m : List ℕ) (at : ℕ) (b : RawBody) → AreWhole (body_sites m at b)
body_whole m at raw.done = All-nil (λ x. IsWholeLine x.line)
body_whole m at (raw.eval text rest) = All-cons (λ x. IsWholeLine x.line) (text_site Assignment text (Statement m at)) (body_sites m (at + 1) rest) an_assignment (body_whole m (at + 1) rest)
body_whole m at (raw.branch text a b rest) =
    let n = at + 1 + raw_written a in
    let k = at + 1 + raw_written a + raw_written b in
    All-cons (λ x. IsWholeLine x.line) (text_site (Level 0) text (Statement m at)) (body_sites m (at + 1) a ++ (body_sites m n b ++ body_sites m k rest)) a_test
    (whole_append (body_sites m (at + 1) a) (body_sites m n b ++ body_sites m k rest) (body_whole m (at + 1) a)
    (whole_append (body_sites m n b) (body_sites m k rest) (body_whole m n b) (body_whole m k rest)))
body_whole m at (raw.execute x rest) = body_whole m (at + 1) rest

routines_whole : (ms : List RawRoutine) → AreWhole (routine_sites ms)
routines_whole [] = All-nil (λ x. IsWholeLine x.line)
routines_whole (m ∷ ms) = whole_append (body_sites m.name 0 m.body) (routine_sites ms) (body_whole m.name 0 m.body) (routines_whole ms)

sites_whole : (x : ElementTree) → AreWhole (sites_of x)
sites_whole x =
    whole_append (declared_sites x.inputs) _ (declared_whole x.inputs)
    (whole_append (declared_sites x.outputs) _ (declared_whole x.outputs)
    (whole_append (declared_sites x.internals) _ (declared_whole x.internals)
    (whole_append (declared_sites x.constants) _ (declared_whole x.constants)
    (whole_append (body_sites main_name 0 x.main) (routine_sites x.methods) (body_whole main_name 0 x.main) (routines_whole x.methods)))))

sites_readable : (x : ElementTree) (f : Flowchart) → HasFlowchart x f → All IsReadable (sites_of x)
sites_readable x f h =
    readable_append (declared_sites x.inputs) _ (declared_readable x.inputs f.inputs h.inputs)
    (readable_append (declared_sites x.outputs) _ (declared_readable x.outputs f.outputs h.outputs)
    (readable_append (declared_sites x.internals) _ (declared_readable x.internals f.internals h.internals)
    (readable_append (declared_sites x.constants) _ (declared_readable x.constants f.constants h.constants)
    (readable_append (body_sites main_name 0 x.main) (routine_sites x.methods) (body_readable main_name 0 x.main f.main h.main) (routines_readable x.methods f.methods h.methods)))))
  where
    readable_append : (xs ys : List Site) → All IsReadable xs → All IsReadable ys → All IsReadable (xs ++ ys)
    readable_append [] ys h k = k
    readable_append (z ∷ zs) ys h k = All-cons IsReadable z (zs ++ ys) (All-head IsReadable z zs h) (readable_append zs ys (All-tail IsReadable z zs h) k)

-- ---- at most one flowchart

declared_same : (d e : DeclaredLiteral) → declared d ≡ declared e → d ≡ e
declared_same d e h = cc

tree_same : (s t : Term) → tree s ≡ tree t → s ≡ t
tree_same s t h = cc

target_same : (x y : List ℕ) (s t : Term) → assignment x s ≡ assignment y t → x ≡ y
target_same x y s t h = cc

expression_same : (x y : List ℕ) (s t : Term) → assignment x s ≡ assignment y t → s ≡ t
expression_same x y s t h = cc

values_same : (v : Option (List ℕ)) (l k : Option DeclaredLiteral) → IsLiteralText v l → IsLiteralText v k → l ≡ k
values_same None None None h e = refl
values_same None None (Some k) h e = absurd e
values_same None (Some l) k h e = absurd h
values_same (Some text) None k h e = absurd h
values_same (Some text) (Some l) None h e = absurd e
values_same (Some text) (Some l) (Some k) h e = ap Some (declared_same l k (one_text text Constant a_constant (declared l) (declared k) h e))

abbrev declaration_with : List ℕ → Kind → Option DeclaredLiteral → Declaration
declaration_with name kind value = record { name = name; kind = kind; value = value }

declaration_same : (r : RawDeclaration) (d e : Declaration) → IsDeclaration r d → IsDeclaration r e → d ≡ e
declaration_same r d e h k =
    ap (λ x. declaration_with x d.kind d.value) (h.name ∙ sym k.name)
    ∙ ap (λ x. declaration_with e.name x d.value) (h.kind ∙ sym k.kind)
    ∙ ap (λ x. declaration_with e.name e.kind x) (values_same r.value d.value e.value h.value k.value)

declarations_same : (rs : List RawDeclaration) (ds es : List Declaration) → AreDeclarations rs ds → AreDeclarations rs es → ds ≡ es
declarations_same [] [] [] h k = refl
declarations_same [] [] (e ∷ es) h k = absurd k
declarations_same [] (d ∷ ds) es h k = absurd h
declarations_same (r ∷ rs) [] es h k = absurd h
declarations_same (r ∷ rs) (d ∷ ds) [] h k = absurd k
declarations_same (r ∷ rs) (d ∷ ds) (e ∷ es) h k =
    ap (λ x. x ∷ ds) (declaration_same r d e h.0 k.0) ∙ ap (λ l. e ∷ l) (declarations_same rs ds es h.1 k.1)

body_same : (r : RawBody) (b c : Body) → IsBody r b → IsBody r c → b ≡ c
body_same raw.done done done h k = refl
body_same raw.done done (eval x e more) h k = absurd k
body_same raw.done done (branch t u v more) h k = absurd k
body_same raw.done done (execute x more) h k = absurd k
body_same raw.done (eval x e more) c h k = absurd h
body_same raw.done (branch t u v more) c h k = absurd h
body_same raw.done (execute x more) c h k = absurd h
body_same (raw.eval text rest) done c h k = absurd h
body_same (raw.eval text rest) (eval x e more) done h k = absurd k
body_same (raw.eval text rest) (eval x e more) (eval y g other) h k =
    let m = one_text text Assignment an_assignment (assignment x e) (assignment y g) h.0 k.0 in
    ap (λ z. eval z e more) (target_same x y e g m) ∙ ap (λ z. eval y z more) (expression_same x y e g m) ∙ ap (eval y g) (body_same rest more other h.1 k.1)
body_same (raw.eval text rest) (eval x e more) (branch t u v other) h k = absurd k
body_same (raw.eval text rest) (eval x e more) (execute y other) h k = absurd k
body_same (raw.eval text rest) (branch t u v more) c h k = absurd h
body_same (raw.eval text rest) (execute x more) c h k = absurd h
body_same (raw.branch text a b rest) done c h k = absurd h
body_same (raw.branch text a b rest) (eval x e more) c h k = absurd h
body_same (raw.branch text a b rest) (branch t u v more) done h k = absurd k
body_same (raw.branch text a b rest) (branch t u v more) (eval y g other) h k = absurd k
body_same (raw.branch text a b rest) (branch t u v more) (branch s p q other) h k =
    let m = tree_same t s (one_text text (Level 0) a_test (tree t) (tree s) h.0 k.0) in
    ap (λ z. branch z u v more) m ∙ ap (λ z. branch s z v more) (body_same a u p h.1 k.1) ∙ ap (λ z. branch s p z more) (body_same b v q h.2 k.2) ∙ ap (branch s p q) (body_same rest more other h.3 k.3)
body_same (raw.branch text a b rest) (branch t u v more) (execute y other) h k = absurd k
body_same (raw.branch text a b rest) (execute x more) c h k = absurd h
body_same (raw.execute x rest) done c h k = absurd h
body_same (raw.execute x rest) (eval y e more) c h k = absurd h
body_same (raw.execute x rest) (branch t u v more) c h k = absurd h
body_same (raw.execute x rest) (execute y more) done h k = absurd k
body_same (raw.execute x rest) (execute y more) (eval z g other) h k = absurd k
body_same (raw.execute x rest) (execute y more) (branch t u v other) h k = absurd k
body_same (raw.execute x rest) (execute y more) (execute z other) h k =
    ap (λ n. execute n more) (h.0 ∙ sym k.0) ∙ ap (execute z) (body_same rest more other h.1 k.1)

abbrev routine_with : List ℕ → Body → Routine
routine_with name body = record { name = name; body = body }

routines_same : (rs : List RawRoutine) (ms ns : List Routine) → AreRoutines rs ms → AreRoutines rs ns → ms ≡ ns
routines_same [] [] [] h k = refl
routines_same [] [] (n ∷ ns) h k = absurd k
routines_same [] (m ∷ ms) ns h k = absurd h
routines_same (r ∷ rs) [] ns h k = absurd h
routines_same (r ∷ rs) (m ∷ ms) [] h k = absurd k
routines_same (r ∷ rs) (m ∷ ms) (n ∷ ns) h k =
    ap (λ x. routine_with x m.body ∷ ms) (h.0 ∙ sym k.0)
    ∙ ap (λ x. routine_with n.name x ∷ ms) (body_same r.body m.body n.body h.1 k.1)
    ∙ ap (λ l. n ∷ l) (routines_same rs ms ns h.2 k.2)

abbrev flowchart_with : List Declaration → List Declaration → List Declaration → List Declaration → Body → List Routine → Flowchart
flowchart_with i o n c m ms = record { inputs = i; outputs = o; internals = n; constants = c; main = m; methods = ms }

flowchart_same : (x : ElementTree) (f g : Flowchart) → HasFlowchart x f → HasFlowchart x g → f ≡ g
flowchart_same x f g h k =
    ap (λ l. flowchart_with l f.outputs f.internals f.constants f.main f.methods) (declarations_same x.inputs f.inputs g.inputs h.inputs k.inputs)
    ∙ ap (λ l. flowchart_with g.inputs l f.internals f.constants f.main f.methods) (declarations_same x.outputs f.outputs g.outputs h.outputs k.outputs)
    ∙ ap (λ l. flowchart_with g.inputs g.outputs l f.constants f.main f.methods) (declarations_same x.internals f.internals g.internals h.internals k.internals)
    ∙ ap (λ l. flowchart_with g.inputs g.outputs g.internals l f.main f.methods) (declarations_same x.constants f.constants g.constants h.constants k.constants)
    ∙ ap (λ l. flowchart_with g.inputs g.outputs g.internals g.constants l f.methods) (body_same x.main f.main g.main h.main k.main)
    ∙ ap (λ l. flowchart_with g.inputs g.outputs g.internals g.constants g.main l) (routines_same x.methods f.methods g.methods h.methods k.methods)

-- ---- a flowchart where all texts are readable

value_made : (name : List ℕ) (kind : Kind) (v : Option (List ℕ)) → All IsReadable (literal_sites (record { name = name; kind = kind; value = v })) → (l : Option DeclaredLiteral) × IsLiteralText v l
value_made name kind None r = (None, tt)
value_made name kind (Some text) r =
    let h = All-head IsReadable (text_site Constant text (Declared name)) [] r in
    let s = of_text Constant (plain h.1.spots) h.0 h.1.text in
    (Some s.0, subst (IsAccepted Constant text) s.1 h.1)

declarations_made : (rs : List RawDeclaration) → All IsReadable (declared_sites rs) → (ds : List Declaration) × AreDeclarations rs ds
declarations_made [] r = ([], tt)
declarations_made (d ∷ rs) r =
    let v = value_made d.name d.kind d.value (All-front IsReadable (literal_sites d) (declared_sites rs) r) in
    let k = declarations_made rs (All-back IsReadable (literal_sites d) (declared_sites rs) r) in
    let own : Declaration = record { name = d.name; kind = d.kind; value = v.0 } in
    (own ∷ k.0, (record { name = refl; kind = refl; value = v.1 }, k.1))

body_made : (m : List ℕ) (at : ℕ) (b : RawBody) → All IsReadable (body_sites m at b) → (c : Body) × IsBody b c
body_made m at raw.done r = (done, tt)
body_made m at (raw.eval text rest) r =
    let own = text_site Assignment text (Statement m at) in
    let h = All-head IsReadable own (body_sites m (at + 1) rest) r in
    let s = of_text Assignment (plain h.1.spots) h.0 h.1.text in
    let k = body_made m (at + 1) rest (All-tail IsReadable own (body_sites m (at + 1) rest) r) in
    (eval s.0 s.1 k.0, (subst (IsAccepted Assignment text) s.2 h.1, k.1))
body_made m at (raw.branch text a b rest) r =
    let n = at + 1 + raw_written a in
    let j = at + 1 + raw_written a + raw_written b in
    let own = text_site (Level 0) text (Statement m at) in
    let behind = body_sites m (at + 1) a ++ (body_sites m n b ++ body_sites m j rest) in
    let h = All-head IsReadable own behind r in
    let s = of_text (Level 0) (plain h.1.spots) h.0 h.1.text in
    let inner = All-tail IsReadable own behind r in
    let outer = All-back IsReadable (body_sites m (at + 1) a) (body_sites m n b ++ body_sites m j rest) inner in
    let u = body_made m (at + 1) a (All-front IsReadable (body_sites m (at + 1) a) (body_sites m n b ++ body_sites m j rest) inner) in
    let v = body_made m n b (All-front IsReadable (body_sites m n b) (body_sites m j rest) outer) in
    let k = body_made m j rest (All-back IsReadable (body_sites m n b) (body_sites m j rest) outer) in
    (branch s.0 u.0 v.0 k.0, (subst (IsAccepted (Level 0) text) s.1 h.1, u.1, v.1, k.1))
body_made m at (raw.execute x rest) r = let k = body_made m (at + 1) rest r in (execute x k.0, (refl, k.1))

routines_made : (rs : List RawRoutine) → All IsReadable (routine_sites rs) → (ms : List Routine) × AreRoutines rs ms
routines_made [] r = ([], tt)
routines_made (m ∷ rs) r =
    let b = body_made m.name 0 m.body (All-front IsReadable (body_sites m.name 0 m.body) (routine_sites rs) r) in
    let k = routines_made rs (All-back IsReadable (body_sites m.name 0 m.body) (routine_sites rs) r) in
    let own : Routine = record { name = m.name; body = b.0 } in
    (own ∷ k.0, (refl, b.1, k.1))

flowchart_made : (x : ElementTree) → All IsReadable (sites_of x) → (f : Flowchart) × HasFlowchart x f
flowchart_made x r =
    let r1 = All-back IsReadable (declared_sites x.inputs) (declared_sites x.outputs ++ (declared_sites x.internals ++ (declared_sites x.constants ++ (body_sites main_name 0 x.main ++ routine_sites x.methods)))) r in
    let r2 = All-back IsReadable (declared_sites x.outputs) (declared_sites x.internals ++ (declared_sites x.constants ++ (body_sites main_name 0 x.main ++ routine_sites x.methods))) r1 in
    let r3 = All-back IsReadable (declared_sites x.internals) (declared_sites x.constants ++ (body_sites main_name 0 x.main ++ routine_sites x.methods)) r2 in
    let r4 = All-back IsReadable (declared_sites x.constants) (body_sites main_name 0 x.main ++ routine_sites x.methods) r3 in
    let i = declarations_made x.inputs (All-front IsReadable (declared_sites x.inputs) _ r) in
    let o = declarations_made x.outputs (All-front IsReadable (declared_sites x.outputs) _ r1) in
    let n = declarations_made x.internals (All-front IsReadable (declared_sites x.internals) _ r2) in
    let c = declarations_made x.constants (All-front IsReadable (declared_sites x.constants) _ r3) in
    let b = body_made main_name 0 x.main (All-front IsReadable (body_sites main_name 0 x.main) (routine_sites x.methods) r4) in
    let ms = routines_made x.methods (All-back IsReadable (body_sites main_name 0 x.main) (routine_sites x.methods) r4) in (
      record { inputs = i.0; outputs = o.0; internals = n.0; constants = c.0; main = b.0; methods = ms.0 },
      record { inputs = i.1; outputs = o.1; internals = n.1; constants = c.1; main = b.1; methods = ms.1 },
    )

-- ---- the laws

pub one_plan : (bytes : List ℕ) (f g : Flowchart) → IsPlan bytes f → IsPlan bytes g → f ≡ g
one_plan bytes f g h k =
    let e = elements.one_tree bytes h.elements k.elements h.read.text k.read.text in
    flowchart_same k.elements f g (subst (λ x. HasFlowchart x f) e h.flowchart) k.flowchart

pub never_both : (bytes : List ℕ) (f : Flowchart) (a : PlanFault) → IsPlan bytes f → IsPlanFault bytes a → ⊥
never_both bytes f (faults.Read r) h k = elements.never_both bytes h.elements r h.read k
never_both bytes f (faults.Expr spot e) h k =
    let same = elements.one_tree bytes h.elements k.0 h.read.text k.1.text in
    never_first (sites_of k.0) (sites_whole k.0) (sites_readable k.0 f (subst (λ x. HasFlowchart x f) same h.flowchart)) spot e k.2
never_both bytes f faults.Memory h k = k

pub one_fault : (bytes : List ℕ) (a b : PlanFault) → IsPlanFault bytes a → IsPlanFault bytes b → a ≡ b
one_fault bytes (faults.Read r) (faults.Read s) h k = ap faults.Read (elements.one_fault bytes r s h k)
one_fault bytes (faults.Read r) (faults.Expr spot e) h k = absurd (elements.never_both bytes k.0 r k.1 h)
one_fault bytes (faults.Read r) faults.Memory h k = absurd k
one_fault bytes (faults.Expr spot e) (faults.Read s) h k = absurd (elements.never_both bytes h.0 s h.1 k)
one_fault bytes (faults.Expr spot e) (faults.Expr other d) h k =
    let same = elements.one_tree bytes h.0 k.0 h.1.text k.1.text in
    let one = one_first (sites_of k.0) (sites_whole k.0) spot other e d (subst (λ x. IsFirstFault (sites_of x) spot e) same h.2) k.2 in
    ap (λ s. faults.Expr s e) one.0 ∙ ap (faults.Expr other) one.1
one_fault bytes (faults.Expr spot e) faults.Memory h k = absurd k
one_fault bytes faults.Memory b h k = absurd h

pub always_one : (bytes : List ℕ) → ((f : Flowchart) × IsPlan bytes f) ⊎ ((a : PlanFault) × IsPlanFault bytes a)
always_one bytes = by_elements (elements.always_one bytes)
  where
    by_sites : (x : ElementTree) → IsElements bytes x → All IsReadable (sites_of x) ⊎ ((spot : Spot) × (f : ExprFault) × IsFirstFault (sites_of x) spot f)
        → ((f : Flowchart) × IsPlan bytes f) ⊎ ((a : PlanFault) × IsPlanFault bytes a)
    by_sites x h (inl r) = let f = flowchart_made x r in inl (f.0, record { elements = x; read = h; flowchart = f.1 })
    by_sites x h (inr k) = inr (faults.Expr k.0 k.1, (x, h, k.2))

    by_elements : ((x : ElementTree) × IsElements bytes x) ⊎ ((f : ReadFault) × IsFault bytes f) → ((f : Flowchart) × IsPlan bytes f) ⊎ ((a : PlanFault) × IsPlanFault bytes a)
    by_elements (inl h) = by_sites h.0 h.1 (first_or_none (sites_of h.0) (sites_whole h.0))
    by_elements (inr k) = inr (faults.Read k.0, k.1)
