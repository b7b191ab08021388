-- Faults that are found in texts, one after the other.
use Rattle.std.proofs.Common.{◌≡◌, ◌≢◌, ℕ, zero, suc, ◌+◌, ◌<◌, ◌≤◌, inl, inr, List, [], ◌∷◌, ◌++◌, length, map, drop, get_or, refl, sym, ap, subst, ◌∙◌, append-nil, append_assoc, arith, Vec, Global, Result, Ok, Err, Option, Some}
use Rattle.std.specs.Prelude.{IfOk, IfErr, OnOk}
use Rattle.std.specs.Result.{result_err}
use Rattle.std.specs.declared.alloc.AllocError.{AllocError}
use Rattle.std.proofs.Math.Seq.{drop-cons}
use Rattle.pap_tree.specs.Grammar.{Line, Level, Assignment, LineMeaning}
use Rattle.pap_tree.specs.Names.{main_name}
use Rattle.pap_tree.specs.Expressions.{IsAccepted}
use Rattle.pap_expr.specs.declared.fault.ExprFault.{ExprFault}
use Rattle.pap_expr.specs.declared.fault.ExprFault.TheVariants as exprs
use Rattle.pap_expr.specs.Faults.{IsFaultOf}
use Rattle.plan_text.specs.declared.fault.PlanFault.{PlanFault}
use Rattle.plan_text.specs.declared.fault.PlanFault.TheVariants as texts
use Rattle.pap_reader.specs.declared.elements.RawDeclared.{RawDeclared}
use Rattle.pap_reader.specs.declared.elements.RawMethod.{RawMethod}
use Rattle.pap_reader.specs.declared.elements.RawStmt.{RawStmt}
use Rattle.pap_reader.specs.declared.elements.RawStmt.TheVariants as raws
use Rattle.pap_reader.specs.declared.elements.RawStmt as raw_shapes
use Rattle.pap_reader.specs.declared.fault.ReadFault.{ReadFault}
use Rattle.pap_reader.specs.declared.fault.ReadFault.TheVariants as reads
use Rattle.pap_reader.specs.Elements.{IsElements, IsFault, IsFaultOrMemory}
use Rattle.pap_reader.specs.Trees.{ElementTree, RawBody, done, raw_body_of, raw_declaration_of, raw_stmt_then}
use Rattle.pap_reader.specs.TreeLimits.{raw_written}
use Rattle.pap_reader.proofs.Laws.{never_both, one_tree, raw_stmt_then-If}
use Rattle.plan_text.specs.ExprFaults.{IsExprFault}
use Rattle.plan_text.specs.Sites.{Site, text_site, body_sites, declared_sites, literal_sites, routine_sites, sites_of}
use Rattle.plan_text.specs.declared.fault.Spot.{Spot}
use Rattle.plan_text.specs.declared.fault.Spot.TheVariants.{Statement}
use Rattle.diagnostics.specs.ExpressionFaults.{AreExpressionFaults, AreFaultsOf}
use Rattle.diagnostics.specs.private.FaultViews.{Finds, FindsStatement, Keeps}

-- ---- lists of texts

are_append : (xs ys : List Site) (a b : List PlanFault) → AreFaultsOf xs a → AreFaultsOf ys b → AreFaultsOf (xs ++ ys) (a ++ b)
are_append [] ys a b h k = subst (λ l. AreFaultsOf ys (l ++ b)) (sym h) k
are_append (s ∷ xs) ys a b (inl h) k = inl (h.0, are_append xs ys a b h.1 k)
are_append (s ∷ xs) ys a b (inr h) k = inr (h.0, h.1 ++ b, h.2, ap (λ l. l ++ b) h.3, are_append xs ys h.1 b h.4 k)

pub finds_none : (before after : List PlanFault) → after ≡ before → Finds [] before after
finds_none before after same = record { found = []; are = refl; is = same ∙ sym (append-nil before) }

pub finds_both : (xs ys : List Site) (a b c : List PlanFault) → Finds xs a b → Finds ys b c → Finds (xs ++ ys) a c
finds_both xs ys a b c h k = record {
  found = h.found ++ k.found;
  are = are_append xs ys h.found k.found h.are k.are;
  is = k.is ∙ ap (λ l. l ++ k.found) h.is ∙ append_assoc a h.found k.found;
}

-- ---- one text

finds_readable : (l : Line) (text : List ℕ) (spot : Spot) (x : LineMeaning) (before after : List PlanFault)
    → IsAccepted l text x → after ≡ before → Finds (text_site l text spot ∷ []) before after
finds_readable l text spot x before after h same =
    record { found = []; are = inl ((x, h), refl); is = same ∙ sym (append-nil before) }

finds_fault : (l : Line) (text : List ℕ) (spot : Spot) (fault : ExprFault) (before after : List PlanFault)
    → IsExprFault l text fault → after ≡ before ++ texts.Expr spot fault ∷ [] → Finds (text_site l text spot ∷ []) before after
finds_fault l text spot fault before after h more = record {
  found = texts.Expr spot fault ∷ [];
  are = inr (fault, [], h, refl, refl);
  is = more;
}

by_fault : (l : Line) (text : List ℕ) (spot : Spot) (fault : ExprFault) (before after : List PlanFault)
    → IsFaultOf l text fault → Keeps spot (Some fault) before after → Finds (text_site l text spot ∷ []) before after
by_fault l text spot (exprs.Syntax at) before after h k = finds_fault l text spot (exprs.Syntax at) before after h k
by_fault l text spot (exprs.Unsupported at) before after h k = finds_fault l text spot (exprs.Unsupported at) before after h k
by_fault l text spot (exprs.BinaryFraction at) before after h k = finds_fault l text spot (exprs.BinaryFraction at) before after h k
by_fault l text spot (exprs.Number at) before after h k = finds_fault l text spot (exprs.Number at) before after h k
by_fault l text spot (exprs.Deep at) before after h k = finds_fault l text spot (exprs.Deep at) before after h k
by_fault l text spot exprs.Memory before after h k = absurd k

-- what was read of a text, and its fault that was kept
pub finds_text : {A : Type 0} (l : Line) (text : List ℕ) (spot : Spot) (r : Result A ExprFault) (found : Option ExprFault) (means : A → LineMeaning)
    (before after : List PlanFault) → IfOk r (λ a. IsAccepted l text (means a)) → IfErr r (IsFaultOf l text)
    → found ≡ result_err r → Keeps spot found before after → Finds (text_site l text spot ∷ []) before after
finds_text l text spot (Ok a) found means before after read wrong is k =
    finds_readable l text spot (means a) before after read (subst (λ o. Keeps spot o before after) is k)
finds_text l text spot (Err fault) found means before after read wrong is k =
    by_fault l text spot fault before after wrong (subst (λ o. Keeps spot o before after) is k)

-- ---- lists, as far as they are looked at

-- what is found in the texts that are left is, behind what was found, what is found in all
pub record GoesOn (all left : List Site) (before now : List PlanFault) : Type 0 where
  pub on : (after : List PlanFault) → Finds left now after → Finds all before after

pub begins : (all : List Site) (before : List PlanFault) → GoesOn all all before before
begins all before = record { on = λ after h. h }

pub goes_on : (all own left : List Site) (before now new : List PlanFault) → GoesOn all (own ++ left) before now → Finds own now new
    → GoesOn all left before new
goes_on all own left before now new h f = record { on = λ after k. h.on after (finds_both own left now new after f k) }

pub ends : (all left : List Site) (before now : List PlanFault) → left ≡ [] → GoesOn all left before now → Finds all before now
ends all left before now none h = (subst (λ l. GoesOn all l before now) none h).on now (finds_none now now refl)

-- the declarations from a number on
pub declared_from : (rs : List RawDeclared) (i : ℕ) (r : RawDeclared) → r ≡ get_or rs i r → i < length rs
    → declared_sites (map raw_declaration_of (drop i rs)) ≡ literal_sites (raw_declaration_of r) ++ declared_sites (map raw_declaration_of (drop (i + 1) rs))
declared_from rs i r is less =
    let next : suc i ≡ i + 1 = omega arith in
    ap (λ l. declared_sites (map raw_declaration_of l)) (drop-cons rs i r less ∙ ap (λ x. x ∷ drop (suc i) rs) (sym is) ∙ ap (λ k. r ∷ drop k rs) next)

-- all texts of a plan, where nothing was found before
pub all_found : (x : ElementTree) (a b c d e f g : List PlanFault) → a ≡ [] → Finds (declared_sites x.inputs) a b → Finds (declared_sites x.outputs) b c
    → Finds (declared_sites x.internals) c d → Finds (declared_sites x.constants) d e → Finds (body_sites main_name 0 x.main) e f
    → Finds (routine_sites x.methods) f g → AreFaultsOf (sites_of x) g
all_found x a b c d e f g none inputs outputs internals constants main methods =
    let in_methods = body_sites main_name 0 x.main ++ routine_sites x.methods in
    let in_constants = declared_sites x.constants ++ in_methods in
    let in_internals = declared_sites x.internals ++ in_constants in
    let in_outputs = declared_sites x.outputs ++ in_internals in
    let h = finds_both (declared_sites x.inputs) in_outputs a b g inputs
    (finds_both (declared_sites x.outputs) in_internals b c g outputs
    (finds_both (declared_sites x.internals) in_constants c d g internals
    (finds_both (declared_sites x.constants) in_methods d e g constants
    (finds_both (body_sites main_name 0 x.main) (routine_sites x.methods) e f g main methods)))) in
    subst (AreFaultsOf (sites_of x)) (sym (h.is ∙ ap (λ l. l ++ h.found) none)) h.are

-- ---- the bytes of a plan

pub read_found : (plan : List ℕ) (x : ElementTree) (faults : List PlanFault) → IsElements plan x → AreFaultsOf (sites_of x) faults → AreExpressionFaults plan faults
read_found plan x faults is h = record {
  read = λ y k. subst (λ z. AreFaultsOf (sites_of z) faults) (one_tree plan x y is.text k.text) h;
  unread = λ f k. absurd (never_both plan x f is k);
}

is_fault : (plan : List ℕ) (fault : ReadFault) → fault ≢ reads.Memory → IsFaultOrMemory plan fault → IsFault plan fault
is_fault plan (reads.Text at) other h = h
is_fault plan (reads.Element at) other h = h
is_fault plan (reads.Attribute at) other h = h
is_fault plan (reads.Many which) other h = h
is_fault plan reads.Memory other h = absurd (other refl)

pub unread_found : (plan : List ℕ) (fault : ReadFault) (faults : List PlanFault) → fault ≢ reads.Memory → IsFaultOrMemory plan fault → faults ≡ []
    → AreExpressionFaults plan faults
unread_found plan fault faults other h none = record {
  read = λ x k. absurd (never_both plan x fault k (is_fault plan fault other h));
  unread = λ f k. none;
}

-- ---- methods

-- the methods from a number on
pub method_from : (rs : List RawMethod) (i : ℕ) (r : RawMethod) → r ≡ get_or rs i r → i < length rs → drop i rs ≡ r ∷ drop (i + 1) rs
method_from rs i r is less =
    let next : suc i ≡ i + 1 = omega arith in
    drop-cons rs i r less ∙ ap (λ x. x ∷ drop (suc i) rs) (sym is) ∙ ap (λ k. r ∷ drop k rs) next

-- ---- statements

-- the statements of a list that are left, and the number of the first of them
pub record GoesOnBody (method : List ℕ) (at next : ℕ) (all left : RawBody) (before now : List PlanFault) : Type 0 where
  pub finds : GoesOn (body_sites method at all) (body_sites method next left) before now
  pub counted : next + raw_written left ≡ at + raw_written all

pub body_begins : (m : List ℕ) (at : ℕ) (all : RawBody) (before : List PlanFault) → GoesOnBody m at at all all before before
body_begins m at all before = record { finds = begins (body_sites m at all) before; counted = refl }

pub body_goes_on : (m : List ℕ) (at next new : ℕ) (all left : RawBody) (from : RawStmt) (before now after : List PlanFault)
    → GoesOnBody m at next all (raw_stmt_then from left) before now → FindsStatement m next new from now after
    → GoesOnBody m at new all left before after
body_goes_on m at next new all left from before now after h f = record {
  finds = goes_on (body_sites m at all) f.own (body_sites m new left) before now after
      (subst (λ l. GoesOn (body_sites m at all) l before now) (f.sites left) h.finds) f.finds;
  counted = f.counted left ∙ h.counted;
}

pub body_ends : (m : List ℕ) (at next : ℕ) (all left : RawBody) (before now : List PlanFault) → left ≡ done
    → GoesOnBody m at next all left before now → Finds (body_sites m at all) before now
body_ends m at next all left before now none h = ends (body_sites m at all) (body_sites m next left) before now (ap (body_sites m next) none) h.finds

pub eval_found : (m : List ℕ) (at next : ℕ) (raw : RawStmt) (exec : Vec ℕ Global) (text : List ℕ) (before after : List PlanFault)
    → raw ≡ raws.Eval exec → text ≡ exec.items → next ≡ at + 1 → Finds (text_site Assignment text (Statement m at) ∷ []) before after
    → FindsStatement m at next raw before after
eval_found m at next raw exec text before after is et en f =
    subst (λ r. FindsStatement m at next r before after) (sym is) (record {
      own = text_site Assignment exec.items (Statement m at) ∷ [];
      finds = subst (λ t. Finds (text_site Assignment t (Statement m at) ∷ []) before after) et f;
      sites = λ rest. ap (λ n. text_site Assignment exec.items (Statement m at) ∷ body_sites m n rest) (sym en);
      counted = λ rest. omega (arith, en);
    })

pub execute_found : (m : List ℕ) (at next : ℕ) (raw : RawStmt) (name : List ℕ) (before after : List PlanFault)
    → raw ≡ raws.Execute name → next ≡ at + 1 → after ≡ before → FindsStatement m at next raw before after
execute_found m at next raw name before after is en same =
    subst (λ r. FindsStatement m at next r before after) (sym is) (record {
      own = [];
      finds = finds_none before after same;
      sites = λ rest. ap (λ n. body_sites m n rest) (sym en);
      counted = λ rest. omega (arith, en);
    })

branch_exact : (m : List ℕ) (at : ℕ) (text : Vec ℕ Global) (ys zs : Vec RawStmt Global) (one two three four : List PlanFault)
    → Finds (text_site (Level 0) text.items (Statement m at) ∷ []) one two → Finds (body_sites m (at + 1) (raw_body_of ys.items)) two three
    → Finds (body_sites m (at + 1 + raw_written (raw_body_of ys.items)) (raw_body_of zs.items)) three four
    → FindsStatement m at (at + 1 + raw_written (raw_body_of ys.items) + raw_written (raw_body_of zs.items)) (raws.If text ys zs) one four
branch_exact m at text ys zs one two three four test first second =
    let own = text_site (Level 0) text.items (Statement m at) in
    let u = raw_written (raw_body_of ys.items) in
    let v = raw_written (raw_body_of zs.items) in
    let in_first = body_sites m (at + 1) (raw_body_of ys.items) in
    let in_second = body_sites m (at + 1 + u) (raw_body_of zs.items) in
    record {
      own = own ∷ (in_first ++ in_second);
      finds = finds_both (own ∷ []) (in_first ++ in_second) one two four test (finds_both in_first in_second two three four first second);
      sites = λ rest. ap (body_sites m at) (raw_stmt_then-If text ys zs rest)
          ∙ ap (λ l. own ∷ l) (sym (append_assoc in_first in_second (body_sites m (at + 1 + u + v) rest)));
      counted = λ rest. omega (arith, ap raw_written (raw_stmt_then-If text ys zs rest));
    }

pub branch_found : (m : List ℕ) (at mid next : ℕ) (raw : RawStmt) (text : Vec ℕ Global) (ys zs : Vec RawStmt Global) (t : List ℕ) (a b : List RawStmt)
    (one two three four : List PlanFault) → raw ≡ raws.If text ys zs → t ≡ text.items → a ≡ ys.items → b ≡ zs.items
    → mid ≡ at + 1 + raw_written (raw_body_of a) → next ≡ mid + raw_written (raw_body_of b)
    → Finds (text_site (Level 0) t (Statement m at) ∷ []) one two → Finds (body_sites m (at + 1) (raw_body_of a)) two three
    → Finds (body_sites m mid (raw_body_of b)) three four → FindsStatement m at next raw one four
branch_found m at mid next raw text ys zs t a b one two three four is et ea eb em en test first second =
    let e = em ∙ ap (λ l. at + 1 + raw_written (raw_body_of l)) ea in
    let k = en ∙ ap (λ n. n + raw_written (raw_body_of b)) e ∙ ap (λ l. at + 1 + raw_written (raw_body_of ys.items) + raw_written (raw_body_of l)) eb in
    subst (λ r. FindsStatement m at next r one four) (sym is)
    (subst (λ n. FindsStatement m at n (raws.If text ys zs) one four) (sym k)
    (branch_exact m at text ys zs one two three four (subst (λ x. Finds (text_site (Level 0) x (Statement m at) ∷ []) one two) et test)
    (subst (λ l. Finds (body_sites m (at + 1) (raw_body_of l)) two three) ea first)
    (subst (λ n. Finds (body_sites m n (raw_body_of zs.items)) three four) e (subst (λ l. Finds (body_sites m mid (raw_body_of l)) three four) eb second))))

-- what the second list of a branch finds
pub branch_ends : (m : List ℕ) (at mid : ℕ) (raw : RawStmt) (text : Vec ℕ Global) (ys zs : Vec RawStmt Global) (t : List ℕ) (a b : List RawStmt)
    (one two three four : List PlanFault) (r : Result ℕ AllocError) → raw ≡ raws.If text ys zs → t ≡ text.items → a ≡ ys.items → b ≡ zs.items
    → mid ≡ at + 1 + raw_written (raw_body_of a)
    → Finds (text_site (Level 0) t (Statement m at) ∷ []) one two → Finds (body_sites m (at + 1) (raw_body_of a)) two three
    → OnOk r (Finds (body_sites m mid (raw_body_of b)) three four) → IfOk r (λ next. next ≡ mid + raw_written (raw_body_of b))
    → IfOk r (λ next. FindsStatement m at next raw one four)
branch_ends m at mid raw text ys zs t a b one two three four (Ok next) is et ea eb em test first second en =
    branch_found m at mid next raw text ys zs t a b one two three four is et ea eb em en test first second
branch_ends m at mid raw text ys zs t a b one two three four (Err e) is et ea eb em test first second en = tt

-- how many statements there are
pub written_split : (s : RawStmt) (rest : RawBody) → raw_written (raw_stmt_then s rest) ≡ raw_written (raw_stmt_then s done) + raw_written rest
written_split (raws.Eval x) rest = omega arith
written_split (raw_shapes.If' t m ys n zs) rest = omega arith
written_split (raws.Execute x) rest = omega arith

pub written_some : (s : RawStmt) → 1 ≤ raw_written (raw_stmt_then s done)
written_some (raws.Eval x) = omega arith
written_some (raw_shapes.If' t m ys n zs) = omega arith
written_some (raws.Execute x) = omega arith

pub written_if : (s : RawStmt) (text : Vec ℕ Global) (ys zs : Vec RawStmt Global) → s ≡ raws.If text ys zs
    → raw_written (raw_stmt_then s done) ≡ 1 + raw_written (raw_body_of ys.items) + raw_written (raw_body_of zs.items)
written_if s text ys zs is = ap (λ x. raw_written (raw_stmt_then x done)) is ∙ ap raw_written (raw_stmt_then-If text ys zs done) ∙ omega arith

-- the statements from a place on
raw_at-suc : (ss : List RawStmt) (i : ℕ) (d : RawStmt) → i < length ss → raw_body_of (drop i ss) ≡ raw_stmt_then (get_or ss i d) (raw_body_of (drop (suc i) ss))
raw_at-suc [] i d lt = absurd (omega arith)
raw_at-suc (s ∷ ss) zero d lt = refl
raw_at-suc (s ∷ ss) (suc i) d lt = raw_at-suc ss i d (omega arith)

pub raw_stmt_at : (ss : List RawStmt) (i : ℕ) (s : RawStmt) → s ≡ get_or ss i s → i < length ss → raw_body_of (drop i ss) ≡ raw_stmt_then s (raw_body_of (drop (i + 1) ss))
raw_stmt_at ss i s is lt =
    let next : suc i ≡ i + 1 = omega arith in
    raw_at-suc ss i s lt ∙ ap (λ x. raw_stmt_then x (raw_body_of (drop (suc i) ss))) (sym is) ∙ ap (λ k. raw_stmt_then s (raw_body_of (drop k ss))) next
