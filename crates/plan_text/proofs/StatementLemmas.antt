-- One statement, whatever follows it.
use Rattle.std.specs.Result.{IsErrAnd}
use Rattle.std.proofs.lemmas.Result.{err_from_is_err_and}
use Rattle.std.proofs.Common.{◌≡◌, ◌≤◌, Result, Ok, Err, ℕ, zero, suc, ◌+◌, ◌<◌, List, [], ◌∷◌, ◌++◌, length, drop, get_or, refl, sym, ap, subst, ◌∙◌, arith, Vec, Global, add-one}
use Rattle.pap_tree.specs.Grammar.{Level, Assignment, tree, assignment}
use Rattle.pap_tree.specs.declared.expression.Expr.{Expr}
use Rattle.pap_tree.specs.declared.plan.Stmt.{Stmt}
use Rattle.pap_tree.specs.declared.plan.Stmt.TheVariants as stmts
use Rattle.pap_tree.specs.Term.{term_of}
use Rattle.pap_tree.specs.Flowchart.{Body, stmt_then, body_of}
use Rattle.pap_tree.specs.Flowchart as bodies
use Rattle.pap_tree.proofs.Laws.{stmt_then-If}
use Rattle.pap_reader.specs.declared.elements.RawStmt.{RawStmt}
use Rattle.pap_reader.specs.declared.elements.RawStmt.TheVariants as raws
use Rattle.pap_reader.specs.declared.elements.RawStmt as raw_shapes
use Rattle.pap_reader.specs.Trees.{RawBody, done, eval, branch, raw_stmt_then, raw_body_of}
use Rattle.pap_reader.specs.TreeLimits.{raw_written}
use Rattle.pap_reader.proofs.Laws.{raw_stmt_then-If}
use Rattle.plan_text.specs.declared.fault.PlanFault.{PlanFault}
use Rattle.plan_text.specs.declared.fault.Spot.TheVariants.{Statement}
use Rattle.plan_text.specs.Sites.{text_site, body_sites, IsReadable}
use Rattle.plan_text.specs.Plans.{IsBody}
use Rattle.plan_text.specs.private.Views.{Tells, TellsFault, TellsStatement, IsStatement, IsTest, IsAssignment}
use Rattle.plan_text.proofs.SiteLemmas.{earlier, later, behind_one}
use Rattle.plan_text.proofs.ReadLemmas.{body_readable}

-- ---- the kinds of statements

pub eval_is : (m : List ℕ) (at next : ℕ) (text : Vec ℕ Global) (s : Stmt) → next ≡ at + 1 → IsAssignment text.items s → IsStatement m at next (raws.Eval text) s
eval_is m at next text s e h =
    let own : IsReadable (text_site Assignment text.items (Statement m at)) = (assignment h.target (term_of h.value), h.accepted) in
    record {
      is = λ rest more k. subst (λ t. IsBody (eval text.items rest) (stmt_then t more)) (sym h.is) (h.accepted, k);
      later = λ rest f k. behind_one (text_site Assignment text.items (Statement m at)) (body_sites m (at + 1) rest) f own (subst (λ n. TellsFault (body_sites m n rest) f) e k);
      counted = λ rest. omega (arith, e);
    }

pub eval_fails : (m : List ℕ) (at : ℕ) (text : Vec ℕ Global) (f : PlanFault) → TellsFault (text_site Assignment text.items (Statement m at) ∷ []) f
    → (rest : RawBody) → TellsFault (body_sites m at (raw_stmt_then (raws.Eval text) rest)) f
eval_fails m at text f h rest = earlier (text_site Assignment text.items (Statement m at) ∷ []) (body_sites m (at + 1) rest) f h

-- ---- a branch: its test, its first list and its second

branch_sites : (m : List ℕ) (at : ℕ) (text : Vec ℕ Global) (ys zs : Vec RawStmt Global) (rest : RawBody) →
    body_sites m at (raw_stmt_then (raws.If text ys zs) rest)
    ≡ text_site (Level 0) text.items (Statement m at)
    ∷ (body_sites m (at + 1) (raw_body_of ys.items)
    ++ (body_sites m (at + 1 + raw_written (raw_body_of ys.items)) (raw_body_of zs.items)
    ++ body_sites m (at + 1 + raw_written (raw_body_of ys.items) + raw_written (raw_body_of zs.items)) rest))
branch_sites m at text ys zs rest = ap (body_sites m at) (raw_stmt_then-If text ys zs rest)

pub branch_is : (m : List ℕ) (at next : ℕ) (text : Vec ℕ Global) (ys zs : Vec RawStmt Global) (t : Expr) (us vs : Vec Stmt Global)
    → next ≡ at + 1 + raw_written (raw_body_of ys.items) + raw_written (raw_body_of zs.items)
    → IsTest text.items t → IsBody (raw_body_of ys.items) (body_of us.items) → IsBody (raw_body_of zs.items) (body_of vs.items)
    → IsStatement m at next (raws.If text ys zs) (stmts.If t us vs)
branch_is m at next text ys zs t us vs e test first second =
    let a = raw_body_of ys.items in
    let b = raw_body_of zs.items in
    let own : IsReadable (text_site (Level 0) text.items (Statement m at)) = (tree (term_of t), test) in
    record {
      is = λ rest more k.
          subst (λ r. IsBody r (stmt_then (stmts.If t us vs) more)) (sym (raw_stmt_then-If text ys zs rest))
          (subst (λ b. IsBody (branch text.items (raw_body_of ys.items) (raw_body_of zs.items) rest) b) (sym (stmt_then-If t us vs more)) (test, first, second, k));
      later = λ rest f k.
          let at_rest = subst (λ n. TellsFault (body_sites m n rest) f) e k in
          let in_second = later (body_sites m (at + 1 + raw_written a) b) (body_sites m (at + 1 + raw_written a + raw_written b) rest) f (body_readable m (at + 1 + raw_written a) b (body_of vs.items) second) at_rest in
          let in_first = later (body_sites m (at + 1) a) (body_sites m (at + 1 + raw_written a) b ++ body_sites m (at + 1 + raw_written a + raw_written b) rest) f (body_readable m (at + 1) a (body_of us.items) first) in_second in
          subst (λ l. TellsFault l f) (sym (branch_sites m at text ys zs rest))
          (behind_one (text_site (Level 0) text.items (Statement m at)) (body_sites m (at + 1) a ++ (body_sites m (at + 1 + raw_written a) b ++ body_sites m (at + 1 + raw_written a + raw_written b) rest)) f own in_first);
      counted = λ rest. omega (arith, e, ap raw_written (raw_stmt_then-If text ys zs rest));
    }

pub test_fails : (m : List ℕ) (at : ℕ) (text : Vec ℕ Global) (ys zs : Vec RawStmt Global) (f : PlanFault) → TellsFault (text_site (Level 0) text.items (Statement m at) ∷ []) f
    → (rest : RawBody) → TellsFault (body_sites m at (raw_stmt_then (raws.If text ys zs) rest)) f
test_fails m at text ys zs f h rest =
    let a = raw_body_of ys.items in
    let b = raw_body_of zs.items in
    subst (λ l. TellsFault l f) (sym (branch_sites m at text ys zs rest))
    (earlier (text_site (Level 0) text.items (Statement m at) ∷ []) (body_sites m (at + 1) a ++ (body_sites m (at + 1 + raw_written a) b ++ body_sites m (at + 1 + raw_written a + raw_written b) rest)) f h)

pub first_fails : (m : List ℕ) (at : ℕ) (text : Vec ℕ Global) (ys zs : Vec RawStmt Global) (t : Expr) (f : PlanFault)
    → IsTest text.items t → TellsFault (body_sites m (at + 1) (raw_body_of ys.items)) f
    → (rest : RawBody) → TellsFault (body_sites m at (raw_stmt_then (raws.If text ys zs) rest)) f
first_fails m at text ys zs t f test h rest =
    let a = raw_body_of ys.items in
    let b = raw_body_of zs.items in
    subst (λ l. TellsFault l f) (sym (branch_sites m at text ys zs rest))
    (behind_one (text_site (Level 0) text.items (Statement m at)) (body_sites m (at + 1) a ++ (body_sites m (at + 1 + raw_written a) b ++ body_sites m (at + 1 + raw_written a + raw_written b) rest)) f (tree (term_of t), test)
    (earlier (body_sites m (at + 1) a) (body_sites m (at + 1 + raw_written a) b ++ body_sites m (at + 1 + raw_written a + raw_written b) rest) f h))

pub second_fails : (m : List ℕ) (at : ℕ) (text : Vec ℕ Global) (ys zs : Vec RawStmt Global) (t : Expr) (us : Vec Stmt Global) (f : PlanFault)
    → IsTest text.items t → IsBody (raw_body_of ys.items) (body_of us.items)
    → TellsFault (body_sites m (at + 1 + raw_written (raw_body_of ys.items)) (raw_body_of zs.items)) f
    → (rest : RawBody) → TellsFault (body_sites m at (raw_stmt_then (raws.If text ys zs) rest)) f
second_fails m at text ys zs t us f test first h rest =
    let a = raw_body_of ys.items in
    let b = raw_body_of zs.items in
    let back = body_sites m (at + 1 + raw_written a + raw_written b) rest in
    subst (λ l. TellsFault l f) (sym (branch_sites m at text ys zs rest))
    (behind_one (text_site (Level 0) text.items (Statement m at)) (body_sites m (at + 1) a ++ (body_sites m (at + 1 + raw_written a) b ++ back)) f (tree (term_of t), test)
    (later (body_sites m (at + 1) a) (body_sites m (at + 1 + raw_written a) b ++ back) f (body_readable m (at + 1) a (body_of us.items) first)
    (earlier (body_sites m (at + 1 + raw_written a) b) back f h)))

-- ---- lists of statements, as far as they are read

-- statements, and those that follow them
abbrev pub then_body : List Stmt → Body → Body
then_body [] rest = rest
then_body (s ∷ ss) rest = stmt_then s (then_body ss rest)

pub then_done : (ss : List Stmt) → then_body ss bodies.done ≡ body_of ss
then_done [] = refl
then_done (s ∷ ss) = ap (stmt_then s) (then_done ss)

pub then_one : (ss : List Stmt) (s : Stmt) (rest : Body) → then_body (ss ++ (s ∷ [])) rest ≡ then_body ss (stmt_then s rest)
then_one [] s rest = refl
then_one (x ∷ ss) s rest = ap (stmt_then x) (then_one ss s rest)

-- The statements so far are read: with what is left they are all, and a fault of what is left is the first of all.
pub record AreRead (m : List ℕ) (at next : ℕ) (all left : RawBody) (so_far : List Stmt) : Type 0 where
  pub is : (more : Body) → IsBody left more → IsBody all (then_body so_far more)
  pub later : (f : PlanFault) → TellsFault (body_sites m next left) f → TellsFault (body_sites m at all) f
  pub counted : next + raw_written left ≡ at + raw_written all

pub none_yet : (m : List ℕ) (at : ℕ) (all : RawBody) → AreRead m at at all all []
none_yet m at all = record { is = λ more h. h; later = λ f h. h; counted = refl }

pub one_more : (m n : List ℕ) (at next new : ℕ) (all left : RawBody) (from : RawStmt) (so_far : List Stmt) (s : Stmt)
    → n ≡ m → AreRead m at next all (raw_stmt_then from left) so_far → IsStatement n next new from s → AreRead m at new all left (so_far ++ (s ∷ []))
one_more m n at next new all left from so_far s same h own =
    let k = subst (λ x. IsStatement x next new from s) same own in
    record {
      is = λ more o. subst (IsBody all) (sym (then_one so_far s more)) (h.is (stmt_then s more) (k.is left more o));
      later = λ f o. h.later f (k.later left f o);
      counted = k.counted left ∙ h.counted;
    }

pub fails_at : (m n : List ℕ) (at next : ℕ) (all left : RawBody) (from : RawStmt) (so_far : List Stmt) (f : PlanFault)
    → n ≡ m → AreRead m at next all (raw_stmt_then from left) so_far → ((rest : RawBody) → TellsFault (body_sites n next (raw_stmt_then from rest)) f)
    → TellsFault (body_sites m at all) f
fails_at m n at next all left from so_far f same h own = h.later f (subst (λ x. TellsFault (body_sites x next (raw_stmt_then from left)) f) same (own left))

-- how many statements there are
pub written_split : (s : RawStmt) (rest : RawBody) → raw_written (raw_stmt_then s rest) ≡ raw_written (raw_stmt_then s done) + raw_written rest
written_split (raws.Eval x) rest = omega arith
written_split (raw_shapes.If' t m ys n zs) rest = omega arith
written_split (raws.Execute x) rest = omega arith

pub written_some : (s : RawStmt) → 1 ≤ raw_written (raw_stmt_then s done)
written_some (raws.Eval x) = omega arith
written_some (raw_shapes.If' t m ys n zs) = omega arith
written_some (raws.Execute x) = omega arith

pub written_if : (s : RawStmt) (text : Vec ℕ Global) (ys zs : Vec RawStmt Global) → s ≡ raws.If text ys zs → raw_written (raw_stmt_then s done) ≡ 1 + raw_written (raw_body_of ys.items) + raw_written (raw_body_of zs.items)
written_if s text ys zs is = ap (λ x. raw_written (raw_stmt_then x done)) is ∙ ap raw_written (raw_stmt_then-If text ys zs done) ∙ omega arith

pub all_read : (m : List ℕ) (at next : ℕ) (all : RawBody) (ss : List Stmt) → AreRead m at next all done ss → IsBody all (body_of ss)
all_read m at next all ss h = subst (IsBody all) (then_done ss) (h.is bodies.done tt)

-- the statements from a place on
raw_at-suc : (ss : List RawStmt) (i : ℕ) (d : RawStmt) → i < length ss → raw_body_of (drop i ss) ≡ raw_stmt_then (get_or ss i d) (raw_body_of (drop (suc i) ss))
raw_at-suc [] i d lt = absurd (omega arith)
raw_at-suc (s ∷ ss) zero d lt = refl
raw_at-suc (s ∷ ss) (suc i) d lt = raw_at-suc ss i d (omega arith)

pub raw_stmt_at : (ss : List RawStmt) (i : ℕ) (s : RawStmt) → s ≡ get_or ss i s → i < length ss → raw_body_of (drop i ss) ≡ raw_stmt_then s (raw_body_of (drop (i + 1) ss))
raw_stmt_at ss i s is lt = rw add-one (raw_at-suc ss i s lt ∙ ap (λ x. raw_stmt_then x (raw_body_of (drop (suc i) ss))) (sym is))

-- ---- an IF of the code, by the texts and lists that the code has

pub if_test_fails : (m : List ℕ) (at : ℕ) (raw : RawStmt) (text : Vec ℕ Global) (ys zs : Vec RawStmt Global) (t : List ℕ) (f : PlanFault)
    → raw ≡ raws.If text ys zs → t ≡ text.items → TellsFault (text_site (Level 0) t (Statement m at) ∷ []) f
    → (rest : RawBody) → TellsFault (body_sites m at (raw_stmt_then raw rest)) f
if_test_fails m at raw text ys zs t f is et h rest =
    subst (λ r. TellsFault (body_sites m at (raw_stmt_then r rest)) f) (sym is)
    (test_fails m at text ys zs f (subst (λ x. TellsFault (text_site (Level 0) x (Statement m at) ∷ []) f) et h) rest)

pub if_first_fails : (m n : List ℕ) (at k : ℕ) (raw : RawStmt) (text : Vec ℕ Global) (ys zs : Vec RawStmt Global) (t : List ℕ) (e : Expr) (a : List RawStmt) (f : PlanFault)
    → raw ≡ raws.If text ys zs → t ≡ text.items → a ≡ ys.items → n ≡ m → k ≡ at + 1
    → IsTest t e → TellsFault (body_sites n k (raw_body_of a)) f
    → (rest : RawBody) → TellsFault (body_sites m at (raw_stmt_then raw rest)) f
if_first_fails m n at k raw text ys zs t e a f is et ea en ek test h rest =
    let own = subst (λ x. TellsFault (body_sites x k (raw_body_of a)) f) en h in
    let placed = subst (λ x. TellsFault (body_sites m x (raw_body_of a)) f) ek own in
    subst (λ r. TellsFault (body_sites m at (raw_stmt_then r rest)) f) (sym is)
    (first_fails m at text ys zs e f (subst (λ x. IsTest x e) et test) (subst (λ l. TellsFault (body_sites m (at + 1) (raw_body_of l)) f) ea placed) rest)

pub if_second_fails : (m n : List ℕ) (at k : ℕ) (raw : RawStmt) (text : Vec ℕ Global) (ys zs : Vec RawStmt Global) (t : List ℕ) (e : Expr) (a b : List RawStmt) (us : Vec Stmt Global) (f : PlanFault)
    → raw ≡ raws.If text ys zs → t ≡ text.items → a ≡ ys.items → b ≡ zs.items → n ≡ m → k ≡ at + 1 + raw_written (raw_body_of a)
    → IsTest t e → IsBody (raw_body_of a) (body_of us.items) → TellsFault (body_sites n k (raw_body_of b)) f
    → (rest : RawBody) → TellsFault (body_sites m at (raw_stmt_then raw rest)) f
if_second_fails m n at k raw text ys zs t e a b us f is et ea eb en ek test first h rest =
    let own = subst (λ x. TellsFault (body_sites x k (raw_body_of b)) f) en h in
    let placed = subst (λ x. TellsFault (body_sites m x (raw_body_of b)) f) (ek ∙ ap (λ l. at + 1 + raw_written (raw_body_of l)) ea) own in
    subst (λ r. TellsFault (body_sites m at (raw_stmt_then r rest)) f) (sym is)
    (second_fails m at text ys zs e us f (subst (λ x. IsTest x e) et test) (subst (λ l. IsBody (raw_body_of l) (body_of us.items)) ea first)
    (subst (λ l. TellsFault (body_sites m (at + 1 + raw_written (raw_body_of ys.items)) (raw_body_of l)) f) eb placed) rest)

pub if_is : (m : List ℕ) (at next : ℕ) (raw : RawStmt) (text : Vec ℕ Global) (ys zs : Vec RawStmt Global) (t : List ℕ) (e : Expr) (a b : List RawStmt) (us vs : Vec Stmt Global)
    → raw ≡ raws.If text ys zs → t ≡ text.items → a ≡ ys.items → b ≡ zs.items
    → next ≡ at + 1 + raw_written (raw_body_of a) + raw_written (raw_body_of b)
    → IsTest t e → IsBody (raw_body_of a) (body_of us.items) → IsBody (raw_body_of b) (body_of vs.items)
    → IsStatement m at next raw (stmts.If e us vs)
if_is m at next raw text ys zs t e a b us vs is et ea eb en test first second =
    subst (λ r. IsStatement m at next r (stmts.If e us vs)) (sym is)
    (branch_is m at next text ys zs e us vs (en ∙ ap (λ l. at + 1 + raw_written (raw_body_of l) + raw_written (raw_body_of b)) ea ∙ ap (λ l. at + 1 + raw_written (raw_body_of ys.items) + raw_written (raw_body_of l)) eb)
    (subst (λ x. IsTest x e) et test) (subst (λ l. IsBody (raw_body_of l) (body_of us.items)) ea first) (subst (λ l. IsBody (raw_body_of l) (body_of vs.items)) eb second))

-- what an EVAL's text tells is what the statement tells
pub eval_tells : (m : List ℕ) (at next : ℕ) (raw : RawStmt) (text : Vec ℕ Global) (t : List ℕ) (r : Result Stmt PlanFault)
    → raw ≡ raws.Eval text → t ≡ text.items → next ≡ at + 1 → Tells (text_site Assignment t (Statement m at) ∷ []) (IsAssignment t) r → TellsStatement m at next raw r
eval_tells m at next raw text t (Ok s) is et en h =
    subst (λ x. IsStatement m at next x s) (sym is) (eval_is m at next text s en (subst (λ x. IsAssignment x s) et h))
eval_tells m at next raw text t (Err f) is et en h =
    λ rest. subst (λ x. TellsFault (body_sites m at (raw_stmt_then x rest)) f) (sym is)
    (eval_fails m at text f (subst (λ x. TellsFault (text_site Assignment x (Statement m at) ∷ []) f) et h) rest)

pub statement_fails : (m : List ℕ) (at next : ℕ) (raw : RawStmt) (r : Result Stmt PlanFault) (f : PlanFault)
    → ((rest : RawBody) → TellsFault (body_sites m at (raw_stmt_then raw rest)) f) → IsErrAnd r (λ e. e ≡ f) → TellsStatement m at next raw r
statement_fails m at next raw r f h k =
    let p = err_from_is_err_and r k in
    subst (TellsStatement m at next raw) (sym p.1) (subst (λ e. (rest : RawBody) → TellsFault (body_sites m at (raw_stmt_then raw rest)) e) (sym p.2) h)
