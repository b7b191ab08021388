-- The findings of a flowchart, from those of its parts.
use Rattle.std.proofs.Common.{◌≡◌, ℕ, zero, suc, ◌+◌, ◌<◌, ◌≤◌, List, [], ◌∷◌, ◌++◌, length, drop, get_or, Bool, map, sym, ap, subst, ◌∙◌, append_assoc, arith}
use Rattle.std.specs.Prelude.{not, ◌&&◌, false}
use Rattle.std.specs.BTreeSet.{BTreeSet}
use Rattle.std.proofs.lemmas.List.{drop_more}
use Rattle.pap_tree.specs.Declarations.{declaration_of}
use Rattle.pap_tree.specs.declared.declaration.Declared.{Declared}
use Rattle.pap_tree.specs.declared.plan.Method.{Method}
use Rattle.pap_tree.specs.declared.plan.PlanText.{PlanText}
use Rattle.pap_tree.specs.declared.plan.Stmt.{Stmt}
use Rattle.pap_tree.specs.Flowchart.{Flowchart, routine_of, body_of, flowchart_of}
use Rattle.pap_tree.specs.Names.{main_name}
use Rattle.pap_tree.specs.Statements.{written}
use Rattle.pap_types.specs.Counts.{IsWithinCounts, methods_written}
use Rattle.interval_analysis.specs.Surveys.{StatementPlace, ExitPlace}
use Rattle.flowchart_findings.specs.declared.name_sets.NameSets.{NameSets}
use Rattle.flowchart_findings.specs.declared.finding.Group.{Group}
use Rattle.flowchart_findings.specs.declared.finding.Group.TheVariants.{Input, Output, Internal, Constant}
use Rattle.flowchart_findings.specs.declared.finding.Finding.{Finding}
use Rattle.flowchart_findings.specs.Uses.{is_read, is_assigned, is_unused}
use Rattle.flowchart_findings.specs.Findings.{declaration_site, declaration_finding, declaration_findings, declared_findings, body_findings, method_findings, method_facts, methods_findings, findings_of}
use Rattle.flowchart_findings.specs.private.FindingViews.{AddsAll, AddsDeclarations, AddsMethods}
use Rattle.flowchart_findings.specs.private.SetViews.{HasNames, HaveNames, read_by, assigned_by, unused_by}
use Rattle.flowchart_findings.specs.private.StatementViews.{AddsFindings}

-- the rest of a list from an item on
pub from_item : {A : Type 0} (xs : List A) (i : ℕ) (x : A) → x ≡ get_or xs i x → i < length xs → drop i xs ≡ x ∷ drop (i + 1) xs
from_item xs i x is lt = drop_more xs i x lt ∙ ap (λ y. y ∷ drop (i + 1) xs) (sym is)

-- one more declaration
pub one_declaration : (read assigned : List ℕ → Bool) (group : Group) (ds : List Declared) (i : ℕ) (d : Declared)
    (out out' whole : List Finding) → d ≡ get_or ds i d → i < length ds
    → out ++ declaration_findings read assigned group i (map declaration_of (drop i ds)) ≡ whole
    → out' ≡ out ++ declaration_finding read assigned (declaration_site group i (declaration_of d))
    → out' ++ declaration_findings read assigned group (i + 1) (map declaration_of (drop (i + 1) ds)) ≡ whole
one_declaration read assigned group ds i d out out' whole is lt so_far added =
    let rest = declaration_findings read assigned group (i + 1) (map declaration_of (drop (i + 1) ds)) in
    let one = declaration_finding read assigned (declaration_site group i (declaration_of d)) in
    ap (λ l. l ++ rest) added ∙ append_assoc out one rest
    ∙ ap (λ l. out ++ declaration_findings read assigned group i (map declaration_of l)) (sym (from_item ds i d is lt))
    ∙ so_far

-- one more method
pub one_method : (reached : BTreeSet StatementPlace) (exits : BTreeSet ExitPlace) (unused : List ℕ → Bool) (ms : List Method) (i : ℕ) (m : Method)
    (out out' whole : List Finding) → m ≡ get_or ms i m → i < length ms
    → out ++ methods_findings reached exits unused (i + 1) (map routine_of (drop i ms)) ≡ whole
    → out' ≡ out ++ method_findings (method_facts reached exits unused m.name (i + 1)) (routine_of m).body
    → out' ++ methods_findings reached exits unused (i + 1 + 1) (map routine_of (drop (i + 1) ms)) ≡ whole
one_method reached exits unused ms i m out out' whole is lt so_far added =
    let rest = methods_findings reached exits unused (i + 1 + 1) (map routine_of (drop (i + 1) ms)) in
    let one = method_findings (method_facts reached exits unused m.name (i + 1)) (routine_of m).body in
    ap (λ l. l ++ rest) added ∙ append_assoc out one rest
    ∙ ap (λ l. out ++ methods_findings reached exits unused (i + 1) (map routine_of l)) (sym (from_item ms i m is lt))
    ∙ so_far

-- one method's statements are among those of all
pub method_room : (ms : List Method) (i : ℕ) (m : Method) → m ≡ get_or ms i m → i < length ms
    → written (routine_of m).body ≤ methods_written (map routine_of ms)
method_room [] i m is lt = absurd (omega (arith, lt))
method_room (x ∷ ms) zero m is lt = let same = ap (λ y. written (routine_of y).body) is in omega (arith, same)
method_room (x ∷ ms) (suc i) m is lt = let rest = method_room ms i m is (omega (arith, lt)) in omega (arith, rest)

-- the findings of all declarations, by their groups
pub four_groups : (read assigned : List ℕ → Bool) (p : PlanText) (i o n k : List Declared) (out out1 out2 out3 out4 : List Finding)
    → i ≡ p.inputs.items → o ≡ p.outputs.items → n ≡ p.internals.items → k ≡ p.constants.items
    → out1 ≡ out ++ declaration_findings read assigned Input 0 (map declaration_of i)
    → out2 ≡ out1 ++ declaration_findings read assigned Output 0 (map declaration_of o)
    → out3 ≡ out2 ++ declaration_findings read assigned Internal 0 (map declaration_of n)
    → out4 ≡ out3 ++ declaration_findings read assigned Constant 0 (map declaration_of k)
    → out4 ≡ out ++ declared_findings read assigned (flowchart_of p)
four_groups read assigned p i o n k out out1 out2 out3 out4 ei eo en ek one two three four =
    let a = declaration_findings read assigned Input 0 (flowchart_of p).inputs in
    let b = declaration_findings read assigned Output 0 (flowchart_of p).outputs in
    let c = declaration_findings read assigned Internal 0 (flowchart_of p).internals in
    let d = declaration_findings read assigned Constant 0 (flowchart_of p).constants in
    let first = one ∙ ap (λ l. out ++ declaration_findings read assigned Input 0 (map declaration_of l)) ei in
    let second = two ∙ ap (λ l. out1 ++ declaration_findings read assigned Output 0 (map declaration_of l)) eo in
    let third = three ∙ ap (λ l. out2 ++ declaration_findings read assigned Internal 0 (map declaration_of l)) en in
    let fourth = four ∙ ap (λ l. out3 ++ declaration_findings read assigned Constant 0 (map declaration_of l)) ek in
    fourth ∙ ap (λ l. l ++ d) (third ∙ ap (λ l. l ++ c) (second ∙ ap (λ l. l ++ b) first))
    ∙ append_assoc ((out ++ a) ++ b) c d ∙ append_assoc (out ++ a) b (c ++ d) ∙ append_assoc out a (b ++ (c ++ d))

-- what is added, part by part
pub three_parts : (names : NameSets) (reached : BTreeSet StatementPlace) (exits : BTreeSet ExitPlace) (main : List ℕ) (p : PlanText) (body : List Stmt)
    (methods : List Method) (out out1 out2 out3 : List Finding) (next : ℕ) → body ≡ p.main.items → methods ≡ p.methods.items
    → main ≡ main_name
    → AddsDeclarations names (flowchart_of p) out out1
    → AddsFindings (body_findings (method_facts reached exits (unused_by names) main 0) 0 false (body_of body)) out1 out2 next (0 + written (body_of body))
    → AddsMethods names reached exits (map routine_of methods) out2 out3
    → AddsAll names reached exits (flowchart_of p) out out3
three_parts names reached exits main p body methods out out1 out2 out3 next eb em is one two three =
    let a = declared_findings (read_by names) (assigned_by names) (flowchart_of p) in
    let b = body_findings (method_facts reached exits (unused_by names) main_name 0) 0 false (flowchart_of p).main in
    let c = methods_findings reached exits (unused_by names) 1 (flowchart_of p).methods in
    let second = two.added
    ∙ ap (λ l. out1 ++ body_findings (method_facts reached exits (unused_by names) main 0) 0 false (body_of l)) eb
    ∙ ap (λ m. out1 ++ body_findings (method_facts reached exits (unused_by names) m 0) 0 false (flowchart_of p).main) is in
    let third = three ∙ ap (λ l. out2 ++ methods_findings reached exits (unused_by names) 1 (map routine_of l)) em in
    record {
      added = third ∙ ap (λ l. l ++ c) (second ∙ ap (λ l. l ++ b) one)
          ∙ append_assoc (out ++ a) b c ∙ append_assoc out a (b ++ c);
    }

-- how many statements MAIN and the other methods have
pub main_room : (f : Flowchart) (n : ℕ) → IsWithinCounts f → n ≡ written f.main → n ≤ 20000
main_room f n counted is = let all = counted.statements in omega (arith, all, is)

pub methods_room : (f : Flowchart) (n : ℕ) → IsWithinCounts f → n ≡ methods_written f.methods → n ≤ 20000
methods_room f n counted is = let all = counted.statements in omega (arith, all, is)

-- a set has the names that are equal to those
pub renamed : (names all : List (List ℕ)) (s : BTreeSet (List ℕ)) → names ≡ all → HasNames names s → HasNames all s
renamed names all s is has = subst (λ l. HasNames l s) is has

-- What is found by sets of a flowchart's names are its findings.
pub all_parts : (f : Flowchart) (reached : BTreeSet StatementPlace) (exits : BTreeSet ExitPlace) (names : NameSets) (out0 out : List Finding)
    → HaveNames f names → out0 ≡ [] → AddsAll names reached exits f out0 out → out ≡ findings_of f reached exits
all_parts f reached exits names out0 out have none adds =
    let r : read_by names ≡ is_read f = λ i x. have.read x i in
    let a : assigned_by names ≡ is_assigned f = λ i x. have.assigned x i in
    let u : unused_by names ≡ is_unused f = λ i x. (have.internals x i) && not (have.read x i) in
    adds.added
    ∙ (λ i. none i
    ++ (declared_findings (r i) (a i) f
    ++ (body_findings (method_facts reached exits (u i) main_name 0) 0 false f.main ++ methods_findings reached exits (u i) 1 f.methods)))
