-- Lists of declarations, as far as they are read.
use Rattle.std.proofs.Common.{◌≡◌, ℕ, suc, ◌+◌, ◌<◌, List, [], ◌∷◌, ◌++◌, length, map, drop, get_or, append-nil, sym, ap, ◌∙◌, arith, subst}
use Rattle.std.proofs.Math.Seq.{append_snoc, drop-cons}
use Rattle.std.proofs.Common.{Some, Vec, Global}
use Rattle.pap_tree.specs.Grammar.{Constant}
use Rattle.pap_expr.specs.declared.fault.ExprFault.{ExprFault}
use Rattle.pap_expr.specs.Faults.{IsFaultOf}
use Rattle.pap_tree.specs.Declarations.{Declaration}
use Rattle.pap_reader.specs.Trees.{RawDeclaration, raw_declaration_of, items_of}
use Rattle.pap_reader.specs.declared.elements.RawDeclared.{RawDeclared}
use Rattle.plan_text.specs.declared.fault.Spot.TheVariants.{Declared}
use Rattle.plan_text.specs.declared.fault.PlanFault.{PlanFault}
use Rattle.plan_text.specs.Sites.{declared_sites, literal_sites}
use Rattle.plan_text.specs.Plans.{IsDeclaration, AreDeclarations}
use Rattle.plan_text.specs.private.Views.{TellsFault, fault_at}
use Rattle.plan_text.proofs.SiteLemmas.{earlier, later, of_text}
use Rattle.plan_text.proofs.ReadLemmas.{literal_readable}

-- The declarations so far are read: with what is left they are all, and a fault of what is left is the first of all.
pub record AreRead (all left : List RawDeclaration) (so_far : List Declaration) : Type 0 where
  pub is : (more : List Declaration) → AreDeclarations left more → AreDeclarations all (so_far ++ more)
  pub later : (f : PlanFault) → TellsFault (declared_sites left) f → TellsFault (declared_sites all) f

pub none_yet : (all : List RawDeclaration) → AreRead all all []
none_yet all = record { is = λ more h. h; later = λ f h. h }

-- the declarations from a number on
pub left_from : (rs : List RawDeclared) (i : ℕ) (r : RawDeclared) → r ≡ get_or rs i r → i < length rs → map raw_declaration_of (drop i rs) ≡ raw_declaration_of r ∷ map raw_declaration_of (drop (i + 1) rs)
left_from rs i r is less =
    let next : suc i ≡ i + 1 = omega arith in
    ap (map raw_declaration_of) (drop-cons rs i r less ∙ ap (λ x. x ∷ drop (suc i) rs) (sym is) ∙ ap (λ k. r ∷ drop k rs) next)

pub fails_at : (all : List RawDeclaration) (r : RawDeclaration) (left : List RawDeclaration) (so_far : List Declaration) (f : PlanFault)
    → AreRead all (r ∷ left) so_far → TellsFault (literal_sites r) f → TellsFault (declared_sites all) f
fails_at all r left so_far f h k = h.later f (earlier (literal_sites r) (declared_sites left) f k)

pub one_more : (all : List RawDeclaration) (r : RawDeclaration) (left : List RawDeclaration) (so_far : List Declaration) (d : Declaration)
    → AreRead all (r ∷ left) so_far → IsDeclaration r d → AreRead all left (so_far ++ (d ∷ []))
one_more all r left so_far d h k = record {
  is = λ more own. subst (AreDeclarations all) (sym (append_snoc so_far d more)) (h.is (d ∷ more) (k, own));
  later = λ f own. h.later f (later (literal_sites r) (declared_sites left) f (literal_readable r d k) own);
}

pub all_read : (all left : List RawDeclaration) (ds : List Declaration) → left ≡ [] → AreRead all left ds → AreDeclarations all ds
all_read all left ds e h =
    subst (AreDeclarations all) (append-nil ds) (h.is [] (subst (λ l. AreDeclarations l []) (sym e) tt))

pub value_fails : (raw : RawDeclared) (v : Vec ℕ Global) (text : List ℕ) (f : ExprFault) → raw.value ≡ Some v → text ≡ v.items → IsFaultOf Constant text f
    → TellsFault (literal_sites (raw_declaration_of raw)) (fault_at (Declared raw.name) f)
value_fails raw v text f is e h =
    subst (λ o. TellsFault (literal_sites (record { name = raw.name; kind = raw.kind; value = items_of o })) (fault_at (Declared raw.name) f)) (sym is)
    (of_text Constant v.items (Declared raw.name) f (subst (λ t. IsFaultOf Constant t f) e h))
