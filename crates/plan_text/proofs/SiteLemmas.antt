-- The first fault of texts that stand one after the other.
use Rattle.std.proofs.Common.{◌≡◌, ℕ, List, [], ◌∷◌, ◌++◌, Result, refl, sym, ap, subst, ◌∙◌, append_assoc}
use Rattle.std.specs.Result.{IsErrAnd}
use Rattle.std.proofs.lemmas.Result.{err_from_is_err_and}
use Rattle.std.specs.List.{All}
use Rattle.std.proofs.lemmas.List.Elements.{All-nil, All-cons, All-append}
use Rattle.pap_tree.specs.Grammar.{Line}
use Rattle.pap_expr.specs.declared.fault.ExprFault.{ExprFault}
use Rattle.pap_expr.specs.declared.fault.ExprFault.TheVariants as exprs
use Rattle.pap_expr.specs.Faults.{IsFaultOf}
use Rattle.plan_text.specs.declared.fault.Spot.{Spot}
use Rattle.plan_text.specs.declared.fault.PlanFault.{PlanFault}
use Rattle.plan_text.specs.declared.fault.PlanFault.TheVariants as faults
use Rattle.plan_text.specs.ExprFaults.{IsExprFault}
use Rattle.plan_text.specs.Sites.{Site, text_site, IsReadable, IsFirstFault}
use Rattle.plan_text.specs.private.Views.{TellsFault, Tells, fault_at}

-- a fault among the first texts
first_earlier : (xs ys : List Site) (spot : Spot) (f : ExprFault) → IsFirstFault xs spot f → IsFirstFault (xs ++ ys) spot f
first_earlier xs ys spot f h = record {
  before = h.before;
  stop = h.stop;
  after = h.after ++ ys;
  whole = ap (λ l. l ++ ys) h.whole ∙ append_assoc h.before (h.stop ∷ h.after) ys;
  read = h.read;
  fails = h.fails;
  there = h.there;
}

-- a fault behind texts that are readable
first_later : (xs ys : List Site) (spot : Spot) (f : ExprFault) → All IsReadable xs → IsFirstFault ys spot f → IsFirstFault (xs ++ ys) spot f
first_later xs ys spot f r h = record {
  before = xs ++ h.before;
  stop = h.stop;
  after = h.after;
  whole = ap (λ l. xs ++ l) h.whole ∙ sym (append_assoc xs h.before (h.stop ∷ h.after));
  read = All-append IsReadable xs h.before r h.read;
  fails = h.fails;
  there = h.there;
}

pub earlier : (xs ys : List Site) (f : PlanFault) → TellsFault xs f → TellsFault (xs ++ ys) f
earlier xs ys (faults.Expr spot f) h = first_earlier xs ys spot f h
earlier xs ys (faults.Read f) h = absurd h
earlier xs ys faults.Memory h = tt

pub later : (xs ys : List Site) (f : PlanFault) → All IsReadable xs → TellsFault ys f → TellsFault (xs ++ ys) f
later xs ys (faults.Expr spot f) r h = first_later xs ys spot f r h
later xs ys (faults.Read f) r h = absurd h
later xs ys faults.Memory r h = tt

pub behind_one : (s : Site) (ys : List Site) (f : PlanFault) → IsReadable s → TellsFault ys f → TellsFault (s ∷ ys) f
behind_one s ys f r h = later (s ∷ []) ys f (All-cons IsReadable s [] r (All-nil IsReadable)) h

-- the fault of a text alone
first_of : (s : Site) (f : ExprFault) → IsExprFault s.line s.text f → IsFirstFault (s ∷ []) s.spot f
first_of s f h = record {
  before = [];
  stop = s;
  after = [];
  whole = refl;
  read = All-nil IsReadable;
  fails = h;
  there = refl;
}

pub of_text : (l : Line) (text : List ℕ) (spot : Spot) (f : ExprFault) → IsFaultOf l text f → TellsFault (text_site l text spot ∷ []) (fault_at spot f)
of_text l text spot (exprs.Syntax at) h = first_of (text_site l text spot) (exprs.Syntax at) h
of_text l text spot (exprs.Unsupported at) h = first_of (text_site l text spot) (exprs.Unsupported at) h
of_text l text spot (exprs.BinaryFraction at) h = first_of (text_site l text spot) (exprs.BinaryFraction at) h
of_text l text spot (exprs.Number at) h = first_of (text_site l text spot) (exprs.Number at) h
of_text l text spot (exprs.Deep at) h = first_of (text_site l text spot) (exprs.Deep at) h
of_text l text spot exprs.Memory h = tt

-- what a `?` passes on
pub passed : {A : Type 0} (sites : List Site) (IsSo : A → Type 0) (r : Result A PlanFault) (f : PlanFault) → TellsFault sites f → IsErrAnd r (λ e. e ≡ f) → Tells sites IsSo r
passed sites IsSo r f h k =
    let p = err_from_is_err_and r k in
    subst (Tells sites IsSo) (sym p.1) (subst (TellsFault sites) (sym p.2) h)
