-- From what a stage finds to the answer.
use Rattle.std.proofs.Common.{◌≡◌, ℕ, List, [], ◌∷◌, Result, Ok, sym, subst}
use Rattle.std.specs.Prelude.{IfErr}
use Rattle.std.specs.Result.{IsErrAnd}
use Rattle.std.specs.List.{All}
use Rattle.std.proofs.lemmas.Result.{err_from_is_err_and}
use Rattle.std.proofs.lemmas.List.Elements.{All-nil, All-cons, All-head, All-tail}
use Rattle.pap_tree.specs.Declarations.{Declaration}
use Rattle.pap_tree.specs.Flowchart.{Flowchart}
use Rattle.limits_file.specs.declared.limits.Limits.{Limits}
use Rattle.limits_file.specs.Limits.{HasSoundBounds}
use Rattle.limits_file.specs.RangeFiles.{FileSays}
use Rattle.call_order.specs.Orders.{IsOrdered}
use Rattle.interval_walk.specs.Admission.{HasLimit, HaveLimits}
use Rattle.pap_plan.specs.declared.refusal.PlanRefusal.{PlanRefusal}
use Rattle.pap_plan.specs.declared.refusal.PlanRefusal.TheVariants as refusals
use Rattle.pap_plan.specs.Bindings.{HasSuitedLimit, AreMatched, IsUnmatched}
use Rattle.pap_plan.specs.Acceptance.{IsTypedPlan, IsOrderedPlan, HasBindings}
use Rattle.pap_plan.specs.private.BoundViews.{IsMisjudged}
use Rattle.pap_plan.proofs.LimitLemmas.{found_sound}

-- what a `?` passes on
pub passed : {A E : Type 0} (P : E → Type 0) (r : Result A E) (f : E) → P f → IsErrAnd r (λ e. e ≡ f) → IfErr r P
passed P r f h k =
    let p = err_from_is_err_and r k in
    subst (λ x. IfErr x P) (sym p.1) (subst P (sym p.2) h)

all_limited : (l : Limits) (ds : List Declaration) → All (HasSuitedLimit l) ds → All HasSoundBounds l.inputs → All (HasLimit l) ds
all_limited l [] h s = All-nil (HasLimit l)
all_limited l (d ∷ ds) h s =
    let own = All-head (HasSuitedLimit l) d ds h in
    All-cons (HasLimit l) d ds (record { limit = own.limit; is = own.is; sound = found_sound d.name l own.limit own.is s; suits = own.suits }) (all_limited l ds (All-tail (HasSuitedLimit l) d ds h) s)

pub have_limits : (f : Flowchart) (l : Limits) → AreMatched f l → All HasSoundBounds l.inputs → HaveLimits f l
have_limits f l h s = all_limited l f.inputs h.suited s

ordered_plan : (plan : List ℕ) (f : Flowchart) (order : List ℕ) → IsTypedPlan plan f → IsOrdered f order → IsOrderedPlan plan f
ordered_plan plan f order h k = record { typed = h; ordered = (order, k) }

pub bindings_of : (plan limits : List ℕ) (f : Flowchart) (order : List ℕ) (l : Limits) → IsTypedPlan plan f → IsOrdered f order → FileSays limits (Ok l) → AreMatched f l → HasBindings plan limits f l
bindings_of plan limits f order l h k file m = record {
  suited = record {
    named = record { file = record { ordered = ordered_plan plan f order h k; file = file }; matching = m.names };
    suited = m.suited;
  };
  bound = m.bound;
}

pub misjudged : (limits : List ℕ) (f : Flowchart) (order : List ℕ) (l : Limits) (r : PlanRefusal) → IsOrdered f order → FileSays limits (Ok l) → IsUnmatched f l r → IsMisjudged limits f r
misjudged limits f order l (refusals.Read e) k file h = absurd h
misjudged limits f order l (refusals.Expr spot e) k file h = absurd h
misjudged limits f order l (refusals.Types e) k file h = absurd h
misjudged limits f order l (refusals.Order e) k file h = absurd h
misjudged limits f order l (refusals.Limits e) k file h = absurd h
misjudged limits f order l (refusals.LimitName name) k file h = λ plan typed. (f, (l, record { ordered = ordered_plan plan f order typed k; file = file }, h))
misjudged limits f order l (refusals.LimitKind name) k file h =
    λ plan typed. (f, (l, record { file = record { ordered = ordered_plan plan f order typed k; file = file }; matching = h.0 }, h.1))
misjudged limits f order l (refusals.Bind name) k file h =
    λ plan typed. (f, (l, record { named = record { file = record { ordered = ordered_plan plan f order typed k; file = file }; matching = h.0 }; suited = h.1 }, h.2))
misjudged limits f order l (refusals.Range e) k file h = absurd h
misjudged limits f order l refusals.Memory k file h = absurd h
