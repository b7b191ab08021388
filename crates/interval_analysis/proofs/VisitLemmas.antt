-- Steps of what is kept of the statements to which a walk comes.
use Rattle.std.proofs.Common.{◌≡◌, ◌≢◌, ℕ, zero, suc, ◌+◌, ◌-◌, List, Bool, true, false, cond, if◌then◌else◌, Option, Some, None, Result, Ok, Err, ◌⊎◌, inl, inr, refl, sym, ap, ◌∙◌, subst, arith, Vec, Global}
use Rattle.std.specs.Prelude.{◌↔◌, IsTrue, is_some, IsSome, IsSomeAnd, IsOkAnd, IfSome, OnOk}
use Rattle.std.specs.BTreeMap.{BTreeMap, get}
use Rattle.std.specs.BTreeSet.{BTreeSet, contains}
use Rattle.std.specs.Ordering.{is_eq, nat_cmp, bool_cmp}
use Rattle.std.specs.Cmp.{nat_cmp_total, bool_cmp_total}
use Rattle.std.specs.Cmp.Lexicographic.{slice_cmp, nat_list_cmp_total}
use Rattle.std.specs.declared.cmp.Ordering.{Ordering}
use Rattle.std.specs.declared.cmp.Ordering.TheVariants.{Equal}
use Rattle.std.proofs.lemmas.Bool.{false≢true}
use Rattle.std.proofs.lemmas.Bool.Decides.{nat_tests}
use Rattle.std.proofs.lemmas.Cmp.{tied_itself}
use Rattle.std.proofs.lemmas.Option.{none-some}
use Rattle.scaled_decimal.specs.Decimals.{Decimal}
use Rattle.pap_tree.specs.declared.plan.PlanText.{PlanText}
use Rattle.pap_tree.specs.declared.plan.Stmt.{Stmt, Eval, If', Execute}
use Rattle.pap_tree.specs.Term.{Term, term_of}
use Rattle.pap_tree.specs.Flowchart.{flowchart_of, body_of, Body, done, eval, branch, execute, body_of_row, stmt_then}
use Rattle.pap_tree.specs.Names.{main_name}
use Rattle.pap_tree.specs.private.TreeViews.{methods_in}
use Rattle.pap_tree.specs.Statements.{written}
use Rattle.limits_file.specs.declared.limits.Limits.{Limits}
use Rattle.pap_types.specs.Limits.{longest_chain}
use Rattle.pap_types.specs.Routines.{body_named}
use Rattle.pap_types.specs.Scopes.{Scope, scope_of}
use Rattle.interval_walk.specs.Ranges.{Ranges}
use Rattle.interval_walk.specs.Branches as meant
use Rattle.interval_walk.specs.Failures.{NodeFault, WalkFault, and_then, at_stmt}
use Rattle.interval_walk.specs.Ranged.{ranged, tested}
use Rattle.interval_walk.specs.Analysis.{start_ranges}
use Rattle.interval_walk.specs.Walked.{RangeCalls, range_calls_of, kept_range, walked, assigned_range}
use Rattle.interval_num.specs.Intervals.{Interval}
use Rattle.pap_types.specs.private.ScopeViews.{scope_in}
use Rattle.interval_analysis.specs.declared.branches.Branches.{Branches}
use Rattle.interval_analysis.specs.declared.branches.Change.{Change}
use Rattle.interval_analysis.specs.declared.expressions.Walk.{Walk}
use Rattle.interval_analysis.specs.declared.statements.Fork.{Fork}
use Rattle.interval_analysis.specs.declared.statements.Spot.{Spot}
use Rattle.interval_analysis.specs.declared.stop.WalkStop.{WalkStop}
use Rattle.interval_analysis.specs.declared.stop.WalkStop.TheVariants as walks
use Rattle.interval_analysis.specs.declared.value_range.ValueRange.{ValueRange}
use Rattle.interval_analysis.specs.declared.visits.Known.{Known}
use Rattle.interval_analysis.specs.private.Changes.{changed}
use Rattle.interval_analysis.specs.private.PlanViews.{ranges_in, ranges_after, branches_in}
use Rattle.interval_analysis.specs.private.StatementViews.{calls_in, first_spot, second_spot, walked_in}
use Rattle.rising_lists.proofs.Laws.{first_tie, second_tie, text_same, tied}
use Rattle.interval_walk.specs.Visits.{Visit, BodyComes, CallsCome, WalkComes, Execution, IsVisited, IsPutWithin, PutsValue, TakesExit}
use Rattle.interval_analysis.specs.Surveys.{StatementPlace, place_cmp, IsOneOf, IsVisitedBy, value_range, IsLeastRange, IsLeastOf, PutsAt, IsPutBy, HasValue, ExitPlace, exit_statement, exit_cmp, IsExitOf, OpensAt, IsOpenBy}
use Rattle.interval_analysis.specs.private.VisitViews.{IsNothing, AddsThese, AddsVisits, GathersIn, place_in, PutsInPlace, AddsPlace, AddsRange, AddsExit, AddsEval, AddsIf, ComesIn, ComesInBoth, ComesInCall, ComesInLists}
use Rattle.interval_analysis.specs.private.StopViews.{FaultOf, StopsWith, WithMemory, IsBehindLists}
use Rattle.interval_analysis.proofs.StopLemmas.{fault_passes_not, with_map, both_with}
use Rattle.interval_analysis.proofs.RangeLemmas.{value_within, value_inside, least_as, least_known, least_unknown, least_stays, least_then}

-- ---- what is kept

-- some more, and then others
both_added : {W T U P Q R : Type 0} → T ↔ (W ⊎ P) → U ↔ (T ⊎ Q) → R ↔ (P ⊎ Q) → U ↔ (W ⊎ R)
both_added {W} {T} {U} {P} {Q} {R} h g same = (λ u. by_later (g.0 u), from)
  where
    by_first : W ⊎ P → W ⊎ R
    by_first (inl w) = inl w
    by_first (inr p) = inr (same.1 (inl p))

    by_later : T ⊎ Q → W ⊎ R
    by_later (inl t) = by_first (h.0 t)
    by_later (inr q) = inr (same.1 (inr q))

    by_side : P ⊎ Q → U
    by_side (inl p) = g.1 (inl (h.1 (inr p)))
    by_side (inr q) = g.1 (inr q)

    from : W ⊎ R → U
    from (inl w) = g.1 (inl (h.1 (inl w)))
    from (inr r) = by_side (same.0 r)

-- the same said otherwise
added_either : {W U P R : Type 0} → U ↔ (W ⊎ P) → R ↔ P → U ↔ (W ⊎ R)
added_either {W} {U} {P} {R} h same = (λ u. to (h.0 u), from)
  where
    to : W ⊎ P → W ⊎ R
    to (inl w) = inl w
    to (inr p) = inr (same.1 p)

    from : W ⊎ R → U
    from (inl w) = h.1 (inl w)
    from (inr r) = h.1 (inr (same.0 r))

-- the one or what is the same as the other
either : {X Y : Type 0} (W : Type 0) → X ↔ Y → (W ⊎ X) ↔ (W ⊎ Y)
either {X} {Y} W same = (to, from)
  where
    to : W ⊎ X → W ⊎ Y
    to (inl w) = inl w
    to (inr x) = inr (same.0 x)

    from : W ⊎ Y → W ⊎ X
    from (inl w) = inl w
    from (inr y) = inr (same.1 y)

-- some more, and then others
pub added_then : (P Q R : StatementPlace → Type 0) (PP QQ RR : StatementPlace → ValueRange → Type 0) (PPP QQQ RRR : ExitPlace → Type 0) (a b c : Known) → AddsThese P PP PPP a b → AddsThese Q QQ QQQ b c
    → ((p : StatementPlace) → R p ↔ (P p ⊎ Q p)) → ((p : StatementPlace) (r : ValueRange) → RR p r ↔ (PP p r ⊎ QQ p r)) → ((q : ExitPlace) → RRR q ↔ (PPP q ⊎ QQQ q)) → AddsThese R RR RRR a c
added_then P Q R PP QQ RR PPP QQQ RRR a b c h g reached values exits = record {
  reached = λ p. both_added (h.reached p) (g.reached p) (reached p);
  values = λ p.
      let was = get place_cmp a.values p in
      least_as (λ r. (was ≡ Some r) ⊎ (PP p r ⊎ QQ p r)) (λ r. (was ≡ Some r) ⊎ RR p r) (get place_cmp c.values p) (λ r. either (was ≡ Some r) (values p r))
      (least_then (PP p) (QQ p) was (get place_cmp b.values p) (get place_cmp c.values p) (h.values p) (g.values p));
  exits = λ q. both_added (h.exits q) (g.exits q) (exits q);
}

-- the same said otherwise
pub added_as : (P R : StatementPlace → Type 0) (PP RR : StatementPlace → ValueRange → Type 0) (PPP RRR : ExitPlace → Type 0) (a b : Known) → AddsThese P PP PPP a b
    → ((p : StatementPlace) → R p ↔ P p) → ((p : StatementPlace) (r : ValueRange) → RR p r ↔ PP p r) → ((q : ExitPlace) → RRR q ↔ PPP q) → AddsThese R RR RRR a b
added_as P R PP RR PPP RRR a b h reached values exits = record {
  reached = λ p. added_either (h.reached p) (reached p);
  values = λ p.
      let was = get place_cmp a.values p in
      least_as (λ r. (was ≡ Some r) ⊎ PP p r) (λ r. (was ≡ Some r) ⊎ RR p r) (get place_cmp b.values p) (λ r. either (was ≡ Some r) (values p r)) (h.values p);
  exits = λ q. added_either (h.exits q) (exits q);
}

-- nothing more
stays : {W : Type 0} → W ↔ (W ⊎ ⊥)
stays {W} = (λ w. inl w, from)
  where
    from : W ⊎ ⊥ → W
    from (inl w) = w
    from (inr n) = absurd n

-- only what comes last
comes_last : {W : Type 0} → W ↔ (⊥ ⊎ W)
comes_last {W} = (λ w. inr w, from)
  where
    from : ⊥ ⊎ W → W
    from (inl n) = absurd n
    from (inr w) = w

back : {A B : Type 0} → A ↔ B → B ↔ A
back same = (same.1, same.0)

-- ---- the order of statements and of exits

same_place : (p q : StatementPlace) → place_cmp p q ≡ Equal → p ≡ q
same_place p q e =
    let methods = slice_cmp nat_cmp p.0 q.0 in
    let numbers = nat_cmp p.1 q.1 in
    let method = text_same p.0 q.0 (first_tie methods numbers e) in
    let tie = second_tie methods numbers e in
    let number : p.1 ≡ q.1 = grind (arith, nat_tests) in
    λ i. (method i, number i)

own_place : (p : StatementPlace) → place_cmp p p ≡ Equal
own_place p = rw (tied_itself nat_list_cmp_total p.0, tied_itself nat_cmp_total p.1) refl

same_bool : (a b : Bool) → bool_cmp a b ≡ Equal → a ≡ b
same_bool true true e = refl
same_bool false false e = refl
same_bool true false e = absurd (cc)
same_bool false true e = absurd (cc)

same_exit : (p q : ExitPlace) → exit_cmp p q ≡ Equal → p ≡ q
same_exit p q e =
    let places = place_cmp (exit_statement p) (exit_statement q) in
    let sides = bool_cmp p.2 q.2 in
    let place = same_place (exit_statement p) (exit_statement q) (first_tie places sides e) in
    let side = same_bool p.2 q.2 (second_tie places sides e) in
    λ i. ((place i).0, (place i).1, side i)

own_exit : (p : ExitPlace) → exit_cmp p p ≡ Equal
own_exit p = rw (tied_itself nat_list_cmp_total p.0, tied_itself nat_cmp_total p.1, tied_itself bool_cmp_total p.2) refl

-- one more element of a set
module _ {K : Type 0} (cmp : K → K → Ordering) (same : (k q : K) → cmp k q ≡ Equal → k ≡ q) (own : (k : K) → cmp k k ≡ Equal) (k : K) where
  one_more : (s t : BTreeSet K) → ((q : K) → contains cmp t q ≡ cond (is_eq (cmp k q)) true (contains cmp s q)) → (q : K) → IsTrue (contains cmp t q) ↔ (IsTrue (contains cmp s q) ⊎ (k ≡ q))
  one_more s t updated q = (to (is_eq (cmp k q)) refl (updated q), from)
    where
      to : (b : Bool) → is_eq (cmp k q) ≡ b → contains cmp t q ≡ cond b true (contains cmp s q) → IsTrue (contains cmp t q) → IsTrue (contains cmp s q) ⊎ (k ≡ q)
      to true e u h = inr (same k q (tied (cmp k q) e))
      to false e u h = inl (sym u ∙ h)

      stay : (b : Bool) → contains cmp t q ≡ cond b true (contains cmp s q) → IsTrue (contains cmp s q) → IsTrue (contains cmp t q)
      stay true u h = u
      stay false u h = u ∙ h

      from : IsTrue (contains cmp s q) ⊎ (k ≡ q) → IsTrue (contains cmp t q)
      from (inl h) = stay (is_eq (cmp k q)) (updated q) h
      from (inr e) = subst (λ q. IsTrue (contains cmp t q)) e (updated k ∙ ap (λ o. cond (is_eq o) true (contains cmp s k)) (own k))

-- ---- what is kept of one statement

pub place_added : (spot : Spot) (was now : Known) → ((q : StatementPlace) → contains place_cmp now.reached q ≡ cond (is_eq (place_cmp (place_in spot) q)) true (contains place_cmp was.reached q)) → now.values ≡ was.values → now.exits ≡ was.exits → AddsPlace spot was now
place_added spot was now updated values exits = record {
  reached = one_more place_cmp same_place own_place (place_in spot) was.reached now.reached updated;
  values = λ p. subst (λ m. IsLeastOf (λ r. (get place_cmp was.values p ≡ Some r) ⊎ ⊥) (get place_cmp m p)) (sym values) (least_stays (get place_cmp was.values p));
  exits = λ q. subst (λ s. IsExitOf s q ↔ (IsExitOf was.exits q ⊎ ⊥)) (sym exits) stays;
}

pub exit_added : (spot : Spot) (holds is_open : Bool) (was now : Known) → is_open ≡ true → ((q : ExitPlace) → contains exit_cmp now.exits q ≡ cond (is_eq (exit_cmp (spot.method, spot.at, holds) q)) true (contains exit_cmp was.exits q)) → now.reached ≡ was.reached → now.values ≡ was.values → AddsExit spot holds is_open was now
exit_added spot holds is_open was now opened updated reached values = record {
  reached = λ p. subst (λ s. IsOneOf s p ↔ (IsOneOf was.reached p ⊎ ⊥)) (sym reached) stays;
  values = λ p. subst (λ m. IsLeastOf (λ r. (get place_cmp was.values p ≡ Some r) ⊎ ⊥) (get place_cmp m p)) (sym values) (least_stays (get place_cmp was.values p));
  exits = λ q. added_either (one_more exit_cmp same_exit own_exit (spot.method, spot.at, holds) was.exits now.exits updated q) (parts q);
}
  where
    parts : (q : ExitPlace) → ((place_in spot ≡ exit_statement q) × (holds ≡ q.2) × IsTrue is_open) ↔ ((spot.method, spot.at, holds) ≡ q)
    parts q = (λ h. λ i. ((h.0 i).0, (h.0 i).1, h.1 i), λ e. (λ i. ((e i).0, (e i).1), λ i. (e i).2, opened))

pub exit_shut : (spot : Spot) (holds is_open : Bool) (was : Known) → is_open ≡ false → AddsExit spot holds is_open was was
exit_shut spot holds is_open was shut = record {
  reached = λ p. stays;
  values = λ p. least_stays (get place_cmp was.values p);
  exits = λ q. added_either stays (λ h. absurd (false≢true (sym shut ∙ h.2)), λ n. absurd n);
}

-- a range at a statement's place, with what was known there
module _ (place : StatementPlace) (range kept : ValueRange) (was now : BTreeMap StatementPlace ValueRange) where
  range_put : ((q : StatementPlace) → get place_cmp now q ≡ cond (is_eq (place_cmp place q)) (Some kept) (get place_cmp was q))
      → IsLeastRange (λ r. (get place_cmp was place ≡ Some r) ⊎ (range ≡ r)) kept → PutsInPlace place range was now
  range_put updated least p = by_place p (is_eq (place_cmp place p)) refl (updated p)
    where
      Known_at : StatementPlace → ValueRange → Type 0
      Known_at p r = (get place_cmp was p ≡ Some r) ⊎ ((place ≡ p) × (range ≡ r))

      here : IsLeastOf (Known_at place) (Some kept)
      here = least_as (λ r. (get place_cmp was place ≡ Some r) ⊎ (range ≡ r)) (Known_at place) (Some kept) (λ r. (to r, from r)) least
        where
          to : (r : ValueRange) → Known_at place r → (get place_cmp was place ≡ Some r) ⊎ (range ≡ r)
          to r (inl e) = inl e
          to r (inr e) = inr e.1

          from : (r : ValueRange) → (get place_cmp was place ≡ Some r) ⊎ (range ≡ r) → Known_at place r
          from r (inl e) = inl e
          from r (inr e) = inr (refl, e)

      by_place : (p : StatementPlace) (b : Bool) → is_eq (place_cmp place p) ≡ b → get place_cmp now p ≡ cond b (Some kept) (get place_cmp was p) → IsLeastOf (Known_at p) (get place_cmp now p)
      by_place p true e u = subst (IsLeastOf (Known_at p)) (sym u) (subst (λ p. IsLeastOf (Known_at p) (Some kept)) (same_place place p (tied (place_cmp place p) e)) here)
      by_place p false e u =
          subst (IsLeastOf (Known_at p)) (sym u)
          (least_as (λ r. (get place_cmp was p ≡ Some r) ⊎ ⊥) (Known_at p) (get place_cmp was p) (λ r. (to r, from r)) (least_stays (get place_cmp was p)))
        where
          other : place ≡ p → ⊥
          other k = (let own : is_eq (place_cmp place p) ≡ true = subst (λ p. is_eq (place_cmp place p) ≡ true) k (ap is_eq (own_place place)) in absurd (cc))

          to : (r : ValueRange) → Known_at p r → (get place_cmp was p ≡ Some r) ⊎ ⊥
          to r (inl k) = inl k
          to r (inr k) = absurd (other k.0)

          from : (r : ValueRange) → (get place_cmp was p ≡ Some r) ⊎ ⊥ → Known_at p r
          from r (inl k) = inl k
          from r (inr k) = absurd k

-- the first range there, in a map that stayed as it was
pub range_first : (place : StatementPlace) (range : ValueRange) (was mid now : BTreeMap StatementPlace ValueRange) → mid ≡ was → get place_cmp was place ≡ None
    → ((q : StatementPlace) → get place_cmp now q ≡ cond (is_eq (place_cmp place q)) (Some range) (get place_cmp mid q)) → PutsInPlace place range was now
range_first place range was mid now same unknown updated =
    range_put place range range was now
    (λ q. updated q ∙ ap (λ m. cond (is_eq (place_cmp place q)) (Some range) (get place_cmp m q)) same)
    (subst (λ o. IsLeastRange (λ r. (o ≡ Some r) ⊎ (range ≡ r)) range) (sym unknown) (least_unknown range))

-- a range joined with that which is known there
pub range_joined : (place : StatementPlace) (range known kept : ValueRange) (was now : BTreeMap StatementPlace ValueRange) → get place_cmp was place ≡ Some known
    → IsLeastRange (λ r. (known ≡ r) ⊎ (range ≡ r)) kept
    → ((q : StatementPlace) → get place_cmp now q ≡ cond (is_eq (place_cmp place q)) (Some kept) (get place_cmp was q)) → PutsInPlace place range was now
range_joined place range known kept was now is least updated =
    range_put place range kept was now updated
    (subst (λ o. IsLeastRange (λ r. (o ≡ Some r) ⊎ (range ≡ r)) kept) (sym is) (least_known known range kept least))

pub range_added : (spot : Spot) (range : ValueRange) (was now : Known) → PutsInPlace (place_in spot) range was.values now.values → now.reached ≡ was.reached → now.exits ≡ was.exits → AddsRange spot range was now
range_added spot range was now put reached exits = record {
  reached = λ p. subst (λ s. IsOneOf s p ↔ (IsOneOf was.reached p ⊎ ⊥)) (sym reached) stays;
  values = put;
  exits = λ q. subst (λ s. IsExitOf s q ↔ (IsExitOf was.exits q ⊎ ⊥)) (sym exits) stays;
}

pub range_added_on : {E : Type 0} (r : Result (Unit {0}) E) (spot : Spot) (range : ValueRange) (was now : Known) → OnOk r (PutsInPlace (place_in spot) range was.values now.values) → now.reached ≡ was.reached → now.exits ≡ was.exits → OnOk r (AddsRange spot range was now)
range_added_on (Ok u) spot range was now put reached exits = range_added spot range was now put reached exits
range_added_on (Err e) spot range was now put reached exits = tt

-- the statement is reached, and its range is put there
pub eval_added : (spot : Spot) (a : Interval) (was mid now : Known) → AddsPlace spot was mid → AddsRange spot (value_range a) mid now → AddsEval spot a was now
eval_added spot a was mid now h g =
    added_then (λ p. place_in spot ≡ p) (λ p. ⊥) (λ p. place_in spot ≡ p)
    (λ p r. ⊥) (λ p r. (place_in spot ≡ p) × (value_range a ≡ r)) (λ p r. (place_in spot ≡ p) × (value_range a ≡ r))
    (λ q. ⊥) (λ q. ⊥) (λ q. ⊥) was mid now h g
    (λ p. stays) (λ p r. comes_last) (λ q. stays)

-- the exit where a test holds, and that where it fails
two_exits : {A : Type 0} (X : Type 0) (b : Bool) (holds fails : Option A) → (X × IsSome (if b then holds else fails)) ↔ ((X × (true ≡ b) × IsTrue (is_some holds)) ⊎ (X × (false ≡ b) × IsTrue (is_some fails)))
two_exits X true holds fails = (λ h. inl (h.0, refl, h.1), from)
  where
    from : (X × (true ≡ true) × IsTrue (is_some holds)) ⊎ (X × (false ≡ true) × IsTrue (is_some fails)) → X × IsSome holds
    from (inl h) = (h.0, h.2)
    from (inr h) = absurd (false≢true h.1)
two_exits X false holds fails = (λ h. inr (h.0, refl, h.1), from)
  where
    from : (X × (true ≡ false) × IsTrue (is_some holds)) ⊎ (X × (false ≡ false) × IsTrue (is_some fails)) → X × IsSome fails
    from (inl h) = absurd (false≢true (sym h.1))
    from (inr h) = (h.0, h.2)

-- the statement is reached, and its exits are added where they are open
pub if_added : (spot : Spot) (branches : Branches) (was mid next now : Known) → AddsPlace spot was mid → AddsExit spot true (is_some branches.holds) mid next → AddsExit spot false (is_some branches.fails) next now → AddsIf spot branches was now
if_added spot branches was mid next now h g k =
    let First : ExitPlace → Type 0 = λ q. (place_in spot ≡ exit_statement q) × (true ≡ q.2) × IsTrue (is_some branches.holds) in
    let Second : ExitPlace → Type 0 = λ q. (place_in spot ≡ exit_statement q) × (false ≡ q.2) × IsTrue (is_some branches.fails) in
    let both = added_then (λ p. ⊥) (λ p. ⊥) (λ p. ⊥) (λ p r. ⊥) (λ p r. ⊥) (λ p r. ⊥) First Second (λ q. First q ⊎ Second q) mid next now g k (λ p. stays) (λ p r. stays) (λ q. (λ x. x, λ x. x)) in
    let all =
    added_then (λ p. place_in spot ≡ p) (λ p. ⊥) (λ p. place_in spot ≡ p) (λ p r. ⊥) (λ p r. ⊥) (λ p r. ⊥) (λ q. ⊥) (λ q. First q ⊎ Second q) (λ q. First q ⊎ Second q) was mid now h both
    (λ p. stays) (λ p r. stays) (λ q. comes_last) in
    added_as (λ p. place_in spot ≡ p) (λ p. place_in spot ≡ p) (λ p r. ⊥) (λ p r. ⊥) (λ q. First q ⊎ Second q) (λ q. (place_in spot ≡ exit_statement q) × IsSome (if q.2 then branches.holds else branches.fails)) was now all
    (λ p. (λ x. x, λ x. x)) (λ p r. (λ x. x, λ x. x)) (λ q. two_exits (place_in spot ≡ exit_statement q) q.2 branches.holds branches.fails)

pub eval_added_on : {E : Type 0} (r : Result (Unit {0}) E) (spot : Spot) (a : Interval) (range : ValueRange) (was mid now : Known) → range ≡ value_range a → AddsPlace spot was mid → OnOk r (AddsRange spot range mid now) → OnOk r (AddsEval spot a was now)
eval_added_on (Ok u) spot a range was mid now e h g = eval_added spot a was mid now h (subst (λ r. AddsRange spot r mid now) e g)
eval_added_on (Err f) spot a range was mid now e h g = tt

pub if_added_on : {E : Type 0} (r : Result (Unit {0}) E) (spot : Spot) (branches : Branches) (first second : Bool) (was mid next now : Known) → first ≡ is_some branches.holds → second ≡ is_some branches.fails → AddsPlace spot was mid → AddsExit spot true first mid next → OnOk r (AddsExit spot false second next now) → OnOk r (AddsIf spot branches was now)
if_added_on (Ok u) spot branches first second was mid next now e f h g k =
    if_added spot branches was mid next now h (subst (λ o. AddsExit spot true o mid next) e g) (subst (λ o. AddsExit spot false o next now) f k)
if_added_on (Err x) spot branches first second was mid next now e f h g k = tt

-- nothing holds of an answer that there isn't
passes_not : {A E : Type 0} (r : Result A E) (P : A → Type 0) → ((a : A) → r ≡ Ok a → ⊥) → IsOkAnd r P → ⊥
passes_not (Ok a) P fails h = fails a refl
passes_not (Err e) P fails h = h

-- ---- what visits find

-- of some visits and of others
either_found : (P Q R : Visit → Type 0) (F : Visit → Type 0) → ((v : Visit) → R v ↔ (P v ⊎ Q v)) → ((v : Visit) × R v × F v) ↔ (((v : Visit) × P v × F v) ⊎ ((v : Visit) × Q v × F v))
either_found P Q R F same = (λ h. to h ((same h.0).0 h.1), from)
  where
    to : (h : (v : Visit) × R v × F v) → P h.0 ⊎ Q h.0 → ((v : Visit) × P v × F v) ⊎ ((v : Visit) × Q v × F v)
    to h (inl x) = inl (h.0, x, h.2)
    to h (inr x) = inr (h.0, x, h.2)

    from : ((v : Visit) × P v × F v) ⊎ ((v : Visit) × Q v × F v) → (v : Visit) × R v × F v
    from (inl h) = (h.0, (same h.0).1 (inl h.1), h.2)
    from (inr h) = (h.0, (same h.0).1 (inr h.1), h.2)

found_as : (P R : Visit → Type 0) (F : Visit → Type 0) → ((v : Visit) → R v ↔ P v) → ((v : Visit) × R v × F v) ↔ ((v : Visit) × P v × F v)
found_as P R F same = (λ h. (h.0, (same h.0).0 h.1, h.2), λ h. (h.0, (same h.0).1 h.1, h.2))

-- at one visit alone
found_once : (u : Visit) (F : Visit → Type 0) → ((v : Visit) × (v ≡ u) × F v) ↔ F u
found_once u F = (λ h. subst F h.1 h.2, λ f. (u, refl, f))

-- what is found of a statement
abbrev AtPlace : StatementPlace → Visit → Type 0
AtPlace p v = (v.method, v.number) ≡ p

module _ (scope : Scope) where
  -- some visits, and then others
  pub gather_then : (P Q R : Visit → Type 0) (a b c : Option Known) → GathersIn scope P a b → GathersIn scope Q b c → ((v : Visit) → R v ↔ (P v ⊎ Q v)) → GathersIn scope R a c
  gather_then P Q R None b c h g same = tt
  gather_then P Q R (Some k) None c h g same = absurd h
  gather_then P Q R (Some k) (Some l) None h g same = absurd g
  gather_then P Q R (Some k) (Some l) (Some m) h g same =
      added_then (IsVisitedBy P) (IsVisitedBy Q) (IsVisitedBy R) (IsPutBy scope P) (IsPutBy scope Q) (IsPutBy scope R) (IsOpenBy scope P) (IsOpenBy scope Q) (IsOpenBy scope R) k l m h g
      (λ p. either_found P Q R (AtPlace p) same) (λ p r. either_found P Q R (PutsAt scope p r) same) (λ q. either_found P Q R (OpensAt scope q) same)

  -- the same visits said otherwise
  pub gather_as : (P R : Visit → Type 0) (a b : Option Known) → GathersIn scope P a b → ((v : Visit) → R v ↔ P v) → GathersIn scope R a b
  gather_as P R None b h same = tt
  gather_as P R (Some k) None h same = absurd h
  gather_as P R (Some k) (Some l) h same =
      added_as (IsVisitedBy P) (IsVisitedBy R) (IsPutBy scope P) (IsPutBy scope R) (IsOpenBy scope P) (IsOpenBy scope R) k l h
      (λ p. found_as P R (AtPlace p) same) (λ p r. found_as P R (PutsAt scope p r) same) (λ q. found_as P R (OpensAt scope q) same)

  -- no visit
  pub gather_none : (P : Visit → Type 0) (a : Option Known) → ((v : Visit) → P v → ⊥) → GathersIn scope P a a
  gather_none P None never = tt
  gather_none P (Some k) never =
      added_as (λ p. ⊥) (IsVisitedBy P) (λ p r. ⊥) (IsPutBy scope P) (λ q. ⊥) (IsOpenBy scope P) k k nothing
      (λ p. (λ h. never h.0 h.1, λ n. absurd n)) (λ p r. (λ h. never h.0 h.1, λ n. absurd n)) (λ q. (λ h. never h.0 h.1, λ n. absurd n))
    where
      nothing : AddsThese (λ p. ⊥) (λ p r. ⊥) (λ q. ⊥) k k
      nothing = record { reached = λ p. stays; values = λ p. least_stays (get place_cmp k.values p); exits = λ q. stays }

  pub gather_as_on : (r : Result ℕ WalkStop) (P R : Visit → Type 0) (a b : Option Known) → WithMemory r (GathersIn scope P a b) → ((v : Visit) → R v ↔ P v) → WithMemory r (GathersIn scope R a b)
  gather_as_on r P R a b h same = with_map r (GathersIn scope P a b) (GathersIn scope R a b) (λ g. gather_as P R a b g same) h

  -- what is kept of one statement, whatever it is, is what its visit finds
  module _ (spot : Spot) (s : Body) (env : Ranges) where
    abbrev visit : Visit
    visit = record { method = spot.method; number = spot.at; statement = s; ranges = env }

    abbrev Here : Visit → Type 0
    Here v = v ≡ visit

    visit_added : (PP : StatementPlace → ValueRange → Type 0) (PPP : ExitPlace → Type 0) (was now : Known) → AddsThese (λ p. place_in spot ≡ p) PP PPP was now
        → ((p : StatementPlace) (r : ValueRange) → PutsAt scope p r visit ↔ PP p r) → ((q : ExitPlace) → OpensAt scope q visit ↔ PPP q) → AddsVisits scope Here was now
    visit_added PP PPP was now h puts opens =
        added_as (λ p. place_in spot ≡ p) (IsVisitedBy Here) PP (IsPutBy scope Here) PPP (IsOpenBy scope Here) was now h
        (λ p. found_once visit (AtPlace p))
        (λ p r. through (found_once visit (PutsAt scope p r)) (puts p r))
        (λ q. through (found_once visit (OpensAt scope q)) (opens q))
      where
        through : {A B C : Type 0} → A ↔ B → B ↔ C → A ↔ C
        through f g = (λ a. g.0 (f.0 a), λ c. f.1 (g.1 c))

  -- an EVAL
  pub eval_gathers : (spot : Spot) (x : List ℕ) (t : Term) (env : Ranges) (a r : Interval) (was now : Option Known) → ranged scope t 0 env ≡ Ok r → a ≡ kept_range scope x r
      → IfSome was (λ k. IsSomeAnd now (AddsEval spot a k)) → GathersIn scope (Here spot (eval x t done) env) was now
  eval_gathers spot x t env a r None now ran is h = tt
  eval_gathers spot x t env a r (Some k) None ran is h = absurd h
  eval_gathers spot x t env a r (Some k) (Some l) ran is h =
      visit_added spot (eval x t done) env (λ p r. (place_in spot ≡ p) × (value_range a ≡ r)) (λ q. ⊥) k l h puts (λ q. (λ h. h.1, λ n. absurd n))
    where
      puts : (p : StatementPlace) (q : ValueRange) → ((place_in spot ≡ p) × ((b : Interval) × IsOkAnd (ranged scope t 0 env) (λ r. b ≡ kept_range scope x r) × (value_range b ≡ q))) ↔ ((place_in spot ≡ p) × (value_range a ≡ q))
      puts p q = (to, from)
        where
          to : (place_in spot ≡ p) × ((b : Interval) × IsOkAnd (ranged scope t 0 env) (λ r. b ≡ kept_range scope x r) × (value_range b ≡ q)) → (place_in spot ≡ p) × (value_range a ≡ q)
          to h =
              let b = h.1.0 in
              let same : b ≡ kept_range scope x r = subst (λ o. IsOkAnd o (λ r. b ≡ kept_range scope x r)) ran h.1.1 in
              (h.0, ap value_range (is ∙ sym same) ∙ h.1.2)

          from : (place_in spot ≡ p) × (value_range a ≡ q) → (place_in spot ≡ p) × ((b : Interval) × IsOkAnd (ranged scope t 0 env) (λ r. b ≡ kept_range scope x r) × (value_range b ≡ q))
          from h = (h.0, (a, subst (λ o. IsOkAnd o (λ r. a ≡ kept_range scope x r)) (sym ran) is, h.1))

  -- an IF
  pub if_gathers : (spot : Spot) (t : Term) (a b : Body) (p : PlanText) (rs : List Interval) (branches : Branches) (was now : Option Known) → tested scope t 0 (ranges_in p rs) ≡ Ok (branches_in p rs branches)
      → IfSome was (λ k. IsSomeAnd now (AddsIf spot branches k)) → GathersIn scope (Here spot (branch t a b done) (ranges_in p rs)) was now
  if_gathers spot t a b p rs branches None now ran h = tt
  if_gathers spot t a b p rs branches (Some k) None ran h = absurd h
  if_gathers spot t a b p rs branches (Some k) (Some l) ran h =
      visit_added spot (branch t a b done) (ranges_in p rs) (λ p r. ⊥) (λ q. (place_in spot ≡ exit_statement q) × IsSome (if q.2 then branches.holds else branches.fails)) k l h
      (λ p r. (λ h. absurd h.1.1, λ n. absurd n)) (λ q. opens (place_in spot ≡ exit_statement q) q.2)
    where
      some_after : (o : Option (Vec Change Global)) → IsSome (ranges_after p rs o) ↔ IsSome o
      some_after None = (λ h. h, λ h. h)
      some_after (Some cs) = (λ h. refl, λ h. refl)

      exit : (holds : Bool) → IsSome (if holds then ranges_after p rs branches.holds else ranges_after p rs branches.fails) ↔ IsSome (if holds then branches.holds else branches.fails)
      exit true = some_after branches.holds
      exit false = some_after branches.fails

      opens : (X : Type 0) (holds : Bool) → (X × IsOkAnd (tested scope t 0 (ranges_in p rs)) (λ br. IsSome (if holds then br.holds else br.fails))) ↔ (X × IsSome (if holds then branches.holds else branches.fails))
      opens X holds = (
        λ h. (h.0, (exit holds).0 (subst (λ o. IsOkAnd o (λ br. IsSome (if holds then br.holds else br.fails))) ran h.1)),
        λ h. (h.0, subst (λ o. IsOkAnd o (λ br. IsSome (if holds then br.holds else br.fails))) (sym ran) ((exit holds).1 h.1)),
      )

  -- an EVAL whose expression may fail, and an IF whose test may
  pub eval_gathers_none : (spot : Spot) (x : List ℕ) (t : Term) (env : Ranges) (was now : Option Known) → ((a : Interval) → ranged scope t 0 env ≡ Ok a → ⊥) → IfSome was (λ k. IsSomeAnd now (AddsPlace spot k)) → GathersIn scope (Here spot (eval x t done) env) was now
  eval_gathers_none spot x t env None now fails h = tt
  eval_gathers_none spot x t env (Some k) None fails h = absurd h
  eval_gathers_none spot x t env (Some k) (Some l) fails h =
      visit_added spot (eval x t done) env (λ p r. ⊥) (λ q. ⊥) k l h
      (λ p r. (λ h. passes_not (ranged scope t 0 env) (λ a. h.1.0 ≡ kept_range scope x a) fails h.1.1, λ n. absurd n)) (λ q. (λ h. h.1, λ n. absurd n))

  pub if_gathers_none : (spot : Spot) (t : Term) (a b : Body) (env : Ranges) (was now : Option Known) → ((br : meant.Branches) → tested scope t 0 env ≡ Ok br → ⊥) → IfSome was (λ k. IsSomeAnd now (AddsPlace spot k)) → GathersIn scope (Here spot (branch t a b done) env) was now
  if_gathers_none spot t a b env None now fails h = tt
  if_gathers_none spot t a b env (Some k) None fails h = absurd h
  if_gathers_none spot t a b env (Some k) (Some l) fails h =
      visit_added spot (branch t a b done) env (λ p r. ⊥) (λ q. ⊥) k l h
      (λ p r. (λ h. absurd h.1.1, λ n. absurd n)) (λ q. (λ h. passes_not (tested scope t 0 env) (λ br. IsSome (if q.2 then br.holds else br.fails)) fails h.1, λ n. absurd n))

  -- an EXECUTE
  pub execute_gathers : (spot : Spot) (m : List ℕ) (env : Ranges) (was now : Option Known) → IfSome was (λ k. IsSomeAnd now (AddsPlace spot k)) → GathersIn scope (Here spot (execute m done) env) was now
  execute_gathers spot m env None now h = tt
  execute_gathers spot m env (Some k) None h = absurd h
  execute_gathers spot m env (Some k) (Some l) h =
      visit_added spot (execute m done) env (λ p r. ⊥) (λ q. ⊥) k l h (λ p r. (λ h. absurd h.1.1, λ n. absurd n)) (λ q. (λ h. h.1, λ n. absurd n))

-- ---- where the walk comes

-- a step whose refusal is told at its statement
at_step : {A B : Type 0} (name : List ℕ) (at : ℕ) (r : Result A NodeFault) (k : A → B) (P : B → Type 0) → IsOkAnd r (λ a. P (k a)) ↔ IsOkAnd (and_then (at_stmt name at r) (λ a. Ok (k a))) P
at_step name at (Ok a) k P = (λ h. h, λ h. h)
at_step name at (Err e) k P = (λ h. h, λ h. h)

module _ (scope : Scope) (call : RangeCalls) (CallComes : List ℕ → Ranges → Visit → Type 0) (name : List ℕ) (v : Visit) where
  abbrev Comes : ℕ → Body → Ranges → Type 0
  Comes at b env = BodyComes scope call CallComes name v at b env

  -- a statement, and then those behind it
  pub comes_then : (s : Stmt) (rest : Body) (at : ℕ) (env : Ranges) → Comes at (stmt_then s rest) env ↔ (Comes at (stmt_then s done) env ⊎ IsOkAnd (walked scope call name at (stmt_then s done) env) (Comes (at + written (stmt_then s done)) rest))
  comes_then (Eval x e) rest at env = (to, from)
    where
      step : IsOkAnd (ranged scope (term_of e) 0 env) (λ a. Comes (at + 1) rest (assigned_range scope x a env)) ↔ IsOkAnd (walked scope call name at (stmt_then (Eval x e) done) env) (Comes (at + 1) rest)
      step = at_step name at (ranged scope (term_of e) 0 env) (λ a. assigned_range scope x a env) (Comes (at + 1) rest)

      to : Comes at (stmt_then (Eval x e) rest) env → Comes at (stmt_then (Eval x e) done) env ⊎ IsOkAnd (walked scope call name at (stmt_then (Eval x e) done) env) (Comes (at + 1) rest)
      to (inl h) = inl (inl h)
      to (inr h) = inr (step.0 h)

      never : {A : Type 0} (r : Result A NodeFault) → IsOkAnd r (λ _. ⊥) → ⊥
      never (Ok a) h = h
      never (Err f) h = h

      from : Comes at (stmt_then (Eval x e) done) env ⊎ IsOkAnd (walked scope call name at (stmt_then (Eval x e) done) env) (Comes (at + 1) rest) → Comes at (stmt_then (Eval x e) rest) env
      from (inl (inl h)) = inl h
      from (inl (inr h)) = absurd (never (ranged scope (term_of e) 0 env) h)
      from (inr h) = inr (step.1 h)
  comes_then (If' t m ys n zs) rest at env = (to, from)
    where
      alone : Result Ranges WalkFault
      alone = walked scope call name at (stmt_then (If' t m ys n zs) done) env

      behind : ℕ
      behind = at + 1 + written (body_of_row ys) + written (body_of_row zs)

      count : behind ≡ at + written (stmt_then (If' t m ys n zs) done)
      count = omega arith

      never : (r : Result Ranges WalkFault) → IsOkAnd r (λ _. ⊥) → ⊥
      never (Ok a) h = h
      never (Err f) h = h

      to : Comes at (stmt_then (If' t m ys n zs) rest) env → Comes at (stmt_then (If' t m ys n zs) done) env ⊎ IsOkAnd alone (Comes (at + written (stmt_then (If' t m ys n zs) done)) rest)
      to (inl h) = inl (inl h)
      to (inr (inl h)) = inl (inr (inl h))
      to (inr (inr h)) = inr (subst (λ k. IsOkAnd alone (Comes k rest)) count h)

      from : Comes at (stmt_then (If' t m ys n zs) done) env ⊎ IsOkAnd alone (Comes (at + written (stmt_then (If' t m ys n zs) done)) rest) → Comes at (stmt_then (If' t m ys n zs) rest) env
      from (inl (inl h)) = inl h
      from (inl (inr (inl h))) = inr (inl h)
      from (inl (inr (inr h))) = absurd (never alone h)
      from (inr h) = inr (inr (subst (λ k. IsOkAnd alone (Comes k rest)) (sym count) h))
  comes_then (Execute x) rest at env = (to, from)
    where
      step : (r : Result Ranges WalkFault) (P : Ranges → Type 0) → IsOkAnd r P ↔ IsOkAnd (and_then r (λ e. Ok e)) P
      step (Ok a) P = (λ h. h, λ h. h)
      step (Err e) P = (λ h. h, λ h. h)

      never : (r : Result Ranges WalkFault) → IsOkAnd r (λ _. ⊥) → ⊥
      never (Ok a) h = h
      never (Err f) h = h

      to : Comes at (stmt_then (Execute x) rest) env → Comes at (stmt_then (Execute x) done) env ⊎ IsOkAnd (walked scope call name at (stmt_then (Execute x) done) env) (Comes (at + 1) rest)
      to (inl h) = inl (inl h)
      to (inr (inl h)) = inl (inr (inl h))
      to (inr (inr h)) = inr ((step (call x env) (Comes (at + 1) rest)).0 h)

      from : Comes at (stmt_then (Execute x) done) env ⊎ IsOkAnd (walked scope call name at (stmt_then (Execute x) done) env) (Comes (at + 1) rest) → Comes at (stmt_then (Execute x) rest) env
      from (inl (inl h)) = inl h
      from (inl (inr (inl h))) = inr (inl h)
      from (inl (inr (inr h))) = absurd (never (call x env) h)
      from (inr h) = inr (inr ((step (call x env) (Comes (at + 1) rest)).1 h))

-- what comes behind a step that passes
passed_on : {A E : Type 0} (r : Result A E) (a : A) (P : A → Type 0) → r ≡ Ok a → IsOkAnd r P ↔ P a
passed_on r a P e = (λ h. subst (λ r. IsOkAnd r P) e h, λ h. subst (λ r. IsOkAnd r P) (sym e) h)

-- nothing comes behind a list's end
never : {A E : Type 0} (r : Result A E) → IsOkAnd r (λ _. ⊥) → ⊥
never (Ok a) h = h
never (Err f) h = h

-- one turn of the walk of statements: a statement, then what comes behind it
pub turn_gathers : (w : Walk) (spot : Spot) (s : Stmt) (rest : Body) (next : ℕ) (rs ms : List Interval) (a b c : Option Known)
    → GathersIn (scope_in w.plan.now) (ComesIn w spot (stmt_then s done) (ranges_in w.plan.now rs)) a b
    → walked_in w spot (stmt_then s done) rs ≡ Ok (ranges_in w.plan.now ms) → next ≡ spot.at + written (stmt_then s done)
    → GathersIn (scope_in w.plan.now) (ComesIn w (record spot { at = next }) rest (ranges_in w.plan.now ms)) b c
    → GathersIn (scope_in w.plan.now) (ComesIn w spot (stmt_then s rest) (ranges_in w.plan.now rs)) a c
turn_gathers w spot s rest next rs ms a b c first passes number behind =
    gather_then (scope_in w.plan.now) (ComesIn w spot (stmt_then s done) (ranges_in w.plan.now rs)) (ComesIn w (record spot { at = next }) rest (ranges_in w.plan.now ms)) (ComesIn w spot (stmt_then s rest) (ranges_in w.plan.now rs)) a b c first behind by_visit
  where
    by_visit : (v : Visit) → ComesIn w spot (stmt_then s rest) (ranges_in w.plan.now rs) v ↔ (ComesIn w spot (stmt_then s done) (ranges_in w.plan.now rs) v ⊎ ComesIn w (record spot { at = next }) rest (ranges_in w.plan.now ms) v)
    by_visit v =
        let parts = comes_then (scope_in w.plan.now) (calls_in w spot.chain) (CallsCome (scope_in w.plan.now) (methods_in w.plan.now) spot.chain) spot.method v s rest spot.at (ranges_in w.plan.now rs) in
        (λ h. to (parts.0 h), λ h. parts.1 (from h))
      where
        Behind : ℕ → Ranges → Type 0
        Behind at env = ComesIn w (record spot { at = at }) rest env v

        behind_is : IsOkAnd (walked_in w spot (stmt_then s done) rs) (Behind (spot.at + written (stmt_then s done))) ↔ Behind (spot.at + written (stmt_then s done)) (ranges_in w.plan.now ms)
        behind_is = passed_on (walked_in w spot (stmt_then s done) rs) (ranges_in w.plan.now ms) (Behind (spot.at + written (stmt_then s done))) passes

        to : ComesIn w spot (stmt_then s done) (ranges_in w.plan.now rs) v ⊎ IsOkAnd (walked_in w spot (stmt_then s done) rs) (λ e. ComesIn w (record spot { at = spot.at + written (stmt_then s done) }) rest e v)
            → ComesIn w spot (stmt_then s done) (ranges_in w.plan.now rs) v ⊎ ComesIn w (record spot { at = next }) rest (ranges_in w.plan.now ms) v
        to (inl h) = inl h
        to (inr h) = inr (subst (λ k. ComesIn w (record spot { at = k }) rest (ranges_in w.plan.now ms) v) (sym number) (behind_is.0 h))

        from : ComesIn w spot (stmt_then s done) (ranges_in w.plan.now rs) v ⊎ ComesIn w (record spot { at = next }) rest (ranges_in w.plan.now ms) v
            → ComesIn w spot (stmt_then s done) (ranges_in w.plan.now rs) v ⊎ IsOkAnd (walked_in w spot (stmt_then s done) rs) (λ e. ComesIn w (record spot { at = spot.at + written (stmt_then s done) }) rest e v)
        from (inl h) = inl h
        from (inr h) = inr (behind_is.1 (subst (λ k. ComesIn w (record spot { at = k }) rest (ranges_in w.plan.now ms) v) number h))

-- a statement that stops: nothing comes behind it
pub stop_gathers : (w : Walk) (spot : Spot) (s : Stmt) (rest : Body) (rs : List Interval) (stop : WalkStop) (a b : Option Known) → FaultOf (walked_in w spot (stmt_then s done) rs) stop
    → StopsWith stop (GathersIn (scope_in w.plan.now) (ComesIn w spot (stmt_then s done) (ranges_in w.plan.now rs)) a b)
    → StopsWith stop (GathersIn (scope_in w.plan.now) (ComesIn w spot (stmt_then s rest) (ranges_in w.plan.now rs)) a b)
stop_gathers w spot s rest rs walks.Memory a b is h = tt
stop_gathers w spot s rest rs (walks.Refused refusal) a b is h =
    gather_as (scope_in w.plan.now) (ComesIn w spot (stmt_then s done) (ranges_in w.plan.now rs)) (ComesIn w spot (stmt_then s rest) (ranges_in w.plan.now rs)) a b h by_visit
  where
    by_visit : (v : Visit) → ComesIn w spot (stmt_then s rest) (ranges_in w.plan.now rs) v ↔ ComesIn w spot (stmt_then s done) (ranges_in w.plan.now rs) v
    by_visit v =
        let parts = comes_then (scope_in w.plan.now) (calls_in w spot.chain) (CallsCome (scope_in w.plan.now) (methods_in w.plan.now) spot.chain) spot.method v s rest spot.at (ranges_in w.plan.now rs) in
        (λ h. to (parts.0 h), λ h. parts.1 (inl h))
      where
        Behind : Ranges → Type 0
        Behind env = ComesIn w (record spot { at = spot.at + written (stmt_then s done) }) rest env v

        to : ComesIn w spot (stmt_then s done) (ranges_in w.plan.now rs) v ⊎ IsOkAnd (walked_in w spot (stmt_then s done) rs) Behind → ComesIn w spot (stmt_then s done) (ranges_in w.plan.now rs) v
        to (inl h) = h
        to (inr h) = absurd (passes_not (walked_in w spot (stmt_then s done) rs) Behind (λ a e. fault_passes_not (walked_in w spot (stmt_then s done) rs) refusal.value.fault refusal.value.operands.items a is e) h)

-- ---- statements alone

module _ (w : Walk) (spot : Spot) where
  pub eval_comes : (x : List ℕ) (t : Term) (env : Ranges) (a r : Interval) (was now : Option Known) → ranged (scope_in w.plan.now) t 0 env ≡ Ok r → a ≡ kept_range (scope_in w.plan.now) x r
      → IfSome was (λ k. IsSomeAnd now (AddsEval spot a k)) → GathersIn (scope_in w.plan.now) (ComesIn w spot (eval x t done) env) was now
  eval_comes x t env a r was now ran is h =
      gather_as (scope_in w.plan.now) (λ v. v ≡ record { method = spot.method; number = spot.at; statement = eval x t done; ranges = env }) (ComesIn w spot (eval x t done) env) was now
      (eval_gathers (scope_in w.plan.now) spot x t env a r was now ran is h) (λ v. (to v, λ h. inl h))
    where
      to : (v : Visit) → ComesIn w spot (eval x t done) env v → v ≡ record { method = spot.method; number = spot.at; statement = eval x t done; ranges = env }
      to v (inl h) = h
      to v (inr h) = absurd (never (ranged (scope_in w.plan.now) t 0 env) h)

  -- an IF, and then its lists
  pub if_comes : (t : Term) (a b : Body) (rs : List Interval) (branches : Branches) (was mid now : Option Known) → tested (scope_in w.plan.now) t 0 (ranges_in w.plan.now rs) ≡ Ok (branches_in w.plan.now rs branches)
      → IfSome was (λ k. IsSomeAnd mid (AddsIf spot branches k)) → GathersIn (scope_in w.plan.now) (ComesInLists w spot a b (branches_in w.plan.now rs branches)) mid now
      → GathersIn (scope_in w.plan.now) (ComesIn w spot (branch t a b done) (ranges_in w.plan.now rs)) was now
  if_comes t a b rs branches was mid now ran h lists =
      gather_then (scope_in w.plan.now) (λ v. v ≡ record { method = spot.method; number = spot.at; statement = branch t a b done; ranges = ranges_in w.plan.now rs }) (ComesInLists w spot a b (branches_in w.plan.now rs branches)) (ComesIn w spot (branch t a b done) (ranges_in w.plan.now rs)) was mid now
      (if_gathers (scope_in w.plan.now) spot t a b w.plan.now rs branches was mid ran h) lists (λ v. (to v, from v))
    where
      lists_are : (v : Visit) → IsOkAnd (tested (scope_in w.plan.now) t 0 (ranges_in w.plan.now rs)) (λ br. ComesInLists w spot a b br v) ↔ ComesInLists w spot a b (branches_in w.plan.now rs branches) v
      lists_are v = passed_on (tested (scope_in w.plan.now) t 0 (ranges_in w.plan.now rs)) (branches_in w.plan.now rs branches) (λ br. ComesInLists w spot a b br v) ran

      to : (v : Visit) → ComesIn w spot (branch t a b done) (ranges_in w.plan.now rs) v → (v ≡ record { method = spot.method; number = spot.at; statement = branch t a b done; ranges = ranges_in w.plan.now rs }) ⊎ ComesInLists w spot a b (branches_in w.plan.now rs branches) v
      to v (inl h) = inl h
      to v (inr (inl h)) = inr ((lists_are v).0 h)
      to v (inr (inr h)) = absurd (never (walked (scope_in w.plan.now) (calls_in w spot.chain) spot.method spot.at (branch t a b done) (ranges_in w.plan.now rs)) h)

      from : (v : Visit) → (v ≡ record { method = spot.method; number = spot.at; statement = branch t a b done; ranges = ranges_in w.plan.now rs }) ⊎ ComesInLists w spot a b (branches_in w.plan.now rs branches) v → ComesIn w spot (branch t a b done) (ranges_in w.plan.now rs) v
      from v (inl h) = inl h
      from v (inr h) = inr (inl ((lists_are v).1 h))

  pub if_comes_on : (r : Result ℕ WalkStop) (t : Term) (a b : Body) (rs : List Interval) (branches : Branches) (was mid now : Option Known) → tested (scope_in w.plan.now) t 0 (ranges_in w.plan.now rs) ≡ Ok (branches_in w.plan.now rs branches)
      → IfSome was (λ k. IsSomeAnd mid (AddsIf spot branches k)) → WithMemory r (GathersIn (scope_in w.plan.now) (ComesInLists w spot a b (branches_in w.plan.now rs branches)) mid now)
      → WithMemory r (GathersIn (scope_in w.plan.now) (ComesIn w spot (branch t a b done) (ranges_in w.plan.now rs)) was now)
  if_comes_on r t a b rs branches was mid now ran h lists =
      with_map r (GathersIn (scope_in w.plan.now) (ComesInLists w spot a b (branches_in w.plan.now rs branches)) mid now) (GathersIn (scope_in w.plan.now) (ComesIn w spot (branch t a b done) (ranges_in w.plan.now rs)) was now)
      (if_comes t a b rs branches was mid now ran h) lists

  -- an EVAL whose expression may fail, and an IF whose test may
  pub eval_stops : (x : List ℕ) (t : Term) (env : Ranges) (was now : Option Known) → ((a : Interval) → ranged (scope_in w.plan.now) t 0 env ≡ Ok a → ⊥)
      → IfSome was (λ k. IsSomeAnd now (AddsPlace spot k)) → GathersIn (scope_in w.plan.now) (ComesIn w spot (eval x t done) env) was now
  eval_stops x t env was now fails h =
      gather_as (scope_in w.plan.now) (λ v. v ≡ record { method = spot.method; number = spot.at; statement = eval x t done; ranges = env }) (ComesIn w spot (eval x t done) env) was now
      (eval_gathers_none (scope_in w.plan.now) spot x t env was now fails h) (λ v. (to v, λ h. inl h))
    where
      to : (v : Visit) → ComesIn w spot (eval x t done) env v → v ≡ record { method = spot.method; number = spot.at; statement = eval x t done; ranges = env }
      to v (inl h) = h
      to v (inr h) = absurd (never (ranged (scope_in w.plan.now) t 0 env) h)

  pub if_stops : (t : Term) (a b : Body) (env : Ranges) (was now : Option Known) → ((br : meant.Branches) → tested (scope_in w.plan.now) t 0 env ≡ Ok br → ⊥)
      → IfSome was (λ k. IsSomeAnd now (AddsPlace spot k)) → GathersIn (scope_in w.plan.now) (ComesIn w spot (branch t a b done) env) was now
  if_stops t a b env was now fails h =
      gather_as (scope_in w.plan.now) (λ v. v ≡ record { method = spot.method; number = spot.at; statement = branch t a b done; ranges = env }) (ComesIn w spot (branch t a b done) env) was now
      (if_gathers_none (scope_in w.plan.now) spot t a b env was now fails h) (λ v. (to v, λ h. inl h))
    where
      to : (v : Visit) → ComesIn w spot (branch t a b done) env v → v ≡ record { method = spot.method; number = spot.at; statement = branch t a b done; ranges = env }
      to v (inl h) = h
      to v (inr (inl h)) = absurd (passes_not (tested (scope_in w.plan.now) t 0 env) (λ br. ComesInLists w spot a b br v) fails h)
      to v (inr (inr h)) = absurd (never (walked (scope_in w.plan.now) (calls_in w spot.chain) spot.method spot.at (branch t a b done) env) h)

  -- the lists of an IF, where the one, the other or both of its branches can be reached
  pub first_list : (r : Result ℕ WalkStop) (f : Fork) (rs : List Interval) (cs : List Change) (branches : Branches) (held : Vec Change Global) (was now : Option Known) → branches.holds ≡ Some held → branches.fails ≡ None → cs ≡ held.items
      → WithMemory r (GathersIn (scope_in w.plan.now) (ComesIn w (first_spot spot) (body_of f.yes.now) (ranges_in w.plan.now (changed rs cs))) was now)
      → WithMemory r (GathersIn (scope_in w.plan.now) (ComesInLists w spot (body_of f.yes.now) (body_of f.no.now) (branches_in w.plan.now rs branches)) was now)
  first_list r f rs cs branches held was now holds fails same h =
      let p = w.plan.now in
      let first : branches_in p rs branches ≡ record { holds = Some (ranges_in p (changed rs cs)); fails = None } =
      λ i. record { holds = (ap (ranges_after p rs) holds ∙ ap (λ cs. Some (ranges_in p (changed rs cs))) (sym same)) i; fails = ap (ranges_after p rs) fails i } in
      subst (λ br. WithMemory r (GathersIn (scope_in p) (ComesInLists w spot (body_of f.yes.now) (body_of f.no.now) br) was now)) (sym first)
      (gather_as_on (scope_in p) r (ComesIn w (first_spot spot) (body_of f.yes.now) (ranges_in p (changed rs cs))) (ComesInLists w spot (body_of f.yes.now) (body_of f.no.now) (record { holds = Some (ranges_in p (changed rs cs)); fails = None })) was now h (λ v. back stays))

  pub second_list : (r : Result ℕ WalkStop) (f : Fork) (rs : List Interval) (cs : List Change) (branches : Branches) (failed : Vec Change Global) (was now : Option Known) → branches.holds ≡ None → branches.fails ≡ Some failed → cs ≡ failed.items
      → WithMemory r (GathersIn (scope_in w.plan.now) (ComesIn w (second_spot spot f) (body_of f.no.now) (ranges_in w.plan.now (changed rs cs))) was now)
      → WithMemory r (GathersIn (scope_in w.plan.now) (ComesInLists w spot (body_of f.yes.now) (body_of f.no.now) (branches_in w.plan.now rs branches)) was now)
  second_list r f rs cs branches failed was now holds fails same h =
      let p = w.plan.now in
      let second : branches_in p rs branches ≡ record { holds = None; fails = Some (ranges_in p (changed rs cs)) } =
      λ i. record { holds = ap (ranges_after p rs) holds i; fails = (ap (ranges_after p rs) fails ∙ ap (λ cs. Some (ranges_in p (changed rs cs))) (sym same)) i } in
      subst (λ br. WithMemory r (GathersIn (scope_in p) (ComesInLists w spot (body_of f.yes.now) (body_of f.no.now) br) was now)) (sym second)
      (gather_as_on (scope_in p) r (ComesIn w (second_spot spot f) (body_of f.no.now) (ranges_in p (changed rs cs))) (ComesInLists w spot (body_of f.yes.now) (body_of f.no.now) (record { holds = None; fails = Some (ranges_in p (changed rs cs)) })) was now h (λ v. back comes_last))

  pub both_lists : (r : Result ℕ WalkStop) (f : Fork) (rs : List Interval) (cs ds : List Change) (branches : Branches) (held failed : Vec Change Global) (was now : Option Known) → branches.holds ≡ Some held → branches.fails ≡ Some failed → cs ≡ held.items → ds ≡ failed.items
      → WithMemory r (GathersIn (scope_in w.plan.now) (ComesInBoth w spot f (changed rs cs) (changed rs ds)) was now)
      → WithMemory r (GathersIn (scope_in w.plan.now) (ComesInLists w spot (body_of f.yes.now) (body_of f.no.now) (branches_in w.plan.now rs branches)) was now)
  both_lists r f rs cs ds branches held failed was now holds fails same other h =
      let p = w.plan.now in
      let both : branches_in p rs branches ≡ record { holds = Some (ranges_in p (changed rs cs)); fails = Some (ranges_in p (changed rs ds)) } =
      λ i. record {
        holds = (ap (ranges_after p rs) holds ∙ ap (λ cs. Some (ranges_in p (changed rs cs))) (sym same)) i;
        fails = (ap (ranges_after p rs) fails ∙ ap (λ cs. Some (ranges_in p (changed rs cs))) (sym other)) i;
      } in
      subst (λ br. WithMemory r (GathersIn (scope_in p) (ComesInLists w spot (body_of f.yes.now) (body_of f.no.now) br) was now)) (sym both) h

  -- neither list, where no branch can be reached
  pub no_list : (a b : Body) (rs : List Interval) (branches : Branches) (was : Option Known) → branches.holds ≡ None → branches.fails ≡ None
      → GathersIn (scope_in w.plan.now) (ComesInLists w spot a b (branches_in w.plan.now rs branches)) was was
  no_list a b rs branches was holds fails =
      let p = w.plan.now in
      let none : branches_in p rs branches ≡ record { holds = None; fails = None } = λ i. record { holds = ap (ranges_after p rs) holds i; fails = ap (ranges_after p rs) fails i } in
      subst (λ br. GathersIn (scope_in p) (ComesInLists w spot a b br) was was) (sym none)
      (gather_none (scope_in p) (ComesInLists w spot a b (record { holds = None; fails = None })) was nowhere)
    where
      nowhere : (v : Visit) → ComesInLists w spot a b (record { holds = None; fails = None }) v → ⊥
      nowhere v (inl h) = h
      nowhere v (inr h) = h

  -- both lists, the first one first or last
  module _ (f : Fork) (second : ℕ) (rs ss : List Interval) (before behind told : Result ℕ WalkStop) (a b c : Option Known) (number : second ≡ spot.at + 1 + written (body_of f.yes.now)) (is : IsBehindLists before behind told) where
    abbrev First : (was now : Option Known) → Type 0
    First was now = GathersIn (scope_in w.plan.now) (ComesIn w (first_spot spot) (body_of f.yes.now) (ranges_in w.plan.now rs)) was now

    abbrev Second : ℕ → (was now : Option Known) → Type 0
    Second k was now = GathersIn (scope_in w.plan.now) (ComesIn w (record spot { at = k }) (body_of f.no.now) (ranges_in w.plan.now ss)) was now

    abbrev Both : Type 0
    Both = GathersIn (scope_in w.plan.now) (ComesInBoth w spot f rs ss) a c

    pub both_come : WithMemory before (First a b) → WithMemory behind (Second second b c) → WithMemory told Both
    both_come first last =
        both_with before behind told (First a b) (Second second b c) Both is first last
        (λ h g.
        gather_then (scope_in w.plan.now) (ComesIn w (first_spot spot) (body_of f.yes.now) (ranges_in w.plan.now rs)) (ComesIn w (second_spot spot f) (body_of f.no.now) (ranges_in w.plan.now ss)) (ComesInBoth w spot f rs ss) a b c
        h (subst (λ k. Second k b c) number g) (λ v. (λ x. x, λ x. x)))

    pub both_come_back : WithMemory before (First b c) → WithMemory behind (Second second a b) → WithMemory told Both
    both_come_back first last =
        both_with before behind told (First b c) (Second second a b) Both is first last
        (λ h g.
        gather_then (scope_in w.plan.now) (ComesIn w (second_spot spot f) (body_of f.no.now) (ranges_in w.plan.now ss)) (ComesIn w (first_spot spot) (body_of f.yes.now) (ranges_in w.plan.now rs)) (ComesInBoth w spot f rs ss) a b c
        (subst (λ k. Second k a b) number g) h (λ v. (swap, swap)))
      where
        swap : {A B : Type 0} → A ⊎ B → B ⊎ A
        swap (inl h) = inr h
        swap (inr h) = inl h

  -- an EXECUTE, and then its method
  pub execute_comes : (m : List ℕ) (env : Ranges) (was mid now : Option Known) → IfSome was (λ k. IsSomeAnd mid (AddsPlace spot k)) → GathersIn (scope_in w.plan.now) (ComesInCall w m spot.chain env) mid now
      → GathersIn (scope_in w.plan.now) (ComesIn w spot (execute m done) env) was now
  execute_comes m env was mid now h call =
      gather_then (scope_in w.plan.now) (λ v. v ≡ record { method = spot.method; number = spot.at; statement = execute m done; ranges = env }) (ComesInCall w m spot.chain env) (ComesIn w spot (execute m done) env) was mid now
      (execute_gathers (scope_in w.plan.now) spot m env was mid h) call (λ v. (to v, from v))
    where
      to : (v : Visit) → ComesIn w spot (execute m done) env v → (v ≡ record { method = spot.method; number = spot.at; statement = execute m done; ranges = env }) ⊎ ComesInCall w m spot.chain env v
      to v (inl h) = inl h
      to v (inr (inl h)) = inr h
      to v (inr (inr h)) = absurd (never (calls_in w spot.chain m env) h)

      from : (v : Visit) → (v ≡ record { method = spot.method; number = spot.at; statement = execute m done; ranges = env }) ⊎ ComesInCall w m spot.chain env v → ComesIn w spot (execute m done) env v
      from v (inl h) = inl h
      from v (inr h) = inr (inl h)

-- a method that is executed
pub call_gathers : (w : Walk) (m : List ℕ) (chain : ℕ) (b : Body) (env : Ranges) (x y : Option Known) → chain ≢ 0 → body_named (methods_in w.plan.now) m ≡ Some b
    → GathersIn (scope_in w.plan.now) (ComesIn w (record { method = m; at = 0; chain = chain - 1 }) b env) x y → GathersIn (scope_in w.plan.now) (ComesInCall w m chain env) x y
unfolding CallsCome
call_gathers w m zero b env x y l e h = absurd (l refl)
call_gathers w m (suc n) b env x y l e h =
    let less : suc n - 1 ≡ n = omega arith in
    gather_as (scope_in w.plan.now) (ComesIn w (record { method = m; at = 0; chain = n }) b env) (ComesInCall w m (suc n) env) x y
    (subst (λ c. GathersIn (scope_in w.plan.now) (ComesIn w (record { method = m; at = 0; chain = c }) b env) x y) less h)
    (λ v. (
      λ k. subst (λ o. IsSomeAnd o (λ b. ComesIn w (record { method = m; at = 0; chain = n }) b env v)) e k,
      λ k. subst (λ o. IsSomeAnd o (λ b. ComesIn w (record { method = m; at = 0; chain = n }) b env v)) (sym e) k,
    ))

-- no method is executed where no chain is left, or where it isn't there
pub no_chain_gathers : (w : Walk) (m : List ℕ) (chain : ℕ) (env : Ranges) (x : Option Known) → chain ≡ 0 → GathersIn (scope_in w.plan.now) (ComesInCall w m chain env) x x
unfolding CallsCome
no_chain_gathers w m zero env x e = gather_none (scope_in w.plan.now) (ComesInCall w m 0 env) x (λ v h. h)
no_chain_gathers w m (suc n) env x e = absurd (omega arith)

pub no_method_gathers : (w : Walk) (m : List ℕ) (chain : ℕ) (env : Ranges) (x : Option Known) → body_named (methods_in w.plan.now) m ≡ None → GathersIn (scope_in w.plan.now) (ComesInCall w m chain env) x x
unfolding CallsCome
no_method_gathers w m zero env x e = gather_none (scope_in w.plan.now) (ComesInCall w m 0 env) x (λ v h. h)
no_method_gathers w m (suc n) env x e =
    gather_none (scope_in w.plan.now) (ComesInCall w m (suc n) env) x
    (λ v h. subst (λ o. IsSomeAnd o (λ b. ComesIn w (record { method = m; at = 0; chain = n }) b env v)) e h)

-- ---- what is known of a whole walk

-- the walk of MAIN from the start
pub walk_gathers : (p q : PlanText) (limits : Limits) (m : List ℕ) (main : Body) (rs : List Interval) (a b : Option Known) → q ≡ p → m ≡ main_name → main ≡ (flowchart_of p).main → ranges_in p rs ≡ start_ranges (flowchart_of p) limits
    → GathersIn (scope_in q) (λ v. BodyComes (scope_in q) (range_calls_of (scope_in q) (methods_in q) longest_chain) (CallsCome (scope_in q) (methods_in q) longest_chain) m v 0 main (ranges_in q rs)) a b
    → GathersIn (scope_of (flowchart_of p)) (WalkComes (flowchart_of p) limits) a b
walk_gathers p q limits m main rs a b same name is begins h =
    let Comes : PlanText → List ℕ → Body → Ranges → Visit → Type 0 =
    λ q m main env v. BodyComes (scope_in q) (range_calls_of (scope_in q) (methods_in q) longest_chain) (CallsCome (scope_in q) (methods_in q) longest_chain) m v 0 main env in
    let plan = subst (λ q. GathersIn (scope_in q) (Comes q m main (ranges_in q rs)) a b) same h in
    let named = subst (λ m. GathersIn (scope_in p) (Comes p m main (ranges_in p rs)) a b) name plan in
    let body = subst (λ main. GathersIn (scope_in p) (Comes p main_name main (ranges_in p rs)) a b) is named in
    subst (λ env. GathersIn (scope_in p) (Comes p main_name (flowchart_of p).main env) a b) begins body

-- exactly what these visits find
pub record IsFound (scope : Scope) (Comes : Visit → Type 0) (k : Known) : Type 0 where
  pub reached : (p : StatementPlace) → IsOneOf k.reached p ↔ IsVisitedBy Comes p
  pub values : (p : StatementPlace) → IsLeastOf (IsPutBy scope Comes p) (get place_cmp k.values p)
  pub exits : (q : ExitPlace) → IsExitOf k.exits q ↔ IsOpenBy scope Comes q

-- where nothing was known before
pub all_found : (scope : Scope) (Comes : Visit → Type 0) (a b : Option Known) (k : Known) → IsSomeAnd a IsNothing → GathersIn scope Comes a b → b ≡ Some k → IsFound scope Comes k
all_found scope Comes None b k nothing h e = absurd nothing
all_found scope Comes (Some j) None k nothing h e = absurd h
all_found scope Comes (Some j) (Some l) k nothing h e = (let same : l ≡ k = cc in subst (IsFound scope Comes) same found)
  where
    only : {A B C : Type 0} → (B → ⊥) → A ↔ (B ⊎ C) → A ↔ C
    only {A} {B} {C} before same = (λ a. to (same.0 a), λ c. same.1 (inr c))
      where
        to : B ⊎ C → C
        to (inl b) = absurd (before b)
        to (inr c) = c

    put : (p : StatementPlace) (r : ValueRange) → IsPutBy scope Comes p r ↔ ((get place_cmp j.values p ≡ Some r) ⊎ IsPutBy scope Comes p r)
    put p r = (λ c. inr c, to)
      where
        to : (get place_cmp j.values p ≡ Some r) ⊎ IsPutBy scope Comes p r → IsPutBy scope Comes p r
        to (inl b) = absurd (none-some r (sym (nothing.values p) ∙ b))
        to (inr c) = c

    found : IsFound scope Comes l
    found = record {
      reached = λ p. only (nothing.reached p) (h.reached p);
      values = λ p. least_as (λ r. (get place_cmp j.values p ≡ Some r) ⊎ IsPutBy scope Comes p r) (IsPutBy scope Comes p) (get place_cmp l.values p) (put p) (h.values p);
      exits = λ q. only (nothing.exits q) (h.exits q);
    }

pub some_known : (scope : Scope) (Comes : Visit → Type 0) (a b : Option Known) → IsSomeAnd a IsNothing → GathersIn scope Comes a b → IsSome b
some_known scope Comes None b nothing h = absurd nothing
some_known scope Comes (Some j) None nothing h = absurd h
some_known scope Comes (Some j) (Some l) nothing h = refl

-- what is known has what an execution at a visit puts and takes
module _ (scope : Scope) (Comes : Visit → Type 0) (k : Known) (found : IsFound scope Comes k) (x : Execution) (h : IsVisited scope Comes x) where
  pub found_reached : IsOneOf k.reached (x.method, x.number)
  found_reached = (found.reached (x.method, x.number)).1 (h.visit, h.comes, λ i. (h.method i, h.number i))

  pub found_value : (d : Decimal) → PutsValue scope x.statement x.variables d → IsSomeAnd (get place_cmp k.values (x.method, x.number)) (λ r. HasValue r d)
  found_value d p =
      let put = h.foreseen.puts d p in
      by_kept put (get place_cmp k.values (x.method, x.number)) (found.values (x.method, x.number))
    where
      by_kept : (put : IsPutWithin scope h.visit d) (o : Option ValueRange) → IsLeastOf (IsPutBy scope Comes (x.method, x.number)) o → IsSomeAnd o (λ r. HasValue r d)
      by_kept put None least = absurd (least (value_range put.range) (h.visit, h.comes, (λ i. (h.method i, h.number i), (put.range, put.puts, refl))))
      by_kept put (Some r) least =
          value_within (value_range put.range) r d (value_inside put.range d put.inside)
          (least.around (value_range put.range) (h.visit, h.comes, (λ i. (h.method i, h.number i), (put.range, put.puts, refl))))

  pub found_exit : (holds : Bool) → TakesExit scope x.statement x.variables holds → IsExitOf k.exits (x.method, x.number, holds)
  found_exit holds p = (found.exits (x.method, x.number, holds)).1 (h.visit, h.comes, (λ i. (h.method i, h.number i), h.foreseen.takes holds p))
