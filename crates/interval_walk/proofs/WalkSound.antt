-- Where the walk of a plan's statements passes, their run is safe and defined, and ends in the ranges.
use Rattle.std.proofs.Common.{◌≡◌, ℕ, zero, suc, ◌+◌, ◌-◌, ◌^◌, ◌≤◌, ◌*ℤ◌, ◌≤ℤ◌, List, [], ◌∷◌, Bool, true, false, if◌then◌else◌, Option, Some, None, Result, Ok, refl, sym, ap, ◌∙◌, subst, arith}
use Rattle.std.specs.Prelude.{All, nat_le, unsigned_abs}
use Rattle.scaled_decimal.specs.Limits.{limit}
use Rattle.std.specs.Option.{option_map_or}
use Rattle.std.proofs.lemmas.Int.{ints}
use Rattle.std.proofs.lemmas.Bool.Decides.{nat_tests}
use Rattle.std.proofs.lemmas.List.Elements.{All-head, All-tail}
use Rattle.std.specs.Str.{bytes_eq}
use Rattle.scaled_decimal.specs.Decimals.{Decimal, decimal, numerator_of, scale_of, numerator_at, ten_to}
use Rattle.scaled_decimal.proofs.Laws.{ten_add, times_assoc, le_times}
use Rattle.pap_tree.specs.declared.declaration.Kind.{Kind}
use Rattle.pap_tree.specs.declared.declaration.Kind.TheVariants as declares
use Rattle.pap_tree.specs.Term.{whole, long, point, text, known, named, Term, leaf, item, one, two, choice}
use Rattle.pap_tree.specs.Flowchart.{Body, done, eval, branch, execute, Routine}
use Rattle.pap_tree.specs.Statements.{written}
use Rattle.interval_num.specs.declared.cause.RangeCause.TheVariants.{Wide}
use Rattle.interval_num.specs.Intervals.{Interval, Contains}
use Rattle.interval_num.specs.Rows.{join_row}
use Rattle.interval_num.proofs.Laws.{join_sound}
use Rattle.pap_types.specs.declared.kinds.NodeKind.{NodeKind}
use Rattle.pap_types.specs.Scopes.{Scope, factor_places, at_factor_scale, kept_as}
use Rattle.pap_types.specs.Kinds.{kind_of, suits, is_factor_literal}
use Rattle.pap_types.specs.Routines.{body_named}
use Rattle.pap_types.specs.Checks.{place, last_node}
use Rattle.pap_types.specs.Typing.{IsTypedBody, TargetSuits}
use Rattle.pap_types.specs.Counts.{AreSmallTerms}
use Rattle.pap_types.specs.Operations.{is_zero}
use Rattle.pap_types.specs.Values.{Env, value}
use Rattle.pap_types.specs.Safety.{IsSafe}
use Rattle.pap_types.specs.Runs.{Calls, assigned, after, IsSafeBody, calls_of}
use Rattle.interval_walk.specs.Ranges.{NamedRange, Ranges, names_in, single}
use Rattle.interval_walk.specs.Failures.{WalkFault, node_fails, and_then, at_stmt}
use Rattle.interval_walk.specs.NodeRanges.{leaf_range}
use Rattle.interval_walk.specs.Branches.{Branches, either_way}
use Rattle.interval_walk.specs.Ranged.{ranged, tested}
use Rattle.interval_walk.specs.Visits.{kept_value}
use Rattle.interval_walk.specs.Walked.{range_kept_as, kept_range, assigned_range, joined, RangeCalls, walked, with_body, range_calls_of}
use Rattle.interval_walk.specs.Soundness.{AreWithin, TestHolds}
use Rattle.interval_walk.specs.private.Soundness.{AreVariables}
use Rattle.interval_walk.proofs.RowShapes.{both_true}
use Rattle.interval_walk.proofs.NodeShapes.{stepped, passed_node, leaf_shape}
use Rattle.interval_walk.proofs.ScopeLemmas.{IsSoundScope}
use Rattle.interval_walk.proofs.EnvLemmas.{within_put, variables_put}
use Rattle.interval_walk.proofs.TermSound.{term_sound, test_sound}
use Rattle.interval_walk.proofs.NameLemmas.{StayNamed, tested_named, passed_stmt, meet, met, CallsStayNamed, walked_named, calls_named}

-- ---- assignments

-- a value at a greater scale
pub at_greater : (x : Decimal) (p q : ℕ) → scale_of x ≤ p → p ≤ q → numerator_at p x *ℤ ten_to (q - p) ≡ numerator_at q x
at_greater x p q h l =
    times_assoc (numerator_of x) (ten_to (p - scale_of x)) (ten_to (q - p))
    ∙ ap (λ t. numerator_of x *ℤ t) (ten_add (p - scale_of x) (q - p) (q - scale_of x) (omega arith))

factor_inside : (a : Interval) (v : Decimal) → a.s_hi ≤ factor_places → Contains a v → Contains (range_kept_as declares.Factor a) (at_factor_scale v)
factor_inside a v few h =
    let at = numerator_at factor_places v in
    let same = at_greater v a.s_hi factor_places h.greatest_scale few in
    let own : at *ℤ ten_to (factor_places - factor_places) ≡ at = omega (arith, ints) in
    let low = le_times a.lo (numerator_at a.s_hi v) (10 ^ (factor_places - a.s_hi)) h.low in
    let high = le_times (numerator_at a.s_hi v) a.hi (10 ^ (factor_places - a.s_hi)) h.high in
    record {
      least_scale = omega arith;
      greatest_scale = omega arith;
      low = rw own (subst (λ z. (a.lo *ℤ ten_to (factor_places - a.s_hi)) ≤ℤ z) same low);
      high = rw own (subst (λ z. z ≤ℤ (a.hi *ℤ ten_to (factor_places - a.s_hi))) same high);
    }

-- a literal that goes to a `double` has at most three places
literal_places : (scope : Scope) (e : Term) (at : ℕ) (rs : Ranges) (a : Interval) → is_factor_literal e ≡ true → ranged scope e at rs ≡ Ok a → a.s_hi ≤ factor_places
literal_places scope (leaf (whole i)) at rs a f e =
    let g = (leaf_shape scope (whole i) rs a (passed_node at _ (leaf_range scope (whole i) rs) a e)).0 in
    let same : single (decimal i 0) ≡ a = cc in
    subst (λ a. a.s_hi ≤ factor_places) same (omega arith)
literal_places scope (leaf (point d)) at rs a f e =
    let g = (leaf_shape scope (point d) rs a (passed_node at _ (leaf_range scope (point d) rs) a e)).0 in
    let same : single d ≡ a = cc in
    let few : scale_of d ≤ factor_places = (let t = (both_true (nat_le (scale_of d) factor_places) (nat_le (unsigned_abs (numerator_of (at_factor_scale d))) limit) f).0 in grind (arith, nat_tests)) in
    subst (λ a. a.s_hi ≤ factor_places) same few
literal_places scope (leaf (long i)) at rs a f e = absurd (cc)
literal_places scope (leaf (text i)) at rs a f e = absurd (cc)
literal_places scope (leaf (known i)) at rs a f e = absurd (cc)
literal_places scope (leaf (named i)) at rs a f e = absurd (cc)
literal_places scope (item x i) at rs a f e = absurd (cc)
literal_places scope (one op i) at rs a f e = absurd (cc)
literal_places scope (two op i j) at rs a f e = absurd (cc)
literal_places scope (choice c i j) at rs a f e = absurd (cc)

kept_inside : (scope : Scope) (k : Kind) (e : Term) (j : NodeKind) (rs : Ranges) (a : Interval) (v : Decimal) → suits k e j ≡ true → ranged scope e 0 rs ≡ Ok a → Contains a v → Contains (range_kept_as k a) (kept_as k v)
kept_inside scope declares.Int e j rs a v f g h = h
kept_inside scope declares.Long e j rs a v f g h = h
kept_inside scope declares.Big e j rs a v f g h = h
kept_inside scope declares.Factor e j rs a v f g h = factor_inside a v (literal_places scope e 0 rs a f g) h
kept_inside scope declares.Table e j rs a v f g h = h

-- a value lies in a range as a variable keeps both
pub kept_within : (scope : Scope) (x : List ℕ) (e : Term) (rs : Ranges) (a : Interval) (v : Decimal) → TargetSuits scope x e → ranged scope e 0 rs ≡ Ok a → Contains a v → Contains (kept_range scope x a) (kept_value scope x v)
kept_within scope x e rs a v t g h =
    let d = t.declaration in
    let inside = kept_inside scope d.kind e (kind_of scope e) rs a v t.suits g h in
    subst (λ o. Contains (option_map_or (λ d. range_kept_as d.kind a) o a) (option_map_or (λ d. kept_as d.kind v) o v)) (sym t.declared) inside

pub assigned_inside : (scope : Scope) (x : List ℕ) (e : Term) (rs : Ranges) (env : Env) (a : Interval) (v : Decimal) → TargetSuits scope x e → ranged scope e 0 rs ≡ Ok a → Contains a v → AreWithin rs env → AreWithin (assigned_range scope x a rs) (assigned scope x v env)
assigned_inside scope x e rs env a v t g h w = within_put rs env x _ _ w (kept_within scope x e rs a v t g h)

-- ---- joins

record IsJoin (r s : NamedRange) (rs ss zs : Ranges) : Type 0 where
  head : Interval
  head_is : join_row r.range s.range ≡ Ok head
  tail : Ranges
  tail_is : joined rs ss ≡ Ok tail
  all_is : record r { range = head } ∷ tail ≡ zs

is_join : (r s : NamedRange) (rs ss zs : Ranges) → joined (r ∷ rs) (s ∷ ss) ≡ Ok zs → IsJoin r s rs ss zs
is_join r s rs ss zs e =
    let a = stepped (join_row r.range s.range) (λ a. and_then (joined rs ss) (λ o. Ok (record r { range = a } ∷ o))) zs e in
    let o = stepped (joined rs ss) (λ o. Ok (record r { range = a.0 } ∷ o)) zs a.2 in
    record { head = a.0; head_is = a.1; tail = o.0; tail_is = o.1; all_is = (let f = o.2 in cc) }

joined_left : (rs ss zs : Ranges) (env : Env) → joined rs ss ≡ Ok zs → AreWithin rs env → AreWithin zs env
joined_left [] [] zs env e w = let same : [] ≡ zs = cc in subst (λ z. AreWithin z env) same w
joined_left [] (s ∷ ss) zs env e w = absurd (cc)
joined_left (r ∷ rs) [] zs env e w = absurd (cc)
joined_left (r ∷ rs) (s ∷ ss) zs [] e w = absurd w
joined_left (r ∷ rs) (s ∷ ss) zs (v ∷ vs) e w =
    let m = is_join r s rs ss zs e in
    let h = (join_sound r.range s.range m.head m.head_is).left v.value w.1 in
    subst (λ z. AreWithin z (v ∷ vs)) m.all_is (w.0, h, joined_left rs ss m.tail vs m.tail_is w.2)

joined_right : (rs ss zs : Ranges) (env : Env) → names_in rs ≡ names_in ss → joined rs ss ≡ Ok zs → AreWithin ss env → AreWithin zs env
joined_right [] [] zs env n e w = let same : [] ≡ zs = cc in subst (λ z. AreWithin z env) same w
joined_right [] (s ∷ ss) zs env n e w = absurd (cc)
joined_right (r ∷ rs) [] zs env n e w = absurd (cc)
joined_right (r ∷ rs) (s ∷ ss) zs [] n e w = absurd w
joined_right (r ∷ rs) (s ∷ ss) zs (v ∷ vs) n e w =
    let m = is_join r s rs ss zs e in
    let h = (join_sound r.range s.range m.head m.head_is).right v.value w.1 in
    let first : r.name ≡ s.name = cc in
    let rest : names_in rs ≡ names_in ss = cc in
    subst (λ z. AreWithin z (v ∷ vs)) m.all_is (first ∙ w.0, h, joined_right rs ss m.tail vs rest m.tail_is w.2)

-- the branch that a run takes, and what the two leave together
pub record IsTaken (go : Ranges → Result Ranges WalkFault) (s mid : Ranges) : Type 0 where
  pub ends : Ranges
  pub is : go s ≡ Ok ends
  pub holds : (env : Env) → AreWithin ends env → AreWithin mid env

module _ (name : List ℕ) (at node : ℕ) (none : WalkFault) (first second : Ranges → Result Ranges WalkFault) (mid : Ranges) where
  abbrev both_meet : Option Ranges → Option Ranges → Result Ranges WalkFault
  both_meet o p = either_way none first second (meet name at node) o p

  pub took_first : (o : Option Ranges) (s : Ranges) → both_meet (Some s) o ≡ Ok mid → IsTaken first s mid
  took_first None s e = record { ends = mid; is = e; holds = λ env w. w }
  took_first (Some t) s e =
      let x = stepped (first s) (λ x. and_then (second t) (λ y. meet name at node x y)) mid e in
      let y = stepped (second t) (λ y. meet name at node x.0 y) mid x.2 in
      record { ends = x.0; is = x.1; holds = λ env w. joined_left x.0 y.0 mid env (met name at node x.0 y.0 mid y.2) w }

  pub took_second : (rs : Ranges) (o : Option Ranges) (s : Ranges) → StayNamed rs o → names_in s ≡ names_in rs → ((s u : Ranges) → first s ≡ Ok u → names_in u ≡ names_in s) → ((s u : Ranges) → second s ≡ Ok u → names_in u ≡ names_in s) → both_meet o (Some s) ≡ Ok mid → IsTaken second s mid
  took_second rs None s ho hs nf ns e = record { ends = mid; is = e; holds = λ env w. w }
  took_second rs (Some t) s ho hs nf ns e =
      let x = stepped (first t) (λ x. and_then (second s) (λ y. meet name at node x y)) mid e in
      let y = stepped (second s) (λ y. meet name at node x.0 y) mid x.2 in
      let names = nf t x.0 x.1 ∙ ho t refl ∙ sym (ns s y.0 y.1 ∙ hs) in
      record { ends = y.0; is = y.1; holds = λ env w. joined_right x.0 y.0 mid env names (met name at node x.0 y.0 mid y.2) w }

-- ---- methods

-- what holds of the body of each method holds of one that is found
pub found_method : (P : Body → Type 0) (ms : List Routine) → All (λ m. P m.body) ms → (m : List ℕ) (b : Body) → body_named ms m ≡ Some b → P b
found_method P [] all m b e = absurd (cc)
found_method P (r ∷ ms) all m b e = by_name (bytes_eq m r.name) e (found_method P ms (All-tail (λ m. P m.body) r ms all) m b)
  where
    by_name : (t : Bool) → (if t then Some r.body else body_named ms m) ≡ Some b → (body_named ms m ≡ Some b → P b) → P b
    by_name true f later = let same : r.body ≡ b = cc in subst P same (All-head (λ m. P m.body) r ms all)
    by_name false f later = later f

-- ---- statements

module _ (scope : Scope) (ok : IsSoundScope scope) (methods : List Routine) where
  -- every evaluated expression of a list of statements is safe, and its run ends in the ranges
  pub record BodyHolds (calls : Calls) (b : Body) (env : Env) (z : Ranges) : Type 0 where
    pub safe : IsSafeBody scope calls b env
    pub ends : Env
    pub is : after scope calls b env ≡ Some ends
    pub inside : AreWithin z ends
    pub only : AreVariables scope ends

  -- the same of a method
  pub record CallHolds (calls : Calls) (m : List ℕ) (env : Env) (z : Ranges) : Type 0 where
    pub safe : calls.IsSafeCall m env
    pub ends : Env
    pub is : calls.after m env ≡ Some ends
    pub inside : AreWithin z ends
    pub only : AreVariables scope ends

  pub record CallsHold (calls : Calls) (call : RangeCalls) : Type 0 where
    pub named : CallsStayNamed call
    pub each : (m : List ℕ) (rs z : Ranges) (env : Env) → AreWithin rs env → AreVariables scope env → call m rs ≡ Ok z → CallHolds calls m env z

  module _ (calls : Calls) (call : RangeCalls) (hc : CallsHold calls call) (name : List ℕ) where
    -- what the run of a branch needs to hold
    taken_safe : (t : Term) (a b rest : Body) (env : Env) (z : Bool) (v : Decimal) (ends : Env) → IsSafe scope t env → value scope t env ≡ Some v → is_zero v ≡ z → (z ≡ true → IsSafeBody scope calls b env) → (z ≡ false → IsSafeBody scope calls a env) → (if z then after scope calls b env else after scope calls a env) ≡ Some ends → IsSafeBody scope calls rest ends → IsSafeBody scope calls (branch t a b rest) env
    taken_safe t a b rest env z v ends st vt zt sb sa ea sr = (st, λ u p. of_value u (the_same u p))
      where
        the_same : (u : Decimal) → value scope t env ≡ Some u → is_zero u ≡ z
        the_same u p = let same : v ≡ u = cc in ap is_zero (sym same) ∙ zt

        of_value : (u : Decimal) → is_zero u ≡ z → (is_zero u ≡ true → IsSafeBody scope calls b env) × (is_zero u ≡ false → IsSafeBody scope calls a env) × ((e : Env) → (if is_zero u then after scope calls b env else after scope calls a env) ≡ Some e → IsSafeBody scope calls rest e)
        of_value u q = (
          (λ y. sb (sym q ∙ y)),
          (λ n. sa (sym q ∙ n)),
          λ e r. (
              let here : (if z then after scope calls b env else after scope calls a env) ≡ Some e = subst (λ k. (if k then after scope calls b env else after scope calls a env) ≡ Some e) q r in
              let same : ends ≡ e = cc in
              subst (IsSafeBody scope calls rest) same sr),
        )

    -- the branch that a run takes, and what follows
    module _ (t : Term) (a b rest : Body) (rs z : Ranges) (env : Env) (only : AreVariables scope env) (at node : ℕ) (none : WalkFault) (first second : Ranges → Result Ranges WalkFault) (br : Branches) (mid : Ranges) (h : TestHolds scope t env br)
        (g : either_way none first second (meet name at node) br.holds br.fails ≡ Ok mid)
        (ha : (s u : Ranges) (env1 : Env) → AreWithin s env1 → AreVariables scope env1 → first s ≡ Ok u → BodyHolds calls a env1 u)
        (hb : (s u : Ranges) (env1 : Env) → AreWithin s env1 → AreVariables scope env1 → second s ≡ Ok u → BodyHolds calls b env1 u)
        (hr : (env1 : Env) → AreWithin mid env1 → AreVariables scope env1 → BodyHolds calls rest env1 z) where
      second_taken : StayNamed rs br.holds → StayNamed rs br.fails → ((s u : Ranges) → first s ≡ Ok u → names_in u ≡ names_in s) → ((s u : Ranges) → second s ≡ Ok u → names_in u ≡ names_in s) → is_zero h.gives ≡ true → BodyHolds calls (branch t a b rest) env z
      second_taken nh nf na nb y =
          let l = h.fails y in
          let m : either_way none first second (meet name at node) br.holds (Some l.ranges) ≡ Ok mid = subst (λ o. either_way none first second (meet name at node) br.holds o ≡ Ok mid) l.is g in
          let k = took_second name at node none first second mid rs br.holds l.ranges nh (nf l.ranges l.is) na nb m in
          let i = hb l.ranges k.ends env l.inside only k.is in
          let r = hr i.ends (k.holds i.ends i.inside) i.only in
          record {
            safe = taken_safe t a b rest env true h.gives i.ends h.safe h.is y (λ _. i.safe) (λ never. absurd (cc)) i.is r.safe;
            ends = r.ends;
            is = rw (h.is, y, i.is) r.is;
            inside = r.inside;
            only = r.only;
          }

      first_taken : is_zero h.gives ≡ false → BodyHolds calls (branch t a b rest) env z
      first_taken y =
          let l = h.holds y in
          let m : either_way none first second (meet name at node) (Some l.ranges) br.fails ≡ Ok mid = subst (λ o. either_way none first second (meet name at node) o br.fails ≡ Ok mid) l.is g in
          let k = took_first name at node none first second mid br.fails l.ranges m in
          let i = ha l.ranges k.ends env l.inside only k.is in
          let r = hr i.ends (k.holds i.ends i.inside) i.only in
          record {
            safe = taken_safe t a b rest env false h.gives i.ends h.safe h.is y (λ never. absurd (cc)) (λ _. i.safe) i.is r.safe;
            ends = r.ends;
            is = rw (h.is, y, i.is) r.is;
            inside = r.inside;
            only = r.only;
          }

      branch_sound : StayNamed rs br.holds → StayNamed rs br.fails → ((s u : Ranges) → first s ≡ Ok u → names_in u ≡ names_in s) → ((s u : Ranges) → second s ≡ Ok u → names_in u ≡ names_in s) → (y : Bool) → is_zero h.gives ≡ y → BodyHolds calls (branch t a b rest) env z
      branch_sound nh nf na nb true y = second_taken nh nf na nb y
      branch_sound nh nf na nb false y = first_taken y

    pub body_sound : (b : Body) (at : ℕ) (rs z : Ranges) (env : Env) → AreWithin rs env → AreVariables scope env → IsTypedBody scope methods b → AreSmallTerms b → walked scope call name at b rs ≡ Ok z → BodyHolds calls b env z
    body_sound done at rs z env w only typed small e =
        let same : rs ≡ z = cc in
        record { safe = tt; ends = env; is = refl; inside = subst (λ z. AreWithin z env) same w; only = only }
    body_sound (eval x t rest) at rs z env w only typed small e =
        let s = stepped (at_stmt name at (ranged scope t 0 rs)) (λ a. walked scope call name (at + 1) rest (assigned_range scope x a rs)) z e in
        let ran = passed_stmt name at (ranged scope t 0 rs) s.0 s.1 in
        let h = term_sound scope ok env only t 0 rs s.0 w typed.0 small.0.scales ran in
        let v = h.gives in
        let next = assigned_inside scope x t rs env s.0 v typed.1 ran h.inside w in
        let k = body_sound rest (at + 1) (assigned_range scope x s.0 rs) z (assigned scope x v env) next (variables_put scope env x _ only) typed.2 small.1 s.2 in
        record {
          safe = (h.safe, λ u p. (let is = h.is in let same : h.gives ≡ u = cc in subst (λ u. IsSafeBody scope calls rest (assigned scope x u env)) same k.safe));
          ends = k.ends;
          is = rw h.is k.is;
          inside = k.inside;
          only = k.only;
        }
    body_sound (branch t a b rest) at rs z env w only typed small e =
        let node = last_node t in
        let none = node_fails (place name at node) Wide [] in
        let first = walked scope call name (at + 1) a in
        let second = walked scope call name (at + 1 + written a) b in
        let go = walked scope call name (at + 1 + written a + written b) rest in
        let br = stepped (at_stmt name at (tested scope t 0 rs)) (λ br. and_then (either_way none first second (meet name at node) br.holds br.fails) go) z e in
        let mid = stepped (either_way none first second (meet name at node) br.0.holds br.0.fails) go z br.2 in
        let passed = passed_stmt name at (tested scope t 0 rs) br.0 br.1 in
        let h = test_sound scope ok env only t 0 rs br.0 w typed.0 small.0.scales passed in
        let n = tested_named scope t 0 rs br.0 passed in
        branch_sound t a b rest rs z env only at node none first second br.0 mid.0 h mid.1
        (λ s u env1 w1 o1 g. body_sound a (at + 1) s u env1 w1 o1 typed.2 small.1 g)
        (λ s u env1 w1 o1 g. body_sound b (at + 1 + written a) s u env1 w1 o1 typed.3 small.2 g)
        (λ env1 w1 o1. body_sound rest (at + 1 + written a + written b) mid.0 z env1 w1 o1 typed.4 small.3 mid.2)
        n.holds n.fails
        (λ s u g. walked_named scope call name hc.named a (at + 1) s u g)
        (λ s u g. walked_named scope call name hc.named b (at + 1 + written a) s u g)
        (is_zero h.gives) refl
    body_sound (execute m rest) at rs z env w only typed small e =
        let s = stepped (call m rs) (walked scope call name (at + 1) rest) z e in
        let h = hc.each m rs s.0 env w only s.1 in
        let k = body_sound rest (at + 1) s.0 z h.ends h.inside h.only typed.1 small s.2 in
        record {
          safe = (h.safe, λ u p. (let is = h.is in let same : h.ends ≡ u = cc in subst (IsSafeBody scope calls rest) same k.safe));
          ends = k.ends;
          is = rw h.is k.is;
          inside = k.inside;
          only = k.only;
        }

  -- the methods, whatever their chain
  pub calls_hold : All (λ m. IsTypedBody scope methods m.body) methods → All (λ m. AreSmallTerms m.body) methods → (n : ℕ) → CallsHold (calls_of scope methods n) (range_calls_of scope methods n)
  unfolding calls_of range_calls_of
  calls_hold typed small zero = record { named = calls_named scope methods zero; each = λ m rs z env w only e. absurd (cc) }
  calls_hold typed small (suc n) = record { named = calls_named scope methods (suc n); each = λ m rs z env w only e. by_body m rs z env w only (calls_hold typed small n) (body_named methods m) refl e }
    where
      by_body : (m : List ℕ) (rs z : Ranges) (env : Env) → AreWithin rs env → AreVariables scope env → CallsHold (calls_of scope methods n) (range_calls_of scope methods n) → (o : Option Body) → body_named methods m ≡ o → with_body m o (λ b. walked scope (range_calls_of scope methods n) m 0 b rs) ≡ Ok z → CallHolds (calls_of scope methods (suc n)) m env z
      by_body m rs z env w only hc None f g = absurd (cc)
      by_body m rs z env w only hc (Some b) f g =
          let k = body_sound (calls_of scope methods n) (range_calls_of scope methods n) hc m b 0 rs z env w only (found_method (IsTypedBody scope methods) methods typed m b f) (found_method AreSmallTerms methods small m b f) g in
          record {
            safe = λ c p. (let same : b ≡ c = cc in subst (λ c. IsSafeBody scope (calls_of scope methods n) c env) same k.safe);
            ends = k.ends;
            is = rw f k.is;
            inside = k.inside;
            only = k.only;
          }
