-- The walk comes to each statement that a run executes.
use Rattle.std.proofs.Common.{◌≡◌, ℕ, zero, suc, ◌+◌, List, [], Bool, true, false, if◌then◌else◌, Option, Some, None, Result, Ok, ◌⊎◌, inl, inr, refl, sym, ap, ◌∙◌, subst}
use Rattle.std.specs.Prelude.{All, IsSome, IsSomeAnd, IsOkAnd, not}
use Rattle.scaled_decimal.specs.Decimals.{Decimal}
use Rattle.pap_tree.specs.Term.{Term}
use Rattle.pap_tree.specs.Flowchart.{Body, done, eval, branch, execute, Routine}
use Rattle.pap_tree.specs.Names.{main_name}
use Rattle.pap_tree.specs.Statements.{written}
use Rattle.interval_num.specs.declared.cause.RangeCause.TheVariants.{Wide}
use Rattle.interval_num.specs.Intervals.{Interval, Contains}
use Rattle.pap_types.specs.Scopes.{Scope, scope_of}
use Rattle.pap_types.specs.Routines.{body_named}
use Rattle.pap_types.specs.Limits.{longest_chain}
use Rattle.pap_types.specs.Checks.{place, last_node}
use Rattle.pap_types.specs.Typing.{IsTypedBody, TargetSuits}
use Rattle.pap_types.specs.Counts.{AreSmallTerms}
use Rattle.pap_types.specs.Meaning.{calls_in, start}
use Rattle.pap_types.specs.Operations.{is_zero}
use Rattle.pap_types.specs.Values.{Env, value}
use Rattle.pap_types.specs.Runs.{Calls, assigned, after, calls_of}
use Rattle.pap_types.proofs.Laws.{has_types}
use Rattle.interval_walk.specs.Ranges.{Ranges}
use Rattle.interval_walk.specs.Failures.{WalkFault, node_fails, and_then, at_stmt}
use Rattle.interval_walk.specs.Branches.{Branches, either_way}
use Rattle.interval_walk.specs.Ranged.{ranged, tested}
use Rattle.interval_walk.specs.Walked.{kept_range, assigned_range, RangeCalls, walked, with_body, range_calls_of}
use Rattle.interval_walk.specs.Analysis.{start_ranges, range_calls_in, output_ranges, unless_unbounded}
use Rattle.interval_walk.specs.Soundness.{AreWithin, TestHolds}
use Rattle.interval_walk.specs.Visits.{Visit, BodyComes, CallsCome, Execution, BodyExecutes, CallsExecute, kept_value, IsForeseen, IsVisited, ExecutedAreVisited}
use Rattle.interval_walk.specs.private.Soundness.{AreVariables}
use Rattle.interval_walk.proofs.NodeShapes.{stepped}
use Rattle.interval_walk.proofs.ScopeLemmas.{IsSoundScope}
use Rattle.interval_walk.proofs.PlanLemmas.{sound_scope}
use Rattle.interval_walk.proofs.EnvLemmas.{variables_put}
use Rattle.interval_walk.proofs.StartSound.{start_inside, start_variables}
use Rattle.interval_walk.proofs.TermSound.{term_sound, test_sound}
use Rattle.interval_walk.proofs.NameLemmas.{tested_named, passed_stmt, meet, walked_named}
use Rattle.interval_walk.proofs.WalkSound.{CallsHold, kept_within, assigned_inside, took_first, took_second, found_method, body_sound, calls_hold}

-- ---- steps

-- what holds behind a step holds behind its answer
behind : {A E : Type 0} (r : Result A E) (a : A) (P : A → Type 0) → r ≡ Ok a → P a → IsOkAnd r P
behind r a P e h = subst (λ r. IsOkAnd r P) (sym e) h

some_of : {A : Type 0} (o : Option A) (a : A) (P : A → Type 0) → o ≡ Some a → P a → IsSomeAnd o P
some_of o a P e h = subst (λ o. IsSomeAnd o P) (sym e) h

of_some : {A : Type 0} (o : Option A) (a : A) (P : A → Type 0) → o ≡ Some a → IsSomeAnd o P → P a
of_some o a P e h = subst (λ o. IsSomeAnd o P) e h

-- two steps, behind which nothing else is done
alone_step : (r : Result Branches WalkFault) (br : Branches) (go : Branches → Result Ranges WalkFault) (mid : Ranges)
    → r ≡ Ok br → go br ≡ Ok mid → and_then r (λ br. and_then (go br) (λ env. Ok env)) ≡ Ok mid
alone_step r br go mid e f = rw (e, f) refl

-- a visit among some is one among more
wider : (scope : Scope) (Few Many : Visit → Type 0) (x : Execution) → ((v : Visit) → Few v → Many v) → IsVisited scope Few x → IsVisited scope Many x
wider scope Few Many x go h = record {
  visit = h.visit;
  comes = go h.visit h.comes;
  method = h.method;
  number = h.number;
  statement = h.statement;
  inside = h.inside;
  foreseen = h.foreseen;
}

-- the execution of a statement at which the walk stands
here : (scope : Scope) (name : List ℕ) (at : ℕ) (s : Body) (rs : Ranges) (env : Env) (x : Execution) → AreWithin rs env
    → IsForeseen scope (record { method = name; number = at; statement = s; ranges = rs }) (record { method = name; number = at; statement = s; variables = env })
    → x ≡ record { method = name; number = at; statement = s; variables = env }
    → IsVisited scope (λ v. v ≡ record { method = name; number = at; statement = s; ranges = rs }) x
here scope name at s rs env x w f e =
    subst (IsVisited scope (λ v. v ≡ record { method = name; number = at; statement = s; ranges = rs })) (sym e)
    (record { visit = record { method = name; number = at; statement = s; ranges = rs }; comes = refl; method = refl; number = refl; statement = refl; inside = w; foreseen = f })

-- ---- what is foreseen

module _ (scope : Scope) (name : List ℕ) (at : ℕ) (rs : Ranges) (env : Env) where
  abbrev Foresees : Body → Type 0
  Foresees s = IsForeseen scope (record { method = name; number = at; statement = s; ranges = rs }) (record { method = name; number = at; statement = s; variables = env })

  -- the value of an EVAL that is kept lies in the range that is kept
  eval_foreseen : (y : List ℕ) (t : Term) (a : Interval) (d : Decimal) → TargetSuits scope y t → ranged scope t 0 rs ≡ Ok a → value scope t env ≡ Some d → Contains a d → Foresees (eval y t done)
  eval_foreseen y t a d suits ran gives inside = record {
    puts = λ v p.
        let same = of_some (value scope t env) d (λ d. v ≡ kept_value scope y d) gives p in
        record {
          range = kept_range scope y a;
          puts = behind (ranged scope t 0 rs) a (λ r. kept_range scope y a ≡ kept_range scope y r) ran refl;
          inside = subst (Contains (kept_range scope y a)) (sym same) (kept_within scope y t rs a d suits ran inside);
        };
    takes = λ holds p. absurd p;
  }

  -- the exit that an IF takes can be reached
  branch_foreseen : (t : Term) (a b : Body) (br : Branches) → tested scope t 0 rs ≡ Ok br → TestHolds scope t env br → Foresees (branch t a b done)
  branch_foreseen t a b br ran h = record {
    puts = λ v p. absurd p;
    takes = λ holds p. behind (tested scope t 0 rs) br (λ br. IsSome (if holds then br.holds else br.fails)) ran (by_exit holds (of_some (value scope t env) h.gives (λ d. is_zero d ≡ not holds) h.is p));
  }
    where
      by_exit : (holds : Bool) → is_zero h.gives ≡ not holds → IsSome (if holds then br.holds else br.fails)
      by_exit true e = subst IsSome (sym (h.holds e).is) refl
      by_exit false e = subst IsSome (sym (h.fails e).is) refl

  execute_foreseen : (m : List ℕ) → Foresees (execute m done)
  execute_foreseen m = record { puts = λ v p. absurd p; takes = λ holds p. absurd p }

-- ---- statements

module _ (scope : Scope) (ok : IsSoundScope scope) (methods : List Routine) where
  -- the walk of a method comes to each statement that its run executes
  abbrev pub CallsAreVisited : (calls : Calls) (call : RangeCalls) (CallComes : List ℕ → Ranges → Visit → Type 0)
      (CallExecutes : List ℕ → Env → Execution → Type 0) → Type 0
  CallsAreVisited calls call CallComes CallExecutes =
      (m : List ℕ) (rs z : Ranges) (env : Env) (x : Execution) → AreWithin rs env → AreVariables scope env
      → call m rs ≡ Ok z → CallExecutes m env x → IsVisited scope (CallComes m rs) x

  module _ (calls : Calls) (call : RangeCalls) (CallComes : List ℕ → Ranges → Visit → Type 0)
      (CallExecutes : List ℕ → Env → Execution → Type 0) (hc : CallsHold scope ok methods calls call)
      (hv : CallsAreVisited calls call CallComes CallExecutes) (name : List ℕ) (x : Execution) where
    abbrev Comes : ℕ → Body → Ranges → Visit → Type 0
    Comes at b rs v = BodyComes scope call CallComes name v at b rs

    abbrev Executes : ℕ → Body → Env → Type 0
    Executes at b env = BodyExecutes scope calls CallExecutes name x at b env

    -- an IF alone, and what the walk leaves behind it
    record IsPassed (t : Term) (a b rest : Body) (at : ℕ) (rs z : Ranges) : Type 0 where
      branches : Branches
      tested_is : tested scope t 0 rs ≡ Ok branches
      mid : Ranges
      meets : either_way (node_fails (place name at (last_node t)) Wide []) (walked scope call name (at + 1) a) (walked scope call name (at + 1 + written a) b) (meet name at (last_node t)) branches.holds branches.fails ≡ Ok mid
      alone : walked scope call name at (branch t a b done) rs ≡ Ok mid
      later : walked scope call name (at + 1 + written a + written b) rest mid ≡ Ok z

    is_passed : (t : Term) (a b rest : Body) (at : ℕ) (rs z : Ranges) → walked scope call name at (branch t a b rest) rs ≡ Ok z → IsPassed t a b rest at rs z
    is_passed t a b rest at rs z e =
        let node = last_node t in
        let none = node_fails (place name at node) Wide [] in
        let first = walked scope call name (at + 1) a in
        let second = walked scope call name (at + 1 + written a) b in
        let go = walked scope call name (at + 1 + written a + written b) rest in
        let br = stepped (at_stmt name at (tested scope t 0 rs)) (λ br. and_then (either_way none first second (meet name at node) br.holds br.fails) go) z e in
        let mid = stepped (either_way none first second (meet name at node) br.0.holds br.0.fails) go z br.2 in
        record {
          branches = br.0;
          tested_is = passed_stmt name at (tested scope t 0 rs) br.0 br.1;
          mid = mid.0;
          meets = mid.1;
          alone = alone_step (at_stmt name at (tested scope t 0 rs)) br.0 (λ br. either_way none first second (meet name at node) br.holds br.fails) mid.0 br.1 mid.1;
          later = mid.2;
        }

    -- where the run takes the first list of an IF, the walk comes to what it executes there; so of the second
    first_visited : (t : Term) (a b rest : Body) (at : ℕ) (rs z : Ranges) (env : Env) → AreWithin rs env → AreVariables scope env → IsTypedBody scope methods (branch t a b rest) → AreSmallTerms (branch t a b rest) → IsPassed t a b rest at rs z → (d : Decimal) → value scope t env ≡ Some d → is_zero d ≡ false → ((s u : Ranges) → AreWithin s env → walked scope call name (at + 1) a s ≡ Ok u → IsVisited scope (Comes (at + 1) a s) x) → IsVisited scope (Comes at (branch t a b rest) rs) x
    first_visited t a b rest at rs z env w only typed small p d is y ih =
        let node = last_node t in
        let none = node_fails (place name at node) Wide [] in
        let first = walked scope call name (at + 1) a in
        let second = walked scope call name (at + 1 + written a) b in
        let h = test_sound scope ok env only t 0 rs p.branches w typed.0 small.0.scales p.tested_is in
        let g = h.is in
        let same : h.gives ≡ d = cc in
        let l = h.holds (ap is_zero same ∙ y) in
        let m : either_way none first second (meet name at node) (Some l.ranges) p.branches.fails ≡ Ok p.mid = subst (λ o. either_way none first second (meet name at node) o p.branches.fails ≡ Ok p.mid) l.is p.meets in
        let k = took_first name at node none first second p.mid p.branches.fails l.ranges m in
        let i = ih l.ranges k.ends l.inside k.is in
        wider scope (Comes (at + 1) a l.ranges) (Comes at (branch t a b rest) rs) x
        (λ v c. inr (inl (behind (tested scope t 0 rs) p.branches (λ br. IsSomeAnd br.holds (λ s. Comes (at + 1) a s v) ⊎ IsSomeAnd br.fails (λ s. Comes (at + 1 + written a) b s v)) p.tested_is
        (inl (some_of p.branches.holds l.ranges (λ s. Comes (at + 1) a s v) l.is c))))) i

    second_visited : (t : Term) (a b rest : Body) (at : ℕ) (rs z : Ranges) (env : Env) → AreWithin rs env → AreVariables scope env → IsTypedBody scope methods (branch t a b rest) → AreSmallTerms (branch t a b rest) → IsPassed t a b rest at rs z → (d : Decimal) → value scope t env ≡ Some d → is_zero d ≡ true → ((s u : Ranges) → AreWithin s env → walked scope call name (at + 1 + written a) b s ≡ Ok u → IsVisited scope (Comes (at + 1 + written a) b s) x) → IsVisited scope (Comes at (branch t a b rest) rs) x
    second_visited t a b rest at rs z env w only typed small p d is y ih =
        let node = last_node t in
        let none = node_fails (place name at node) Wide [] in
        let first = walked scope call name (at + 1) a in
        let second = walked scope call name (at + 1 + written a) b in
        let h = test_sound scope ok env only t 0 rs p.branches w typed.0 small.0.scales p.tested_is in
        let g = h.is in
        let same : h.gives ≡ d = cc in
        let l = h.fails (ap is_zero same ∙ y) in
        let n = tested_named scope t 0 rs p.branches p.tested_is in
        let m : either_way none first second (meet name at node) p.branches.holds (Some l.ranges) ≡ Ok p.mid = subst (λ o. either_way none first second (meet name at node) p.branches.holds o ≡ Ok p.mid) l.is p.meets in
        let k = took_second name at node none first second p.mid rs p.branches.holds l.ranges n.holds (n.fails l.ranges l.is) (λ s u g. walked_named scope call name hc.named a (at + 1) s u g) (λ s u g. walked_named scope call name hc.named b (at + 1 + written a) s u g) m in
        let i = ih l.ranges k.ends l.inside k.is in
        wider scope (Comes (at + 1 + written a) b l.ranges) (Comes at (branch t a b rest) rs) x
        (λ v c. inr (inl (behind (tested scope t 0 rs) p.branches (λ br. IsSomeAnd br.holds (λ s. Comes (at + 1) a s v) ⊎ IsSomeAnd br.fails (λ s. Comes (at + 1 + written a) b s v)) p.tested_is
        (inr (some_of p.branches.fails l.ranges (λ s. Comes (at + 1 + written a) b s v) l.is c))))) i

    pub body_visited : (b : Body) (at : ℕ) (rs z : Ranges) (env : Env) → AreWithin rs env → AreVariables scope env → IsTypedBody scope methods b → AreSmallTerms b → walked scope call name at b rs ≡ Ok z → Executes at b env → IsVisited scope (Comes at b rs) x
    body_visited done at rs z env w only typed small e ex = absurd ex
    body_visited (eval y t rest) at rs z env w only typed small e (inl ex) =
        let s = stepped (at_stmt name at (ranged scope t 0 rs)) (λ a. walked scope call name (at + 1) rest (assigned_range scope y a rs)) z e in
        let ran = passed_stmt name at (ranged scope t 0 rs) s.0 s.1 in
        let h = term_sound scope ok env only t 0 rs s.0 w typed.0 small.0.scales ran in
        wider scope _ (Comes at (eval y t rest) rs) x (λ v c. inl c)
        (here scope name at (eval y t done) rs env x w (eval_foreseen scope name at rs env y t s.0 h.gives typed.1 ran h.is h.inside) ex)
    body_visited (eval y t rest) at rs z env w only typed small e (inr ex) =
        let s = stepped (at_stmt name at (ranged scope t 0 rs)) (λ a. walked scope call name (at + 1) rest (assigned_range scope y a rs)) z e in
        let ran = passed_stmt name at (ranged scope t 0 rs) s.0 s.1 in
        let h = term_sound scope ok env only t 0 rs s.0 w typed.0 small.0.scales ran in
        let next = assigned_inside scope y t rs env s.0 h.gives typed.1 ran h.inside w in
        let later = of_some (value scope t env) h.gives (λ d. Executes (at + 1) rest (assigned scope y d env)) h.is ex in
        let k = body_visited rest (at + 1) (assigned_range scope y s.0 rs) z (assigned scope y h.gives env) next (variables_put scope env y _ only) typed.2 small.1 s.2 later in
        wider scope (Comes (at + 1) rest (assigned_range scope y s.0 rs)) (Comes at (eval y t rest) rs) x
        (λ v c. inr (behind (ranged scope t 0 rs) s.0 (λ a. Comes (at + 1) rest (assigned_range scope y a rs) v) ran c)) k
    body_visited (branch t a b rest) at rs z env w only typed small e (inl ex) =
        let p = is_passed t a b rest at rs z e in
        let h = test_sound scope ok env only t 0 rs p.branches w typed.0 small.0.scales p.tested_is in
        wider scope _ (Comes at (branch t a b rest) rs) x (λ v c. inl c)
        (here scope name at (branch t a b done) rs env x w (branch_foreseen scope name at rs env t a b p.branches p.tested_is h) ex)
    body_visited (branch t a b rest) at rs z env w only typed small e (inr (inl ex)) =
        let p = is_passed t a b rest at rs z e in
        let h = test_sound scope ok env only t 0 rs p.branches w typed.0 small.0.scales p.tested_is in
        by_way h.gives h.is p (of_some (value scope t env) h.gives _ h.is ex)
        (λ s u env1 ex g. body_visited a (at + 1) s u env env1 only typed.2 small.1 g ex)
        (λ s u env1 ex g. body_visited b (at + 1 + written a) s u env env1 only typed.3 small.2 g ex)
      where
        by_way : (d : Decimal) → value scope t env ≡ Some d → IsPassed t a b rest at rs z → ((is_zero d ≡ false) × Executes (at + 1) a env) ⊎ ((is_zero d ≡ true) × Executes (at + 1 + written a) b env)
            → ((s u : Ranges) → AreWithin s env → Executes (at + 1) a env → walked scope call name (at + 1) a s ≡ Ok u → IsVisited scope (Comes (at + 1) a s) x)
            → ((s u : Ranges) → AreWithin s env → Executes (at + 1 + written a) b env → walked scope call name (at + 1 + written a) b s ≡ Ok u → IsVisited scope (Comes (at + 1 + written a) b s) x)
            → IsVisited scope (Comes at (branch t a b rest) rs) x
        by_way d is p (inl y) ha hb = first_visited t a b rest at rs z env w only typed small p d is y.0 (λ s u i g. ha s u i y.1 g)
        by_way d is p (inr n) ha hb = second_visited t a b rest at rs z env w only typed small p d is n.0 (λ s u i g. hb s u i n.1 g)
    body_visited (branch t a b rest) at rs z env w only typed small e (inr (inr ex)) =
        let p = is_passed t a b rest at rs z e in
        let k = body_sound scope ok methods calls call hc name (branch t a b done) at rs p.mid env w only (typed.0, typed.1, typed.2, typed.3, tt) (small.0, small.1, small.2, tt) p.alone in
        let later = of_some (after scope calls (branch t a b done) env) k.ends (Executes (at + 1 + written a + written b) rest) k.is ex in
        let i = body_visited rest (at + 1 + written a + written b) p.mid z k.ends k.inside k.only typed.4 small.3 p.later later in
        wider scope (Comes (at + 1 + written a + written b) rest p.mid) (Comes at (branch t a b rest) rs) x
        (λ v c. inr (inr (behind (walked scope call name at (branch t a b done) rs) p.mid (λ r. Comes (at + 1 + written a + written b) rest r v) p.alone c))) i
    body_visited (execute m rest) at rs z env w only typed small e (inl ex) =
        wider scope _ (Comes at (execute m rest) rs) x (λ v c. inl c)
        (here scope name at (execute m done) rs env x w (execute_foreseen scope name at rs env m) ex)
    body_visited (execute m rest) at rs z env w only typed small e (inr (inl ex)) =
        let s = stepped (call m rs) (walked scope call name (at + 1) rest) z e in
        wider scope (CallComes m rs) (Comes at (execute m rest) rs) x (λ v c. inr (inl c)) (hv m rs s.0 env x w only s.1 ex)
    body_visited (execute m rest) at rs z env w only typed small e (inr (inr ex)) =
        let s = stepped (call m rs) (walked scope call name (at + 1) rest) z e in
        let h = hc.each m rs s.0 env w only s.1 in
        let later = of_some (calls.after m env) h.ends (Executes (at + 1) rest) h.is ex in
        let k = body_visited rest (at + 1) s.0 z h.ends h.inside h.only typed.1 small s.2 later in
        wider scope (Comes (at + 1) rest s.0) (Comes at (execute m rest) rs) x
        (λ v c. inr (inr (behind (call m rs) s.0 (λ r. Comes (at + 1) rest r v) s.1 c))) k

  -- the methods, whatever their chain
  pub calls_visited : All (λ m. IsTypedBody scope methods m.body) methods → All (λ m. AreSmallTerms m.body) methods → (n : ℕ) → CallsAreVisited (calls_of scope methods n) (range_calls_of scope methods n) (CallsCome scope methods n) (CallsExecute scope methods n)
  unfolding calls_of range_calls_of CallsCome CallsExecute
  calls_visited typed small zero m rs z env x w only e ex = absurd ex
  calls_visited typed small (suc n) m rs z env x w only e ex = by_body (calls_visited typed small n) (body_named methods m) refl e ex
    where
      by_body : CallsAreVisited (calls_of scope methods n) (range_calls_of scope methods n) (CallsCome scope methods n) (CallsExecute scope methods n)
          → (o : Option Body) → body_named methods m ≡ o → with_body m o (λ b. walked scope (range_calls_of scope methods n) m 0 b rs) ≡ Ok z
          → IsSomeAnd o (λ b. BodyExecutes scope (calls_of scope methods n) (CallsExecute scope methods n) m x 0 b env)
          → IsVisited scope (λ v. IsSomeAnd (body_named methods m) (λ b. BodyComes scope (range_calls_of scope methods n) (CallsCome scope methods n) m v 0 b rs)) x
      by_body hv None f g k = absurd k
      by_body hv (Some b) f g k =
          let hc = calls_hold scope ok methods typed small n in
          let i = body_visited (calls_of scope methods n) (range_calls_of scope methods n) (CallsCome scope methods n) (CallsExecute scope methods n) hc
          hv m x b 0 rs z env w only (found_method (IsTypedBody scope methods) methods typed m b f)
          (found_method AreSmallTerms methods small m b f) g k in
          wider scope _ _ x (λ v c. some_of (body_named methods m) b (λ b. BodyComes scope (range_calls_of scope methods n) (CallsCome scope methods n) m v 0 b rs) f c) i

-- ---- the whole

pub executed_visited : ExecutedAreVisited
executed_visited f limits ranges typed counts have e inputs admitted x ex =
    let types = has_types f typed in
    let scope = scope_of f in
    let ok = sound_scope f types in
    let hold = calls_hold scope ok f.methods types.methods counts.terms longest_chain in
    let visited = calls_visited scope ok f.methods types.methods counts.terms longest_chain in
    let ends = stepped (walked scope (range_calls_in f) main_name 0 f.main (start_ranges f limits)) (λ ends. unless_unbounded (output_ranges f ends)) ranges e in
    body_visited scope ok f.methods (calls_in f) (range_calls_in f) (CallsCome scope f.methods longest_chain) (CallsExecute scope f.methods longest_chain) hold visited main_name x f.main 0 (start_ranges f limits) ends.0 (start f inputs)
    (start_inside f limits inputs have admitted) (start_variables f limits inputs admitted) types.main counts.main_terms ends.1 ex
