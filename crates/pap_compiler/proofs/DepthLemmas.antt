-- Depths, taken apart, and by an order.
use Rattle.std.proofs.Common.{◌≡◌, ◌≢◌, Bool, true, false, if◌then◌else◌, inl, inr, ℕ, zero, suc, ◌+◌, ◌<◌, ◌≤◌, max, List, [], ◌∷◌, length, take, drop, get_or, Option, Some, None, refl, sym, ap, ◌∙◌, subst, arith}
use Rattle.std.specs.Prelude.{slice_get, slice_set, slice_index, Contains}
use Rattle.std.specs.Option.{option_map, option_map_or}
use Rattle.std.specs.Str.{bytes_eq}
use Rattle.std.proofs.lemmas.Bool.{cases_eq, false_from_ne_true}
use Rattle.std.proofs.lemmas.List.{length-map, length-set, take_all, length-take-le, get_or-take, get_or_default, get_or-set_same, get_or-set_other}
use Rattle.std.proofs.lemmas.Option.{slice_get_within}
use Rattle.pap_tree.specs.declared.plan.Stmt.{Stmt, Eval, If', Execute}
use Rattle.pap_tree.specs.Flowchart.{Body, done, eval, branch, execute, body_of, stmt_then, Routine, Flowchart}
use Rattle.pap_tree.proofs.Laws.{stmt_at}
use Rattle.pap_types.specs.Scopes.{number_of}
use Rattle.pap_types.specs.Routines.{body_named, method_names}
use Rattle.pap_types.specs.Checks.{IsWellTyped}
use Rattle.pap_types.specs.Typing.{AreDistinct}
use Rattle.pap_types.proofs.Laws.{has_types}
use Rattle.call_order.specs.Graphs.{content_of}
use Rattle.call_order.specs.Executed.{EachExecuted, StandsIn}
use Rattle.call_order.specs.Orders.{IsOrdered}
use Rattle.call_order.proofs.Laws.{by_bounds, calls_stand}
use Rattle.pap_compiler.specs.Depths.{body_depth, method_depth, depth_of}
use Rattle.pap_compiler.specs.private.DepthViews.{depth_at, AreSmall}
use Rattle.pap_compiler.proofs.NameLemmas.{place_of, number_is, same_bytes, bytes_same}

module _ (call : List ℕ → ℕ) where
  pub depth_then : (s : Stmt) (rest : Body) → body_depth call (stmt_then s rest) ≡ max (body_depth call (stmt_then s done)) (body_depth call rest)
  depth_then (Eval x e) rest = omega arith
  depth_then (If' t m ys n zs) rest = omega arith
  depth_then (Execute x) rest = omega arith

  -- the statements from a place on
  pub depth_from : (ss : List Stmt) (k : ℕ) (s : Stmt) → s ≡ get_or ss k s → k < length ss → body_depth call (body_of (drop k ss)) ≡ max (body_depth call (stmt_then s done)) (body_depth call (body_of (drop (k + 1) ss)))
  depth_from ss k s is lt = ap (body_depth call) (stmt_at ss k s is lt) ∙ depth_then s (body_of (drop (k + 1) ss))

-- depths that agree of all that is executed
depth_same : (one other : List ℕ → ℕ) (b : Body) → EachExecuted (λ m. one m ≡ other m) b → body_depth one b ≡ body_depth other b
depth_same one other done h = refl
depth_same one other (eval x e rest) h = depth_same one other rest h
depth_same one other (branch t a b rest) h =
    let i = depth_same one other a h.0 in
    let j = depth_same one other b h.1 in
    let k = depth_same one other rest h.2 in
    ap (λ n. max (max n (body_depth one b)) (body_depth one rest)) i ∙ ap (λ n. max (max (body_depth other a) n) (body_depth one rest)) j ∙ ap (λ n. max (max (body_depth other a) (body_depth other b)) n) k
depth_same one other (execute m rest) h = ap (λ n. max (n + 1) (body_depth one rest)) h.0 ∙ ap (λ n. max (other m + 1) n) (depth_same one other rest h.1)

-- what bounds the methods bounds a list of statements, and one call more
depth_below : (call : List ℕ → ℕ) (n : ℕ) → ((m : List ℕ) → call m ≤ n) → (b : Body) → body_depth call b ≤ n + 1
depth_below call n h done = omega arith
depth_below call n h (eval x e rest) = depth_below call n h rest
depth_below call n h (branch t a b rest) = omega (arith, depth_below call n h a, depth_below call n h b, depth_below call n h rest)
depth_below call n h (execute m rest) = omega (arith, h m, depth_below call n h rest)

pub method_below : (ms : List Routine) (n : ℕ) (m : List ℕ) → method_depth ms n m ≤ n
unfolding method_depth
method_below ms zero m = omega arith
method_below ms (suc n) m = by_body (body_named ms m) (λ b. depth_below (method_depth ms n) n (method_below ms n) b)
  where
    by_body : (o : Option Body) → ((b : Body) → body_depth (method_depth ms n) b ≤ n + 1) → option_map_or (body_depth (method_depth ms n)) o 0 ≤ suc n
    by_body None low = omega arith
    by_body (Some b) low = omega (arith, low b)

-- ---- methods by number

body_at : (ms : List Routine) (y : List ℕ) (k : ℕ) (m : Routine) → place_of (method_names ms) y ≡ Some k → slice_get ms k ≡ Some m → body_named ms y ≡ Some m.body
body_at [] y k m e is = absurd (cc)
body_at (r ∷ ms) y k m e is = by_name (bytes_eq y r.name) (place_of (method_names ms) y) (λ j g. body_at ms y j m g) k e is
  where
    by_name : (t : Bool) (o : Option ℕ) → ((j : ℕ) → o ≡ Some j → slice_get ms j ≡ Some m → body_named ms y ≡ Some m.body) → (k : ℕ) → (if t then Some 0 else option_map suc o) ≡ Some k → slice_get (r ∷ ms) k ≡ Some m → (if t then Some r.body else body_named ms y) ≡ Some m.body
    by_name true o later zero e is = let same : r ≡ m = cc in ap (λ q. Some q.body) same
    by_name true o later (suc k) e is = absurd (cc)
    by_name false None later k e is = absurd (cc)
    by_name false (Some j) later zero e is = absurd (cc)
    by_name false (Some j) later (suc k) e is = let same : j ≡ k = cc in later j refl (subst (λ i. slice_get ms i ≡ Some m) (sym same) is)

-- a method stands at the number of its name
own_place : (ms : List Routine) (k : ℕ) (m : Routine) → AreDistinct (method_names ms) → slice_get ms k ≡ Some m → place_of (method_names ms) m.name ≡ Some k
own_place [] k m h is = absurd (cc)
own_place (r ∷ ms) zero m h is =
    let same : r ≡ m = cc in
    subst (λ q. place_of (method_names (r ∷ ms)) q.name ≡ Some 0) same (rw (bytes_same r.name) refl)
own_place (r ∷ ms) (suc k) m h is =
    let later = own_place ms k m (λ i j d lt l. h (suc i) (suc j) d (omega (arith, lt)) (omega (arith, l))) is in
    let within : k < length ms = slice_get_within ms k m is in
    let named : get_or (method_names ms) k [] ≡ m.name = name_at ms k m is in
    let apart : r.name ≢ m.name = λ e. h 0 (suc k) [] (omega arith) (omega (arith, within, length-map ms (λ q. q.name))) (e ∙ sym named) in
    let other : bytes_eq m.name r.name ≡ false = false_from_ne_true (bytes_eq m.name r.name) (λ t. apart (sym (same_bytes m.name r.name t))) in
    rw (other, later) refl
  where
    name_at : (ms : List Routine) (k : ℕ) (m : Routine) → slice_get ms k ≡ Some m → get_or (method_names ms) k [] ≡ m.name
    name_at [] k m is = absurd (cc)
    name_at (r ∷ ms) zero m is = let same : r ≡ m = cc in ap (λ q. q.name) same
    name_at (r ∷ ms) (suc k) m is = name_at ms k m is

-- ---- by an order

each_of : (P Q : List ℕ → Type 0) → ((m : List ℕ) → P m → Q m) → (b : Body) → EachExecuted P b → EachExecuted Q b
each_of P Q f done h = tt
each_of P Q f (eval x e rest) h = each_of P Q f rest h
each_of P Q f (branch t a b rest) h = (each_of P Q f a h.0, each_of P Q f b h.1, each_of P Q f rest h.2)
each_of P Q f (execute m rest) h = (f m h.0, each_of P Q f rest h.1)

more_depth : (ms : List Routine) (n k : ℕ) (x : List ℕ) → ((b : Body) → body_named ms x ≡ Some b → EachExecuted (λ y. method_depth ms n y ≡ method_depth ms k y) b) → method_depth ms (suc n) x ≡ method_depth ms (suc k) x
unfolding method_depth
more_depth ms n k x h = by_body (body_named ms x) (λ b is. depth_same (method_depth ms n) (method_depth ms k) b (h b is))
  where
    by_body : (o : Option Body) → ((b : Body) → o ≡ Some b → body_depth (method_depth ms n) b ≡ body_depth (method_depth ms k) b) → option_map_or (body_depth (method_depth ms n)) o 0 ≡ option_map_or (body_depth (method_depth ms k)) o 0
    by_body None f = refl
    by_body (Some b) f = f b refl

depth_step : (ms : List Routine) (n : ℕ) (x : List ℕ) (b : Body) → body_named ms x ≡ Some b → method_depth ms (suc n) x ≡ body_depth (method_depth ms n) b
unfolding method_depth
depth_step ms n x b is = ap (λ o. option_map_or (body_depth (method_depth ms n)) o 0) is

-- the first methods of the order have their depths
pub record AreDepths (f : Flowchart) (order : List ℕ) (k : ℕ) (depths : List ℕ) : Type 0 where
  pub all : length depths ≡ length f.methods
  pub small : AreSmall depths
  pub ready : (y : List ℕ) (i : ℕ) → number_of (method_names f.methods) y ≡ Some i → Contains (take k order) i → slice_index depths i ≡ method_depth f.methods 64 y

module _ (f : Flowchart) (typed : IsWellTyped f) (order : List ℕ) (ordered : IsOrdered f order) where
  -- the depth of a method is that of its body
  depth_closed : (x : List ℕ) (b : Body) → body_named f.methods x ≡ Some b → method_depth f.methods 64 x ≡ body_depth (method_depth f.methods 64) b
  depth_closed x b is = by_bounds f typed ordered.chains (λ n k y. method_depth f.methods n y ≡ method_depth f.methods k y) (more_depth f.methods) 65 (omega arith) x b is ∙ depth_step f.methods 64 x b is

  -- what a list of statements executes has its depth
  same_depth : (k : ℕ) (depths : List ℕ) (b : Body) → AreDepths f order k depths → EachExecuted (StandsIn f (take k order)) b → body_depth (depth_at f depths) b ≡ body_depth (method_depth f.methods 64) b
  same_depth k depths b h each =
      depth_same (depth_at f depths) (method_depth f.methods 64) b
      (each_of (StandsIn f (take k order)) (λ m. depth_at f depths m ≡ method_depth f.methods 64 m) (λ m s. ap (λ o. option_map_or (slice_index depths) o 0) s.1 ∙ h.ready m s.0 s.1 s.2) b each)

  pub main_depth : (depths : List ℕ) → AreDepths f order (length order) depths → body_depth (depth_at f depths) f.main ≡ depth_of f
  main_depth depths h =
      let whole : take (length order) order ≡ order = take_all (length order) order (omega arith) in
      same_depth (length order) depths f.main h (subst (λ l. EachExecuted (StandsIn f l) f.main) (sym whole) (calls_stand f order typed ordered).main)

  pub within : (k : ℕ) → k < length order → slice_index order k < length f.methods
  within k lt = let l = ordered.ordered.known k 0 lt in omega (arith, l, length-map f.methods (λ m. content_of f.methods m.body))

  -- the next method
  next_depth : (k : ℕ) (depths : List ℕ) (m : Routine) (y : List ℕ) → AreDepths f order k depths → k < length order → slice_get f.methods (slice_index order k) ≡ Some m → number_of (method_names f.methods) y ≡ Some (slice_index order k) → body_depth (depth_at f depths) m.body ≡ method_depth f.methods 64 y
  next_depth k depths m y h lt is number =
      same_depth k depths m.body h ((calls_stand f order typed ordered).before k lt m is)
      ∙ sym (depth_closed y m.body (body_at f.methods y (slice_index order k) m (sym (number_is (method_names f.methods) y) ∙ number) is))

  pub one_deeper : (k : ℕ) (depths : List ℕ) (m : Routine) (v : ℕ) → AreDepths f order k depths → k < length order → slice_get f.methods (slice_index order k) ≡ Some m → v ≡ body_depth (depth_at f depths) m.body → AreDepths f order (k + 1) (slice_set depths (slice_index order k) v)
  one_deeper k depths m v h lt is e =
      let at = slice_index order k in
      let distinct : AreDistinct (method_names f.methods) = λ i j d l less. (has_types f typed).method_names (suc i) (suc j) d (omega (arith, l)) (omega (arith, less)) in
      let own : number_of (method_names f.methods) m.name ≡ Some at = number_is (method_names f.methods) m.name ∙ own_place f.methods at m distinct is in
      let low : v ≤ 64 = omega (arith, e, next_depth k depths m m.name h lt is own, method_below f.methods 64 m.name) in
      let inside : at < length depths = omega (arith, within k lt, h.all) in
      record {
        all = length-set depths at v ∙ h.all;
        small = λ i d l. elim (cases_eq i at) [
          | inl same ↦ subst (λ n. n ≤ 64) (sym (ap (λ j. get_or (slice_set depths at v) j d) same ∙ get_or-set_same depths at v d inside)) low
          | inr other ↦ subst (λ n. n ≤ 64) (sym (get_or-set_other depths at i v d other)) (h.small i d (omega (arith, l, length-set depths at v)))
        ];
        ready = λ y i number c. elim (cases_eq i at) [
          | inl same ↦ ap (slice_index (slice_set depths at v)) same ∙ get_or-set_same depths at v 0 inside ∙ e ∙ next_depth k depths m y h lt is (number ∙ ap Some same)
          | inr other ↦ get_or-set_other depths at i v 0 other ∙ h.ready y i number (sooner k i lt other c)
        ];
      }
    where
      sooner : (k i : ℕ) → k < length order → i ≢ slice_index order k → Contains (take (k + 1) order) i → Contains (take k order) i
      sooner k i lt other c =
          let j = c.0 in
          let size = length-take-le (k + 1) order (omega (arith, lt)) in
          let less : j < k + 1 = omega (arith, c.1, size) in
          let there : get_or order j i ≡ i = sym (get_or-take (k + 1) order j i less) ∙ c.2 in
          elim (cases_eq j k) [
            | inl same ↦ absurd (other (sym there ∙ ap (λ n. get_or order n i) same ∙ get_or_default order k i 0 lt))
            | inr apart ↦ (let before : j < k = omega (arith, less, apart) in (j, omega (arith, before, length-take-le k order (omega (arith, lt))), get_or-take k order j i before ∙ there))
          ]
