-- What a list of statements does, costs and counts depends on the methods that it executes alone.
use Rattle.std.proofs.Common.{◌≡◌, ℕ, ◌+◌, Bool, true, false, List, Option, Some, None, ap, ◌∙◌, refl, sym, arith}
use Rattle.std.specs.Prelude.{if◌then◌else◌, max}
use Rattle.std.specs.Option.{option_and_then, option_map_or}
use Rattle.scaled_decimal.specs.Decimals.{Decimal}
use Rattle.pap_tree.specs.Flowchart.{Body, done, eval, branch, execute}
use Rattle.pap_types.specs.Scopes.{Scope}
use Rattle.pap_types.specs.Operations.{is_zero}
use Rattle.pap_types.specs.Values.{Env, value, cost}
use Rattle.pap_types.specs.Runs.{Calls, assigned, after, spent, IsSafeBody}
use Rattle.pap_types.specs.Bounds.{term_bound, body_bound}
use Rattle.call_order.specs.Expanded.{expanded}
use Rattle.call_order.specs.ChainLaws.{DoTheSame}
use Rattle.call_order.specs.Executed.{EachExecuted}

pub and_then_same : {A B : Type 0} (o : Option A) (f g : A → Option B) → ((v : A) → f v ≡ g v) → option_and_then f o ≡ option_and_then g o
and_then_same None f g h = refl
and_then_same (Some v) f g h = h v

pub map_or_same : {A : Type 0} (o : Option A) (f g : A → ℕ) → ((v : A) → o ≡ Some v → f v ≡ g v) → option_map_or f o 0 ≡ option_map_or g o 0
map_or_same None f g h = refl
map_or_same (Some v) f g h = h v refl

either_same : {A : Type 0} (t : Bool) (a b x y : A) → a ≡ x → b ≡ y → (if t then a else b) ≡ (if t then x else y)
either_same true a b x y p q = p
either_same false a b x y p q = q

-- ---- counts

module _ (c d : List ℕ → ℕ) where
  abbrev Agree : List ℕ → Type 0
  Agree x = c x ≡ d x

  pub expanded_same : (b : Body) → EachExecuted Agree b → expanded c b ≡ expanded d b
  expanded_same done h = refl
  expanded_same (eval x e rest) h = ap (λ n. 1 + n) (expanded_same rest h)
  expanded_same (branch t a b rest) h =
      let p = expanded_same a h.0 in
      let q = expanded_same b h.1 in
      let r = expanded_same rest h.2 in
      omega (arith, p, q, r)
  expanded_same (execute m rest) h = let p = h.0 in let r = expanded_same rest h.1 in omega (arith, p, r)

  pub bound_same : (b : Body) → EachExecuted Agree b → body_bound c b ≡ body_bound d b
  bound_same done h = refl
  bound_same (eval x e rest) h = ap (λ n. term_bound e + 1 + n) (bound_same rest h)
  bound_same (branch t a b rest) h =
      let p = bound_same a h.0 in
      let q = bound_same b h.1 in
      let r = bound_same rest h.2 in
      ap (λ n. term_bound t + 1 + max (n + 1) (body_bound c b) + body_bound c rest) p
      ∙ ap (λ n. term_bound t + 1 + max (body_bound d a + 1) n + body_bound c rest) q
      ∙ ap (λ n. term_bound t + 1 + max (body_bound d a + 1) (body_bound d b) + n) r
  bound_same (execute m rest) h = let p = h.0 in let r = bound_same rest h.1 in omega (arith, p, r)

-- ---- runs

module _ (scope : Scope) where
  abbrev pub Same : Calls → Calls → List ℕ → Type 0
  Same c d x = (env : Env) → DoTheSame c d x env

  pub turned : (c d : Calls) (x : List ℕ) → Same c d x → Same d c x
  turned c d x h = λ env. record { after = sym (h env).after; spent = sym (h env).spent; safe_in = (h env).safe_out; safe_out = (h env).safe_in }

  pub after_same : (c d : Calls) (b : Body) → EachExecuted (Same c d) b → (env : Env) → after scope c b env ≡ after scope d b env
  after_same c d done h env = refl
  after_same c d (eval x e rest) h env =
      and_then_same (value scope e env) (λ v. after scope c rest (assigned scope x v env)) (λ v. after scope d rest (assigned scope x v env)) (λ v. after_same c d rest h (assigned scope x v env))
  after_same c d (branch t a b rest) h env =
      let both : (v : Decimal) → (if is_zero v then after scope c b env else after scope c a env) ≡ (if is_zero v then after scope d b env else after scope d a env) =
      λ (v : Decimal). either_same (is_zero v) (after scope c b env) (after scope c a env) (after scope d b env) (after scope d a env) (after_same c d b h.1 env) (after_same c d a h.0 env) in
      and_then_same (value scope t env) (λ v. option_and_then (after scope c rest) (if is_zero v then after scope c b env else after scope c a env)) (λ v. option_and_then (after scope d rest) (if is_zero v then after scope d b env else after scope d a env)) (λ v.
      ap (option_and_then (after scope c rest)) (both v) ∙ and_then_same (if is_zero v then after scope d b env else after scope d a env) (after scope c rest) (after scope d rest) (after_same c d rest h.2))
  after_same c d (execute m rest) h env =
      ap (option_and_then (after scope c rest)) (h.0 env).after
      ∙ and_then_same (d.after m env) (after scope c rest) (after scope d rest) (after_same c d rest h.1)

  ends_same : (c d : Calls) (a b : Body) → EachExecuted (Same c d) a → EachExecuted (Same c d) b → (env : Env) (v : Decimal) → (if is_zero v then after scope c b env else after scope c a env) ≡ (if is_zero v then after scope d b env else after scope d a env)
  ends_same c d a b h k env v =
      either_same (is_zero v) (after scope c b env) (after scope c a env) (after scope d b env) (after scope d a env) (after_same c d b k env) (after_same c d a h env)

  pub spent_same : (c d : Calls) (b : Body) → EachExecuted (Same c d) b → (env : Env) → spent scope c b env ≡ spent scope d b env
  spent_same c d done h env = refl
  spent_same c d (eval x e rest) h env =
      ap (λ n. cost scope e env + 1 + n)
      (map_or_same (value scope e env) (λ v. spent scope c rest (assigned scope x v env)) (λ v. spent scope d rest (assigned scope x v env)) (λ v is. spent_same c d rest h (assigned scope x v env)))
  spent_same c d (branch t a b rest) h env =
      ap (λ n. cost scope t env + 1 + n)
      (map_or_same
      (value scope t env)
      (λ v. (if is_zero v then spent scope c b env else spent scope c a env + 1) + option_map_or (spent scope c rest) (if is_zero v then after scope c b env else after scope c a env) 0)
      (λ v. (if is_zero v then spent scope d b env else spent scope d a env + 1) + option_map_or (spent scope d rest) (if is_zero v then after scope d b env else after scope d a env) 0)
      (λ v is.
      let ends = ends_same c d a b h.0 h.1 env v in
      let here = either_same (is_zero v) (spent scope c b env) (spent scope c a env + 1) (spent scope d b env) (spent scope d a env + 1) (spent_same c d b h.1 env) (ap (λ n. n + 1) (spent_same c d a h.0 env)) in
      let later = ap (λ o. option_map_or (spent scope c rest) o 0) ends ∙ map_or_same (if is_zero v then after scope d b env else after scope d a env) (spent scope c rest) (spent scope d rest) (λ r eq. spent_same c d rest h.2 r) in
      omega (arith, here, later)))
  spent_same c d (execute m rest) h env =
      let here = (h.0 env).spent in
      let later = ap (λ o. option_map_or (spent scope c rest) o 0) (h.0 env).after ∙ map_or_same (d.after m env) (spent scope c rest) (spent scope d rest) (λ r eq. spent_same c d rest h.1 r) in
      omega (arith, here, later)

  pub safe_same : (c d : Calls) (b : Body) → EachExecuted (Same c d) b → (env : Env) → IsSafeBody scope c b env → IsSafeBody scope d b env
  safe_same c d done h env s = tt
  safe_same c d (eval x e rest) h env s = (s.0, λ v is. safe_same c d rest h (assigned scope x v env) (s.1 v is))
  safe_same c d (branch t a b rest) h env s = (
    s.0,
    λ v is.
        let k = s.1 v is in (
          λ z. safe_same c d b h.1 env (k.0 z),
          λ z. safe_same c d a h.0 env (k.1 z),
          λ ends e. safe_same c d rest h.2 ends (k.2 ends (ends_same c d a b h.0 h.1 env v ∙ e)),
        ),
  )
  safe_same c d (execute m rest) h env s = (
    (h.0 env).safe_in s.0,
    λ ends e. safe_same c d rest h.1 ends (s.1 ends ((h.0 env).after ∙ e)),
  )
