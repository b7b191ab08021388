-- The bound on chains in the definitions leaves nothing out: where no chain is longer, what a method does, how long it
-- is and what it costs at most are those of its body, and a greater bound changes nothing.
use Rattle.std.specs.Prelude.{◌≡◌, ℕ, ◌≤◌, List, Some}
use Rattle.pap_tree.specs.Flowchart.{Body, Flowchart}
use Rattle.pap_types.specs.Scopes.{Scope, scope_of}
use Rattle.pap_types.specs.Values.{Env}
use Rattle.pap_types.specs.Routines.{body_named}
use Rattle.pap_types.specs.Runs.{Calls, after, spent, IsSafeBody, calls_of}
use Rattle.pap_types.specs.Bounds.{body_bound, method_bound}
use Rattle.pap_types.specs.Limits.{longest_chain}
use Rattle.pap_types.specs.Meaning.{calls_in}
use Rattle.pap_types.specs.Checks.{IsWellTyped}
use Rattle.call_order.specs.Expanded.{expanded, expanded_of}
use Rattle.call_order.specs.Orders.{HasShortChains}

-- a name is that of the method of this body
abbrev pub NamesBody : Flowchart → List ℕ → Body → Type 0
NamesBody f m b = body_named f.methods m ≡ Some b

-- what a method does is what its body does
pub record DoesAsBody (f : Flowchart) (m : List ℕ) (b : Body) (env : Env) : Type 0 where
  pub after : (calls_in f).after m env ≡ after (scope_of f) (calls_in f) b env
  pub spent : (calls_in f).spent m env ≡ spent (scope_of f) (calls_in f) b env
  pub safe_in : (calls_in f).IsSafeCall m env → IsSafeBody (scope_of f) (calls_in f) b env
  pub safe_out : IsSafeBody (scope_of f) (calls_in f) b env → (calls_in f).IsSafeCall m env

-- the methods do the same with either
pub record DoTheSame (one other : Calls) (m : List ℕ) (env : Env) : Type 0 where
  pub after : one.after m env ≡ other.after m env
  pub spent : one.spent m env ≡ other.spent m env
  pub safe_in : one.IsSafeCall m env → other.IsSafeCall m env
  pub safe_out : other.IsSafeCall m env → one.IsSafeCall m env

-- a list of statements does the same with either
pub record BodyDoesTheSame (scope : Scope) (one other : Calls) (b : Body) (env : Env) : Type 0 where
  pub after : after scope one b env ≡ after scope other b env
  pub spent : spent scope one b env ≡ spent scope other b env
  pub safe_in : IsSafeBody scope one b env → IsSafeBody scope other b env
  pub safe_out : IsSafeBody scope other b env → IsSafeBody scope one b env

-- with another bound on chains every method and MAIN do, cost at most and count the same
pub record IsSameBound (f : Flowchart) (n : ℕ) : Type 0 where
  pub main_does : (env : Env)
      → BodyDoesTheSame (scope_of f) (calls_of (scope_of f) f.methods n) (calls_in f) f.main env
  pub main_bound :
      body_bound (method_bound f.methods n) f.main ≡ body_bound (method_bound f.methods longest_chain) f.main
  pub main_expanded :
      expanded (expanded_of f.methods n) f.main ≡ expanded (expanded_of f.methods longest_chain) f.main
  pub does : (m : List ℕ) (b : Body) → NamesBody f m b → (env : Env)
      → DoTheSame (calls_of (scope_of f) f.methods n) (calls_in f) m env
  pub bound : (m : List ℕ) (b : Body) → NamesBody f m b
      → method_bound f.methods n m ≡ method_bound f.methods longest_chain m
  pub expanded : (m : List ℕ) (b : Body) → NamesBody f m b
      → expanded_of f.methods n m ≡ expanded_of f.methods longest_chain m

-- each method by its body, and any bound from 64 on as good
pub record AreClosed (f : Flowchart) : Type 0 where
  pub does : (m : List ℕ) (b : Body) → NamesBody f m b → (env : Env) → DoesAsBody f m b env
  pub bound : (m : List ℕ) (b : Body) → NamesBody f m b
      → method_bound f.methods longest_chain m ≡ body_bound (method_bound f.methods longest_chain) b
  pub expanded : (m : List ℕ) (b : Body) → NamesBody f m b
      → expanded_of f.methods longest_chain m ≡ expanded (expanded_of f.methods longest_chain) b
  pub longer : (n : ℕ) → longest_chain ≤ n → IsSameBound f n

-- in a well-typed plan none of whose chains is too long the methods are closed
abbrev pub ChainsClose : Type 0
ChainsClose = (f : Flowchart) → IsWellTyped f → HasShortChains f → AreClosed f
