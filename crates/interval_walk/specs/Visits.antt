-- Where the walk over ranges comes, and which statements a run executes. Source: the soundness of an abstract interpretation: it
-- comes to each statement that a run executes, with ranges in which the values of the variables lie there, and what it finds of
-- the statement there holds of the run.
use Rattle.std.specs.Prelude.{◌≡◌, ℕ, zero, suc, ◌+◌, ◌⊎◌, Bool, true, false, not, if◌then◌else◌, List, IsSome, IsSomeAnd, IsOkAnd, Ok}
use Rattle.std.specs.Option.{option_map_or}
use Rattle.scaled_decimal.specs.Decimals.{Decimal}
use Rattle.pap_tree.specs.Flowchart.{Flowchart, Body, done, eval, branch, execute, Routine}
use Rattle.pap_tree.specs.Names.{main_name}
use Rattle.pap_tree.specs.Statements.{written}
use Rattle.limits_file.specs.declared.limits.Limits.{Limits}
use Rattle.pap_types.specs.Checks.{IsWellTyped}
use Rattle.pap_types.specs.Counts.{IsWithinCounts}
use Rattle.pap_types.specs.Limits.{longest_chain}
use Rattle.pap_types.specs.Meaning.{calls_in, start}
use Rattle.pap_types.specs.Operations.{is_zero}
use Rattle.pap_types.specs.Routines.{body_named}
use Rattle.pap_types.specs.Runs.{Calls, after, assigned, calls_of}
use Rattle.pap_types.specs.Scopes.{Scope, scope_of, declared_as, kept_as}
use Rattle.pap_types.specs.Values.{Env, value}
use Rattle.interval_num.specs.Intervals.{Interval, Contains}
use Rattle.interval_walk.specs.Ranges.{Ranges}
use Rattle.interval_walk.specs.Ranged.{ranged, tested}
use Rattle.interval_walk.specs.Walked.{RangeCalls, kept_range, assigned_range, walked, range_calls_of}
use Rattle.interval_walk.specs.Analysis.{start_ranges, range_calls_in, analysed}
use Rattle.interval_walk.specs.Admission.{HaveLimits, AreAdmitted}
use Rattle.interval_walk.specs.Soundness.{AreWithin}

-- ---- the walk

-- a statement of a method to which the walk comes, as a list of it alone, and the ranges of the variables there
pub record Visit : Type 0 where
  pub method : List ℕ
  pub number : ℕ
  pub statement : Body
  pub ranges : Ranges

module _ (scope : Scope) (call : RangeCalls) (CallComes : List ℕ → Ranges → Visit → Type 0)
    (name : List ℕ) (v : Visit) where
  -- this is the visit of a statement, which has a number
  abbrev pub IsVisitOf : ℕ → Body → Ranges → Type 0
  IsVisitOf at s rs = v ≡ record { method = name; number = at; statement = s; ranges = rs }

  -- the walk of a list of statements, which are numbered from `at`, comes there
  abbrev pub BodyComes : ℕ → Body → Ranges → Type 0
  BodyComes at done rs = ⊥
  BodyComes at (eval x e rest) rs =
      IsVisitOf at (eval x e done) rs
      ⊎ IsOkAnd (ranged scope e 0 rs) (λ a. BodyComes (at + 1) rest (assigned_range scope x a rs))
  BodyComes at (branch t a b rest) rs =
      IsVisitOf at (branch t a b done) rs
      ⊎ IsOkAnd (tested scope t 0 rs) (λ br.
      IsSomeAnd br.holds (BodyComes (at + 1) a) ⊎ IsSomeAnd br.fails (BodyComes (at + 1 + written a) b))
      ⊎ IsOkAnd (walked scope call name at (branch t a b done) rs)
      (BodyComes (at + 1 + written a + written b) rest)
  BodyComes at (execute m rest) rs =
      IsVisitOf at (execute m done) rs
      ⊎ CallComes m rs v
      ⊎ IsOkAnd (call m rs) (BodyComes (at + 1) rest)

-- the walk of a method comes there, where a chain of methods has at most so many
unfoldable pub CallsCome : Scope → List Routine → ℕ → List ℕ → Ranges → Visit → Type 0
CallsCome scope ms zero m rs v = ⊥
CallsCome scope ms (suc n) m rs v =
    IsSomeAnd (body_named ms m) (λ b.
    BodyComes scope (range_calls_of scope ms n) (CallsCome scope ms n) m v 0 b rs)

-- the walk of a plan comes there
abbrev pub WalkComes : Flowchart → Limits → Visit → Type 0
WalkComes f limits v =
    BodyComes (scope_of f) (range_calls_in f) (CallsCome (scope_of f) f.methods longest_chain) main_name v 0 f.main
    (start_ranges f limits)

-- ---- a run

-- a statement of a method that a run executes, as a list of it alone, and the variables there
pub record Execution : Type 0 where
  pub method : List ℕ
  pub number : ℕ
  pub statement : Body
  pub variables : Env

module _ (scope : Scope) (calls : Calls) (CallExecutes : List ℕ → Env → Execution → Type 0)
    (name : List ℕ) (x : Execution) where
  -- this is the execution of a statement, which has a number
  abbrev pub IsExecutionOf : ℕ → Body → Env → Type 0
  IsExecutionOf at s env = x ≡ record { method = name; number = at; statement = s; variables = env }

  -- the run of a list of statements, which are numbered from `at`, executes it
  abbrev pub BodyExecutes : ℕ → Body → Env → Type 0
  BodyExecutes at done env = ⊥
  BodyExecutes at (eval y e rest) env =
      IsExecutionOf at (eval y e done) env
      ⊎ IsSomeAnd (value scope e env) (λ d. BodyExecutes (at + 1) rest (assigned scope y d env))
  BodyExecutes at (branch t a b rest) env =
      IsExecutionOf at (branch t a b done) env
      ⊎ IsSomeAnd (value scope t env) (λ d.
      ((is_zero d ≡ false) × BodyExecutes (at + 1) a env)
      ⊎ ((is_zero d ≡ true) × BodyExecutes (at + 1 + written a) b env))
      ⊎ IsSomeAnd (after scope calls (branch t a b done) env)
      (BodyExecutes (at + 1 + written a + written b) rest)
  BodyExecutes at (execute m rest) env =
      IsExecutionOf at (execute m done) env
      ⊎ CallExecutes m env x
      ⊎ IsSomeAnd (calls.after m env) (BodyExecutes (at + 1) rest)

-- the run of a method executes it, where a chain of methods has at most so many
unfoldable pub CallsExecute : Scope → List Routine → ℕ → List ℕ → Env → Execution → Type 0
CallsExecute scope ms zero m env x = ⊥
CallsExecute scope ms (suc n) m env x =
    IsSomeAnd (body_named ms m) (λ b.
    BodyExecutes scope (calls_of scope ms n) (CallsExecute scope ms n) m x 0 b env)

-- the run of a plan on these inputs executes it
abbrev pub RunExecutes : Flowchart → List Decimal → Execution → Type 0
RunExecutes f inputs x =
    BodyExecutes (scope_of f) (calls_in f) (CallsExecute (scope_of f) f.methods longest_chain) main_name x 0 f.main
    (start f inputs)

-- ---- what a statement does

module _ (scope : Scope) where
  -- the statement is an EVAL; from these ranges it puts this one, as its variable keeps it
  abbrev pub PutsRange : Body → Ranges → Interval → Type 0
  PutsRange (eval x e rest) rs a = IsOkAnd (ranged scope e 0 rs) (λ r. a ≡ kept_range scope x r)
  PutsRange _ rs a = ⊥

  -- the statement is an IF, which leaves an exit open from these ranges: where its test holds, or where it fails
  abbrev pub LeavesOpen : Body → Ranges → (holds : Bool) → Type 0
  LeavesOpen (branch t a b rest) rs holds =
      IsOkAnd (tested scope t 0 rs) (λ br. IsSome (if holds then br.holds else br.fails))
  LeavesOpen _ rs holds = ⊥

  -- a value as the variable of a name keeps it
  abbrev pub kept_value : List ℕ → Decimal → Decimal
  kept_value x v = option_map_or (λ d. kept_as d.kind v) (declared_as scope.variables x) v

  -- the statement is an EVAL; from these variables it puts this value, as its variable keeps it
  abbrev pub PutsValue : Body → Env → Decimal → Type 0
  PutsValue (eval x e rest) env d = IsSomeAnd (value scope e env) (λ v. d ≡ kept_value x v)
  PutsValue _ env d = ⊥

  -- the statement is an IF; from these variables it takes an exit: that where its test holds, or that where it fails
  abbrev pub TakesExit : Body → Env → (holds : Bool) → Type 0
  TakesExit (branch t a b rest) env holds = IsSomeAnd (value scope t env) (λ d. is_zero d ≡ not holds)
  TakesExit _ env holds = ⊥

-- ---- the law

-- the range that is put at a visit has this value
pub record IsPutWithin (scope : Scope) (v : Visit) (d : Decimal) : Type 0 where
  pub range : Interval
  pub puts : PutsRange scope v.statement v.ranges range
  pub inside : Contains range d

-- what an execution puts lies in the range that is put at a visit, and the exit that it takes is open there
pub record IsForeseen (scope : Scope) (v : Visit) (x : Execution) : Type 0 where
  pub puts : (d : Decimal) → PutsValue scope x.statement x.variables d → IsPutWithin scope v d
  pub takes : (holds : Bool) → TakesExit scope x.statement x.variables holds
      → LeavesOpen scope v.statement v.ranges holds

-- the walk comes to the statement of an execution, with ranges in which the variables lie there, and foresees what it does
pub record IsVisited (scope : Scope) (Comes : Visit → Type 0) (x : Execution) : Type 0 where
  pub visit : Visit
  pub comes : Comes visit
  pub method : visit.method ≡ x.method
  pub number : visit.number ≡ x.number
  pub statement : visit.statement ≡ x.statement
  pub inside : AreWithin visit.ranges x.variables
  pub foreseen : IsForeseen scope visit x

-- Where the walk of a well-typed plan passes, it comes to each statement that a run on admitted inputs executes: the value that an
-- EVAL puts lies in the range that the walk puts there, and the exit that an IF takes is open there. So no such run executes a
-- statement to which the walk never comes, or takes an exit that is never open.
abbrev pub ExecutedAreVisited : Type 0
ExecutedAreVisited =
    (f : Flowchart) (limits : Limits) (ranges : Ranges) → IsWellTyped f → IsWithinCounts f
    → HaveLimits f limits → analysed f limits ≡ Ok ranges
    → (inputs : List Decimal) → AreAdmitted f limits inputs
    → (x : Execution) → RunExecutes f inputs x → IsVisited (scope_of f) (WalkComes f limits) x
