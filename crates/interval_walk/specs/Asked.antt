-- What the walk over ranges is asked for. It refuses outright, whatever the ranges are, a truth where a number is asked, a test
-- that isn't one, a method that isn't there, one behind too long a chain, and branches of unlike variables; a plan that is well
-- typed and in order asks for none of these.
use Rattle.std.specs.Prelude.{◌≡◌, ℕ, zero, suc, is_ok, IsTrue, IfSome, List, Some, Ok, ⊤}
use Rattle.pap_tree.specs.declared.expression.Unary.TheVariants.{Not}
use Rattle.pap_tree.specs.declared.expression.Binary.TheVariants.{And, Or}
use Rattle.pap_tree.specs.Term.{Term, leaf, item, one, two, choice, unary, operator}
use Rattle.pap_tree.specs.Flowchart.{Flowchart, Body, done, eval, branch, execute, Routine}
use Rattle.interval_num.specs.Intervals.{Interval}
use Rattle.interval_num.specs.Rows.{RowAnswer}
use Rattle.pap_types.specs.Scopes.{Scope, scope_of}
use Rattle.pap_types.specs.Kinds.{kind_of}
use Rattle.pap_types.specs.Routines.{body_named}
use Rattle.pap_types.specs.Checks.{IsWellTyped}
use Rattle.pap_types.specs.Limits.{longest_chain}
use Rattle.call_order.specs.Orders.{HasShortChains}
use Rattle.interval_walk.specs.Ranges.{Ranges, names_in}
use Rattle.interval_walk.specs.NodeRanges.{one_range, two_range, comparison_range}
use Rattle.interval_walk.specs.Branches.{Branches}
use Rattle.interval_walk.specs.Ranged.{tested}
use Rattle.interval_walk.specs.Walked.{walked, range_calls_of}

-- ---- expressions

-- not every range of an operand is refused
abbrev pub TakesSome : (Interval → RowAnswer) → Type 0
TakesSome range = (a : Interval) × IsTrue (is_ok (range a))

-- not every range of one operand with every range of another is
abbrev pub TakesSomeTwo : (Interval → Interval → RowAnswer) → Type 0
TakesSomeTwo range = (a : Interval) × TakesSome (range a)

module _ (scope : Scope) where
  abbrev mutual
    -- each operation of an expression takes some ranges of its operands, and what a conditional tests is a test
    pub CanHaveRange : Term → Type 0
    CanHaveRange (leaf l) = ⊤
    CanHaveRange (item x e) = CanHaveRange e
    CanHaveRange (one op e) =
        CanHaveRange e × TakesSome (one_range op (kind_of scope (one op e)) e)
    CanHaveRange (two op e f) =
        CanHaveRange e × CanHaveRange f
        × TakesSomeTwo (two_range scope op (kind_of scope (two op e f)) f)
    CanHaveRange (choice c e f) = CanHaveBranches c × CanHaveRange e × CanHaveRange f

    -- a test is a comparison, which takes some ranges too, or `!`, `&&` or `||` of tests
    pub CanHaveBranches : Term → Type 0
    CanHaveBranches (one (unary Not) e) = CanHaveBranches e
    CanHaveBranches (two (operator And) e f) = CanHaveBranches e × CanHaveBranches f
    CanHaveBranches (two (operator Or) e f) = CanHaveBranches e × CanHaveBranches f
    CanHaveBranches (two (operator op) e f) =
        CanHaveRange e × CanHaveRange f × TakesSomeTwo (comparison_range op)
    CanHaveBranches _ = ⊥

  -- ---- statements

  -- each assigned expression of a list of statements can have a range, each test can have branches, and each method
  -- that is executed is entered
  abbrev pub CanBeWalked : (List ℕ → Type 0) → Body → Type 0
  CanBeWalked Enters done = ⊤
  CanBeWalked Enters (eval x e rest) = CanHaveRange e × CanBeWalked Enters rest
  CanBeWalked Enters (branch t a b rest) =
      CanHaveBranches t × CanBeWalked Enters a × CanBeWalked Enters b × CanBeWalked Enters rest
  CanBeWalked Enters (execute m rest) = Enters m × CanBeWalked Enters rest

  -- a method is entered that is there, and its body can be walked; none that makes a chain of more than so many
  unfoldable pub EntersWithin : List Routine → ℕ → List ℕ → Type 0
  EntersWithin ms zero m = ⊥
  EntersWithin ms (suc n) m =
      (b : Body) × (body_named ms m ≡ Some b) × CanBeWalked (EntersWithin ms n) b

-- ---- where branches meet

-- both are ranges of the same variables, in the same order
abbrev pub AreNamedAs : Ranges → Ranges → Type 0
AreNamedAs rs ss = names_in ss ≡ names_in rs

-- The walk of this plan keeps the variables and their order. So where branches meet each is joined with itself.
pub record StaysNamed (f : Flowchart) : Type 0 where
  -- a test leaves them so in each branch that can be reached
  pub test : (t : Term) (at : ℕ) (rs : Ranges) (br : Branches)
      → tested (scope_of f) t at rs ≡ Ok br
      → IfSome br.holds (AreNamedAs rs) × IfSome br.fails (AreNamedAs rs)
  -- and so does each list of statements, however long the chains of methods in it may be
  pub walk : (b : Body) (name : List ℕ) (n at : ℕ) (rs ends : Ranges)
      → walked (scope_of f) (range_calls_of (scope_of f) f.methods n) name at b rs ≡ Ok ends
      → AreNamedAs rs ends

-- ---- the law

-- In the walk of this plan nothing is refused outright.
pub record RefusesNothingOutright (f : Flowchart) : Type 0 where
  -- MAIN can be walked, with methods in chains of at most 64
  pub main : CanBeWalked (scope_of f) (EntersWithin (scope_of f) f.methods longest_chain) f.main
  -- where branches meet they have the same variables
  pub names : StaysNamed f

-- This holds of each well-typed plan none of whose methods begins a chain of more than 64.
abbrev pub NothingIsRefusedOutright : Type 0
NothingIsRefusedOutright =
    (f : Flowchart) → IsWellTyped f → HasShortChains f → RefusesNothingOutright f
