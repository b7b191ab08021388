-- What the walk over ranges is refused for: at a place to which it comes, with the ranges that it has there, the row of an
-- operation refuses its operands, or two ranges aren't joined, or an output is beyond its bound.
use Rattle.std.specs.Prelude.{◌≡◌, ℕ, zero, suc, ◌+◌, ◌⊎◌, List, [], ◌∷◌, IsSomeAnd, Result, Err, IsOkAnd}
use Rattle.pap_tree.specs.declared.expression.Unary.TheVariants.{Not}
use Rattle.pap_tree.specs.declared.expression.Binary.TheVariants.{And, Or}
use Rattle.pap_tree.specs.Term.{Term, leaf, item, one, two, choice, unary, operator}
use Rattle.pap_tree.specs.Numbering.{nodes}
use Rattle.pap_tree.specs.Flowchart.{Flowchart, Body, done, eval, branch, execute, Routine}
use Rattle.pap_tree.specs.Names.{main_name}
use Rattle.pap_tree.specs.Statements.{written}
use Rattle.limits_file.specs.declared.limits.Limits.{Limits}
use Rattle.interval_num.specs.Rows.{item_row, join_row}
use Rattle.pap_types.specs.Scopes.{Scope, scope_of, table_in}
use Rattle.pap_types.specs.Kinds.{kind_of}
use Rattle.pap_types.specs.Routines.{body_named}
use Rattle.pap_types.specs.Checks.{IsWellTyped, place, last_node}
use Rattle.pap_types.specs.Counts.{IsWithinCounts}
use Rattle.pap_types.specs.Limits.{longest_chain}
use Rattle.call_order.specs.Orders.{HasShortChains}
use Rattle.interval_walk.specs.Ranges.{Ranges}
use Rattle.interval_walk.specs.Failures.{NodeFault, WalkFault, node_fails, at_node}
use Rattle.interval_walk.specs.NodeRanges.{one_range, two_range, comparison_range}
use Rattle.interval_walk.specs.Branches.{Branches}
use Rattle.interval_walk.specs.Ranged.{ranged, tested}
use Rattle.interval_walk.specs.Walked.{RangeCalls, assigned_range, walked, range_calls_of}
use Rattle.interval_walk.specs.Analysis.{start_ranges, range_calls_in, output_ranges, unless_unbounded, analysed}
use Rattle.interval_walk.specs.Admission.{HaveLimits}
use Rattle.interval_walk.specs.Reading.{HoldsPlan}

-- a step is refused so, or it is passed and what comes after is
abbrev pub InTurn : {A E : Type 0} → Type 0 → Result A E → (A → Type 0) → Type 0
InTurn First step Next = First ⊎ IsOkAnd step Next

-- one of two branches can be reached and is refused so; or both can, both are passed, and they are refused where they meet
abbrev pub InBranches : {A E : Type 0} → (First Second : Ranges → Type 0)
    → (first second : Ranges → Result A E) → (A → A → Type 0) → Branches → Type 0
InBranches First Second first second Meet br =
    IsSomeAnd br.holds First
    ⊎ IsSomeAnd br.fails Second
    ⊎ IsSomeAnd br.holds (λ s. IsSomeAnd br.fails (λ t.
    IsOkAnd (first s) (λ a. IsOkAnd (second t) (Meet a))))

-- ---- expressions

module _ (scope : Scope) where
  abbrev mutual
    -- A row refuses in the walk of an expression whose nodes are numbered from `at`: the answer at its node, of its operands,
    -- is this refusal.
    pub RowRefuses : Term → ℕ → Ranges → NodeFault → Type 0
    RowRefuses (leaf l) at rs x = ⊥
    RowRefuses (item y e) at rs x =
        InTurn (RowRefuses e at rs x) (ranged scope e at rs) (λ i.
        at_node (at + nodes e) (i ∷ []) (item_row (table_in scope y) i) ≡ Err x)
    RowRefuses (one op e) at rs x =
        InTurn (RowRefuses e at rs x) (ranged scope e at rs) (λ a.
        at_node (at + nodes e) (a ∷ []) (one_range op (kind_of scope (one op e)) e a) ≡ Err x)
    RowRefuses (two op e f) at rs x =
        InTurn (RowRefuses e at rs x) (ranged scope e at rs) (λ a.
        InTurn (RowRefuses f (at + nodes e) rs x) (ranged scope f (at + nodes e) rs) (λ b.
        at_node (at + nodes e + nodes f) (a ∷ b ∷ [])
        (two_range scope op (kind_of scope (two op e f)) f a b) ≡ Err x))
    RowRefuses (choice c e f) at rs x =
        InTurn (TestRefuses c at rs x) (tested scope c at rs) (
        InBranches
        (λ s. RowRefuses e (at + nodes c) s x)
        (λ s. RowRefuses f (at + nodes c + nodes e) s x)
        (ranged scope e (at + nodes c))
        (ranged scope f (at + nodes c + nodes e))
        (λ a b.
        at_node (at + nodes c + nodes e + nodes f) (a ∷ b ∷ []) (join_row a b) ≡ Err x))

    -- A row refuses in the walk of a test whose nodes are numbered from `at`.
    pub TestRefuses : Term → ℕ → Ranges → NodeFault → Type 0
    TestRefuses (one (unary Not) e) at rs x = TestRefuses e at rs x
    TestRefuses (two (operator And) e f) at rs x =
        InTurn (TestRefuses e at rs x) (tested scope e at rs) (λ br.
        IsSomeAnd br.holds (λ s. TestRefuses f (at + nodes e) s x))
    TestRefuses (two (operator Or) e f) at rs x =
        InTurn (TestRefuses e at rs x) (tested scope e at rs) (λ br.
        IsSomeAnd br.fails (λ s. TestRefuses f (at + nodes e) s x))
    TestRefuses (two (operator op) e f) at rs x =
        InTurn (RowRefuses e at rs x) (ranged scope e at rs) (λ a.
        InTurn (RowRefuses f (at + nodes e) rs x) (ranged scope f (at + nodes e) rs) (λ b.
        at_node (at + nodes e + nodes f) (a ∷ b ∷ []) (comparison_range op a b) ≡ Err x))
    TestRefuses _ at rs x = ⊥

-- ---- statements

-- the row of joins refuses some two of two lists of ranges, at this node
abbrev pub JoinRefuses : ℕ → Ranges → Ranges → NodeFault → Type 0
JoinRefuses node (v ∷ vs) (w ∷ ws) x =
    (at_node node [] (join_row v.range w.range) ≡ Err x) ⊎ JoinRefuses node vs ws x
JoinRefuses node _ _ x = ⊥

-- an expression's refusal, at its statement
abbrev pub AtStatement : List ℕ → ℕ → (NodeFault → Type 0) → WalkFault → Type 0
AtStatement name at Refuses x =
    (y : NodeFault) × Refuses y × (x ≡ node_fails (place name at y.node) y.cause y.operands)

module _ (scope : Scope) (call : RangeCalls) (CallRefuses : List ℕ → Ranges → WalkFault → Type 0)
    (name : List ℕ) (x : WalkFault) where
  -- A row refuses in the walk of a list of statements, which are numbered from `at`.
  abbrev pub BodyRefuses : ℕ → Body → Ranges → Type 0
  BodyRefuses at done rs = ⊥
  BodyRefuses at (eval y e rest) rs =
      InTurn (AtStatement name at (RowRefuses scope e 0 rs) x) (ranged scope e 0 rs) (λ a.
      BodyRefuses (at + 1) rest (assigned_range scope y a rs))
  BodyRefuses at (branch t a b rest) rs =
      InTurn
      (InTurn (AtStatement name at (TestRefuses scope t 0 rs) x) (tested scope t 0 rs) (
      InBranches
      (BodyRefuses (at + 1) a)
      (BodyRefuses (at + 1 + written a) b)
      (walked scope call name (at + 1) a)
      (walked scope call name (at + 1 + written a) b)
      (λ u v. AtStatement name at (JoinRefuses (last_node t) u v) x)))
      (walked scope call name at (branch t a b done) rs)
      (BodyRefuses (at + 1 + written a + written b) rest)
  BodyRefuses at (execute m rest) rs =
      InTurn (CallRefuses m rs x) (call m rs) (BodyRefuses (at + 1) rest)

-- a row refuses in the walk of a method, where a chain of methods has at most so many
unfoldable pub CallsRefuse : Scope → List Routine → ℕ → List ℕ → Ranges → WalkFault → Type 0
CallsRefuse scope ms zero m rs x = ⊥
CallsRefuse scope ms (suc n) m rs x =
    IsSomeAnd (body_named ms m) (λ b.
    BodyRefuses scope (range_calls_of scope ms n) (CallsRefuse scope ms n) m x 0 b rs)

-- ---- the law

-- a row refuses in the walk of a plan; or all of it is passed, and an output is beyond its bound
abbrev pub PlanRefuses : Flowchart → Limits → WalkFault → Type 0
PlanRefuses f limits x =
    InTurn
    (BodyRefuses (scope_of f) (range_calls_in f)
    (CallsRefuse (scope_of f) f.methods longest_chain) main_name x 0 f.main (start_ranges f limits))
    (walked (scope_of f) (range_calls_in f) main_name 0 f.main (start_ranges f limits))
    (λ ends. unless_unbounded (output_ranges f ends) ≡ Err x)

-- Each refusal of a plan's ranges is that of a row, or of an output beyond its bound, where the plan is well typed,
-- within its counts and in order, its literals are numbers of their types, and its inputs have limits.
abbrev pub RefusalsAreRows : Type 0
RefusalsAreRows =
    (f : Flowchart) (limits : Limits) (x : WalkFault)
    → IsWellTyped f → IsWithinCounts f → HoldsPlan f → HasShortChains f → HaveLimits f limits
    → analysed f limits ≡ Err x → PlanRefuses f limits x
