-- What the walk of a plan reads at each place to which it comes, and that it goes on behind each test.
use Rattle.std.specs.Prelude.{◌≡◌, ℕ, zero, suc, ◌||◌, IsTrue, is_some, IfSome, List, Ok, ⊤}
use Rattle.pap_tree.specs.declared.expression.Binary.TheVariants.{And, Or}
use Rattle.pap_tree.specs.Term.{Term, leaf, item, one, two, choice, operator}
use Rattle.pap_tree.specs.Flowchart.{Flowchart, Body, done, eval, branch, execute, Routine}
use Rattle.limits_file.specs.declared.limits.Limits.{Limits}
use Rattle.interval_num.specs.Intervals.{Interval}
use Rattle.interval_num.specs.Rows.{item_row}
use Rattle.pap_types.specs.Scopes.{Scope, scope_of, table_in}
use Rattle.pap_types.specs.Routines.{body_named}
use Rattle.pap_types.specs.Checks.{IsWellTyped}
use Rattle.pap_types.specs.Counts.{IsWithinCounts}
use Rattle.pap_types.specs.Limits.{longest_chain}
use Rattle.interval_walk.specs.Ranges.{Ranges}
use Rattle.interval_walk.specs.NodeRanges.{item_range}
use Rattle.interval_walk.specs.Branches.{Branches}
use Rattle.interval_walk.specs.Ranged.{tested}
use Rattle.interval_walk.specs.Walked.{RangeCalls, walked, range_calls_of}
use Rattle.interval_walk.specs.Analysis.{start_ranges, range_calls_in}
use Rattle.interval_walk.specs.Admission.{HaveLimits}
use Rattle.interval_walk.specs.Reading.{IsReadWhole, HoldsPlan}

-- ---- expressions

-- some branch of a test can be reached, and the walk goes on in each that can be
pub record GoesOn (Holds Fails : Ranges → Type 0) (br : Branches) : Type 0 where
  pub some : IsTrue (is_some br.holds || is_some br.fails)
  pub holds : IfSome br.holds Holds
  pub fails : IfSome br.fails Fails

module _ (scope : Scope) where
  -- the walk goes on behind a test that it passes
  abbrev pub GoesOnBehind : Term → Ranges → (Holds Fails : Ranges → Type 0) → Type 0
  GoesOnBehind t rs Holds Fails =
      (at : ℕ) (br : Branches) → tested scope t at rs ≡ Ok br → GoesOn Holds Fails br

  -- an item has the range that its row answers
  abbrev pub ReadsItems : List ℕ → Type 0
  ReadsItems x =
      (index r : Interval) → item_row (table_in scope x) index ≡ Ok r
      → item_range (table_in scope x) index ≡ Ok r

  -- In the walk of an expression nothing is refused where it is read, and some branch of each test can be reached.
  abbrev pub ReadsTerm : Term → Ranges → Type 0
  ReadsTerm (leaf l) rs = IsReadWhole scope l rs
  ReadsTerm (item x e) rs = ReadsTerm e rs × ReadsItems x
  ReadsTerm (one op e) rs = ReadsTerm e rs
  ReadsTerm (two (operator And) e f) rs =
      ReadsTerm e rs × GoesOnBehind e rs (ReadsTerm f) (λ _. ⊤)
  ReadsTerm (two (operator Or) e f) rs =
      ReadsTerm e rs × GoesOnBehind e rs (λ _. ⊤) (ReadsTerm f)
  ReadsTerm (two op e f) rs = ReadsTerm e rs × ReadsTerm f rs
  ReadsTerm (choice c e f) rs =
      ReadsTerm c rs × GoesOnBehind c rs (ReadsTerm e) (ReadsTerm f)

-- ---- statements

module _ (scope : Scope) (call : RangeCalls) (ReadsCall : List ℕ → Ranges → Type 0) where
  -- what comes behind statements that the walk passes
  abbrev pub ReadsBehind : Body → Ranges → (Ranges → Type 0) → Type 0
  ReadsBehind b rs Rest =
      (name : List ℕ) (at : ℕ) (ends : Ranges) → walked scope call name at b rs ≡ Ok ends → Rest ends

  -- in the walk of a list of statements nothing is refused where it is read, and some branch of each test can be
  -- reached
  abbrev pub ReadsBody : Body → Ranges → Type 0
  ReadsBody done rs = ⊤
  ReadsBody (eval x e rest) rs =
      ReadsTerm scope e rs × ReadsBehind (eval x e done) rs (ReadsBody rest)
  ReadsBody (branch t a b rest) rs =
      ReadsTerm scope t rs × GoesOnBehind scope t rs (ReadsBody a) (ReadsBody b)
      × ReadsBehind (branch t a b done) rs (ReadsBody rest)
  ReadsBody (execute m rest) rs =
      ReadsCall m rs × ReadsBehind (execute m done) rs (ReadsBody rest)

-- in the walk of a method, where a chain of methods has at most so many, nothing is refused where it is read, and some
-- branch of each test can be reached
unfoldable pub ReadsCalls : Scope → List Routine → ℕ → List ℕ → Ranges → Type 0
ReadsCalls scope ms zero m rs = ⊤
ReadsCalls scope ms (suc n) m rs =
    IfSome (body_named ms m) (λ b. ReadsBody scope (range_calls_of scope ms n) (ReadsCalls scope ms n) b rs)

-- ---- the law

-- in the walk of a plan, from its limits on, nothing is refused where it is read, and some branch of each test can be
-- reached
abbrev pub ReadsPlan : Flowchart → Limits → Type 0
ReadsPlan f limits =
    ReadsBody (scope_of f) (range_calls_in f) (ReadsCalls (scope_of f) f.methods longest_chain) f.main
    (start_ranges f limits)

-- This holds of each well-typed plan within its counts whose literals are numbers of their types, and whose inputs have
-- limits.
abbrev pub WalksReadAll : Type 0
WalksReadAll =
    (f : Flowchart) (limits : Limits) → IsWellTyped f → IsWithinCounts f → HoldsPlan f
    → HaveLimits f limits → ReadsPlan f limits
