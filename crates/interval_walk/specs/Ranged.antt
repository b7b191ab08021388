-- The walk of an expression and that of a test, over the ranges of the variables. Nodes are walked in the order of their
-- numbers: the operands from the left, then the operation.
use Rattle.std.specs.Prelude.{ℕ, ◌+◌, [], ◌∷◌, Bool, ◌&&◌, Option, None, Result, Ok, Err}
use Rattle.pap_tree.specs.declared.expression.Unary.TheVariants.{Not}
use Rattle.pap_tree.specs.declared.expression.Binary.TheVariants.{And, Or}
use Rattle.pap_tree.specs.declared.expression.Call.TheVariants.{CompareTo}
use Rattle.pap_tree.specs.Term.{Term, leaf, item, one, two, choice, unary, operator, method}
use Rattle.pap_tree.specs.Numbering.{nodes}
use Rattle.interval_num.specs.Intervals.{Interval}
use Rattle.interval_num.specs.Rows.{join_row}
use Rattle.pap_types.specs.Scopes.{Scope, table_in}
use Rattle.pap_types.specs.Kinds.{kind_of, is_whole, int_literal}
use Rattle.interval_walk.specs.Ranges.{Ranges}
use Rattle.interval_walk.specs.Failures.{NodeFault, and_then, at_node, nowhere}
use Rattle.interval_walk.specs.NodeRanges.{leaf_range, item_range, one_range, two_range, comparison_range}
use Rattle.interval_walk.specs.Branches.{Branches, Sides, sides, sides_of, compared, opposite, reached, both_hold, one_holds, either_way}

module _ (scope : Scope) where
  -- a comparison of whole numbers
  abbrev pub are_whole : Term → Term → Bool
  are_whole a b = is_whole (kind_of scope a) && is_whole (kind_of scope b)

  abbrev mutual
    -- the range of an expression whose nodes are numbered from `at`, or its first node that may fail
    pub ranged : Term → ℕ → Ranges → Result Interval NodeFault
    ranged (leaf l) at env = at_node at [] (leaf_range scope l env)
    ranged (item x e) at env =
        and_then (ranged e at env) (λ i.
        at_node (at + nodes e) (i ∷ []) (item_range (table_in scope x) i))
    ranged (one op e) at env =
        and_then (ranged e at env) (λ a.
        at_node (at + nodes e) (a ∷ []) (one_range op (kind_of scope (one op e)) e a))
    ranged (two op e f) at env =
        and_then (ranged e at env) (λ a.
        and_then (ranged f (at + nodes e) env) (λ b.
        at_node (at + nodes e + nodes f) (a ∷ b ∷ [])
        (two_range scope op (kind_of scope (two op e f)) f a b)))
    ranged (choice c e f) at env =
        and_then (tested c at env) (λ br.
        either_way
        (nowhere (at + nodes c + nodes e + nodes f))
        (ranged e (at + nodes c))
        (ranged f (at + nodes c + nodes e))
        (λ a b. at_node (at + nodes c + nodes e + nodes f) (a ∷ b ∷ []) (join_row a b))
        br.holds
        br.fails)

    -- the sides of x.compareTo(y)
    pub compare_sides : Term → ℕ → Ranges → Option Sides
    compare_sides (two (method CompareTo) e f) at env =
        sides_of e f (ranged e at env) (ranged f (at + nodes e) env)
    compare_sides _ at env = None

    -- the branches of a test, or its first node that may fail; a test is a comparison, &&, || or !
    pub tested : Term → ℕ → Ranges → Result Branches NodeFault
    tested (one (unary Not) e) at env = and_then (tested e at env) (λ br. Ok (opposite br))
    tested (two (operator And) e f) at env =
        and_then (tested e at env) (λ br.
        and_then (reached br.holds (tested f (at + nodes e))) (λ right.
        Ok (both_hold env br right)))
    tested (two (operator Or) e f) at env =
        and_then (tested e at env) (λ br.
        and_then (reached br.fails (tested f (at + nodes e))) (λ right.
        Ok (one_holds env br right)))
    tested (two (operator op) e f) at env =
        and_then (ranged e at env) (λ a.
        and_then (ranged f (at + nodes e) env) (λ b.
        and_then (at_node (at + nodes e + nodes f) (a ∷ b ∷ []) (comparison_range op a b)) (λ r.
        Ok (compared op (are_whole e f) (sides e f a b) (compare_sides e at env) (int_literal f)
        env))))
    tested _ at env = Err (nowhere at)
