-- What a test makes of the ranges of the variables: those of its true branch and those of its false branch, each where some
-- value leads there.
use Rattle.std.specs.Prelude.{ℕ, ◌&&◌, ◌||◌, not, if◌then◌else◌, is_some, Bool, false, ℤ, pos, negsuc, List, Option, Some, None, Result, Ok, Err}
use Rattle.std.specs.Option.{option_map, option_and_then}
use Rattle.std.specs.Ordering.{int_cmp}
use Rattle.scaled_decimal.specs.Decimals.{Decimal, numerator_of}
use Rattle.pap_tree.specs.declared.expression.Binary.{Binary}
use Rattle.pap_tree.specs.Term.{Term, leaf, named}
use Rattle.interval_num.specs.declared.sign_set.SignSet.{SignSet}
use Rattle.interval_num.specs.Intervals.{Interval}
use Rattle.interval_num.specs.Signs.{signs_of}
use Rattle.interval_num.specs.Refinement.{refined}
use Rattle.pap_types.specs.Operations.{holds_of}
use Rattle.interval_walk.specs.Ranges.{Ranges, range_named, put_range}
use Rattle.interval_walk.specs.Failures.{and_then}

-- the variables where the test holds and where it fails; none where no value leads there
pub record Branches : Type 0 where
  pub holds : Option Ranges
  pub fails : Option Ranges

-- the two sides of a comparison, with their ranges
pub record Sides : Type 0 where
  pub left : Term
  pub right : Term
  pub left_range : Interval
  pub right_range : Interval

-- the sides of a comparison, from its operands and their ranges
abbrev pub sides : Term → Term → Interval → Interval → Sides
sides a b x y = record { left = a; right = b; left_range = x; right_range = y }

-- ---- signs

-- the signs c with c op k
abbrev pub signs_where : Binary → ℤ → SignSet
signs_where op k = record {
  minus = holds_of op (int_cmp (negsuc 0) k);
  zero = holds_of op (int_cmp (pos 0) k);
  plus = holds_of op (int_cmp (pos 1) k);
}

-- the signs that aren't of the set
abbrev pub others : SignSet → SignSet
others s = record { minus = not s.minus; zero = not s.zero; plus = not s.plus }

-- the signs of the right side against the left one
abbrev pub exchanged : SignSet → SignSet
exchanged s = record { minus = s.plus; zero = s.zero; plus = s.minus }

-- whether one of the allowed signs is among those that there can be
abbrev pub can_have : SignSet → SignSet → Bool
can_have allowed s =
    (allowed.minus && s.minus) || ((allowed.zero && s.zero) || (allowed.plus && s.plus))

-- ---- comparisons

-- the variables where the value of a name has an allowed sign against a decimal of e; a constant is not refined
abbrev pub narrowed_name :
    Bool → SignSet → List ℕ → Interval → Ranges → Option Interval → Option Ranges
narrowed_name whole allowed x e env None = Some env
narrowed_name whole allowed x e env (Some v) =
    option_map (put_range env x) (refined v e allowed whole)

-- the variables where a side has an allowed sign against a decimal of e: it is refined where it is a variable's name
abbrev pub narrowed : Bool → SignSet → Term → Interval → Ranges → Option Ranges
narrowed whole allowed (leaf (named x)) e env =
    narrowed_name whole allowed x e env (range_named env x)
narrowed whole allowed _ e env = Some env

-- the branch of the allowed signs: the left side is refined by the right one's range, then the right side by the range
-- that the left one had
abbrev pub branch_of : Bool → SignSet → Sides → Ranges → Option Ranges
branch_of whole allowed s env =
    if can_have allowed (signs_of s.left_range s.right_range)
    then option_and_then
    (narrowed whole (exchanged allowed) s.right s.left_range)
    (narrowed whole allowed s.left s.right_range env)
    else None

-- the branch of the allowed signs, and that of the others
abbrev pub branches_of : Bool → SignSet → Sides → Ranges → Branches
branches_of whole allowed s env = record {
  holds = branch_of whole allowed s env;
  fails = branch_of whole (others allowed) s env;
}

-- A comparison of two sides refines them. One of x.compareTo(y) with an `int` literal k refines x and y, where their sign c
-- has c op k.
abbrev pub compared : Binary → Bool → Sides → Option Sides → Option Decimal → Ranges → Branches
compared op whole direct (Some inner) (Some k) env =
    branches_of false (signs_where op (numerator_of k)) inner env
compared op whole direct (Some inner) None env =
    branches_of whole (signs_where op (pos 0)) direct env
compared op whole direct None k env = branches_of whole (signs_where op (pos 0)) direct env

-- the sides of x.compareTo(y), where both have a range
abbrev pub sides_of : {E : Type 0} →
    Term → Term → Result Interval E → Result Interval E → Option Sides
sides_of a b (Ok x) (Ok y) = Some (sides a b x y)
sides_of a b (Ok x) (Err e) = None
sides_of a b (Err e) r = None

-- ---- connectives

-- the branches of a test's opposite
abbrev pub opposite : Branches → Branches
opposite br = record { holds = br.fails; fails = br.holds }

-- no value leads to either
abbrev pub no_branch : Branches
no_branch = record { holds = None; fails = None }

-- the branches of a right operand, where it is walked
abbrev pub reached : {E : Type 0} → Option Ranges → (Ranges → Result Branches E) → Result Branches E
reached None go = Ok no_branch
reached (Some env) go = go env

-- the variables before the test, where one of two branches can be reached
abbrev pub before : Ranges → Option Ranges → Option Ranges → Option Ranges
before env o p = if is_some o || is_some p then Some env else None

-- a && b of the branches of a, and of those of b where a holds
abbrev pub both_hold : Ranges → Branches → Branches → Branches
both_hold env f g = record { holds = g.holds; fails = before env f.fails g.fails }

-- a || b of the branches of a, and of those of b where a fails
abbrev pub one_holds : Ranges → Branches → Branches → Branches
one_holds env f g = record { holds = before env f.holds g.holds; fails = g.fails }

-- ---- where branches meet

-- what comes of each branch that can be reached, and of both together where both can be
abbrev pub either_way : {A E : Type 0} →
    E → (first second : Ranges → Result A E) → (A → A → Result A E)
    → (holds fails : Option Ranges) → Result A E
either_way none first second meet None None = Err none
either_way none first second meet (Some e) None = first e
either_way none first second meet None (Some f) = second f
either_way none first second meet (Some e) (Some f) =
    and_then (first e) (λ x. and_then (second f) (λ y. meet x y))
