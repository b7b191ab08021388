-- In the walk of a well-typed plan nothing is refused outright.
use Rattle.std.proofs.Common.{◌≡◌, ℕ, zero, suc, ◌+◌, ◌-◌, ◌≤◌, ℤ, pos, ◌*ℤ◌, int_rem, nat_lt, List, Bool, true, false, ◌&&◌, ◌||◌, if◌then◌else◌, Option, Some, None, refl, sym, subst, arith}
use Rattle.std.specs.Prelude.{IfSome, is_ok}
use Rattle.std.specs.Option.{option_map_or}
use Rattle.std.specs.Ordering.{int_eq}
use Rattle.std.proofs.lemmas.Int.{ints}
use Rattle.std.proofs.lemmas.Bool.Decides.{nat_tests}
use Rattle.scaled_decimal.specs.Decimals.{numerator_of, ten_to}
use Rattle.scaled_decimal.specs.Limits.{most_places}
use Rattle.scaled_decimal.specs.WholeNumbers.{is_of_bits}
use Rattle.pap_tree.specs.declared.declaration.Kind.TheVariants as declares
use Rattle.pap_tree.specs.declared.declaration.Kind.{Kind}
use Rattle.pap_tree.specs.declared.expression.Unary.TheVariants.{Minus, Not, Negate, Abs}
use Rattle.pap_tree.specs.declared.expression.Binary.TheVariants as binaries
use Rattle.pap_tree.specs.declared.expression.Call.TheVariants as calls
use Rattle.pap_tree.specs.Declarations.{Declaration}
use Rattle.pap_tree.specs.Term.{Leaf, whole, long, point, text, known, named, Term, leaf, item, one, two, choice, One, unary, value_of, value_of_scaled, new_big, set_scale, Two, operator, method, divide}
use Rattle.pap_tree.specs.Flowchart.{Flowchart, Body, done, eval, branch, execute}
use Rattle.interval_num.specs.Intervals.{Interval, interval}
use Rattle.interval_num.specs.PlainDivisors.{first_power, divisor_places, cofactor}
use Rattle.interval_num.specs.Rows.{exact_quotient_row}
use Rattle.pap_types.specs.declared.kinds.NodeKind.{NodeKind}
use Rattle.pap_types.specs.declared.kinds.NodeKind.TheVariants.{Int, Long, Big, Truth, Fraction, Factor, Table}
use Rattle.pap_types.specs.Scopes.{Scope, scope_of, declaration_in}
use Rattle.pap_types.specs.Kinds.{is_whole, is_int, is_big, is_truth, is_factor, is_convertible, declared_kind, leaf_kind, kind_of, kind_of_one, kind_of_two, wider, takes_one, takes_two, are_comparable, are_parts, is_factor_literal, shown_divisor, shows_plain_divisor, suits}
use Rattle.pap_types.specs.Safety.{bits_of}
use Rattle.pap_types.specs.Limits.{longest_chain}
use Rattle.pap_types.specs.Checks.{IsWellTyped}
use Rattle.pap_types.specs.Typing.{IsTypedTerm, IsTypedBody}
use Rattle.pap_types.proofs.Laws.{has_types}
use Rattle.call_order.specs.ChainLaws.{NamesBody}
use Rattle.call_order.specs.Executed.{EachExecuted}
use Rattle.call_order.specs.Orders.{HasShortChains}
use Rattle.call_order.proofs.Laws.{by_bounds}
use Rattle.interval_walk.specs.Ranges.{Ranges}
use Rattle.interval_walk.specs.NodeRanges.{shown_range, one_range, two_range}
use Rattle.interval_walk.specs.Walked.{range_calls_of}
use Rattle.interval_walk.specs.Asked.{TakesSome, TakesSomeTwo, CanHaveRange, CanHaveBranches, CanBeWalked, EntersWithin, AreNamedAs, StaysNamed, NothingIsRefusedOutright}
use Rattle.interval_walk.proofs.RowShapes.{both_true}
use Rattle.interval_walk.proofs.ScopeLemmas.{shown_plain}
use Rattle.interval_walk.proofs.WalkSound.{found_method}
use Rattle.interval_walk.proofs.NameLemmas.{StayNamed, tested_named, walked_named, calls_named}

-- ---- kinds of numbers

-- the kind of something else than a truth
abbrev IsNumber : NodeKind → Type 0
IsNumber k = is_truth k ≡ false

-- a kind that passes a test which a truth doesn't
other_kind : (test : NodeKind → Bool) → test Truth ≡ false → (k : NodeKind) → test k ≡ true → IsNumber k
other_kind test fails Int h = refl
other_kind test fails Long h = refl
other_kind test fails Truth h = absurd (cc)
other_kind test fails Big h = refl
other_kind test fails Fraction h = refl
other_kind test fails Factor h = refl
other_kind test fails Table h = refl

whole_number : (k : NodeKind) → is_whole k ≡ true → IsNumber k
whole_number = other_kind is_whole refl

big_number : (k : NodeKind) → is_big k ≡ true → IsNumber k
big_number = other_kind is_big refl

int_number : (k : NodeKind) → is_int k ≡ true → IsNumber k
int_number = other_kind is_int refl

convertible_number : (k : NodeKind) → is_convertible k ≡ true → IsNumber k
convertible_number = other_kind is_convertible refl

factor_number : (k : NodeKind) → is_factor k ≡ true → IsNumber k
factor_number = other_kind is_factor refl

wider_number : (j k : NodeKind) → IsNumber j → IsNumber (wider j k)
wider_number j Int h = h
wider_number j Long h = refl
wider_number j Truth h = h
wider_number j Big h = h
wider_number j Fraction h = h
wider_number j Factor h = h
wider_number j Table h = h

-- the parts of a conditional
parts_numbers : (j k : NodeKind) → are_parts j k ≡ true → IsNumber j × IsNumber k
parts_numbers j k h = by_big (is_big j && is_big k) refl h
  where
    by_big : (t : Bool) → (is_big j && is_big k) ≡ t → (t || (is_whole j && is_whole k)) ≡ true
        → IsNumber j × IsNumber k
    by_big true e g = let b = both_true (is_big j) (is_big k) e in (big_number j b.0, big_number k b.1)
    by_big false e g = let w = both_true (is_whole j) (is_whole k) g in (whole_number j w.0, whole_number k w.1)

declared_number : (k : Kind) → IsNumber (declared_kind k)
declared_number declares.Int = refl
declared_number declares.Long = refl
declared_number declares.Big = refl
declared_number declares.Factor = refl
declared_number declares.Table = refl

name_number : (o : Option Declaration) → IsNumber (option_map_or (λ d. declared_kind d.kind) o Int)
name_number None = refl
name_number (Some d) = declared_number d.kind

-- ---- ranges that are taken

-- of 0, of 0 at a scale, and of 1
abbrev zeros : Interval
zeros = interval (pos 0) (pos 0) 0 0

abbrev zeros_at : ℕ → Interval
zeros_at s = interval (pos 0) (pos 0) s s

abbrev ones : Interval
ones = interval (pos 1) (pos 1) 0 0

-- the search for the places of a divisor ends within 30
power_within : (d : ℤ) (k tries : ℕ) → first_power d k tries ≤ k + tries
power_within d k zero = omega arith
power_within d k (suc tries) = by_test (int_eq (int_rem (ten_to k) d) (pos 0)) (power_within d (suc k) tries)
  where
    by_test : (t : Bool) → first_power d (suc k) tries ≤ suc k + tries
        → (if t then k else first_power d (suc k) tries) ≤ k + suc tries
    by_test true h = omega arith
    by_test false h = omega arith

few_places : (d : ℤ) → divisor_places d ≤ most_places
unfolding divisor_places
few_places d = power_within d 0 most_places

exact_zero : (d : ℤ) → is_ok (exact_quotient_row d zeros) ≡ true
exact_zero d =
    let h = few_places d in
    let few : nat_lt most_places (0 + divisor_places d) ≡ false = grind (arith, nat_tests) in
    let none : pos 0 *ℤ cofactor d ≡ pos 0 = omega (arith, ints) in
    rw (few, none) refl

module _ (scope : Scope) where
  leaf_number : (l : Leaf) → IsNumber (leaf_kind scope l)
  leaf_number (whole i) = refl
  leaf_number (long i) = refl
  leaf_number (point d) = refl
  leaf_number (text d) = refl
  leaf_number (known k) = refl
  leaf_number (named x) = name_number (declaration_in scope x)

  literal_number : (e : Term) → is_factor_literal e ≡ true → IsNumber (kind_of scope e)
  literal_number (leaf l) h = leaf_number l
  literal_number (item x e) h = refl
  literal_number (one op e) h = absurd (cc)
  literal_number (two op e f) h = absurd (cc)
  literal_number (choice c e f) h = absurd (cc)

  -- what goes to a variable
  suited_number : (k : Kind) (e : Term) → suits k e (kind_of scope e) ≡ true → IsNumber (kind_of scope e)
  suited_number declares.Int e h = int_number (kind_of scope e) h
  suited_number declares.Long e h = whole_number (kind_of scope e) h
  suited_number declares.Big e h = big_number (kind_of scope e) h
  suited_number declares.Factor e h = literal_number e h
  suited_number declares.Table e h = absurd (cc)

  -- the sides of a comparison
  compared_numbers : (e f : Term) → are_comparable e (kind_of scope e) f (kind_of scope f) ≡ true
      → IsNumber (kind_of scope e) × IsNumber (kind_of scope f)
  compared_numbers e f h = by_whole (is_whole j && is_whole k) (is_factor j && is_factor_literal f) refl refl h
    where
      j : NodeKind
      j = kind_of scope e

      k : NodeKind
      k = kind_of scope f

      by_whole : (t u : Bool) → (is_whole j && is_whole k) ≡ t → (is_factor j && is_factor_literal f) ≡ u
          → (t || u || (is_factor_literal e && is_factor k)) ≡ true → IsNumber j × IsNumber k
      by_whole true u p q g = let w = both_true (is_whole j) (is_whole k) p in (whole_number j w.0, whole_number k w.1)
      by_whole false true p q g =
          let w = both_true (is_factor j) (is_factor_literal f) q in (factor_number j w.0, literal_number f w.1)
      by_whole false false p q g =
          let w = both_true (is_factor_literal e) (is_factor k) g in (literal_number e w.0, factor_number k w.1)

  -- ---- operations

  -- the operand of one that gives a number is a number
  operand_number : (op : One) (k : NodeKind) → takes_one op k ≡ true → IsNumber (kind_of_one op k) → IsNumber k
  operand_number (unary Minus) k t n = n
  operand_number (unary Not) k t n = absurd (cc)
  operand_number (unary Negate) k t n = big_number k t
  operand_number (unary Abs) k t n = big_number k t
  operand_number value_of k t n = convertible_number k t
  operand_number (value_of_scaled s) k t n = whole_number k t
  operand_number new_big k t n = whole_number k t
  operand_number (set_scale s m) k t n = big_number k t

  -- 0 is a whole number of the bits of any kind
  zero_of : (k : NodeKind) → is_of_bits (bits_of k) (pos 0) ≡ true
  zero_of Int = refl
  zero_of Long = refl
  zero_of Truth = refl
  zero_of Big = refl
  zero_of Fraction = refl
  zero_of Factor = refl
  zero_of Table = refl

  -- and it takes a 0
  takes_zero : (op : One) (e : Term) (k j : NodeKind) → takes_one op k ≡ true → IsNumber (kind_of_one op k)
      → TakesSome (one_range op j e)
  takes_zero (unary Minus) e k j t n = (zeros, rw (zero_of j) refl)
  takes_zero (unary Not) e k j t n = absurd (cc)
  takes_zero (unary Negate) e k j t n = (zeros, refl)
  takes_zero (unary Abs) e k j t n = (zeros, refl)
  takes_zero value_of e k j t n = (zeros, refl)
  takes_zero (value_of_scaled s) e k j t n = (zeros, refl)
  takes_zero new_big e k j t n = (zeros, refl)
  takes_zero (set_scale s m) e k j t n = (zeros_at s, let none : s - s ≡ 0 = omega arith in rw none refl)

  -- the operands of an operation that gives a number are numbers, and it takes some of them
  record TwoNumbers (op : Two) (f : Term) (j k i : NodeKind) : Type 0 where
    left : IsNumber j
    right : IsNumber k
    takes : TakesSomeTwo (two_range scope op i f)

  -- of whole numbers, and of decimals
  whole_two : (op : Two) (f : Term) (j k i : NodeKind) → (is_whole j && is_whole k) ≡ true
      → TakesSomeTwo (two_range scope op i f) → TwoNumbers op f j k i
  whole_two op f j k i h takes =
      let w = both_true (is_whole j) (is_whole k) h in
      record { left = whole_number j w.0; right = whole_number k w.1; takes = takes }

  big_two : (op : Two) (f : Term) (j k i : NodeKind) → (is_big j && is_big k) ≡ true
      → TakesSomeTwo (two_range scope op i f) → TwoNumbers op f j k i
  big_two op f j k i h takes =
      let b = both_true (is_big j) (is_big k) h in
      record { left = big_number j b.0; right = big_number k b.1; takes = takes }

  -- divide(d) by a divisor that its text shows
  by_shown : (f : Term) → shows_plain_divisor scope f ≡ true → TakesSome (shown_range (shown_divisor scope f))
  by_shown f h =
      let d = shown_plain scope f h in
      subst (λ o. TakesSome (shown_range o)) (sym d.1) (zeros, exact_zero (numerator_of d.0))

  two_numbers : (op : Two) (e f : Term) (j k i : NodeKind) → takes_two scope op e j f k ≡ true
      → IsNumber (kind_of_two op j k) → TwoNumbers op f j k i
  two_numbers (operator binaries.Mul) e f j k i t n =
      whole_two (operator binaries.Mul) f j k i t (zeros, (zeros, rw (zero_of i) refl))
  two_numbers (operator binaries.Div) e f j k i t n =
      whole_two (operator binaries.Div) f j k i t (zeros, (ones, rw (zero_of i) refl))
  two_numbers (operator binaries.Rem) e f j k i t n =
      whole_two (operator binaries.Rem) f j k i t (zeros, (ones, refl))
  two_numbers (operator binaries.Plus) e f j k i t n =
      whole_two (operator binaries.Plus) f j k i t (zeros, (zeros, rw (zero_of i) refl))
  two_numbers (operator binaries.Sub) e f j k i t n =
      whole_two (operator binaries.Sub) f j k i t (zeros, (zeros, rw (zero_of i) refl))
  two_numbers (operator binaries.Less) e f j k i t n = absurd (cc)
  two_numbers (operator binaries.LessEq) e f j k i t n = absurd (cc)
  two_numbers (operator binaries.More) e f j k i t n = absurd (cc)
  two_numbers (operator binaries.MoreEq) e f j k i t n = absurd (cc)
  two_numbers (operator binaries.Same) e f j k i t n = absurd (cc)
  two_numbers (operator binaries.Differs) e f j k i t n = absurd (cc)
  two_numbers (operator binaries.And) e f j k i t n = absurd (cc)
  two_numbers (operator binaries.Or) e f j k i t n = absurd (cc)
  two_numbers (method calls.Add) e f j k i t n =
      big_two (method calls.Add) f j k i t (zeros, (zeros, refl))
  two_numbers (method calls.Subtract) e f j k i t n =
      big_two (method calls.Subtract) f j k i t (zeros, (zeros, refl))
  two_numbers (method calls.Multiply) e f j k i t n =
      big_two (method calls.Multiply) f j k i t (zeros, (zeros, refl))
  two_numbers (method calls.CompareTo) e f j k i t n =
      big_two (method calls.CompareTo) f j k i t (zeros, (zeros, refl))
  two_numbers (method calls.Min) e f j k i t n =
      big_two (method calls.Min) f j k i t (zeros, (zeros, refl))
  two_numbers (method calls.Max) e f j k i t n =
      big_two (method calls.Max) f j k i t (zeros, (zeros, refl))
  two_numbers (method calls.DivideExact) e f j k i t n =
      let b = both_true (is_big j) (is_big k && shows_plain_divisor scope f) t in
      let s = both_true (is_big k) (shows_plain_divisor scope f) b.1 in
      let takes = by_shown f s.1 in
      record { left = big_number j b.0; right = big_number k s.0; takes = (takes.0, (zeros, takes.1)) }
  two_numbers (divide s m) e f j k i t n =
      let none : s + 0 - s ≡ 0 = omega arith in
      let less : s - (s + 0) ≡ 0 = omega arith in
      big_two (divide s m) f j k i t (zeros_at s, (ones, rw (none, less) refl))

  -- an operator of whole numbers gives no truth
  no_test : (j k : NodeKind) → (is_whole j && is_whole k) ≡ true → is_truth (wider j k) ≡ true → ⊥
  no_test j k t h = let n = wider_number j k (whole_number j (both_true (is_whole j) (is_whole k) t).0) in absurd (cc)

  -- ---- expressions

  mutual
    can_have_range : (t : Term) → IsTypedTerm scope t → IsNumber (kind_of scope t) → CanHaveRange scope t
    can_have_range (leaf l) it n = tt
    can_have_range (item x e) it n = can_have_range e it.0 (int_number (kind_of scope e) it.1.index)
    can_have_range (one op e) it n =
        let h = operand_number op (kind_of scope e) it.1 n in
        (can_have_range e it.0 h, takes_zero op e (kind_of scope e) (kind_of scope (one op e)) it.1 n)
    can_have_range (two op e f) it n =
        let p = two_numbers op e f (kind_of scope e) (kind_of scope f) (kind_of scope (two op e f)) it.2 n in
        (can_have_range e it.0 p.left, can_have_range f it.1 p.right, p.takes)
    can_have_range (choice c e f) it n =
        let p = parts_numbers (kind_of scope e) (kind_of scope f) it.3.parts in
        (can_have_branches c it.0 it.3.test, can_have_range e it.1 p.0, can_have_range f it.2 p.1)

    can_have_branches : (t : Term) → IsTypedTerm scope t → is_truth (kind_of scope t) ≡ true
        → CanHaveBranches scope t
    can_have_branches (leaf l) it h = let n = leaf_number l in absurd (cc)
    can_have_branches (item x e) it h = absurd (cc)
    can_have_branches (one (unary Minus) e) it h = let n = whole_number (kind_of scope e) it.1 in absurd (cc)
    can_have_branches (one (unary Not) e) it h = can_have_branches e it.0 it.1
    can_have_branches (one (unary Negate) e) it h = absurd (cc)
    can_have_branches (one (unary Abs) e) it h = absurd (cc)
    can_have_branches (one value_of e) it h = absurd (cc)
    can_have_branches (one (value_of_scaled s) e) it h = absurd (cc)
    can_have_branches (one new_big e) it h = absurd (cc)
    can_have_branches (one (set_scale s m) e) it h = absurd (cc)
    can_have_branches (two (operator binaries.And) e f) it h =
        let p = both_true (is_truth (kind_of scope e)) (is_truth (kind_of scope f)) it.2 in
        (can_have_branches e it.0 p.0, can_have_branches f it.1 p.1)
    can_have_branches (two (operator binaries.Or) e f) it h =
        let p = both_true (is_truth (kind_of scope e)) (is_truth (kind_of scope f)) it.2 in
        (can_have_branches e it.0 p.0, can_have_branches f it.1 p.1)
    can_have_branches (two (operator binaries.Less) e f) it h =
        let p = compared_numbers e f it.2 in
        (can_have_range e it.0 p.0, can_have_range f it.1 p.1, (zeros, (zeros, refl)))
    can_have_branches (two (operator binaries.LessEq) e f) it h =
        let p = compared_numbers e f it.2 in
        (can_have_range e it.0 p.0, can_have_range f it.1 p.1, (zeros, (zeros, refl)))
    can_have_branches (two (operator binaries.More) e f) it h =
        let p = compared_numbers e f it.2 in
        (can_have_range e it.0 p.0, can_have_range f it.1 p.1, (zeros, (zeros, refl)))
    can_have_branches (two (operator binaries.MoreEq) e f) it h =
        let p = compared_numbers e f it.2 in
        (can_have_range e it.0 p.0, can_have_range f it.1 p.1, (zeros, (zeros, refl)))
    can_have_branches (two (operator binaries.Same) e f) it h =
        let p = compared_numbers e f it.2 in
        (can_have_range e it.0 p.0, can_have_range f it.1 p.1, (zeros, (zeros, refl)))
    can_have_branches (two (operator binaries.Differs) e f) it h =
        let p = compared_numbers e f it.2 in
        (can_have_range e it.0 p.0, can_have_range f it.1 p.1, (zeros, (zeros, refl)))
    can_have_branches (two (operator binaries.Mul) e f) it h =
        absurd (no_test (kind_of scope e) (kind_of scope f) it.2 h)
    can_have_branches (two (operator binaries.Div) e f) it h =
        absurd (no_test (kind_of scope e) (kind_of scope f) it.2 h)
    can_have_branches (two (operator binaries.Rem) e f) it h =
        absurd (no_test (kind_of scope e) (kind_of scope f) it.2 h)
    can_have_branches (two (operator binaries.Plus) e f) it h =
        absurd (no_test (kind_of scope e) (kind_of scope f) it.2 h)
    can_have_branches (two (operator binaries.Sub) e f) it h =
        absurd (no_test (kind_of scope e) (kind_of scope f) it.2 h)
    can_have_branches (two (method calls.Add) e f) it h = absurd (cc)
    can_have_branches (two (method calls.Subtract) e f) it h = absurd (cc)
    can_have_branches (two (method calls.Multiply) e f) it h = absurd (cc)
    can_have_branches (two (method calls.CompareTo) e f) it h = absurd (cc)
    can_have_branches (two (method calls.Min) e f) it h = absurd (cc)
    can_have_branches (two (method calls.Max) e f) it h = absurd (cc)
    can_have_branches (two (method calls.DivideExact) e f) it h = absurd (cc)
    can_have_branches (two (divide s m) e f) it h = absurd (cc)
    can_have_branches (choice c e f) it h =
        let p = parts_numbers (kind_of scope e) (kind_of scope f) it.3.parts in
        let n = wider_number (kind_of scope e) (kind_of scope f) p.0 in
        absurd (cc)

-- ---- statements

-- what holds of each name holds of each that is executed
each_of : (P : List ℕ → Type 0) → ((x : List ℕ) → P x) → (b : Body) → EachExecuted P b
each_of P h done = tt
each_of P h (eval x e rest) = each_of P h rest
each_of P h (branch t a b rest) = (each_of P h a, each_of P h b, each_of P h rest)
each_of P h (execute m rest) = (h m, each_of P h rest)

module _ (f : Flowchart) (typed : IsWellTyped f) (short : HasShortChains f) where
  -- of a name that is a method's
  abbrev WhereNamed : (List ℕ → Type 0) → List ℕ → Type 0
  WhereNamed P x = (b : Body) → NamesBody f x b → P x

  can_be_walked : (P : List ℕ → Type 0) (b : Body) → IsTypedBody (scope_of f) f.methods b
      → EachExecuted (WhereNamed P) b → CanBeWalked (scope_of f) P b
  can_be_walked P done it h = tt
  can_be_walked P (eval x e rest) it h =
      let n = suited_number (scope_of f) it.1.declaration.kind e it.1.suits in
      (can_have_range (scope_of f) e it.0 n, can_be_walked P rest it.2 h)
  can_be_walked P (branch t a b rest) it h = (
    can_have_branches (scope_of f) t it.0 it.1,
    can_be_walked P a it.2 h.0,
    can_be_walked P b it.3 h.1,
    can_be_walked P rest it.4 h.2,
  )
  can_be_walked P (execute m rest) it h = (h.0 it.0.body it.0.named, can_be_walked P rest it.1 h.1)

  abbrev Within : ℕ → List ℕ → Type 0
  Within n x = WhereNamed (EntersWithin (scope_of f) f.methods n) x

  within_more : (n k : ℕ) (x : List ℕ) → ((b : Body) → NamesBody f x b → EachExecuted (Within n) b)
      → Within (suc n) x
  unfolding EntersWithin
  within_more n k x h = λ b is.
      let all = (has_types f typed).methods in
      let it = found_method (IsTypedBody (scope_of f) f.methods) f.methods all x b is in
      (b, is, can_be_walked (EntersWithin (scope_of f) f.methods n) b it (h b is))

  within : (x : List ℕ) → Within longest_chain x
  within x = λ b is. by_bounds f typed short (λ n k x. Within n x) within_more 64 (omega arith) x b is b is

  main_walked : CanBeWalked (scope_of f) (EntersWithin (scope_of f) f.methods longest_chain) f.main
  main_walked =
      can_be_walked (EntersWithin (scope_of f) f.methods longest_chain) f.main (has_types f typed).main
      (each_of (Within longest_chain) within f.main)

-- ---- names

named_if : (rs : Ranges) (o : Option Ranges) → StayNamed rs o → IfSome o (AreNamedAs rs)
named_if rs None h = tt
named_if rs (Some s) h = h s refl

stays_named : (f : Flowchart) → StaysNamed f
stays_named f =
    let scope = scope_of f in
    record {
      test = λ t at rs br e. (
          let h = tested_named scope t at rs br e in
          (named_if rs br.holds h.holds, named_if rs br.fails h.fails));
      walk = λ b name n at rs ends e.
          walked_named scope (range_calls_of scope f.methods n) name (calls_named scope f.methods n) b at rs ends e;
    }

pub refused_outright : NothingIsRefusedOutright
refused_outright f typed short = record { main = main_walked f typed short; names = stays_named f }
