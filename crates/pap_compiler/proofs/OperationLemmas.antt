-- Where the operands of an expression are safe, its instruction leads to its value.
use Rattle.std.proofs.Common.{◌≡◌, ◌≢◌, ℕ, ◌+◌, List, ◌∷◌, Bool, true, false, Some, refl, sym, ap, ◌∙◌, subst, arith}
use Rattle.std.specs.Prelude.{◌&&◌, ⊤, ℤ, pos}
use Rattle.std.specs.Ordering.{int_eq, is_lt, is_le, is_gt, is_ge, is_eq, is_ne}
use Rattle.std.specs.declared.cmp.Ordering.{Ordering}
use Rattle.std.specs.declared.cmp.Ordering.TheVariants.{Less, Equal, Greater}
use Rattle.std.proofs.lemmas.Int.{ints}
use Rattle.scaled_decimal.specs.Decimals.{Decimal, decimal, numerator_of, value_order, sum, difference, product, negated, magnitude, comparison, lesser, greater}
use Rattle.scaled_decimal.specs.RoundedDecimals.{quotient, rescaled}
use Rattle.scaled_decimal.specs.ShortenedDecimals.{exact_quotient}
use Rattle.scaled_decimal.specs.ExactQuotients.{IsPlainDivisor}
use Rattle.scaled_decimal.specs.WholeNumbers.{int_bits, long_bits, IsOfBits, truth, whole_sum, whole_difference, whole_product, whole_quotient, whole_remainder, whole_opposite, whole_decimal, of_whole, of_wholes}
use Rattle.scaled_decimal.specs.WorkingNumbers.{ComparisonFits, SumFits, DifferenceFits, ProductFits, RescaleFits, ExactQuotientFits}
use Rattle.pap_tree.specs.declared.expression.Unary.TheVariants.{Minus, Not, Negate, Abs}
use Rattle.pap_tree.specs.declared.expression.Binary.{Binary}
use Rattle.pap_tree.specs.declared.expression.Binary.TheVariants as binaries
use Rattle.pap_tree.specs.declared.expression.Call.TheVariants as methods
use Rattle.pap_tree.specs.Term.{Term, One, unary, value_of, value_of_scaled, new_big, set_scale, Two, operator, method, divide}
use Rattle.pap_types.specs.declared.kinds.NodeKind.{NodeKind}
use Rattle.pap_types.specs.declared.kinds.NodeKind.TheVariants as kinds
use Rattle.pap_types.specs.Scopes.{Scope}
use Rattle.pap_types.specs.Kinds.{is_whole, is_truth, is_big, takes_one, takes_two, kind_of_one, kind_of_two, shows_plain_divisor}
use Rattle.pap_types.specs.Operations.{is_zero, as_big, of_one, of_two, holds_of}
use Rattle.pap_types.specs.Safety.{bits_of, OneFits, TwoFits}
use Rattle.pap_machine.specs.declared.code.Instr.{Instr}
use Rattle.pap_machine.specs.declared.code.Instr.TheVariants as i
use Rattle.pap_machine.specs.Code.{Program}
use Rattle.pap_machine.specs.Machine.{MachineState, machine_state, Performs, Works, WorksOnTwo as TwoStacked}
use Rattle.pap_machine.specs.Operations.{HasScaleZero, IsTruth, IsWholeWithPlaces, DivisionFits, ExactDivisionFits, WholeFits, WholeDivisionFits, OppositeFits}
use Rattle.pap_machine.proofs.Laws.{one, two}
use Rattle.pap_compiler.specs.CodeDecisions.{instr_of_one, instr_of_two, shown_number}
use Rattle.pap_compiler.proofs.KindLemmas.{both_true, IsTruthValue, some_is, unless_some}

-- ---- whole numbers that fit their kind fit the machine

longer : (n : ℤ) → IsOfBits int_bits n → IsOfBits long_bits n
longer n h = let low = h.low in let high = h.high in record { low = omega (arith, ints, low); high = omega (arith, ints, high) }

kind_fits : (k : NodeKind) (n : ℤ) → IsOfBits (bits_of k) n → IsOfBits long_bits n
kind_fits kinds.Long n h = h
kind_fits kinds.Int n h = longer n h
kind_fits kinds.Big n h = longer n h
kind_fits kinds.Truth n h = longer n h
kind_fits kinds.Fraction n h = longer n h
kind_fits kinds.Factor n h = longer n h
kind_fits kinds.Table n h = longer n h

-- ---- comparisons by the words of the machine

less : (o : Ordering) → is_lt o ≡ holds_of binaries.Less o
less o = refl

less_eq : (o : Ordering) → is_le o ≡ holds_of binaries.LessEq o
less_eq Less = refl
less_eq Equal = refl
less_eq Greater = refl

more_eq : (o : Ordering) → is_ge o ≡ holds_of binaries.MoreEq o
more_eq Less = refl
more_eq Equal = refl
more_eq Greater = refl

equal : (o : Ordering) → is_eq o ≡ holds_of binaries.Same o
equal Less = refl
equal Equal = refl
equal Greater = refl

differs : (o : Ordering) → is_ne o ≡ holds_of binaries.Differs o
differs Less = refl
differs Equal = refl
differs Greater = refl

not_zero : (b : Decimal) → is_zero b ≡ false → numerator_of b ≢ pos 0
not_zero b z e = let t : int_eq (numerator_of b) (pos 0) ≡ true = rw e refl in cc

-- ---- one operand

-- what stands on the stack for the operand: a literal with a point under valueOf without the zeros that end it
abbrev pub operand_value : One → Term → Decimal → Decimal
operand_value value_of e a = as_big e a
operand_value _ e a = a

module _ (scope : Scope) (p : Program) (pc : ℕ) (slots : List Decimal) (calls : List ℕ) (stack : List Decimal) where
  -- the instruction takes this stack to that one
  abbrev pub Leaves : Instr → List Decimal → List Decimal → Type 0
  Leaves j old new = Performs p j (machine_state pc old slots calls) (machine_state (pc + 1) new slots calls)

  pub one_leaves : (op : One) (e : Term) (k : NodeKind) (a : Decimal) → takes_one op k ≡ true → (is_whole k ≡ true → HasScaleZero a) → (is_truth k ≡ true → IsTruthValue a) → OneFits op (kind_of_one op k) a →
      Leaves (instr_of_one op) (operand_value op e a ∷ stack) (of_one op e a ∷ stack)
  one_leaves (unary Minus) e k a takes whole bit fits =
      one pc slots calls (OppositeFits whole_opposite) (of_whole whole_opposite) a stack (record { number = whole takes; fits = kind_fits k (whole_opposite (numerator_of a)) fits })
  one_leaves (unary Not) e k a takes whole bit fits =
      one pc slots calls IsTruth (λ a. truth (int_eq (numerator_of a) (pos 0))) a stack (bit takes)
  one_leaves (unary Negate) e k a takes whole bit fits = one pc slots calls (λ a. ⊤) negated a stack tt
  one_leaves (unary Abs) e k a takes whole bit fits = one pc slots calls (λ a. ⊤) magnitude a stack tt
  one_leaves value_of e k a takes whole bit fits = one pc slots calls (λ a. ⊤) (λ a. a) (as_big e a) stack tt
  one_leaves (value_of_scaled s) e k a takes whole bit fits =
      one pc slots calls (IsWholeWithPlaces s) (λ a. decimal (numerator_of a) s) a stack (record { number = whole takes; places = fits })
  one_leaves new_big e k a takes whole bit fits = one pc slots calls (λ a. ⊤) (λ a. a) a stack tt
  one_leaves (set_scale s m) e k a takes whole bit fits = one pc slots calls (λ a. RescaleFits m a s) (rescaled m s) a stack fits

  -- ---- two operands

  -- what an operation on the stack gives, by the value that is meant
  as_meant : (j : Instr) (old : List Decimal) (x d : Decimal) → x ≡ d → Leaves j old (x ∷ stack) → Leaves j old (d ∷ stack)
  as_meant j old x d same f = subst (λ v. Leaves j old (v ∷ stack)) same f

  compares : (j : Instr) (op : Binary) (holds : Ordering → Bool) (a b d : Decimal) → ((s t : MachineState) → Works (TwoStacked ComparisonFits (λ a b. truth (holds (value_order a b)))) s t → Performs p j s t) → ((o : Ordering) → holds o ≡ holds_of op o) → ComparisonFits a b → Some (truth (holds_of op (value_order a b))) ≡ Some d → Leaves j (b ∷ a ∷ stack) (d ∷ stack)
  compares j op holds a b d does is fits e =
      as_meant j (b ∷ a ∷ stack) (truth (holds (value_order a b))) d (ap truth (is (value_order a b)) ∙ some_is _ d e)
      (does (machine_state pc (b ∷ a ∷ stack) slots calls) (machine_state (pc + 1) (truth (holds (value_order a b)) ∷ stack) slots calls)
      (two pc slots calls ComparisonFits (λ a b. truth (holds (value_order a b))) a b stack fits))

  -- two whole numbers, whose result fits the kind
  wholes_fit : (result : ℤ → ℤ → ℤ) (j k node : NodeKind) (a b : Decimal) → (is_whole j && is_whole k) ≡ true → (is_whole j ≡ true → HasScaleZero a) → (is_whole k ≡ true → HasScaleZero b) → IsOfBits (bits_of node) (result (numerator_of a) (numerator_of b)) → WholeFits result a b
  wholes_fit result j k node a b takes left right fits =
      let w = both_true (is_whole j) (is_whole k) takes in
      record { left = left w.0; right = right w.1; fits = kind_fits node (result (numerator_of a) (numerator_of b)) fits }

  divides_fit : (result : ℤ → ℤ → ℤ) (a b : Decimal) → is_zero b ≡ false → WholeFits result a b → WholeDivisionFits result a b
  divides_fit result a b z w = record { not_zero = not_zero b z; whole = w }

  -- of an operation other than && and ||
  pub two_leaves : (op : Two) (e f : Term) (j k : NodeKind) (a b d : Decimal) → takes_two scope op e j f k ≡ true → (is_whole j ≡ true → HasScaleZero a) → (is_whole k ≡ true → HasScaleZero b) →
      (shows_plain_divisor scope f ≡ true → (numerator_of b ≡ shown_number scope f) × IsPlainDivisor (shown_number scope f)) →
      op ≢ operator binaries.And → op ≢ operator binaries.Or → TwoFits op (kind_of_two op j k) a b → of_two op a b ≡ Some d → Leaves (instr_of_two scope op f) (b ∷ a ∷ stack) (d ∷ stack)
  two_leaves (operator binaries.Mul) e f j k a b d takes left right shown nand nor fits g =
      as_meant i.IntMul (b ∷ a ∷ stack) (of_wholes whole_product a b) d (some_is _ d g) (two pc slots calls (WholeFits whole_product) (of_wholes whole_product) a b stack (wholes_fit whole_product j k (kind_of_two (operator binaries.Mul) j k) a b takes left right fits))
  two_leaves (operator binaries.Div) e f j k a b d takes left right shown nand nor fits g =
      let u = unless_some b (of_wholes whole_quotient a b) d g in
      as_meant i.IntDiv (b ∷ a ∷ stack) (of_wholes whole_quotient a b) d u.1 (two pc slots calls (WholeDivisionFits whole_quotient) (of_wholes whole_quotient) a b stack (divides_fit whole_quotient a b u.0 (wholes_fit whole_quotient j k (kind_of_two (operator binaries.Div) j k) a b takes left right fits)))
  two_leaves (operator binaries.Rem) e f j k a b d takes left right shown nand nor fits g =
      let u = unless_some b (of_wholes whole_remainder a b) d g in
      as_meant i.IntRem (b ∷ a ∷ stack) (of_wholes whole_remainder a b) d u.1 (two pc slots calls (WholeDivisionFits whole_remainder) (of_wholes whole_remainder) a b stack (divides_fit whole_remainder a b u.0 (wholes_fit whole_remainder j k (kind_of_two (operator binaries.Rem) j k) a b takes left right fits)))
  two_leaves (operator binaries.Plus) e f j k a b d takes left right shown nand nor fits g =
      as_meant i.IntAdd (b ∷ a ∷ stack) (of_wholes whole_sum a b) d (some_is _ d g) (two pc slots calls (WholeFits whole_sum) (of_wholes whole_sum) a b stack (wholes_fit whole_sum j k (kind_of_two (operator binaries.Plus) j k) a b takes left right fits))
  two_leaves (operator binaries.Sub) e f j k a b d takes left right shown nand nor fits g =
      as_meant i.IntSub (b ∷ a ∷ stack) (of_wholes whole_difference a b) d (some_is _ d g) (two pc slots calls (WholeFits whole_difference) (of_wholes whole_difference) a b stack (wholes_fit whole_difference j k (kind_of_two (operator binaries.Sub) j k) a b takes left right fits))
  two_leaves (operator binaries.Less) e f j k a b d takes left right shown nand nor fits g = compares i.Less binaries.Less is_lt a b d (λ s t w. w) less fits g
  two_leaves (operator binaries.LessEq) e f j k a b d takes left right shown nand nor fits g = compares i.LessEq binaries.LessEq is_le a b d (λ s t w. w) less_eq fits g
  two_leaves (operator binaries.More) e f j k a b d takes left right shown nand nor fits g = compares i.More binaries.More is_gt a b d (λ s t w. w) (λ o. refl) fits g
  two_leaves (operator binaries.MoreEq) e f j k a b d takes left right shown nand nor fits g = compares i.MoreEq binaries.MoreEq is_ge a b d (λ s t w. w) more_eq fits g
  two_leaves (operator binaries.Same) e f j k a b d takes left right shown nand nor fits g = compares i.Equal binaries.Same is_eq a b d (λ s t w. w) equal fits g
  two_leaves (operator binaries.Differs) e f j k a b d takes left right shown nand nor fits g = compares i.Differs binaries.Differs is_ne a b d (λ s t w. w) differs fits g
  two_leaves (operator binaries.And) e f j k a b d takes left right shown nand nor fits g = absurd (nand refl)
  two_leaves (operator binaries.Or) e f j k a b d takes left right shown nand nor fits g = absurd (nor refl)
  two_leaves (method methods.Add) e f j k a b d takes left right shown nand nor fits g = as_meant i.Add (b ∷ a ∷ stack) (sum a b) d (some_is _ d g) (two pc slots calls SumFits sum a b stack fits)
  two_leaves (method methods.Subtract) e f j k a b d takes left right shown nand nor fits g = as_meant i.Sub (b ∷ a ∷ stack) (difference a b) d (some_is _ d g) (two pc slots calls DifferenceFits difference a b stack fits)
  two_leaves (method methods.Multiply) e f j k a b d takes left right shown nand nor fits g = as_meant i.Mul (b ∷ a ∷ stack) (product a b) d (some_is _ d g) (two pc slots calls ProductFits product a b stack fits)
  two_leaves (method methods.DivideExact) e f j k a b d takes left right shown nand nor fits g =
      let n = shown_number scope f in
      let u = unless_some b (exact_quotient a (numerator_of b)) d g in
      let w = both_true (is_big k) (shows_plain_divisor scope f) (both_true (is_big j) (is_big k && shows_plain_divisor scope f) takes).1 in
      let s = shown w.1 in
      as_meant (i.DivExact n) (b ∷ a ∷ stack) (exact_quotient a n) d (ap (exact_quotient a) (sym s.0) ∙ u.1)
      (two pc slots calls (λ a b. ExactDivisionFits n a) (λ a b. exact_quotient a n) a b stack (record { plain = s.1; fits = subst (ExactQuotientFits a) s.0 fits }))
  two_leaves (method methods.CompareTo) e f j k a b d takes left right shown nand nor fits g = as_meant i.Cmp (b ∷ a ∷ stack) (whole_decimal (comparison a b)) d (some_is _ d g) (two pc slots calls ComparisonFits (λ a b. whole_decimal (comparison a b)) a b stack fits)
  two_leaves (method methods.Min) e f j k a b d takes left right shown nand nor fits g = as_meant i.Min (b ∷ a ∷ stack) (lesser a b) d (some_is _ d g) (two pc slots calls ComparisonFits lesser a b stack fits)
  two_leaves (method methods.Max) e f j k a b d takes left right shown nand nor fits g = as_meant i.Max (b ∷ a ∷ stack) (greater a b) d (some_is _ d g) (two pc slots calls ComparisonFits greater a b stack fits)
  two_leaves (divide s m) e f j k a b d takes left right shown nand nor fits g =
      let u = unless_some b (quotient m s a b) d g in
      as_meant (i.Div s m) (b ∷ a ∷ stack) (quotient m s a b) d u.1 (two pc slots calls (DivisionFits s m) (quotient m s) a b stack (record { not_zero = not_zero b u.0; fits = fits }))
