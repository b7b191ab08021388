use Rattle.std.proofs.Common.{rules, arith, ◌≡◌, ℕ, zero, suc, ℤ, FitsSigned, pos, ◌<ℤ◌, ◌+ℤ◌, ◌-ℤ◌, ◌∙◌, refl, sym}
use Rattle.std.specs.Prelude.{int_div, int_rem, unsigned_abs}
use Rattle.std.specs.Int.{w128}
use Rattle.std.proofs.lemmas.Int.{ints, to_z-of_z, rem_below}
use Rattle.scaled_decimal.specs.Rounding.{RoundsPositive}
use Rattle.scaled_decimal.specs.laws.RoundingLemmas.{stays, moves_up, moves_down, divides, mag_quot}
use Rattle.scaled_decimal.proofs.MachineLemmas.{quotient_is, part_fits, rest_is, moves_is, next_fits}
use Rattle.scaled_decimal.proofs.rounding.round_to_neighbour.Goals as goal

pub returns-then-rest-eq0 : goal.returns-then-rest-eq0
returns-then-rest-eq0 c =
    let fn : FitsSigned w128 c.args.n = c.ranges.n in
    let fd : FitsSigned w128 c.args.d = c.ranges.d in
    let fq : FitsSigned w128 c.cut_quotient-towards_zero.result = search rules in
    let cut : c.cut_quotient-towards_zero.result ≡ int_div c.args.n c.args.d = simp to_z-of_z at c.cut_quotient-towards_zero.ensures in
    let rest = rest_is c.args.n c.args.d c.cut_quotient-towards_zero.result c.ranges.n c.ranges.d c.requires.positive cut c.unsigned_abs-rest.result c.requires.dividend c.unsigned_abs-rest.ensures.value in
    rw (quotient_is c.args.n c.args.d c.cut_quotient-towards_zero.result c.ranges.n c.ranges.d c.requires.positive cut) (divides c.args.mode c.args.n c.args.d c.requires.positive (sym rest ∙ c.if-rest-eq0.true))

pub overflow_mul-rest : goal.overflow_mul-rest
overflow_mul-rest c =
    let fn : FitsSigned w128 c.args.n = c.ranges.n in
    let fd : FitsSigned w128 c.args.d = c.ranges.d in
    let fq : FitsSigned w128 c.cut_quotient-towards_zero.result = search rules in
    let cut : c.cut_quotient-towards_zero.result ≡ int_div c.args.n c.args.d = simp to_z-of_z at c.cut_quotient-towards_zero.ensures in
    let rest = rest_is c.args.n c.args.d c.cut_quotient-towards_zero.result c.ranges.n c.ranges.d c.requires.positive cut c.unsigned_abs-rest.result c.requires.dividend c.unsigned_abs-rest.ensures.value in
    let small = rem_below c.args.n c.args.d (omega (arith, ints)) in
    omega (arith, rest, small)

pub returns-then-not-moves_away : goal.returns-then-not-moves_away
returns-then-not-moves_away c =
    let fn : FitsSigned w128 c.args.n = c.ranges.n in
    let fd : FitsSigned w128 c.args.d = c.ranges.d in
    let fq : FitsSigned w128 c.cut_quotient-towards_zero.result = search rules in
    let cut : c.cut_quotient-towards_zero.result ≡ int_div c.args.n c.args.d = simp to_z-of_z at c.cut_quotient-towards_zero.ensures in
    let rest = rest_is c.args.n c.args.d c.cut_quotient-towards_zero.result c.ranges.n c.ranges.d c.requires.positive cut c.unsigned_abs-rest.result c.requires.dividend c.unsigned_abs-rest.ensures.value in
    let moves = moves_is c.args.n c.args.d c.cut_quotient-towards_zero.result c.ranges.n c.ranges.d c.requires.positive cut c.args.mode c.moves_away.result c.unsigned_abs-rest.result c.unsigned_abs-2.result c.unsigned_abs.result rest c.unsigned_abs.ensures.value c.unsigned_abs-2.ensures.value c.moves_away.ensures in
    rw (quotient_is c.args.n c.args.d c.cut_quotient-towards_zero.result c.ranges.n c.ranges.d c.requires.positive cut) (stays c.args.mode c.args.n c.args.d c.requires.positive (omega (arith, rest)) (sym moves ∙ c.if-not-moves_away.true))

pub returns-then-n-lt0 : goal.returns-then-n-lt0
returns-then-n-lt0 c =
    let fn : FitsSigned w128 c.args.n = c.ranges.n in
    let fd : FitsSigned w128 c.args.d = c.ranges.d in
    let fq : FitsSigned w128 c.cut_quotient-towards_zero.result = search rules in
    let cut : c.cut_quotient-towards_zero.result ≡ int_div c.args.n c.args.d = simp to_z-of_z at c.cut_quotient-towards_zero.ensures in
    let rest = rest_is c.args.n c.args.d c.cut_quotient-towards_zero.result c.ranges.n c.ranges.d c.requires.positive cut c.unsigned_abs-rest.result c.requires.dividend c.unsigned_abs-rest.ensures.value in
    let moves = moves_is c.args.n c.args.d c.cut_quotient-towards_zero.result c.ranges.n c.ranges.d c.requires.positive cut c.args.mode c.moves_away.result c.unsigned_abs-rest.result c.unsigned_abs-2.result c.unsigned_abs.result rest c.unsigned_abs.ensures.value c.unsigned_abs-2.ensures.value c.moves_away.ensures in
    let fits : FitsSigned w128 (int_div c.args.n c.args.d -ℤ pos 1) = (next_fits (int_div c.args.n c.args.d) (omega (arith, mag_quot c.args.n c.args.d))).0 in
    rw (quotient_is c.args.n c.args.d c.cut_quotient-towards_zero.result c.ranges.n c.ranges.d c.requires.positive cut, to_z-of_z w128 _ fits) (moves_down c.args.mode c.args.n c.args.d c.requires.positive (omega (arith, ints)) (omega (arith, rest)) (sym moves ∙ c.if-not-moves_away.false))

pub returns-else-n-lt0 : goal.returns-else-n-lt0
returns-else-n-lt0 c =
    let fn : FitsSigned w128 c.args.n = c.ranges.n in
    let fd : FitsSigned w128 c.args.d = c.ranges.d in
    let fq : FitsSigned w128 c.cut_quotient-towards_zero.result = search rules in
    let cut : c.cut_quotient-towards_zero.result ≡ int_div c.args.n c.args.d = simp to_z-of_z at c.cut_quotient-towards_zero.ensures in
    let rest = rest_is c.args.n c.args.d c.cut_quotient-towards_zero.result c.ranges.n c.ranges.d c.requires.positive cut c.unsigned_abs-rest.result c.requires.dividend c.unsigned_abs-rest.ensures.value in
    let moves = moves_is c.args.n c.args.d c.cut_quotient-towards_zero.result c.ranges.n c.ranges.d c.requires.positive cut c.args.mode c.moves_away.result c.unsigned_abs-rest.result c.unsigned_abs-2.result c.unsigned_abs.result rest c.unsigned_abs.ensures.value c.unsigned_abs-2.ensures.value c.moves_away.ensures in
    let fits : FitsSigned w128 (int_div c.args.n c.args.d +ℤ pos 1) = (next_fits (int_div c.args.n c.args.d) (omega (arith, mag_quot c.args.n c.args.d))).1 in
    rw (quotient_is c.args.n c.args.d c.cut_quotient-towards_zero.result c.ranges.n c.ranges.d c.requires.positive cut, to_z-of_z w128 _ fits) (moves_up c.args.mode c.args.n c.args.d c.requires.positive (omega (arith, ints)) (omega (arith, rest)) (sym moves ∙ c.if-not-moves_away.false))

pub overflow_mul-towards_zero : goal.overflow_mul-towards_zero
overflow_mul-towards_zero c =
    let fn : FitsSigned w128 c.args.n = c.ranges.n in
    let fd : FitsSigned w128 c.args.d = c.ranges.d in
    let fq : FitsSigned w128 c.cut_quotient-towards_zero.result = search rules in
    let cut : c.cut_quotient-towards_zero.result ≡ int_div c.args.n c.args.d = simp to_z-of_z at c.cut_quotient-towards_zero.ensures in
    (part_fits c.args.n c.args.d c.cut_quotient-towards_zero.result c.ranges.n c.ranges.d c.requires.positive cut c.requires.dividend).0

pub overflow_sub-n : goal.overflow_sub-n
overflow_sub-n c =
    let fn : FitsSigned w128 c.args.n = c.ranges.n in
    let fd : FitsSigned w128 c.args.d = c.ranges.d in
    let fq : FitsSigned w128 c.cut_quotient-towards_zero.result = search rules in
    let cut : c.cut_quotient-towards_zero.result ≡ int_div c.args.n c.args.d = simp to_z-of_z at c.cut_quotient-towards_zero.ensures in
    (part_fits c.args.n c.args.d c.cut_quotient-towards_zero.result c.ranges.n c.ranges.d c.requires.positive cut c.requires.dividend).1

pub overflow_sub-result : goal.overflow_sub-result
overflow_sub-result c =
    let fn : FitsSigned w128 c.args.n = c.ranges.n in
    let fd : FitsSigned w128 c.args.d = c.ranges.d in
    let fq : FitsSigned w128 c.cut_quotient-towards_zero.result = search rules in
    let cut : c.cut_quotient-towards_zero.result ≡ int_div c.args.n c.args.d = simp to_z-of_z at c.cut_quotient-towards_zero.ensures in
    rw (quotient_is c.args.n c.args.d c.cut_quotient-towards_zero.result c.ranges.n c.ranges.d c.requires.positive cut) (next_fits (int_div c.args.n c.args.d) (omega (arith, mag_quot c.args.n c.args.d, c.requires.dividend))).0

pub overflow_add-result : goal.overflow_add-result
overflow_add-result c =
    let fn : FitsSigned w128 c.args.n = c.ranges.n in
    let fd : FitsSigned w128 c.args.d = c.ranges.d in
    let fq : FitsSigned w128 c.cut_quotient-towards_zero.result = search rules in
    let cut : c.cut_quotient-towards_zero.result ≡ int_div c.args.n c.args.d = simp to_z-of_z at c.cut_quotient-towards_zero.ensures in
    rw (quotient_is c.args.n c.args.d c.cut_quotient-towards_zero.result c.ranges.n c.ranges.d c.requires.positive cut) (next_fits (int_div c.args.n c.args.d) (omega (arith, mag_quot c.args.n c.args.d, c.requires.dividend))).1
