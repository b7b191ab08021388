-- What numbers of 128 bits hold: z is kept as its bits, `to_z w128 (of_z w128 z)`.
use Rattle.std.proofs.Common.{◌≡◌, ℕ, ◌*◌, ◌%◌, Bool, nat_eq, ℤ, pos, ◌+ℤ◌, ◌-ℤ◌, ◌*ℤ◌, ◌<ℤ◌, int_div, int_rem, int_lt, unsigned_abs, FitsSigned, to_z, of_z, ap, ◌∙◌, arith}
use Rattle.std.specs.Int.{w128}
use Rattle.std.proofs.lemmas.Int.{ints, to_z-of_z, quot_fits, fits_signed_from_abs}
use Rattle.scaled_decimal.specs.declared.rounding.Mode.{Mode}
use Rattle.scaled_decimal.specs.laws.IntegerLemmas.{abs_sub}
use Rattle.scaled_decimal.specs.Limits.{IsWithinLimit}
use Rattle.scaled_decimal.specs.private.RoundingDecision.{moves_away}
use Rattle.scaled_decimal.specs.laws.RoundingLemmas.{is_odd, part_bound, left_over}

-- a number within the limit fits 128 bits
pub kept_fits : (n : ℤ) → IsWithinLimit n → FitsSigned w128 n
kept_fits n kept = fits_signed_from_abs w128 n (omega arith)

-- its neighbours too
pub next_fits : (n : ℤ) → IsWithinLimit n → FitsSigned w128 (n -ℤ pos 1) × FitsSigned w128 (n +ℤ pos 1)
next_fits n kept = (fits_signed_from_abs w128 (n -ℤ pos 1) (omega (arith, ints)), fits_signed_from_abs w128 (n +ℤ pos 1) (omega (arith, ints)))

-- the part of a dividend that divides, and the rest of it
pub parts_fit : (n d : ℤ) → IsWithinLimit n → FitsSigned w128 (int_div n d *ℤ d) × FitsSigned w128 (n -ℤ int_div n d *ℤ d)
parts_fit n d kept =
    let part = part_bound n d in
    let rest = abs_sub n (int_div n d *ℤ d) in
    (fits_signed_from_abs w128 (int_div n d *ℤ d) (omega arith), fits_signed_from_abs w128 (n -ℤ int_div n d *ℤ d) (omega arith))

-- the bits' number
abbrev pub held : ℤ → ℤ
held z = to_z w128 (of_z w128 z)

-- the code's quotient, what it leaves, and whether it moves
module _ (n d q : ℤ) (fn : FitsSigned w128 n) (fd : FitsSigned w128 d) (positive : pos 0 <ℤ d) (is : q ≡ int_div n d) where
  pub quotient_is : held q ≡ int_div n d
  quotient_is = ap held is ∙ to_z-of_z w128 (int_div n d) (quot_fits w128 n d fn positive)

  pub part_fits : IsWithinLimit n → FitsSigned w128 (held q *ℤ held d) × FitsSigned w128 (held n -ℤ held (held q *ℤ held d))
  part_fits kept =
      let parts = parts_fit n d kept in
      rw (quotient_is, to_z-of_z w128 d fd, to_z-of_z w128 n fn, to_z-of_z w128 (int_div n d *ℤ d) parts.0) parts

  pub rest_is : (rest : ℕ) → IsWithinLimit n → rest ≡ unsigned_abs (held (held n -ℤ held (held q *ℤ held d))) → rest ≡ unsigned_abs (int_rem n d)
  rest_is rest kept e =
      let parts = parts_fit n d kept in
      let part : FitsSigned w128 (int_div n d *ℤ d) = parts.0 in
      let left : FitsSigned w128 (n -ℤ int_div n d *ℤ d) = parts.1 in
      let cut = rw quotient_is at e in
      let plain : rest ≡ unsigned_abs (n -ℤ int_div n d *ℤ d) = simp to_z-of_z at cut in
      plain ∙ ap unsigned_abs (left_over n d)

  pub moves_is : (mode : Mode) (moved : Bool) (rest whole cut : ℕ) → rest ≡ unsigned_abs (int_rem n d) → cut ≡ unsigned_abs (held q) → whole ≡ unsigned_abs (held d) → moved ≡ moves_away mode (int_lt (held n) (pos 0)) (nat_eq (cut % 2) 1) (2 * rest) whole → moved ≡ moves_away mode (int_lt n (pos 0)) (is_odd (unsigned_abs (int_div n d))) (2 * unsigned_abs (int_rem n d)) (unsigned_abs d)
  moves_is mode moved rest whole cut r c w e =
      let c' : cut ≡ unsigned_abs (int_div n d) = rw quotient_is at c in
      let w' : whole ≡ unsigned_abs d = simp to_z-of_z at w in
      simp (to_z-of_z, r, c', w') at e
