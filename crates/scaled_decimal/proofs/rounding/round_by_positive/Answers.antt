use Rattle.std.proofs.Common.{rules, arith, ◌≡◌, ℕ, zero, suc, ℤ, FitsSigned, pos, ◌<ℤ◌, refl}
use Rattle.std.specs.Prelude.{int_div, int_rem, unsigned_abs}
use Rattle.std.specs.Int.{w128}
use Rattle.std.proofs.lemmas.Int.{to_z-of_z}
use Rattle.scaled_decimal.specs.Rounding.{RoundsPositive}
use Rattle.scaled_decimal.specs.declared.rounding.Mode.TheVariants.{Down}
use Rattle.scaled_decimal.specs.laws.RoundingLemmas.{stays, divides}
use Rattle.scaled_decimal.proofs.MachineLemmas.{quotient_is}
use Rattle.scaled_decimal.proofs.rounding.round_by_positive.Goals as goal

-- a quotient that is cut towards zero is rounded so
cut_down : (n d : ℤ) → pos 0 <ℤ d → RoundsPositive Down n d (int_div n d)
cut_down n d p = by_rest (unsigned_abs (int_rem n d)) refl
  where
    by_rest : (r : ℕ) → unsigned_abs (int_rem n d) ≡ r → RoundsPositive Down n d (int_div n d)
    by_rest zero e = divides Down n d p e
    by_rest (suc r) e = stays Down n d p (omega (arith, e)) refl

pub returns-in-Down : goal.returns-in-Down
returns-in-Down c =
    let fn : FitsSigned w128 c.args.n = c.ranges.n in
    let fd : FitsSigned w128 c.args.d = c.ranges.d in
    let fq : FitsSigned w128 c.cut_quotient.result = search rules in
    let cut : c.cut_quotient.result ≡ int_div c.args.n c.args.d = simp to_z-of_z at c.cut_quotient.ensures in
    rw (quotient_is c.args.n c.args.d c.cut_quotient.result c.ranges.n c.ranges.d c.requires.positive cut, c.in-Down.is) (cut_down c.args.n c.args.d c.requires.positive)
