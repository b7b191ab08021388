use Rattle.std.proofs.Common.{◌∙◌, ap, pos, ◌^◌, to_z, of_z, ℤ, arith}
use Rattle.std.specs.Int.{w128}
use Rattle.std.proofs.lemmas.Int.{ints, to_z-of_z}
use Rattle.scaled_decimal.proofs.PowerLemmas.{power_at, power_fits, power_bound, ten_some}
use Rattle.scaled_decimal.proofs.powers.power_of_ten.Goals as goal

pub bounds-k : goal.bounds-k
bounds-k c = let bound = power_bound c.args.k c.requires in omega arith

pub returns-clause-value : goal.returns-clause-value
returns-clause-value c =
    let bound = power_bound c.args.k c.requires in
    ap (λ (z : ℤ). to_z w128 (of_z w128 z)) (power_at 0 38 c.args.k _ (omega arith) ∙ ap (λ j. pos (10 ^ j)) (omega arith)) ∙ to_z-of_z w128 (pos (10 ^ c.args.k)) (power_fits c.args.k bound)

pub returns-clause-positive : goal.returns-clause-positive
returns-clause-positive c = let some = ten_some c.args.k in rw (returns-clause-value c) (omega (arith, ints))

pub returns-clause-kept : goal.returns-clause-kept
returns-clause-kept c = rw (returns-clause-value c) c.requires
