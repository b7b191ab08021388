use Rattle.std.proofs.Common.{◌≡◌, pos, arith, to_z, rules}
use Rattle.std.specs.Int.{w8, w16}
use Rattle.std.proofs.lemmas.Int.{ints}
use Rattle.payroll_records.proofs.day.Day.new.Goals as goal

pub invariant_of-result : goal.invariant_of-result
invariant_of-result c =
    let y : to_z w16 c.args.year ≡ pos c.args.year = omega (arith, ints) in
    let m : to_z w8 c.args.month ≡ pos c.args.month = omega (arith, ints) in
    let d : to_z w8 c.args.day ≡ pos c.args.day = omega (arith, ints) in
    let date = c.in-Ok.ensures.succeeds.0 (search rules) in
    record { exists = record { years = omega arith; exists = simp (y, m, d) at date } }
