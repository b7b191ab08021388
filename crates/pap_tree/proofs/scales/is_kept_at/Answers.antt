use Rattle.std.proofs.Common.{◌-◌, ◌≤◌, arith}
use Rattle.std.proofs.Math.Nat.{pow-le-pow_right}
use Rattle.pap_tree.proofs.scales.is_kept_at.Goals as goal

pub power_of_ten-power-requires : goal.power_of_ten-power-requires
power_of_ten-power-requires c =
    let few : c.args.places - c.scale-2.result ≤ 37 = omega (arith, c.requires) in
    pow-le-pow_right {n = 10} (omega arith) few
