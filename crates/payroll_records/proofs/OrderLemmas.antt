-- Days and keys are totally ordered.
use Rattle.std.specs.Cmp.{IsTotalOrder}
use Rattle.std.specs.Cmp.Lexicographic.{nat_list_cmp_total}
use Rattle.std.proofs.lemmas.Cmp.{nat_cmp_total, on_total, then_total}
use Rattle.payroll_records.specs.declared.day.Day.{Day}
use Rattle.payroll_records.specs.declared.record.Key.{Key}
use Rattle.payroll_records.specs.Orders.{day_cmp, key_cmp}

pub day_total : IsTotalOrder day_cmp
day_total =
    then_total (on_total (λ (d : Day). d.year) nat_cmp_total)
    (then_total (on_total (λ (d : Day). d.month) nat_cmp_total) (on_total (λ (d : Day). d.day) nat_cmp_total))

pub key_total : IsTotalOrder key_cmp
key_total = then_total (on_total (λ (k : Key). k.employee) nat_list_cmp_total) (on_total (λ (k : Key). k.day) day_total)
