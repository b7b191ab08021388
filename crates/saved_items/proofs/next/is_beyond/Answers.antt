use Rattle.std.proofs.Common.{◌≡◌, ◌+◌, ◌-◌, length, sym, ap, ap₂, ◌∙◌, arith}
use Rattle.std.specs.Prelude.{Some}
use Rattle.std.specs.Ordering.{is_lt}
use Rattle.std.specs.declared.cmp.Ordering.TheVariants.{Less}
use Rattle.std.specs.List.{slice_get}
use Rattle.payroll_records.specs.Orders.{key_cmp}
use Rattle.payroll_records.specs.Tables.{key_of}
use Rattle.payroll_records.specs.declared.record.Record.{Record}
use Rattle.payroll_records.proofs.Laws.{key_total}
use Rattle.saved_items.specs.private.ItemDecisions.{IsBeyond}
use Rattle.saved_items.proofs.ValueListLemmas.{last_above, all_get, by_less}
use Rattle.saved_items.proofs.next.is_beyond.Goals as goal

pub returns-in-Some : goal.returns-in-Some
returns-in-Some c =
    let records = c.args.records.now in
    let run = c.args.run.now in
    let last = c.in-Some.last.now in
    let there : slice_get records (length records - 1) ≡ Some last = sym c.in-Some.ensures.value in
    let long : length records ≡ length records - 1 + 1 = omega (arith, c.in-Some.ensures.item.3.0) in
    by_less (key_cmp (key_of last) (key_of run)) c.is_lt.result (IsBeyond records run)
    (c.is_lt.ensures ∙ ap is_lt c.cmp.ensures ∙ ap₂ (λ a b. is_lt (key_cmp a b)) c.key.ensures
    c.key-in-Some.ensures)
    (λ less. last_above key_cmp key_total key_of records (length records - 1) last
    (key_of run) c.requires long there less)
    (λ all. all_get (λ (q : Record). key_cmp (key_of q) (key_of run) ≡ Less) records
    (length records - 1) last all there)
