use Rattle.std.proofs.Common.{append_assoc}
use Rattle.report_csv.proofs.front.write_front.Goals as goal

pub returns : goal.returns
returns c =
    rw (c.in_ok-put_plan.ensures, c.in_ok-put_field-2.ensures, c.in_ok-put_field.ensures, c.in_ok-extend_from_slice.ensures.items, c.clear.ensures.items, c.bytes.ensures.bytes, c.month_text.ensures, c.day_text.ensures)
    (simp append_assoc)
