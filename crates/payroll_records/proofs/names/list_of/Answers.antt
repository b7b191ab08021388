use Rattle.std.proofs.lemmas.Slice.Eq.{slice_eq-Decides, bytes_eq-Decides}
use Rattle.payroll_records.proofs.names.list_of.Goals as goal

pub returns-then-eq : goal.returns-then-eq
returns-then-eq c =
    (slice_eq-Decides bytes_eq-Decides _ _ c.eq.result (rw c.as_slice.ensures.value at c.eq.ensures)).0 c.if-eq.true
