use Rattle.payroll_records.specs.KeptValues.{AreNames, listed}
use Rattle.payroll_records.proofs.GivenLemmas.{names_kept}
use Rattle.std.proofs.Common.{subst, sym}
use Rattle.payroll_records.proofs.values.Values.with_list.Goals as goal

pub returns-clause-names : goal.returns-clause-names
returns-clause-names c =
    subst AreNames (sym c.in_ok-list.ensures) (names_kept (listed c.self.inside.names) c.self.inside.numbers.items c.self.invariant)
