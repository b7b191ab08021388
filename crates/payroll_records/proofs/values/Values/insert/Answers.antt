use Rattle.std.proofs.Common.{refl, sym}
use Rattle.std.proofs.lemmas.Bool.{false≢true}
use Rattle.payroll_records.proofs.values.Values.insert.Goals as goal

pub returns-in-Ok-clause-twice : goal.returns-in-Ok-clause-twice
returns-in-Ok-clause-twice c = rw (c.in-Ok.ensures.found.at c.args.item) (λ e. refl, λ some. refl)

pub returns-in-Ok-clause-full : goal.returns-in-Ok-clause-full
returns-in-Ok-clause-full c = rw (c.in-Ok.ensures.found.at c.args.item) (λ e. cc, λ h. absurd (false≢true (sym h.0)))
