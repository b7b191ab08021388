use Rattle.report_csv.proofs.JoinLemmas.{rows_of_both, rows_of_parts, rows_of_years}
use Rattle.report_csv.proofs.PlainLemmas.{rows_plain}
use Rattle.report_csv.proofs.report.report_laws.Goals as goal

pub returns-clause-years : goal.returns-clause-years
returns-clause-years c = rows_of_years

pub returns-clause-joined : goal.returns-clause-joined
returns-clause-joined c = rows_of_both

pub returns-clause-parts : goal.returns-clause-parts
returns-clause-parts c = rows_of_parts

pub returns-clause-quotes : goal.returns-clause-quotes
returns-clause-quotes c = rows_plain
