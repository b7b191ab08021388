-- What private contracts cite beside the definitions of YearClauses.
use Rattle.std.specs.Prelude.{List}
use Rattle.payroll_records.specs.declared.record.Record.{Record}
use Rattle.plan_calendar.specs.Picking.{Entry, pick}
use Rattle.book_year.specs.Accepted.{Accepted}
use Rattle.book_year.specs.declared.year.Year.{Year}
use Rattle.book_year.specs.Kept.{job_by}
use Rattle.book_year.specs.declared.chain.Rest.{Rest}
use Rattle.book_year.specs.private.ChainClauses.{IsRest}

-- the year computed anew with these records, behind the outcomes that stay
abbrev pub IsComputed : List (Entry Accepted) → Year → List Record → Rest → Type 0
IsComputed plans old records r =
    IsRest (pick plans) (job_by (pick plans) old.records.items) records old.outcomes.items r
