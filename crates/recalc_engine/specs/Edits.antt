-- A book after an edit of its runs that finds its run itself.
use Rattle.std.specs.Prelude.{ℕ, List}
use Rattle.payroll_records.specs.declared.record.Record.{Record}
use Rattle.payroll_records.specs.declared.when.When.{When}
use Rattle.book_edits.specs.Books.{changed_from, source_of, withdrawal, withdrawn_from}
use Rattle.recalc_engine.specs.Contents.{Contents, with_years}

-- the book with a run in place of the one that its record means
abbrev pub with_change : Record → Contents → Contents
with_change r book = with_years (changed_from (source_of book.years r) r book.years) book

-- the book without the run that a withdrawal means
abbrev pub with_withdrawal : List ℕ → When → Contents → Contents
with_withdrawal e w book = with_years (withdrawn_from (withdrawal book.years e w) book.years) book
