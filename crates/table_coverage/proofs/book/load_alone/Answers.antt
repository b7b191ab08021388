use Rattle.std.proofs.Common.{sym, subst}
use Rattle.table_coverage.specs.private.Parts.{IsWithoutBook}
use Rattle.table_coverage.proofs.BookLemmas.{load_refused}
use Rattle.table_coverage.proofs.book.load_alone.Goals as goal

pub returns-in-Err-clause-refused : goal.returns-in-Err-clause-refused
returns-in-Err-clause-refused g c =
    let runs = c.args.runs.items in
    subst (λ r. IsWithoutBook runs r) (sym c.load_stop.ensures)
    (load_refused c.args.book.now c.load.new.self runs c.in-Err.why c.requires.years c.in-Err.ensures.answers)
