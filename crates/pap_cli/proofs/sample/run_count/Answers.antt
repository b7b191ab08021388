use Rattle.std.proofs.Common.{◌∙◌, ap, sym}
use Rattle.book_edits.specs.Books.{run_count}
use Rattle.recalc_engine.proofs.Laws.{book_rows_counted}
use Rattle.pap_cli.proofs.sample.run_count.Goals as goal

pub returns : goal.returns
returns c =
    c.years.ensures.kept.count ∙ ap run_count c.years.ensures.years ∙ sym (book_rows_counted c.args.book.now)
