use Rattle.std.proofs.Common.{[], ap, arith, length}
use Rattle.std.proofs.lemmas.List.{length-map}
use Rattle.book_year.specs.Rows.{year_rows}
use Rattle.book_year.specs.Kept.{kept}
use Rattle.book_year.specs.Picks.{planned_before}
use Rattle.book_year.proofs.OldLemmas.{rows_length}
use Rattle.book_year.proofs.chain.recalculate.Goals as goal

pub copied-requires : goal.copied-requires
copied-requires g c =
    let p = planned_before c.args.picks.now in
    let rs = c.args.old.records.now in
    omega (arith, c.requires.front.within, ap length c.requires.old.are, length-map (year_rows p rs) kept, rows_length p [] rs)

pub returns-clause-done : goal.returns-clause-done
returns-clause-done g c = rw (c.in_ok-append.ensures.items, c.in_ok-outcomes.ensures, ← c.in_ok-rest.ensures.kept) c.in_ok-rest.ensures.done
