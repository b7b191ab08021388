use Rattle.std.proofs.Common.{◌++◌, sym, ap, ◌∙◌}
use Rattle.std.proofs.lemmas.List.{append-nil}
use Rattle.book_edits.specs.RedoneClauses.{New, with_new}
use Rattle.recalc_engine.specs.KeptRows.{rows_kept_in}
use Rattle.what_if.specs.private.YearViews.{changes}
use Rattle.what_if.proofs.ChangeLemmas.{changes_none}
use Rattle.what_if.proofs.rows.push_year.Goals as goal

pub returns-in-None : goal.returns-in-None
returns-in-None c =
    let y = c.args.year.now in
    let none = ap (λ (new : New). changes (rows_kept_in y) (rows_kept_in (with_new y new))) c.in-None.is
    ∙ changes_none (rows_kept_in y) in
    sym (ap (λ t. c.args.rows.now.items ++ t) none ∙ append-nil c.args.rows.now.items)
