use Rattle.std.proofs.Common.{◌++◌, ap, ◌∙◌}
use Rattle.std.proofs.lemmas.Result.{on_ok_weaker}
use Rattle.run_trace.specs.StepLines.{step_place}
use Rattle.run_trace.specs.RunPages.{entry_text}
use Rattle.run_trace.specs.private.PageViews.{words_of_entry}
use Rattle.run_trace.proofs.entries.put_entry.Goals as goal

pub returns : goal.returns
returns c =
    let page = c.args.page.now in
    let e = c.args.entry in
    on_ok_weaker c.put.result
    (λ is. is ∙ ap (λ n. page ++ entry_text e.number (step_place e.method n) (words_of_entry e)) c.from-statement.ensures)
    c.put.ensures
