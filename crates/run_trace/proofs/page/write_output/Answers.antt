use Rattle.std.proofs.Common.{◌++◌, ap, ◌∙◌}
use Rattle.std.proofs.lemmas.Result.{on_ok_weaker}
use Rattle.run_trace.specs.RunPages.{amount_row}
use Rattle.run_trace.proofs.page.write_output.Goals as goal

pub returns : goal.returns
returns c =
    let part = c.args.part.now in
    let output = c.args.output.now in
    on_ok_weaker c.put_output.result
    (λ e. e ∙ ap (λ v. part ++ amount_row output.name v) (c.as_bytes.ensures.value ∙ c.in_ok-text.ensures))
    c.put_output.ensures
