use Rattle.std.proofs.Common.{◌++◌, ap, ◌∙◌}
use Rattle.std.proofs.lemmas.Result.{on_ok_weaker}
use Rattle.scaled_decimal.specs.PlainTexts.{plain_text}
use Rattle.run_trace.specs.RunPages.{word_row}
use Rattle.run_trace.proofs.page.write_input.Goals as goal

pub returns : goal.returns
returns c =
    let part = c.args.part.now in
    let name = c.args.name.now in
    on_ok_weaker c.put_input.result
    (λ e. e
    ∙ ap (λ v. part ++ word_row name v c.as_bytes-2.result.now) (c.as_bytes.ensures.value ∙ c.in_ok-text.ensures)
    ∙ ap (λ w. part ++ word_row name (plain_text c.args.value) w) (c.as_bytes-2.ensures.value ∙ c.given_word-word.ensures))
    c.put_input.ensures
