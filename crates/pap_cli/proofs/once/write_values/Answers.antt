use Rattle.std.proofs.Common.{[], ◌∷◌, ◌++◌, ◌∙◌, refl, sym, ap, take, string_bytes, arith}
use Rattle.scaled_decimal.specs.PlainTexts.{plain_text}
use Rattle.plan_answers.proofs.Laws.{text_more}
use Rattle.pap_cli.specs.RunLines.{value_line}
use Rattle.pap_cli.specs.private.RunViews.{named_lines}
use Rattle.pap_cli.proofs.LineLemmas.{lines_more, value_text}
use Rattle.pap_cli.proofs.once.write_values.Goals as goal

pub loop-output-preserved : goal.loop-output-preserved
loop-output-preserved c =
    let i = c.loop-output.output-index in
    let output = c.output-item.result in
    let first = string_bytes c.args.text.now in
    let words = output.name ++ (32 ∷ (plain_text output.value ++ (10 ∷ []))) in
    text_more (string_bytes c.write.new.self) (string_bytes c.loop-output.text) words first
    (named_lines (take i c.args.outputs.now)) (value_line output.name output.value) c.in_ok-write.ensures.bytes
    c.loop-output.invariant (value_text words output.name output.value refl)
    ∙ ap (λ z. first ++ z) (sym (lines_more c.args.outputs.now i output (omega arith) c.output-item.is))
