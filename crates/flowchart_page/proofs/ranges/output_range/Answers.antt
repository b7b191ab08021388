use Rattle.std.proofs.Common.{◌≡◌, ◌++◌, ap, ◌∙◌, rules, codes, string_bytes}
use Rattle.std.proofs.lemmas.Result.{IfOk-weaker}
use Rattle.scaled_decimal.specs.Decimals.{decimal}
use Rattle.scaled_decimal.specs.PlainTexts.{plain_text}
use Rattle.flowchart_page.specs.Ranges.{range_text}
use Rattle.flowchart_page.proofs.ranges.output_range.Goals as goal

pub returns : goal.returns
returns c =
    let range = c.args.output.now.range in
    let low : c.new-low.result ≡ decimal range.lo range.s_hi = search rules in
    let high : c.new-high.result ≡ decimal range.hi range.s_hi = search rules in
    IfOk-weaker c.format.result _ (λ text. string_bytes text ≡ range_text range)
    (λ text e. e ∙ ap (λ d. plain_text d ++ (codes " to " ++ plain_text c.new-high.result)) low
    ∙ ap (λ d. plain_text (decimal range.lo range.s_hi) ++ (codes " to " ++ plain_text d)) high)
    c.format.ensures.ok
