use Rattle.std.proofs.Common.{◌≡◌, refl, rules, string_bytes}
use Rattle.std.proofs.lemmas.Result.{IfOk-weaker}
use Rattle.scaled_decimal.specs.Decimals.{decimal}
use Rattle.interval_analysis.specs.Answers.{named_range}
use Rattle.plan_answers.specs.Lines.{range_line}
use Rattle.plan_answers.proofs.LineLemmas.{range_text}
use Rattle.plan_answers.proofs.check.range_line.Goals as goal

pub returns : goal.returns
returns c =
    let o = c.args.output.now in
    let low : c.new-low.result ≡ decimal o.range.lo o.range.s_hi = search rules in
    let high : c.new-high.result ≡ decimal o.range.hi o.range.s_hi = search rules in
    IfOk-weaker c.format.result _ (λ line. string_bytes line ≡ range_line (named_range o))
    (λ line e. range_text (string_bytes line) o.name c.new-low.result c.new-high.result c.s_lo-least.result c.s_hi-greatest.result o refl low high c.s_lo-least.ensures.value c.s_hi-greatest.ensures.value e)
    c.format.ensures.ok
