use Rattle.std.proofs.Common.{◌∙◌, ◌++◌, ap, string_bytes}
use Rattle.std.proofs.lemmas.Result.{on_ok_weaker}
use Rattle.script_run.proofs.SampleLaws.{record_words}
use Rattle.script_run.proofs.sample.write_record.Goals as goal

pub returns : goal.returns
returns c =
    let month = c.unwrap-month.result in
    let is = rw c.unwrap-month.ensures at c.new.ensures.value in
    let words = record_words c.args.employee c.args.month month.year month.month c.pay_of-value.result is.0 is.1
    c.pay_of-value.ensures in
    on_ok_weaker c.write.result (λ e. e ∙ ap (λ t. string_bytes c.args.script.now ++ t) words) c.write.ensures.bytes
