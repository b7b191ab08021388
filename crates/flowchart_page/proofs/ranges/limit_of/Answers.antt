use Rattle.std.proofs.Common.{◌≡◌, [], ap, ◌∙◌, string_bytes}
use Rattle.std.specs.Prelude.{find}
use Rattle.std.specs.Option.{option_map_or}
use Rattle.std.specs.Str.{bytes_eq}
use Rattle.std.proofs.lemmas.Result.{IfOk-weaker}
use Rattle.limits_file.specs.declared.limits.InputLimit.{InputLimit}
use Rattle.limits_file.specs.Limits.{limit_named}
use Rattle.flowchart_page.specs.Ranges.{limit_text}
use Rattle.flowchart_page.proofs.ranges.limit_of.Goals as goal

pub returns-in-Some : goal.returns-in-Some
returns-in-Some c =
    let name = c.args.name.now in
    IfOk-weaker c.limit_text.result _
    (λ text. string_bytes text ≡ option_map_or limit_text (limit_named c.args.limits.now name) [])
    (λ text e. e
    ∙ ap (λ o. option_map_or limit_text o [])
    (c.in-Some.ensures ∙ ap (find (λ (l : InputLimit). bytes_eq l.name name)) c.as_slice.ensures))
    c.limit_text.ensures

pub returns-in-None : goal.returns-in-None
returns-in-None c =
    c.new.ensures.bytes
    ∙ ap (λ o. option_map_or limit_text o [])
    (c.in-None.ensures ∙ ap (find (λ (l : InputLimit). bytes_eq l.name c.args.name.now)) c.as_slice.ensures)
