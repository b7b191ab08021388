use Rattle.std.specs.Prelude.{take, drop}
use Rattle.std.proofs.Common.{◌∙◌, ◌++◌, ap, sym}
use Rattle.std.proofs.lemmas.List.{take-append-drop}
use Rattle.plain_words.proofs.file_lines.trimmed.Goals as goal

pub returns : goal.returns
returns c =
    let is = c.trim_ascii_start.ensures.value in
    (take is.0 c.args.text.now, sym (take-append-drop is.0 c.args.text.now) ∙ ap (λ x. take is.0 c.args.text.now ++ x) (sym is.1))
