use Rattle.std.proofs.Common.{◌∙◌, ◌++◌, ap, string_bytes}
use Rattle.plain_words.specs.Places.{files_of}
use Rattle.diagnostics.proofs.FurtherLemmas.{tells_faults}
use Rattle.diagnostics.proofs.refusals.refusal_lines.Goals as goal

pub returns : goal.returns
returns c =
    let lines = string_bytes c.in_ok-text.text in
    let refused = c.args.refused.now in
    tells_faults (files_of c.args.plan c.args.limits) refused.refusal
    lines (string_bytes c.in_ok-operands.operands) (string_bytes c.push_str.new.self) c.in_ok-text.ensures
    (refused.operands.items, c.requires.operands, c.in_ok-operands.ensures)
    (c.in_ok-push_str.ensures.bytes ∙ ap (λ w. lines ++ w) c.deref.ensures)
