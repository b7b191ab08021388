use Rattle.std.proofs.Common.{sym, subst, ◌∙◌, ◌++◌}
use Rattle.std.specs.Prelude.{codes, string_bytes}
use Rattle.std.proofs.lemmas.Result.{IfOk-weaker}
use Rattle.std.proofs.lemmas.Str.{IsUtf8-string_bytes}
use Rattle.plain_words.specs.Lines.{shown_text, EndsWith}
use Rattle.plain_words.specs.private.FoundViews.{help_text}
use Rattle.plain_words.proofs.Shown.{shown_end}
use Rattle.plain_words.proofs.reason.reason_line.Goals as goal

pub returns-clause-end : goal.returns-clause-end
returns-clause-end c =
    let end = codes "; " ++ help_text c.args.found in
    let place = c.in_ok-place.place in
    let ends = shown_end (string_bytes place) c.args.wrong.now end c.deref.result.now
    (IsUtf8-string_bytes place) c.utf8.wrong (c.deref.ensures ∙ c.in_ok-text.ensures.ok) in
    IfOk-weaker c.one_line.result _ _ (λ words is. subst (EndsWith (shown_text end)) (sym is) ends)
    c.one_line.ensures.text
