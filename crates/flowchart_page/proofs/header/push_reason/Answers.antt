use Rattle.std.proofs.Common.{◌++◌, ap, ◌∙◌, codes, string_bytes}
use Rattle.flowchart_markup.specs.Escapes.{escaped}
use Rattle.flowchart_page.specs.Pages.{shown_words, link_text}
use Rattle.flowchart_page.proofs.HeaderLemmas.{seven_pieces}
use Rattle.flowchart_page.proofs.header.push_reason.Goals as goal

pub returns : goal.returns
returns c =
    let said = c.push_own.new.html.items in
    let opened = c.push_own-2.new.html.items in
    let closed = c.push_own-3.new.html.items in
    seven_pieces (codes "<div class=\"no\"><p><b>Refused.</b> ") (shown_words (string_bytes c.args.reason.now.words))
    (codes ".</p>\n<p><code>") (escaped c.args.reason.now.line.items) (codes "</code>") (link_text c.args.site.now)
    (codes "</p></div>\n") c.args.html.now.items said c.push_words.new.html.items opened c.push_escaped.new.page.items closed
    c.push_own-4.new.html.items c.push_own-5.new.html.items c.in_ok-push_own.ensures
    (c.in_ok-push_words.ensures ∙ ap (λ w. said ++ shown_words w) c.deref.ensures) c.in_ok-push_own-2.ensures
    (c.in_ok-push_escaped.ensures ∙ ap (λ l. opened ++ escaped l) c.deref-2.ensures.value) c.in_ok-push_own-3.ensures
    (c.in_ok-push_own-4.ensures ∙ ap (λ t. closed ++ t) (c.deref-3.ensures ∙ c.in_ok-link.ensures)) c.in_ok-push_own-5.ensures
