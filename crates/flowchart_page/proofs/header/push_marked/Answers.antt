use Rattle.flowchart_markup.specs.Escapes.{escaped}
use Rattle.flowchart_page.proofs.HeaderLemmas.{three_pieces}
use Rattle.flowchart_page.proofs.header.push_marked.Goals as goal

pub returns : goal.returns
returns c =
    three_pieces c.args.before.now (escaped c.args.text.now) c.args.behind.now c.args.html.now.items
    c.push_own.new.html.items c.push_escaped.new.page.items c.push_own-2.new.html.items c.in_ok-push_own.ensures
    c.in_ok-push_escaped.ensures c.in_ok-push_own-2.ensures
