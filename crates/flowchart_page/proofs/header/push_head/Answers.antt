use Rattle.std.specs.Prelude.{option_map}
use Rattle.flowchart_page.specs.Heads.{head_start, version_text, lead_text}
use Rattle.flowchart_page.proofs.HeaderLemmas.{three_pieces}
use Rattle.flowchart_page.proofs.header.push_head.Goals as goal

pub returns : goal.returns
returns c =
    three_pieces (head_start c.args.head.subject c.args.head.title.now)
    (version_text (option_map (λ version. version.now) c.args.head.version)) (lead_text c.args.head.lead.now)
    c.args.html.now.items c.push_head_start.new.html.items c.push_version.new.html.items c.push_lead.new.html.items
    c.in_ok-push_head_start.ensures c.in_ok-push_version.ensures c.in_ok-push_lead.ensures
