use Rattle.flowchart_page.specs.private.TableViews.{source_of}
use Rattle.flowchart_page.proofs.TableLemmas.{no_group, group_added}
use Rattle.flowchart_page.proofs.declarations.write_group.Goals as goal

pub returns-then-is_blank : goal.returns-then-is_blank
returns-then-is_blank c =
    no_group (source_of c.args.declarations) c.args.group.element c.args.group.names.now c.args.page.now
    (c.is_blank.ensures c.if-is_blank.true)

pub returns : goal.returns
returns c =
    group_added (source_of c.args.declarations) c.args.group.element c.args.group.names.now _ c.args.page.now
    c.write_group_heading.new.page c.write_names.new.page c.put.new.self c.in_ok-write_group_heading.ensures
    c.in_ok-write_names.ensures c.in_ok-put.ensures
