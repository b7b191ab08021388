use Rattle.std.proofs.Common.{◌∙◌}
use Rattle.pap_reader.specs.Trees.{raw_declaration_of}
use Rattle.flowchart_page.specs.private.TableViews.{source_of}
use Rattle.flowchart_page.proofs.TableLemmas.{row_as}
use Rattle.flowchart_page.proofs.declarations.write_name.Goals as goal

pub returns : goal.returns
returns c =
    row_as (source_of c.args.declarations) c.args.element c.args.number c.is_named-is_refused.result c.deref.result.now
    c.args.comments.now (raw_declaration_of c.args.declared.now) c.args.page.now c.write_row.new.page
    c.is_named-is_refused.ensures (c.deref.ensures.value ∙ c.in_ok-range.ensures) c.in_ok-write_row.ensures
