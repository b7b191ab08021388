use Rattle.std.proofs.Common.{◌≢◌, [], ◌∙◌, rules}
use Rattle.std.specs.Prelude.{unwrap_or}
use Rattle.pap_expr.specs.declared.fault.ExprFault.TheVariants as faults
use Rattle.pap_reader.specs.Trees.{items_of}
use Rattle.flowchart_page.proofs.TableLemmas.{wrong_cells}
use Rattle.flowchart_page.proofs.declarations.write_value.Goals as goal

pub returns-in_ok-write_cells-in-Err : goal.returns-in_ok-write_cells-in-Err
returns-in_ok-write_cells-in-Err c =
    let known : c.in-Err.field-0 ≢ faults.Memory = search rules in
    let range = c.args.range.now in
    let comments = c.args.comments.now in
    let page = c.args.page.now in
    wrong_cells c.value_text-text.result.now (unwrap_or (items_of c.args.declared.now.value) []) c.deref.result.now range comments page
    c.write_cells.new.page c.in-Err.field-0 known c.value_text-text.ensures c.in-Err.ensures.fault
    (c.deref.ensures ∙ c.in_ok-line-in-Err.ensures) c.in_ok-write_cells-in-Err.ensures
