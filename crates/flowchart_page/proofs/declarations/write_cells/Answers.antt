use Rattle.std.proofs.Common.{◌++◌, ap, ◌∙◌, codes}
use Rattle.flowchart_markup.specs.Escapes.{escaped}
use Rattle.flowchart_page.proofs.TableLemmas.{cells_written}
use Rattle.flowchart_page.proofs.declarations.write_cells.Goals as goal

pub returns : goal.returns
returns c =
    let page = c.args.page.now in
    let num = codes "<td class=\"num\">" in
    let range = c.args.range.now in
    cells_written c.args.value.now c.args.range.now c.args.comments.now page c.put.new.self c.write_comments.new.page
    (c.in_ok-put.ensures
    ∙ ap (λ v. page ++ (num ++ (escaped v ++ (num ++ (escaped range ++ codes "<td>"))))) c.as_bytes.ensures.value)
    c.in_ok-write_comments.ensures
