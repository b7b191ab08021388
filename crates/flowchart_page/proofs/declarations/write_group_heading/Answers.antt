use Rattle.std.proofs.Common.{◌≡◌, ◌++◌, ap, ◌∙◌, codes}
use Rattle.std.specs.Fmt.{decimal}
use Rattle.flowchart_markup.specs.Escapes.{escaped}
use Rattle.flowchart_page.specs.Declarations.{group_heading}
use Rattle.flowchart_page.proofs.HeaderLemmas.{on_ok}
use Rattle.flowchart_page.proofs.declarations.write_group_heading.Goals as goal

pub returns : goal.returns
returns c =
    let page = c.args.page.now in
    let new = c.put.new.self in
    let count = c.args.count in
    let start = codes "<tbody><tr><th class=\"g\" colspan=\"5\" scope=\"rowgroup\">" in
    let behind = codes " <span>" ++ (decimal count ++ codes "</span></tr>\n") in
    on_ok c.put.result (new ≡ page ++ (start ++ (escaped c.as_bytes.result.now ++ behind)))
    (new ≡ page ++ group_heading c.args.element count) c.put.ensures
    (λ e. e ∙ ap (λ t. page ++ (start ++ (escaped t ++ behind))) (c.as_bytes.ensures.value ∙ c.group_title.ensures))
