use Rattle.std.proofs.Common.{◌≡◌, [], ◌++◌, sym, ap, ◌∙◌, codes}
use Rattle.std.proofs.lemmas.List.{append-nil}
use Rattle.flowchart_markup.specs.Escapes.{escaped}
use Rattle.flowchart_page.specs.Declarations.{row_start}
use Rattle.flowchart_page.proofs.HeaderLemmas.{on_ok}
use Rattle.flowchart_page.proofs.declarations.write_row_start.Goals as goal

pub returns-then-is_refused : goal.returns-then-is_refused
returns-then-is_refused c =
    let page = c.args.page.now in
    let new = c.put.new.self in
    let d = c.args.declared.now in
    let word = c.as_bytes.result.now in
    let start = codes "<tr id=\"name-" in
    let named = codes "\" class=\"bad\"><th scope=\"row\">" in
    on_ok c.put.result (new ≡ page ++ (start ++ (d.name ++ (named ++ (d.name ++ (codes "<td>" ++ (escaped word ++ [])))))))
    (new ≡ page ++ row_start c.args.is_refused d.name d.kind)
    c.put.ensures
    (λ e. e
    ∙ ap (λ k. page ++ (start ++ (d.name ++ (named ++ (d.name ++ (codes "<td>" ++ k)))))) (append-nil (escaped word))
    ∙ ap (λ k. page ++ (start ++ (d.name ++ (named ++ (d.name ++ (codes "<td>" ++ escaped k))))))
    (c.as_bytes.ensures.value ∙ c.kind_word.ensures)
    ∙ ap (λ b. page ++ row_start b d.name d.kind) (sym c.if-is_refused.true))

pub returns-else-is_refused : goal.returns-else-is_refused
returns-else-is_refused c =
    let page = c.args.page.now in
    let new = c.put-else-is_refused.new.self in
    let d = c.args.declared.now in
    let word = c.as_bytes.result.now in
    let start = codes "<tr id=\"name-" in
    let named = codes "\"><th scope=\"row\">" in
    on_ok c.put-else-is_refused.result (new ≡ page ++ (start ++ (d.name ++ (named ++ (d.name ++ (codes "<td>" ++ (escaped word ++ [])))))))
    (new ≡ page ++ row_start c.args.is_refused d.name d.kind)
    c.put-else-is_refused.ensures
    (λ e. e
    ∙ ap (λ k. page ++ (start ++ (d.name ++ (named ++ (d.name ++ (codes "<td>" ++ k)))))) (append-nil (escaped word))
    ∙ ap (λ k. page ++ (start ++ (d.name ++ (named ++ (d.name ++ (codes "<td>" ++ escaped k))))))
    (c.as_bytes.ensures.value ∙ c.kind_word.ensures)
    ∙ ap (λ b. page ++ row_start b d.name d.kind) (sym c.if-is_refused.false))
