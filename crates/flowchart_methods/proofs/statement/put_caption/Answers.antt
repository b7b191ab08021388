use Rattle.std.proofs.Common.{◌≡◌, ◌++◌, true, false, sym, ap, ◌∙◌}
use Rattle.std.specs.Prelude.{None}
use Rattle.chart_layout.specs.Drawn.{drawn}
use Rattle.flowchart_methods.specs.declared.kind.MarkKind.TheVariants.{Nothing}
use Rattle.flowchart_methods.specs.Captions.{placed_caption}
use Rattle.flowchart_methods.proofs.TurnLemmas.{on_ok}
use Rattle.flowchart_methods.proofs.statement.put_caption.Goals as goal

pub returns-then-is_refused : goal.returns-then-is_refused
returns-then-is_refused c =
    let page = c.args.page.now in
    let name = c.args.name.now in
    let number = c.args.number in
    let text = c.args.text.now in
    let words = c.as_bytes.result.now in
    let new = c.put.new.self in
    on_ok c.put.result (new ≡ page ++ placed_caption name words None Nothing (drawn c.from-place.result true text))
    (new ≡ page ++ placed_caption name c.args.condition.now None Nothing (drawn number c.args.is_refused text)) c.put.ensures
    (λ e. e
    ∙ ap (λ n. page ++ placed_caption name words None Nothing (drawn n true text)) c.from-place.ensures
    ∙ ap (λ w. page ++ placed_caption name w None Nothing (drawn number true text)) c.as_bytes.ensures.value
    ∙ ap (λ b. page ++ placed_caption name c.args.condition.now None Nothing (drawn number b text)) (sym c.if-is_refused.true))

pub returns-else-is_refused : goal.returns-else-is_refused
returns-else-is_refused c =
    let page = c.args.page.now in
    let name = c.args.name.now in
    let number = c.args.number in
    let text = c.args.text.now in
    let words = c.as_bytes-else-is_refused.result.now in
    let new = c.put-else-is_refused.new.self in
    on_ok c.put-else-is_refused.result (new ≡ page ++ placed_caption name words None Nothing (drawn c.from-place.result false text))
    (new ≡ page ++ placed_caption name c.args.condition.now None Nothing (drawn number c.args.is_refused text)) c.put-else-is_refused.ensures
    (λ e. e
    ∙ ap (λ n. page ++ placed_caption name words None Nothing (drawn n false text)) c.from-place.ensures
    ∙ ap (λ w. page ++ placed_caption name w None Nothing (drawn number false text)) c.as_bytes-else-is_refused.ensures.value
    ∙ ap (λ b. page ++ placed_caption name c.args.condition.now None Nothing (drawn number b text)) (sym c.if-is_refused.false))
