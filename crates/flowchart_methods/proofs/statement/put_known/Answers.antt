use Rattle.std.proofs.Common.{◌≡◌, ◌++◌, false, sym, ap, ◌∙◌}
use Rattle.std.specs.Prelude.{Some}
use Rattle.chart_layout.specs.Drawn.{drawn}
use Rattle.flowchart_methods.specs.declared.kind.MarkKind.TheVariants.{Nothing, Run, Told, Came, Missed, Dead, Failing}
use Rattle.flowchart_methods.specs.Captions.{placed_caption}
use Rattle.flowchart_methods.proofs.TurnLemmas.{on_ok}
use Rattle.flowchart_methods.proofs.statement.put_known.Goals as goal

pub returns-in-Nothing : goal.returns-in-Nothing
returns-in-Nothing c =
    let page = c.args.page.now in
    let name = c.args.name.now in
    let text = c.args.text.now in
    let known = Some c.args.words.now in
    let condition = c.as_bytes.result.now in
    let new = c.put.new.self in
    on_ok c.put.result (new ≡ page ++ placed_caption name condition known Nothing (drawn c.from-number.result false text))
    (new ≡ page ++ placed_caption name c.args.condition.now known c.args.kind (drawn c.args.number false text)) c.put.ensures
    (λ e. e
    ∙ ap (λ n. page ++ placed_caption name condition known Nothing (drawn n false text)) c.from-number.ensures
    ∙ ap (λ w. page ++ placed_caption name w known Nothing (drawn c.args.number false text)) c.as_bytes.ensures.value
    ∙ ap (λ k. page ++ placed_caption name c.args.condition.now known k (drawn c.args.number false text)) (sym c.in-Nothing.is))

pub returns-in-Run : goal.returns-in-Run
returns-in-Run c =
    let page = c.args.page.now in
    let name = c.args.name.now in
    let text = c.args.text.now in
    let known = Some c.args.words.now in
    let condition = c.as_bytes.result.now in
    let new = c.put-in-Run.new.self in
    on_ok c.put-in-Run.result (new ≡ page ++ placed_caption name condition known (Run 0) (drawn c.from-number.result false text))
    (new ≡ page ++ placed_caption name c.args.condition.now known c.args.kind (drawn c.args.number false text)) c.put-in-Run.ensures
    (λ e. e
    ∙ ap (λ n. page ++ placed_caption name condition known (Run 0) (drawn n false text)) c.from-number.ensures
    ∙ ap (λ w. page ++ placed_caption name w known (Run 0) (drawn c.args.number false text)) c.as_bytes.ensures.value
    ∙ ap (λ k. page ++ placed_caption name c.args.condition.now known k (drawn c.args.number false text)) (sym c.in-Run.is))

pub returns-in-Told : goal.returns-in-Told
returns-in-Told c =
    let page = c.args.page.now in
    let name = c.args.name.now in
    let text = c.args.text.now in
    let known = Some c.args.words.now in
    let condition = c.as_bytes.result.now in
    let new = c.put-in-Told.new.self in
    on_ok c.put-in-Told.result (new ≡ page ++ placed_caption name condition known Told (drawn c.from-number.result false text))
    (new ≡ page ++ placed_caption name c.args.condition.now known c.args.kind (drawn c.args.number false text)) c.put-in-Told.ensures
    (λ e. e
    ∙ ap (λ n. page ++ placed_caption name condition known Told (drawn n false text)) c.from-number.ensures
    ∙ ap (λ w. page ++ placed_caption name w known Told (drawn c.args.number false text)) c.as_bytes.ensures.value
    ∙ ap (λ k. page ++ placed_caption name c.args.condition.now known k (drawn c.args.number false text)) (sym c.in-Told.is))

pub returns-in-Came : goal.returns-in-Came
returns-in-Came c =
    let page = c.args.page.now in
    let name = c.args.name.now in
    let text = c.args.text.now in
    let known = Some c.args.words.now in
    let condition = c.as_bytes.result.now in
    let new = c.put-in-Came.new.self in
    on_ok c.put-in-Came.result (new ≡ page ++ placed_caption name condition known Came (drawn c.from-number.result false text))
    (new ≡ page ++ placed_caption name c.args.condition.now known c.args.kind (drawn c.args.number false text)) c.put-in-Came.ensures
    (λ e. e
    ∙ ap (λ n. page ++ placed_caption name condition known Came (drawn n false text)) c.from-number.ensures
    ∙ ap (λ w. page ++ placed_caption name w known Came (drawn c.args.number false text)) c.as_bytes.ensures.value
    ∙ ap (λ k. page ++ placed_caption name c.args.condition.now known k (drawn c.args.number false text)) (sym c.in-Came.is))

pub returns-in-Missed : goal.returns-in-Missed
returns-in-Missed c =
    let page = c.args.page.now in
    let name = c.args.name.now in
    let text = c.args.text.now in
    let known = Some c.args.words.now in
    let condition = c.as_bytes.result.now in
    let new = c.put-in-Missed.new.self in
    on_ok c.put-in-Missed.result (new ≡ page ++ placed_caption name condition known Missed (drawn c.from-number.result false text))
    (new ≡ page ++ placed_caption name c.args.condition.now known c.args.kind (drawn c.args.number false text)) c.put-in-Missed.ensures
    (λ e. e
    ∙ ap (λ n. page ++ placed_caption name condition known Missed (drawn n false text)) c.from-number.ensures
    ∙ ap (λ w. page ++ placed_caption name w known Missed (drawn c.args.number false text)) c.as_bytes.ensures.value
    ∙ ap (λ k. page ++ placed_caption name c.args.condition.now known k (drawn c.args.number false text)) (sym c.in-Missed.is))

pub returns-in-Dead : goal.returns-in-Dead
returns-in-Dead c =
    let page = c.args.page.now in
    let name = c.args.name.now in
    let text = c.args.text.now in
    let known = Some c.args.words.now in
    let condition = c.as_bytes.result.now in
    let new = c.put-in-Dead.new.self in
    on_ok c.put-in-Dead.result (new ≡ page ++ placed_caption name condition known Dead (drawn c.from-number.result false text))
    (new ≡ page ++ placed_caption name c.args.condition.now known c.args.kind (drawn c.args.number false text)) c.put-in-Dead.ensures
    (λ e. e
    ∙ ap (λ n. page ++ placed_caption name condition known Dead (drawn n false text)) c.from-number.ensures
    ∙ ap (λ w. page ++ placed_caption name w known Dead (drawn c.args.number false text)) c.as_bytes.ensures.value
    ∙ ap (λ k. page ++ placed_caption name c.args.condition.now known k (drawn c.args.number false text)) (sym c.in-Dead.is))

pub returns-in-Failing : goal.returns-in-Failing
returns-in-Failing c =
    let page = c.args.page.now in
    let name = c.args.name.now in
    let text = c.args.text.now in
    let known = Some c.args.words.now in
    let condition = c.as_bytes.result.now in
    let new = c.put-in-Failing.new.self in
    on_ok c.put-in-Failing.result (new ≡ page ++ placed_caption name condition known Failing (drawn c.from-number.result false text))
    (new ≡ page ++ placed_caption name c.args.condition.now known c.args.kind (drawn c.args.number false text)) c.put-in-Failing.ensures
    (λ e. e
    ∙ ap (λ n. page ++ placed_caption name condition known Failing (drawn n false text)) c.from-number.ensures
    ∙ ap (λ w. page ++ placed_caption name w known Failing (drawn c.args.number false text)) c.as_bytes.ensures.value
    ∙ ap (λ k. page ++ placed_caption name c.args.condition.now known k (drawn c.args.number false text)) (sym c.in-Failing.is))
