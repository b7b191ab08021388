use Rattle.std.proofs.Common.{◌≡◌, ◌∷◌, ◌++◌, [], OnOk, sym, subst}
use Rattle.std.specs.Prelude.{option_map}
use Rattle.flowchart_methods.specs.Turns.{AddsInTurn}
use Rattle.flowchart_page.specs.Runs.{run_parts, run_texts}
use Rattle.flowchart_page.proofs.HeaderLemmas.{on_ok}
use Rattle.flowchart_page.proofs.TableLemmas.{one_text}
use Rattle.flowchart_page.proofs.chart.append_run.Goals as goal

pub returns-in-Some : goal.returns-in-Some
returns-in-Some c =
    let part = c.in-Some.run'.part.now in
    let old = c.args.page.now in
    let new = c.append.new.self in
    subst (λ run. OnOk c.append.result (AddsInTurn (run_texts (option_map run_parts run)) old new)) (sym c.in-Some.is)
    (on_ok c.append.result (new ≡ old ++ part) (AddsInTurn (part ∷ []) old new) c.append.ensures (one_text part old new))
