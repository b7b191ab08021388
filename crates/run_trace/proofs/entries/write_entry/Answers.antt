use Rattle.std.proofs.Common.{ap, ◌∙◌}
use Rattle.std.proofs.lemmas.Result.{on_ok_weaker}
use Rattle.pap_tree.specs.Flowchart.{flowchart_of}
use Rattle.run_trace.specs.StepLines.{step_place, line_words, source_line, listed_at, told_operands}
use Rattle.run_trace.specs.RunPages.{place_of, listed_text, listed_reads, step_code}
use Rattle.run_trace.proofs.PageLemmas.{same_entry}
use Rattle.run_trace.proofs.entries.write_entry.Goals as goal

pub returns : goal.returns
returns c =
    let f = flowchart_of c.args.telling.plan.now in
    let lines = c.args.telling.lines.now in
    let s = c.args.step.now in
    let place = c.place_of-method.ensures in
    let listed = c.listed-listed.ensures ∙ ap (listed_at f) place in
    on_ok_weaker c.put_entry.result
    (λ is. is
    ∙ same_entry c.args.page.now c.args.number (step_place c.place_of-method.result.0 c.place_of-method.result.1) (place_of s)
    _ _ _ _ _ _ _ _ place
    (c.as_bytes.ensures.value ∙ c.in_ok-line.ensures ∙ ap (λ p. line_words (source_line f lines p)) place)
    (c.deref.ensures.value ∙ c.in_ok-code.ensures ∙ ap (λ t. step_code t s) (c.listed_text.ensures ∙ ap listed_text listed))
    (c.deref-2.ensures.value ∙ c.in_ok-outcome.ensures)
    (c.deref-3.ensures.value ∙ c.in_ok-operands.ensures
    ∙ ap (λ l. told_operands f c.args.values.now (listed_reads l)) listed))
    c.put_entry.ensures
