use Rattle.std.proofs.Common.{List, ◌++◌, map, ◌∙◌, sym, ap}
use Rattle.pap_tree.specs.Flowchart.{flowchart_of}
use Rattle.interval_analysis.specs.declared.verdict.OutputRange.{OutputRange}
use Rattle.interval_analysis.specs.Answers.{named_range}
use Rattle.flowchart_findings.specs.declared.finding.Finding.{Finding}
use Rattle.flowchart_findings.specs.Carries.{carry_findings}
use Rattle.plain_words.specs.Places.{named_text}
use Rattle.author_cli.specs.Linted.{findings_words}
use Rattle.author_cli.proofs.LintLemmas.{findings_told}
use Rattle.author_cli.proofs.linted.tell_findings.Goals as goal

pub returns : goal.returns
returns c =
    let l = c.args.bound.now.limits in
    let found = c.in_ok-found.found.items in
    let carries : List OutputRange → List Finding = λ outputs. carry_findings l 0 (map named_range outputs) in
    findings_told (named_text c.args.plan) (flowchart_of c.args.bound.now.typed) l
    (map named_range c.args.survey.now.verdict.outputs.items) c.args.survey.now.reached c.args.survey.now.exits c.in_ok-notes.notes _
    c.deref-3.result.now _ _ c.requires.reached c.requires.exits c.in_ok-notes.ensures.notes c.deref-2.ensures.value
    (c.deref-3.ensures.value ∙ c.in_ok-add_carry_findings.ensures ∙ ap (λ os. found ++ carries os) c.deref.ensures.value
    ∙ ap (λ fs. fs ++ carries c.args.survey.now.verdict.outputs.items) c.in_ok-found.ensures.exact)
    c.in_ok-text.ensures
    (c.in_ok-reason.ensures ∙ ap (λ ds. findings_words ds) (c.deref-4.ensures.value ∙ sym c.deref-3.ensures.value))
