use Rattle.std.proofs.Common.{inl, map}
use Rattle.pap_tree.specs.Flowchart.{flowchart_of}
use Rattle.interval_analysis.specs.Answers.{named_range}
use Rattle.plan_answers.proofs.Laws.{if_ok_map}
use Rattle.plain_words.specs.Places.{named_text}
use Rattle.author_cli.specs.Ends.{words_of}
use Rattle.author_cli.specs.Linted.{IsLinted, IsFindingsText}
use Rattle.author_cli.proofs.LintLemmas.{findings_accepted}
use Rattle.author_cli.proofs.linted.lint_bound.Goals as goal

pub returns-in-Ok : goal.returns-in-Ok
returns-in-Ok c =
    let plan = named_text c.args.plan in
    let limits = named_text c.args.limits in
    let f = flowchart_of c.args.bound.now.typed in
    let l = c.args.bound.now.limits in
    let outputs = map named_range c.in-Ok.survey.verdict.outputs.items in
    if_ok_map c.tell_findings.result (λ answer. IsFindingsText plan f l outputs answer.text.items (words_of answer.reason))
    (λ answer. IsLinted plan limits answer.text.items (words_of answer.reason))
    (λ answer told. inl (findings_accepted plan limits.bytes f l outputs answer.text.items (words_of answer.reason) c.requires.passed c.in-Ok.ensures.ranges told))
    c.tell_findings.ensures
