use Rattle.std.proofs.Common.{sym, ap, ◌∙◌, subst}
use Rattle.pap_tree.specs.Flowchart.{flowchart_of}
use Rattle.range_marks.specs.RangeMarks.{findings_in, method_name_at}
use Rattle.range_marks.specs.InternalRanges.{AssignsIn}
use Rattle.range_marks.specs.private.InternalViews.{Joins}
use Rattle.range_marks.proofs.JoinLemmas.{no_method, method_joined, methods_joined}
use Rattle.range_marks.proofs.internals.join_methods.Goals as goal

pub loop-number-init : goal.loop-number-init
loop-number-init c = no_method (flowchart_of c.args.plan.now) (findings_in c.args.survey.now) c.args.ranges.now

pub loop-number-preserved : goal.loop-number-preserved
loop-number-preserved c =
    let f = flowchart_of c.args.plan.now in
    let w = findings_in c.args.survey.now in
    let n = c.loop-number.number in
    let before = c.loop-number.ranges in
    let behind = c.join_statements.new.ranges in
    let method = c.index-methods-number.result in
    let named = c.method_name_at-name.ensures ∙ ap (λ p. method_name_at (flowchart_of p) n) c.plan.ensures.text in
    method_joined f w c.args.methods.now n method c.args.ranges.now before behind c.requires c.index-methods-number.is
    c.loop-number-test.true c.loop-number.invariant
    (subst (λ m. Joins f.internals (AssignsIn w m method) before behind) named
    (subst (λ ss. Joins f.internals (AssignsIn w c.method_name_at-name.result ss) before behind) c.statements.ensures
    c.in_ok-join_statements.ensures))

pub returns : goal.returns
returns c =
    methods_joined (flowchart_of c.args.plan.now) (findings_in c.args.survey.now) c.args.methods.now c.loop-number.number
    c.args.ranges.now c.loop-number.ranges c.requires c.loop-number-test.false c.loop-number.invariant
