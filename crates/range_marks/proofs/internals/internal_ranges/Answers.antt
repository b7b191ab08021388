use Rattle.std.proofs.Common.{length, map, sym, ap, ◌∙◌, subst}
use Rattle.std.specs.Prelude.{All}
use Rattle.std.proofs.lemmas.Result.{IfOk-weaker}
use Rattle.pap_tree.specs.Declarations.{declaration_of}
use Rattle.pap_tree.specs.Flowchart.{flowchart_of}
use Rattle.pap_types.specs.Typing.{HasItsType}
use Rattle.pap_types.proofs.Laws.{parts_typed}
use Rattle.statement_list.specs.Statements.{listed_methods}
use Rattle.range_marks.specs.RangeTexts.{ends_text}
use Rattle.range_marks.specs.RangeMarks.{findings_in}
use Rattle.range_marks.specs.InternalRanges.{begun_range, AreInternalRanges}
use Rattle.range_marks.proofs.JoinLemmas.{written_back, ranges_told}
use Rattle.range_marks.proofs.internals.internal_ranges.Goals as goal

pub begun_ranges-requires : goal.begun_ranges-requires
begun_ranges-requires c =
    subst (λ ds. All HasItsType (map declaration_of ds))
    (sym (c.as_slice.ensures.value ∙ ap (λ p. p.internals.items) c.plan-text.ensures.text))
    (parts_typed (flowchart_of c.args.plan.now) c.plan-text.ensures.well_typed).internals

pub join_methods-requires : goal.join_methods-requires
join_methods-requires c =
    c.deref.ensures.value ∙ c.in_ok-methods.ensures ∙ ap (λ p. listed_methods (flowchart_of p)) c.plan-text.ensures.text

pub returns : goal.returns
returns c =
    let f = flowchart_of c.args.plan.now in
    let w = findings_in c.args.survey.now in
    let internals = c.as_slice.ensures.value ∙ ap (λ p. p.internals.items) c.plan-text.ensures.text in
    let begun = c.deref_mut.ensures.value ∙ c.in_ok-ranges.ensures ∙ ap (λ ds. map begun_range (map declaration_of ds)) internals in
    let ranges = c.in_ok-ranges.ranges in
    let kept = written_back ranges.items c.join_methods.new.ranges ranges.len ranges.ok.0
    (c.in_ok-join_methods.ensures.count ∙ ap length c.deref_mut.ensures.value) in
    IfOk-weaker c.range_texts.result _ (λ texts. AreInternalRanges f w (map (λ t. t.items) texts.items))
    (λ texts told. ranges_told f w c.deref_mut.result.now c.join_methods.new.ranges (map (λ t. t.items) texts.items) begun
    c.in_ok-join_methods.ensures (told ∙ ap (map ends_text) (c.deref-2.ensures.value ∙ kept)))
    c.range_texts.ensures
