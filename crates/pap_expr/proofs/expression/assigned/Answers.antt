use Rattle.std.proofs.Common.{◌∙◌, Err, refl, sym, ap, subst}
use Rattle.std.proofs.lemmas.List.{nil_from_length}
use Rattle.pap_tree.specs.Grammar.{Assignment}
use Rattle.expr_tokens.specs.Spots.{spot_of, spots_of}
use Rattle.expr_grammar.specs.Machine.{Naming}
use Rattle.expr_grammar.specs.Run.{refusal_at, run}
use Rattle.pap_expr.specs.private.Views.{refusal_of, plain_cause}
use Rattle.pap_expr.specs.private.Answers.{Answers}
use Rattle.pap_tree.specs.Tokens.{Mark, Equals}
use Rattle.expr_grammar.proofs.Laws.{token_is}
use Rattle.pap_expr.proofs.TrailLemmas.{traced_tail}
use Rattle.pap_expr.proofs.RunLemmas.{due, due_cause, targeted, assigned, unassigned, fails}
use Rattle.pap_expr.proofs.expression.assigned.Goals as goal

pub returns-in_default-split_first-clause-answer : goal.returns-in_default-split_first-clause-answer
returns-in_default-split_first-clause-answer c =
    let f = refusal_of c.args.end in
    let w = c.in-Some-target_of.target in
    let first = spot_of c.in-Some.first.now in
    let rest = spots_of c.in-Some.rest.now in
    let begun = ap (λ ts. run Assignment f Naming (spots_of ts)) c.in-Some.ensures.cases.0 ∙ targeted f first rest w c.in-Some-target_of.ensures.step in
    let none = nil_from_length c.in-Some.rest.now c.in_default-split_first.ensures.cases in
    fails (run Assignment f Naming (spots_of c.args.front.now)) c.args.end f (begun ∙ ap (λ ts. run Assignment f (due w) (spots_of ts)) none) refl

pub returns-then-not-is_sign-clause-answer : goal.returns-then-not-is_sign-clause-answer
returns-then-not-is_sign-clause-answer c =
    let f = refusal_of c.args.end in
    let w = c.in-Some-target_of.target in
    let first = spot_of c.in-Some.first.now in
    let rest = spots_of c.in-Some.rest.now in
    let begun = ap (λ ts. run Assignment f Naming (spots_of ts)) c.in-Some.ensures.cases.0 ∙ targeted f first rest w c.in-Some-target_of.ensures.step in
    let second = spot_of c.in-Some-split_first.second.now in
    let more = spots_of c.in-Some-split_first.rest.now in
    let ran = begun ∙ ap (λ ts. run Assignment f (due w) (spots_of ts)) c.in-Some-split_first.ensures.cases.0 ∙ unassigned f second more w (sym c.if-not-is_sign.ensures)
    ∙ ap (λ g. Err (refusal_at g second.at)) (due_cause w second.token) in
    fails (run Assignment f Naming (spots_of c.args.front.now)) c.refused-then-not-is_sign.result (refusal_at (plain_cause second.token) second.at) ran c.refused-then-not-is_sign.ensures

pub returns-clause-answer : goal.returns-clause-answer
returns-clause-answer c =
    let f = refusal_of c.args.end in
    let w = c.in-Some-target_of.target in
    let first = spot_of c.in-Some.first.now in
    let rest = spots_of c.in-Some.rest.now in
    let begun = ap (λ ts. run Assignment f Naming (spots_of ts)) c.in-Some.ensures.cases.0 ∙ targeted f first rest w c.in-Some-target_of.ensures.step in
    let second = spot_of c.in-Some-split_first.second.now in
    let more = spots_of c.in-Some-split_first.rest.now in
    let ran = begun ∙ ap (λ ts. run Assignment f (due w) (spots_of ts)) c.in-Some-split_first.ensures.cases.0 ∙ assigned f second more w (sym c.if-not-is_sign.ensures) in
    subst (λ r. Answers r c.read.result) (sym ran) (c.read.ensures.answer Assignment refl)

pub returns-clause-places : goal.returns-clause-places
returns-clause-places c =
    let second = c.in-Some-split_first.second.now in
    traced_tail c.args.trail.now c.read.new.trail c.in-Some-target_of.target c.args.front.now c.in-Some.rest.now c.in-Some-split_first.rest.now c.in-Some.first.now second c.read.result
    c.in-Some.ensures.cases.0 c.in-Some-split_first.ensures.cases.0 c.in-Some-target_of.ensures.named c.in-Some-target_of.ensures.word
    (sym (token_is (Mark Equals) (spot_of second).token (sym c.if-not-is_sign.ensures))) c.read.ensures.places
