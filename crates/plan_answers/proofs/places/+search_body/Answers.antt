use Rattle.std.proofs.Common.{◌+◌, ◌-◌, refl, subst, arith, drop}
use Rattle.pap_tree.specs.Flowchart.{body_of, stmt_then}
use Rattle.pap_tree.proofs.Laws.{branch_is, stmt_at}
use Rattle.plan_answers.specs.declared.places.Search.TheVariants.{Left}
use Rattle.plan_answers.specs.private.PlaceViews.{IsSearched, GoesOn}
use Rattle.plan_answers.proofs.PlaceLemmas.{in_first, in_second, goes_then, goes_found, written_at, written_part, written_if}
use Rattle.plan_answers.proofs.places.+search_body.Goals as goal

pub search_statement-returns-in_default : goal.search_statement-returns-in_default
search_statement-returns-in_default t c =
    let is = branch_is c.args.statement.now c.in-If.test c.in-If.yes c.in-If.no c.in-If.yes.items c.in-If.no.items c.in-If.is refl refl in
    let found = subst (λ l. IsSearched (body_of l) (c.args.number - 1) c.search_body.result) c.deref.ensures.value c.search_body.ensures in
    in_first c.args.statement.now c.in-If.test c.in-If.yes.items c.in-If.no.items is c.args.number (c.args.number - 1) c.search_body.result (omega arith) (λ left e. c.in_default.not-Left left e) found

pub search_statement-returns-in-Left : goal.search_statement-returns-in-Left
search_statement-returns-in-Left t c =
    let is = branch_is c.args.statement.now c.in-If.test c.in-If.yes c.in-If.no c.in-If.yes.items c.in-If.no.items c.in-If.is refl refl in
    let past = subst (λ l. IsSearched (body_of l) (c.args.number - 1) (Left c.in-Left.left)) c.deref.ensures.value c.in-Left.ensures in
    let found = subst (λ l. IsSearched (body_of l) c.in-Left.left c.search_body-in-Left.result) c.deref-in-Left.ensures.value c.search_body-in-Left.ensures in
    in_second c.args.statement.now c.in-If.test c.in-If.yes.items c.in-If.no.items is c.args.number (c.args.number - 1) c.in-Left.left c.search_body-in-Left.result (omega arith) past found

pub search_body-returns-in_default : goal.search_body-returns-in_default
search_body-returns-in_default t c =
    let at = stmt_at c.args.body.now c.loop-statement.statement-index c.statement-item.result c.statement-item.is c.loop-statement-test.true in
    let rest = body_of (drop (c.loop-statement.statement-index + 1) c.args.body.now) in
    let so_far = subst (λ x. GoesOn (body_of c.args.body.now) x c.args.number c.loop-statement.left) at c.loop-statement.invariant in
    goes_found (body_of c.args.body.now) rest c.statement-item.result c.args.number c.loop-statement.left c.search_statement.result (λ left e. c.in_default.not-Left left e) so_far c.search_statement.ensures

pub search_body-loop-statement-preserved : goal.search_body-loop-statement-preserved
search_body-loop-statement-preserved t c =
    let at = stmt_at c.args.body.now c.loop-statement.statement-index c.statement-item.result c.statement-item.is c.loop-statement-test.true in
    let rest = body_of (drop (c.loop-statement.statement-index + 1) c.args.body.now) in
    let so_far = subst (λ x. GoesOn (body_of c.args.body.now) x c.args.number c.loop-statement.left) at c.loop-statement.invariant in
    goes_then (body_of c.args.body.now) (stmt_then c.statement-item.result rest) rest c.args.number c.loop-statement.left c.in-Left.behind so_far (c.in-Left.ensures rest)

pub search_body-search_statement-requires : goal.search_body-search_statement-requires
search_body-search_statement-requires t c =
    let here = written_at c.args.body.now c.loop-statement.statement-index c.statement-item.result c.statement-item.is c.loop-statement-test.true in
    let part = written_part c.args.body.now c.loop-statement.statement-index in
    (omega (arith, here, part), tt)

pub search_statement-search_body-requires : goal.search_statement-search_body-requires
search_statement-search_body-requires t c =
    let both = written_if _ _ _ _ c.in-If.is in
    rw c.deref.ensures.value (omega (arith, both), tt)

pub search_statement-search_body-requires-in-Left : goal.search_statement-search_body-requires-in-Left
search_statement-search_body-requires-in-Left t c =
    let both = written_if _ _ _ _ c.in-If.is in
    rw c.deref-in-Left.ensures.value (omega (arith, both), tt)
