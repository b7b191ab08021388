use Rattle.std.proofs.Common.{◌≡◌, add-one, ◌+◌, [], ◌∷◌, length, sym, ap, subst, ◌∙◌}
use Rattle.std.specs.Bool.{OnTrue}
use Rattle.std.proofs.lemmas.List.{length-append}
use Rattle.carry_bindings.specs.private.OutputViews.{AreAlike, lent_names, names_before}
use Rattle.carry_bindings.proofs.OutputLemmas.{lent_is, names_next, one_mark_more}
use Rattle.carry_bindings.proofs.outputs.alike.Goals as goal

pub loop-e-preserved : goal.loop-e-preserved
loop-e-preserved c =
    let earlier = c.args.earlier.now in
    let at = c.loop-e.e-index in
    let marks = c.loop-e.marks.items in
    let now = lent_is c.e-item.result c.as_ref-outputs.result c.as_ref-outputs.ensures.value ∙ names_next earlier at c.e-item.result c.loop-e-test.true c.e-item.is in
    let same = subst (λ n. OnTrue c.are_alike.result (n ≡ lent_names c.as_ref-outputs.result)) c.loop-e.invariant.before c.are_alike.ensures in
    let more = one_mark_more earlier marks c.are_alike.result at c.loop-e.invariant.count c.loop-e.invariant.marks
    (subst (λ n. OnTrue c.are_alike.result (names_before earlier at ≡ n)) (now ∙ ap (names_before earlier) (add-one at)) same) in
    record {
      marks = subst (λ ms. AreAlike ms earlier) (sym c.in_ok-push.ensures.items) more;
      count = ap length c.in_ok-push.ensures.items ∙ length-append marks (c.are_alike.result ∷ []) ∙ ap (λ n. n + 1) c.loop-e.invariant.count;
      before = now;
    }
