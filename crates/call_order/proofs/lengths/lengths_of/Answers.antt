use Rattle.std.proofs.Common.{◌≡◌, ℕ, ◌<◌, length, get_or, set, ap, sym, refl, ◌∙◌, subst}
use Rattle.std.specs.Prelude.{All, min, slice_index}
use Rattle.call_order.specs.Graphs.{Content}
use Rattle.call_order.specs.Faults.{last_count}
use Rattle.call_order.specs.private.LengthViews.{length_with}
use Rattle.call_order.proofs.LengthLemmas.{lengths_more, call_at}
use Rattle.call_order.proofs.lengths.lengths_of.Goals as goal

pub length_with-requires : goal.length_with-requires
length_with-requires c =
    let i = get_or c.args.order.now c.loop-method.method-index 0 in
    let il = c.requires.order.known c.loop-method.method-index 0 c.loop-method-test.true in
    let is = call_at c.args.graph.now i c.index-graph-number.result c.index-graph-number.is il in
    let n : length c.args.graph.now ≡ length c.deref.result.now = sym (ap length c.deref.ensures.value ∙ c.loop-method.invariant.all) in
    let P : Content → ℕ → Type 0 = λ q m. All (λ j. j < m) q.methods in
    subst (P c.index-graph-number.result) n (subst (λ q. P q (length c.args.graph.now)) (sym is) (c.requires.known i))

pub loop-method-preserved : goal.loop-method-preserved
loop-method-preserved c =
    let i = get_or c.args.order.now c.loop-method.method-index 0 in
    let il = c.requires.order.known c.loop-method.method-index 0 c.loop-method-test.true in
    let is = call_at c.args.graph.now i c.index-graph-number.result c.index-graph-number.is il in
    let x = c.index-graph-number.result in
    let ls = c.loop-method.lengths.items in
    let v = c.length_with.ensures ∙ ap (λ l. min (length_with x (slice_index l)) last_count) c.deref.ensures.value in
    lengths_more c.args.graph.now i c.loop-method.method-index c.length_with.result c.args.order.now ls (set ls i c.length_with.result) x c.loop-method.invariant c.requires.order c.loop-method-test.true refl il is v refl
