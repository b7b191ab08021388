use Rattle.std.proofs.Common.{ap, sym, ◌∙◌, arith, get_or}
use Rattle.std.specs.Prelude.{None}
use Rattle.std.specs.Option.{option_or}
use Rattle.flowchart_comparison.specs.Comparisons.{item_names, item_texts}
use Rattle.flowchart_comparison.specs.Entries.{compared_text}
use Rattle.flowchart_comparison.specs.private.NameViews.{place_in}
use Rattle.flowchart_comparison.proofs.EntryLemmas.{item_text}
use Rattle.flowchart_comparison.proofs.NameLemmas.{name_count, places_all, each_more, many_more, partners_or_gone}
use Rattle.flowchart_comparison.proofs.proposals.same_names_or_texts.Goals as goal

pub loop-place-preserved : goal.loop-place-preserved
loop-place-preserved c =
    let text = item_text c.args.new.now c.loop-place.place c.index-new-place.result (omega arith) c.index-new-place.is in
    let is = c.named_or_gone-proposal.ensures
    ∙ ap (λ l. option_or (get_or l c.loop-place.place None) (place_in c.in_ok-gone.gone c.text.result.now)) c.deref.ensures.value
    ∙ ap (λ t. option_or (get_or c.in_ok-named.named.items c.loop-place.place None) (place_in c.in_ok-gone.gone t))
    (c.text.ensures ∙ sym text) in
    record {
      many = many_more c.loop-place.proposed.items c.push.new.self.items c.loop-place.place c.named_or_gone-proposal.result
          c.loop-place.invariant.many c.in_ok-push.ensures.items;
      each = each_more c.in_ok-named.named.items c.loop-place.proposed.items c.push.new.self.items (place_in c.in_ok-gone.gone)
          (compared_text (item_texts c.args.new.now)) c.loop-place.place c.named_or_gone-proposal.result
          c.loop-place.invariant.many c.loop-place.invariant.each is c.in_ok-push.ensures.items;
    }

pub returns : goal.returns
returns c =
    partners_or_gone (item_names c.args.old.now) (item_names c.args.new.now) (place_in c.in_ok-names.names)
    (place_in c.in_ok-gone.gone) c.in_ok-named.named.items c.loop-place.proposed.items
    (places_all c.args.new.now (place_in c.in_ok-names.names) c.in_ok-names.ensures) c.in_ok-gone.ensures c.in_ok-named.ensures
    (compared_text (item_texts c.args.new.now))
    (λ k lt. c.loop-place.invariant.each k (omega (arith, lt, name_count c.args.new.now)))
