use Rattle.std.proofs.Common.{◌≡◌, length, refl, sym, ap, subst, ◌∙◌, arith}
use Rattle.flowchart_comparison.specs.Comparisons.{item_names, item_texts}
use Rattle.flowchart_comparison.specs.private.AlignmentViews.{AreFlags, free_one}
use Rattle.flowchart_comparison.proofs.PairingLemmas.{IsPaired, paired_first, paired_next, left_next, paired_last, as_many}
use Rattle.flowchart_comparison.proofs.NameLemmas.{name_count}
use Rattle.flowchart_comparison.proofs.PartnerLemmas.{paired_none, paired_more, paired_each, named_more}
use Rattle.flowchart_comparison.proofs.pairing.pair_free.Goals as goal

pub loop-new_place-init : goal.loop-new_place-init
loop-new_place-init c = record {
  paired = paired_first c.args.old.now c.args.new.now c.args.free.now c.in_ok-entries.entries.items c.requires.flags
      c.in_ok-entries.ensures.items;
  partners = paired_none (item_names c.args.old.now) (item_names c.args.new.now) c.args.free.now c.in_ok-entries.entries.items
      (subst (λ n. AreFlags n c.args.free.now) (sym (name_count c.args.old.now)) c.requires.flags);
}

pub pair_new-entry-requires : goal.pair_new-entry-requires
pair_new-entry-requires c = record {
  many = (let m = c.loop-new_place.invariant.paired.many in omega (arith, m, as_many c.args.old.now));
  within = omega arith;
}

pub loop-new_place-preserved : goal.loop-new_place-preserved
loop-new_place-preserved c = record {
  paired = paired_next (item_texts c.args.old.now) (item_texts c.args.new.now) c.loop-new_place.free c.pair_new-entry.new.free
      c.loop-new_place.new_place c.pair_new-entry.result c.loop-new_place.entries.items c.push.new.self.items
      c.loop-new_place.invariant.paired c.pair_new-entry.ensures.told c.pair_new-entry.ensures.new_of
      c.pair_new-entry.ensures.taken c.in_ok-push.ensures.items;
  partners = paired_more (item_names c.args.old.now) (item_names c.args.new.now) c.args.proposed.now c.requires.partners
      c.loop-new_place.free c.pair_new-entry.new.free c.loop-new_place.new_place c.pair_new-entry.result
      c.loop-new_place.entries.items c.push.new.self.items c.loop-new_place.invariant.partners
      (omega (arith, name_count c.args.new.now))
      (c.pair_new-entry.ensures.proposed ∙ ap (free_one c.loop-new_place.free) c.proposal_at-proposal.ensures)
      c.pair_new-entry.ensures.new_of c.pair_new-entry.ensures.taken c.in_ok-push.ensures.items;
}

pub loop-old_place-init : goal.loop-old_place-init
loop-old_place-init c =
    let e : c.loop-new_place.new_place ≡ length c.args.new.now = omega arith in
    record {
      paired = subst (λ n. IsPaired (item_texts c.args.old.now) (item_texts c.args.new.now) c.loop-new_place.free 0 n
          c.loop-new_place.entries.items) e c.loop-new_place.invariant.paired;
      named = paired_each (item_names c.args.old.now) (item_names c.args.new.now) c.loop-new_place.free
          c.loop-new_place.new_place c.loop-new_place.entries.items (omega (arith, name_count c.args.new.now))
          c.loop-new_place.invariant.partners;
    }

pub push_free-requires : goal.push_free-requires
push_free-requires c =
    let m = c.loop-old_place.invariant.paired.many in
    omega (arith, m, as_many c.args.old.now)

pub loop-old_place-preserved : goal.loop-old_place-preserved
loop-old_place-preserved c = record {
  paired = left_next (item_texts c.args.old.now) (item_texts c.args.new.now) _ c.loop-old_place.old_place
      (length c.args.new.now) c.loop-old_place.entries.items c.push_free.new.entries.items
      (omega (arith, as_many c.args.old.now)) c.loop-old_place.invariant.paired c.in_ok-push_free.ensures;
  named = named_more (item_names c.args.old.now) (item_names c.args.new.now) c.loop-old_place.entries.items
      c.push_free.new.entries.items _ c.loop-old_place.invariant.named c.in_ok-push_free.ensures;
}

pub returns-clause-paired : goal.returns-clause-paired
returns-clause-paired c =
    paired_last c.args.old.now c.args.new.now _ c.loop-old_place.old_place (length c.args.new.now)
    c.loop-old_place.entries.items (omega arith) refl c.loop-old_place.invariant.paired

pub returns-clause-by_name : goal.returns-clause-by_name
returns-clause-by_name c = c.loop-old_place.invariant.named
