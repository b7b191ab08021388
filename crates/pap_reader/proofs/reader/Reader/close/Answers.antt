use Rattle.std.proofs.Common.{true, reverse, arith}
use Rattle.std.proofs.lemmas.List.{nil_from_length}
use Rattle.pap_reader.specs.Structure.{closes}
use Rattle.pap_reader.proofs.ReaderSteps.{at_none, verdict_none, close_none, close_last, parts_close, tallies_close, few_close, internals_kept}
use Rattle.pap_reader.proofs.reader.Reader.close.Goals as goal

pub returns-then-not-may_end : goal.returns-then-not-may_end
returns-then-not-may_end c = λ before os ws h.
    verdict_none c.args.at before os true (closes c.args.element)
    (close_none c.args.self.now.top (reverse c.args.self.now.outer.items) before os ws c.args.element c.may_end.result c.may_end.ensures c.if-not-may_end.true h.parts)

pub returns-in_default : goal.returns-in_default
returns-in_default c = λ before os ws h.
    let z = at_none c.pop.result _ _ c.pop.ensures.cases c.in_default.is in
    verdict_none c.args.at before os true (closes c.args.element)
    (close_last c.args.self.now.top c.args.self.now.outer.items before os ws c.args.element (nil_from_length c.args.self.now.outer.items (omega (arith, z.0, c.args.self.now.outer.ok.0))) h.parts)

pub returns : goal.returns
returns c = λ before os ws h.
    let a = parts_close c.args.self.now.top c.replace-child.result c.in-Some.parent c.replace-child.new.dest c.close_in.new.parent c.args.self.now.outer.items c.pop.new.self.items c.args.self.now.plan c.close_in.new.plan
    before os ws c.args.element c.may_end.result c.may_end.ensures c.if-not-may_end.false c.replace-child.ensures.value c.replace-child.ensures.after c.in-Some.ensures.items c.in_ok-close_in.ensures h.parts h.plan in
    record {
      next = a.next;
      stepped = a.stepped;
      stands = record {
        parts = a.parts;
        internals = internals_kept c.args.self.now.internals before c.args.element h.internals;
        counts = tallies_close c.args.self.now.counts c.close.new.self before c.args.element h.counts c.close.ensures;
        few = few_close before c.args.element h.few;
        plan = a.plan;
      };
    }
