use Rattle.std.proofs.Common.{◌≡◌, ◌∷◌, [], ◌++◌, true, false, sym, ◌∙◌}
use Rattle.pap_reader.specs.Structure.{opens}
use Rattle.pap_reader.specs.private.NestingDecisions.{step}
use Rattle.pap_reader.specs.Attributes.{is_right}
use Rattle.pap_reader.specs.Tags.{attributes_of}
use Rattle.pap_reader.specs.private.Views.{IsValueOf}
use Rattle.pap_reader.proofs.ReaderSteps.{none_is, some_is, at_none, at_some, verdict_none, verdict_wrong, verdict_over, tallies_open, few_open, parts_open, internals_more, plan_begun}
use Rattle.pap_reader.proofs.reader.Reader.open.Goals as goal

pub returns-then-not-may_open : goal.returns-then-not-may_open
returns-then-not-may_open c = λ before os ws h.
    let e = opens c.args.element in
    verdict_none c.args.at before os (is_right c.args.element (attributes_of c.args.attributes.now)) e
    (none_is (step before os e) (sym (c.may_open.ensures before os ws h) ∙ c.if-not-may_open.true))

pub returns-in_default : goal.returns-in_default
returns-in_default c = λ before os ws h.
    let e = opens c.args.element in
    let attributes = attributes_of c.args.attributes.now in
    verdict_wrong c.args.at before os (is_right c.args.element attributes) e (sym (c.may_open.ensures before os ws h) ∙ c.if-not-may_open.false)
    (at_none c.in_ok-value.field-0 (is_right c.args.element attributes ≡ false) (λ s. (is_right c.args.element attributes ≡ true) × IsValueOf c.args.element attributes s) c.in_ok-value.ensures c.in_default.is)

pub returns-in-Some-first_over : goal.returns-in-Some-first_over
returns-in-Some-first_over c = λ before os ws h.
    let e = opens c.args.element in
    let attributes = attributes_of c.args.attributes.now in
    let t = tallies_open c.args.self.now.counts c.open.new.self before c.args.element h.counts h.few c.open.ensures in
    let s = at_some c.in_ok-value.field-0 c.in-Some.value (is_right c.args.element attributes ≡ false) (λ s. (is_right c.args.element attributes ≡ true) × IsValueOf c.args.element attributes s) c.in_ok-value.ensures c.in-Some.is in
    verdict_over c.args.at before os (is_right c.args.element attributes) e c.in-Some-first_over.which (sym (c.may_open.ensures before os ws h) ∙ c.if-not-may_open.false) s.0
    (sym (c.first_over.ensures (before ++ (e ∷ [])) t) ∙ c.in-Some-first_over.is)

pub returns : goal.returns
returns c = λ before os ws h.
    let e = opens c.args.element in
    let attributes = attributes_of c.args.attributes.now in
    let n = some_is (step before os e) (sym (c.may_open.ensures before os ws h) ∙ c.if-not-may_open.false) in
    let t = tallies_open c.args.self.now.counts c.open.new.self before c.args.element h.counts h.few c.open.ensures in
    let s = at_some c.in_ok-value.field-0 c.in-Some.value (is_right c.args.element attributes ≡ false) (λ s. (is_right c.args.element attributes ≡ true) × IsValueOf c.args.element attributes s) c.in_ok-value.ensures c.in-Some.is in (
      record {
        next = n.0;
        stepped = n.1;
        stands = record {
          parts = parts_open c.args.self.now.top c.new-child.result c.replace-parent.result c.replace-parent.new.dest c.add.new.self c.args.self.now.outer.items c.push.new.self.items before os n.0 ws c.args.element attributes
              c.replace-parent.ensures.after c.replace-parent.ensures.value c.in_ok-push.ensures.items c.add.ensures (c.new-child.ensures attributes s.1) h.parts n.1;
          internals = internals_more c.args.self.now.internals c.has_internals_with-self.result before e h.internals c.has_internals_with-self.ensures;
          counts = t;
          few = few_open (before ++ (e ∷ [])) (sym (c.first_over.ensures (before ++ (e ∷ [])) t) ∙ c.in_default-first_over.is);
          plan = plan_begun c.args.self.now.plan ws c.args.element attributes h.plan;
        };
      },
      s.0,
    )
