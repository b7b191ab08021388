use Rattle.std.proofs.Common.{arith}
use Rattle.std.proofs.Math.ListN.{length-map}
use Rattle.saved_items.specs.private.ItemViews.{plans_of}
use Rattle.saved_items.specs.private.LineViews.{AreWordsOf, texts}
use Rattle.saved_items.specs.ItemFaults.{plan_in}
use Rattle.saved_items.proofs.NextLemmas.{none_plan, no_texts, not_later, plan_read}
use Rattle.saved_items.proofs.next.next_plan.Goals as goal

pub returns-in_err-front : goal.returns-in_err-front
returns-in_err-front c = rw c.from_residual.ensures (λ runs steps count more bytes h.
    let line = c.args.line.now in
    let split : AreWordsOf line.text.now c.as_slice.result.now = rw c.as_slice.ensures.value h.words in
    none_plan bytes line.text.now line.rest.now (texts c.as_slice.result.now) h.is split c.text_law.ensures
    c.in_err-front.ensures runs steps count (plans_of c.args.plans.now)
    (omega (arith, more, length-map c.args.plans.now plan_in)))

pub returns-in_err-plan : goal.returns-in_err-plan
returns-in_err-plan c = rw c.from_residual-in_err-plan.ensures (λ runs steps count more bytes h.
    let line = c.args.line.now in
    let split : AreWordsOf line.text.now c.as_slice.result.now = rw c.as_slice.ensures.value h.words in
    no_texts bytes line.text.now line.rest.now (texts c.as_slice.result.now) h.is split c.in_ok-front.front
    c.in_ok-front.ensures c.in_err-plan.ensures runs steps count (plans_of c.args.plans.now)
    (omega (arith, more, length-map c.args.plans.now plan_in)))

pub returns-then-not-is_later : goal.returns-then-not-is_later
returns-then-not-is_later c = λ runs steps count more bytes h.
    let line = c.args.line.now in
    let split : AreWordsOf line.text.now c.as_slice.result.now = rw c.as_slice.ensures.value h.words in
    not_later bytes line.text.now line.rest.now (texts c.as_slice.result.now) h.is split c.in_ok-front.front
    c.in_ok-front.ensures (plans_of c.args.plans.now) (λ p same. c.if-not-is_later.ensures p same) runs steps count
    (omega (arith, more, length-map c.args.plans.now plan_in))

pub returns : goal.returns
returns c = λ runs steps count more bytes h.
    let line = c.args.line.now in
    let split : AreWordsOf line.text.now c.as_slice.result.now = rw c.as_slice.ensures.value h.words in
    let plan = c.in_ok-plan.plan in (
      (
        omega (arith, more, length-map c.args.plans.now plan_in),
        c.if-not-is_later.ensures (plan_in plan) c.in_ok-plan.ensures.day,
      ),
      plan_read bytes line.text.now line.rest.now (texts c.as_slice.result.now) h.is split c.in_ok-front.front
          c.in_ok-front.ensures plan c.in_ok-plan.left.now c.in_ok-plan.ensures,
    )
