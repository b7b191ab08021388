use Rattle.std.proofs.lemmas.Bool.{false≢true}
use Rattle.saved_items.specs.private.LineViews.{texts}
use Rattle.saved_items.proofs.WordListLemmas.{plan_day, plan_line_is, is_spelled}
use Rattle.saved_items.proofs.item_words.read_plan_line.Goals as goal

pub returns-in_default-read : goal.returns-in_default-read
returns-in_default-read c = λ day plan limits p l e.
    false≢true (c.in_default-read.ensures.exact.1 (is_spelled _ day
    (plan_day (texts c.args.words.now) c.in_ok-rest.rest.now _ day plan limits c.in_ok-rest.ensures
    c.in-len3.len_at_least e)))

pub returns : goal.returns
returns c =
    plan_line_is (texts c.args.words.now) c.in_ok-rest.rest.now _ c.in-Some.day c.in_ok-plan.plan c.in_ok-limits.limits
    c.in_ok-rest.ensures c.in-len3.len_at_least c.in-len3.len_below c.in-Some.ensures.value
    c.in_ok-plan.ensures c.in_ok-limits.ensures
