use Rattle.std.proofs.Common.{◌+◌, ap, ◌∙◌}
use Rattle.recalc_engine.specs.Contents.{Contents, cost_between}
use Rattle.recalc_engine.specs.EditAnswers.{drop, edited_book}
use Rattle.recalc_engine.proofs.book.Book.drop_plan.Goals as goal

pub returns-clause-counted : goal.returns-clause-counted
returns-clause-counted g c =
    c.in_ok-work.ensures.counted
    ∙ ap (λ (b : Contents). c.args.steps.now + cost_between b (edited_book (drop c.args.day) b)) c.self.view_is
