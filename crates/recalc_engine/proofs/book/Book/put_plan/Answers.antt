use Rattle.std.proofs.Common.{◌+◌, ap, ◌∙◌}
use Rattle.book_year.specs.Accepted.{accepted}
use Rattle.recalc_engine.specs.Contents.{Contents, cost_between}
use Rattle.recalc_engine.specs.EditAnswers.{edited_book, put}
use Rattle.recalc_engine.proofs.book.Book.put_plan.Goals as goal

pub returns-clause-counted : goal.returns-clause-counted
returns-clause-counted g c =
    c.in_ok-work.ensures.counted
    ∙ ap (λ (b : Contents). c.args.steps.now + cost_between b (edited_book (put (c.args.day, accepted c.args.plan)) b)) c.self.view_is
