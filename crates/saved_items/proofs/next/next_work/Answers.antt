use Rattle.std.proofs.Common.{arith}
use Rattle.saved_items.specs.private.LineViews.{AreWordsOf, texts}
use Rattle.saved_items.specs.SavedBooks.{work_words}
use Rattle.saved_items.proofs.NextLemmas.{none_titled, line_is}
use Rattle.saved_items.proofs.next.next_work.Goals as goal

pub returns-in_err-runs : goal.returns-in_err-runs
returns-in_err-runs c = rw c.from_residual.ensures (λ bytes h.
    let line = c.args.line.now in
    let split : AreWordsOf line.text.now c.as_slice.result.now = rw c.as_slice.ensures.value h.words in
    none_titled bytes line.text.now line.rest.now (texts c.as_slice.result.now) h.is split c.in_err-runs.ensures)

pub returns : goal.returns
returns c = λ bytes h.
    let line = c.args.line.now in
    let split : AreWordsOf line.text.now c.as_slice.result.now = rw c.as_slice.ensures.value h.words in (
      c.in_ok-runs.ensures.0,
      line_is bytes line.text.now line.rest.now (texts c.as_slice.result.now) h.is split
          (work_words c.in_ok-runs.runs c.in_ok-runs.steps) (omega arith) c.in_ok-runs.ensures.1,
    )
