use Rattle.std.proofs.Common.{arith}
use Rattle.saved_items.specs.private.LineViews.{AreWordsOf, texts}
use Rattle.saved_items.specs.SavedBooks.{title_words}
use Rattle.saved_items.proofs.NextLemmas.{none_nothing, line_is}
use Rattle.saved_items.proofs.next.next_title.Goals as goal

pub returns-then-not-is_title : goal.returns-then-not-is_title
returns-then-not-is_title c = λ bytes h.
    let line = c.args.line.now in
    let split : AreWordsOf line.text.now c.as_slice.result.now = rw c.as_slice.ensures.value h.words in
    none_nothing bytes line.text.now line.rest.now (texts c.as_slice.result.now) h.is split c.if-not-is_title.ensures

pub returns : goal.returns
returns c = λ bytes h.
    let line = c.args.line.now in
    let split : AreWordsOf line.text.now c.as_slice.result.now = rw c.as_slice.ensures.value h.words in (
      tt,
      line_is bytes line.text.now line.rest.now (texts c.as_slice.result.now) h.is split title_words (omega arith)
          c.if-not-is_title.ensures,
    )
