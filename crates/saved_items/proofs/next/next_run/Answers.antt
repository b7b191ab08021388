use Rattle.saved_items.specs.private.LineViews.{AreWordsOf, texts}
use Rattle.saved_items.proofs.NextLemmas.{none_run, not_beyond}
use Rattle.saved_items.proofs.next.next_run.Goals as goal

pub returns-in_default : goal.returns-in_default
returns-in_default c = λ runs steps count plans more bytes h.
    let line = c.args.line.now in
    let split : AreWordsOf line.text.now c.as_slice.result.now = rw c.as_slice.ensures.value h.words in
    none_run bytes line.text.now line.rest.now (texts c.as_slice.result.now) h.is split
    (rw c.in_default.is at c.in_ok-run.ensures) runs steps count plans c.args.records.now

pub returns-then-not-is_beyond : goal.returns-then-not-is_beyond
returns-then-not-is_beyond c = λ runs steps count plans more bytes h.
    let line = c.args.line.now in
    let split : AreWordsOf line.text.now c.as_slice.result.now = rw c.as_slice.ensures.value h.words in
    let read = rw c.in-Some.is at c.in_ok-run.ensures in
    not_beyond bytes line.text.now line.rest.now (texts c.as_slice.result.now) h.is split c.in-Some.run' read.0 read.1
    c.args.records.now c.if-not-is_beyond.ensures runs steps count plans
