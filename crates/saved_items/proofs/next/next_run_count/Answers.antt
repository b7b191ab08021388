use Rattle.std.proofs.Common.{arith, refl, [], ◌∷◌, codes}
use Rattle.scaled_decimal.specs.PlainTexts.{whole_text}
use Rattle.saved_items.specs.private.LineViews.{AreWordsOf, texts}
use Rattle.saved_items.proofs.NextLemmas.{none_planned, line_is}
use Rattle.saved_items.proofs.next.next_run_count.Goals as goal

pub returns-in_err-count : goal.returns-in_err-count
returns-in_err-count c = rw c.from_residual.ensures (λ runs steps plans bytes h.
    let line = c.args.line.now in
    let split : AreWordsOf line.text.now c.as_slice.result.now = rw c.as_slice.ensures.value h.words in
    none_planned bytes line.text.now line.rest.now (texts c.as_slice.result.now) h.is split c.in_err-count.ensures
    runs steps plans)

pub returns : goal.returns
returns c = λ runs steps plans bytes h.
    let line = c.args.line.now in
    let split : AreWordsOf line.text.now c.as_slice.result.now = rw c.as_slice.ensures.value h.words in (
      (refl, c.in_ok-count.ensures.0),
      line_is bytes line.text.now line.rest.now (texts c.as_slice.result.now) h.is split
          (codes "runs" ∷ whole_text c.in_ok-count.count ∷ []) (omega arith) c.in_ok-count.ensures.1,
    )
