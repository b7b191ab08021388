use Rattle.std.proofs.Common.{◌∙◌, ℕ, List, ap, sym}
use Rattle.std.specs.Prelude.{Bool, ◌==◌, if◌then◌else◌, not, slice_index}
use borrow.Author.Count.{below_more}
use Rattle.messages.specs.Turns.{IsTurn}
use Rattle.messages.proofs.TurnLemmas.{quoted_more}
use Rattle.messages.proofs.reading.first_turn.Goals as goal
use Rattle.messages.proofs.reading.first_turn.Goals.{else-not-quoted-via-then-not-quoted+else-begins_help, else-not-quoted-via-else-not-quoted}

pub loop-at-preserved : goal.loop-at-preserved
loop-at-preserved c =
    let reason : List ℕ = c.args.reason.now in
    let at : ℕ = c.loop-at.at in
    record {
      quoted = c.is_quoted_behind-quoted.ensures
          ∙ ap (λ (q : Bool). if slice_index reason at == 0x60 then not q else q) c.loop-at.invariant.quoted
          ∙ sym (quoted_more reason at c.loop-at-test.true);
      none = below_more (λ k. ¬ (IsTurn reason k)) at c.loop-at.invariant.none
          (λ turn. elim c.else-not-quoted.branch [
            | else-not-quoted-via-then-not-quoted+else-begins_help w ↦ cc (w.begins_help.ensures.alone turn.mark)
            | else-not-quoted-via-else-not-quoted w ↦ cc (ap not (c.loop-at.invariant.quoted ∙ turn.outside))
          ]);
    }
