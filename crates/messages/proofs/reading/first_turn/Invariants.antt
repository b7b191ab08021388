use Rattle.std.proofs.Common.{◌≡◌, ℕ, ◌<◌, take}
use Rattle.messages.specs.Turns.{is_quoted, IsTurn}
use Rattle.messages.proofs.reading.first_turn.Given as goal

-- whether a quotation is open so far, and that the words haven't turned
abbrev pub invariant-loop-at : goal.invariant-loop-at
invariant-loop-at l = record {
  quoted : l.quoted ≡ is_quoted (take l.at l.reason);
  none : (before : ℕ) → before < l.at → ¬ (IsTurn l.reason before);
}
