use Rattle.std.proofs.Common.{◌≡◌, ◌++◌, length}
use Rattle.saved_items.specs.Fronts.{AreFirstItems, front_text}
use Rattle.saved_items.specs.private.ItemViews.{IsKnown, front_in}
use Rattle.saved_items.proofs.reading.read_front.Given as goal

abbrev pub invariant-loop-front : goal.invariant-loop-front
invariant-loop-front l = record {
  sound : AreFirstItems (front_in l.front);
  text : l.bytes ≡ front_text (front_in l.front) ++ l.rest;
  known : IsKnown l.front;
}

abbrev pub decreases-loop-front : goal.decreases-loop-front
decreases-loop-front l = length l.rest
