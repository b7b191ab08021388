use Rattle.std.proofs.Common.{◌≡◌, ◌≤◌, false, map, length}
use Rattle.pap_tree.specs.White.{is_white}
use Rattle.pap_reader.specs.Bytes.{begins_with}
use Rattle.pap_reader.specs.Contents.{HasTokens, token_meant}
use Rattle.pap_reader.proofs.tokens.read_tokens.Given as goal

abbrev pub invariant-loop-items : goal.invariant-loop-items
invariant-loop-items l = record {
  read : HasTokens l.file (map token_meant l.items.items) l.left;
  black : begins_with is_white l.left ≡ false;
  shorter : length l.left ≤ length l.file;
}

abbrev pub decreases-loop-items : goal.decreases-loop-items
decreases-loop-items l = length l.left
