use Rattle.std.proofs.Common.{◌≡◌, ◌++◌, length, drop, map}
use Rattle.pap_reader.specs.Contents.{StandInOrder, token_byte, token_meant, tokens_of}
use Rattle.plain_words.specs.Positions.{line_of}
use Rattle.comment_comparison.proofs.ReadingLemmas.{comments_in}
use Rattle.comment_comparison.proofs.reading.comments_of.Given as goal

abbrev pub invariant-loop-token : goal.invariant-loop-token
invariant-loop-token l =
    let left = map token_meant (drop l.token-index l.tokens.items.items) in
    record {
      comments : l.comments.items ++ comments_in l.file left ≡ comments_in l.file (tokens_of l.tokens);
      line : l.line ≡ line_of l.file l.counted;
      order : StandInOrder l.counted (map token_byte left) (length l.file);
    }
