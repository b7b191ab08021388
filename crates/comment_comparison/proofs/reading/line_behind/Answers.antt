use Rattle.std.proofs.Common.{◌+◌, ap, ◌∙◌}
use Rattle.plain_words.specs.Positions.{line_of}
use Rattle.comment_comparison.proofs.ReadingLemmas.{line_counted}
use Rattle.comment_comparison.proofs.reading.line_behind.Goals as goal

pub returns : goal.returns
returns c =
    ap (λ n. n + c.line_feeds.result) c.requires.known
    ∙ ap (λ n. line_of c.args.file.now c.args.from + n) c.line_feeds.ensures
    ∙ line_counted c.args.file.now c.args.from c.args.to c.requires.order
