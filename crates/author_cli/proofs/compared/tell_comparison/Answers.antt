use Rattle.plain_words.specs.Places.{named_text}
use Rattle.author_cli.proofs.ComparedLemmas.{tells_comparison}
use Rattle.author_cli.proofs.compared.tell_comparison.Goals as goal

pub returns : goal.returns
returns c =
    tells_comparison _ (named_text c.args.old) (named_text c.args.new) _ _ _ _ _ _ _ _ _ _ _ c.in_ok-comparison.ensures
    c.in_ok-comments.ensures c.in_ok-text.ensures c.differs-is_other.ensures c.ranges_differ.ensures c.in_ok-reason.ensures
    c.in_ok-old.ensures c.in_ok-new.ensures
