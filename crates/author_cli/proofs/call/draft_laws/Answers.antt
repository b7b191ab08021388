use Rattle.author_cli.proofs.DraftLemmas.{widest_suit}
use Rattle.author_cli.proofs.call.draft_laws.Goals as goal

pub returns : goal.returns
returns c = widest_suit
