use Rattle.std.proofs.Common.{ℕ, subst}
use Rattle.std.specs.Prelude.{MatchOption}
use Rattle.author_cli.specs.private.CoveredViews.{IsPercentWord}
use Rattle.author_cli.specs.private.WordViews.{medium_of}
use Rattle.author_cli.proofs.CoverWordLemmas.{no_percent}
use Rattle.author_cli.proofs.covered_words.read_least.Goals as goal

pub returns-in-None : goal.returns-in-None
returns-in-None c =
    let share = c.args.share.now in
    no_percent (medium_of c.args.medium) c.args.plan.now c.args.limits.now c.args.table.now share
    (subst (λ found. MatchOption found ((n : ℕ) → ¬ (IsPercentWord share n)) (IsPercentWord share))
    c.in-None.is c.in_ok-least.ensures)
