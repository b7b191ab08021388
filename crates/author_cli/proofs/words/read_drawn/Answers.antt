use Rattle.std.proofs.Common.{List, subst}
use Rattle.std.specs.Prelude.{MatchOption}
use Rattle.payroll_records.specs.declared.values.NamedValue.{NamedValue}
use Rattle.payroll_records.specs.ValueWords.{AreValueWords}
use Rattle.author_cli.specs.Words.{texts}
use Rattle.author_cli.proofs.WordLemmas.{no_drawn}
use Rattle.author_cli.proofs.words.read_drawn.Goals as goal

pub returns-in-None : goal.returns-in-None
returns-in-None c =
    let words = texts c.args.rest.now in
    no_drawn c.args.plan.now c.args.limits.now words
    (subst (λ found. MatchOption found ((values : List NamedValue) → ¬ (AreValueWords words values)) (AreValueWords words))
    c.in-None.is c.in_ok-values.ensures)
