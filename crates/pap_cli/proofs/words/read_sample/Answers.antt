use Rattle.std.proofs.Common.{ℕ}
use Rattle.std.specs.Prelude.{MatchOption}
use Rattle.plan_answers.proofs.Laws.{if_ok_map}
use Rattle.pap_cli.specs.Words.{texts, HasForm, sample}
use Rattle.pap_cli.specs.private.WordViews.{AskNoSample, IsSampleWord}
use Rattle.pap_cli.proofs.WordLemmas.{sample_words}
use Rattle.pap_cli.proofs.words.read_sample.Goals as goal

pub returns-in-len2 : goal.returns-in-len2
returns-in-len2 c =
    let words = texts c.args.words.now in
    let word = c.as_str-in-len2.result.now in
    if_ok_map c.read_employees.result (λ found. MatchOption found ((n : ℕ) → ¬ (IsSampleWord word n)) (IsSampleWord word))
    (λ found. MatchOption found (AskNoSample words) (λ n. HasForm words (sample n)))
    (λ found h. sample_words c.args.words.now c.command-item.result c.count-item.result c.as_str.result.now word c.eq.result found c.in-len2.len_at_least c.in-len2.len_below c.command-item.is c.count-item.is
    c.as_str.ensures.value c.as_str-in-len2.ensures.value c.eq.ensures c.if-eq.true h) c.read_employees.ensures
