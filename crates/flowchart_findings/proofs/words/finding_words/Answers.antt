use Rattle.std.proofs.Common.{◌≡◌, ℕ, List, ◌++◌, codes, string_bytes, sym, ap, ◌∙◌}
use Rattle.std.proofs.lemmas.Result.{IfOk-weaker}
use Rattle.flowchart_findings.specs.Texts.{carry_cause, finding_words}
use Rattle.flowchart_findings.proofs.words.finding_words.Goals as goal

pub returns-in_ok-remedy-in-LongCarry : goal.returns-in_ok-remedy-in-LongCarry
returns-in_ok-remedy-in-LongCarry c =
    let f = c.in-LongCarry in
    let start = λ (rest : List ℕ). codes "long-carry: by the ranges of the inputs, the output " ++ (f.site.name
    ++ (codes " may have more places than the input that carries it over, " ++ rest)) in
    IfOk-weaker c.format-in-LongCarry.result _ (λ words. string_bytes words ≡ finding_words c.args.finding.now)
    (λ words e. e
    ∙ ap (λ t. start (t ++ (codes "; " ++ string_bytes c.in_ok-remedy-in-LongCarry.remedy))) c.in_ok-cause-in-LongCarry.ensures
    ∙ ap (λ t. start (carry_cause f.input f.places f.takes ++ (codes "; " ++ t))) c.in_ok-remedy-in-LongCarry.ensures
    ∙ ap finding_words (sym f.is))
    c.format-in-LongCarry.ensures.ok
