use Rattle.std.proofs.Common.{◌≡◌, ◌+◌, ◌∷◌, ◌++◌, sym, ◌∙◌, subst, take, drop, string_bytes}
use Rattle.std.specs.Prelude.{All}
use Rattle.std.proofs.lemmas.List.{take_all}
use Rattle.std.proofs.lemmas.List.Elements.{All-push}
use Rattle.payroll_records.specs.ValueWords.{IsValueWord}
use Rattle.pap_cli.specs.BadWords.{GivesValue}
use Rattle.pap_cli.specs.Words.{texts}
use Rattle.pap_cli.proofs.WordLemmas.{texts_more, texts_parts}
use Rattle.pap_cli.proofs.bad_words.bad_value.Goals as goal

-- the words up to one that gives no value

pub returns-in_default : goal.returns-in_default
returns-in_default c =
    let i = c.loop-word.word-index in
    let words = c.args.words.now in
    record {
      before = texts (take i words);
      after = texts (drop (i + 1) words);
      parts = subst (λ b. texts words ≡ texts (take i words) ++ b ∷ texts (drop (i + 1) words))
          (sym c.as_str.ensures.value)
          (texts_parts words i c.word-item.result c.word-item.is c.loop-word-test.true);
      give = c.loop-word.invariant;
      none = subst (λ b. ¬ (GivesValue b)) (c.as_bytes.ensures.value ∙ sym c.as_str.ensures.value)
          (λ gives. c.in_default.ensures.none gives.0 gives.1);
    }

-- one word more that gives a value

pub loop-word-preserved : goal.loop-word-preserved
loop-word-preserved c =
    let i = c.loop-word.word-index in
    let words = c.args.words.now in
    let is = subst (λ b. IsValueWord b c.in-Some.field-0) c.as_bytes.ensures.value c.in-Some.ensures.read in
    subst (All GivesValue) (sym (texts_more words i c.word-item.result c.word-item.is c.loop-word-test.true))
    (All-push GivesValue (texts (take i words)) (string_bytes c.word-item.result) c.loop-word.invariant
    (c.in-Some.field-0, is))

-- all words

pub returns : goal.returns
returns c =
    subst (λ words. All GivesValue (texts words))
    (take_all c.loop-word.word-index c.args.words.now c.loop-word-test.false) c.loop-word.invariant
