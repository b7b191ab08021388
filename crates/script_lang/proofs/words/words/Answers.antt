use Rattle.std.proofs.Common.{◌++◌, ◌+◌, sym, ap, ◌∙◌, append_assoc, length, length-drop, take, drop, arith}
use Rattle.std.proofs.lemmas.List.{take_rest}
use Rattle.std.proofs.lemmas.Result.{IfOk-weaker}
use Rattle.script_lang.specs.private.Views.{texts, counted}
use Rattle.script_lang.specs.Words.{words_in_line}
use Rattle.script_lang.proofs.SplitLemmas.{first_word, last_word}
use Rattle.script_lang.proofs.words.words.Goals as goal

pub returns-in_default : goal.returns-in_default
returns-in_default c =
    IfOk-weaker c.with_word.result _ _ (λ more is. is ∙ sym (c.words.invariant.read ∙ ap (λ v. texts c.words.words.items ++ v) (last_word c.words.rest.now c.in_default.ensures))) c.with_word.ensures

pub words-preserved : goal.words-preserved
words-preserved c =
    let rest = c.words.rest.now in
    let at = c.in-Some.at in
    let words = texts c.words.words.items in
    let left = take_rest rest (at + 1) in
    record {
      read = c.words.invariant.read ∙ ap (λ v. words ++ v) (first_word rest at c.in-Some.ensures)
          ∙ sym (append_assoc words (counted (take at rest)) (words_in_line (drop (at + 1) rest)))
          ∙ ap (λ v. v ++ words_in_line (drop (at + 1) rest)) (sym c.in_ok-words-2.ensures)
          ∙ ap (λ v. texts c.in_ok-words-2.words.items ++ words_in_line v) (sym left);
      within = omega (arith, c.words.invariant.within, ap length left, length-drop (at + 1) rest);
    }
