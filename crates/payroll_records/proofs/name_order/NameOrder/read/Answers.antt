use Rattle.std.proofs.Common.{◌≤◌, length, map, sym, subst, ap, ◌∙◌, arith, rules, refl}
use Rattle.payroll_records.specs.KeptValues.{IsKeptAs, named_numbers}
use Rattle.payroll_records.specs.ValueWords.{AreValueWords}
use Rattle.payroll_records.proofs.GivenLemmas.{none_given, word_given, words_given}
use Rattle.payroll_records.proofs.ValueWordLemmas.{no_words}
use Rattle.payroll_records.proofs.name_order.NameOrder.read.Goals as goal

pub loop-word-init : goal.loop-word-init
loop-word-init c = record {
  counted = refl;
  long = search rules;
  read = subst (AreValueWords _) (sym (none_given c.as_slice-names.result.now c.in_ok-numbers.numbers.items 256)) no_words;
}

pub loop-word-preserved : goal.loop-word-preserved
loop-word-preserved c =
    let l = c.loop-word in
    let few : length c.args.words.now ≤ 256 = omega (arith, c.if-words-names.false, ap length c.as_slice-names.ensures.value, c.self.invariant.few) in
    record {
      counted = omega (arith, l.invariant.counted);
      long = c.give.ensures.long ∙ l.invariant.long;
      read = word_given c.args.words.now l.word-index _ _ _ c.loop-word-test.true few l.invariant.read (c.if-not-give.ensures.one refl);
    }

pub of_list-values-requires : goal.of_list-values-requires
of_list-values-requires c =
    let l = c.loop-word in
    let all = words_given c.args.words.now l.word-index c.as_slice-names.result.now l.numbers.items l.given l.invariant.read
    (omega (arith, c.loop-word-test.false)) (omega (arith, c.if-words-names.false)) l.invariant.long in
    subst (λ names. IsKeptAs names l.numbers.items) (c.as_slice-names.ensures.value ∙ sym c.in_ok-clone.ensures.cases) all.kept

pub returns : goal.returns
returns c =
    let l = c.loop-word in
    let all = words_given c.args.words.now l.word-index c.as_slice-names.result.now l.numbers.items l.given l.invariant.read
    (omega (arith, c.loop-word-test.false)) (omega (arith, c.if-words-names.false)) l.invariant.long in
    subst (AreValueWords (map (λ w. w.now) c.args.words.now))
    (ap (λ names. named_numbers names l.numbers.items) (c.as_slice-names.ensures.value ∙ sym c.in_ok-clone.ensures.cases) ∙ sym c.of_list-values.ensures ∙ sym c.given_in.ensures) all.read
