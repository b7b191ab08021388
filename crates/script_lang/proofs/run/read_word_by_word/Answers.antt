use Rattle.std.proofs.Common.{◌∙◌, ap, arith}
use Rattle.std.specs.Prelude.{Err}
use Rattle.script_lang.proofs.ValueLemmas.{no_value_at, name_again_at, not_full_at, value_at_place}
use Rattle.script_lang.proofs.run.read_word_by_word.Goals as goal

pub returns-in_default-clause-err : goal.returns-in_default-clause-err
returns-in_default-clause-err c =
    let l = c.loop-word in
    no_value_at c.args.words.now l.word-index _ l.values c.loop-word-test.true l.invariant.read l.number l.invariant.counted c.in_default.ensures.none

pub returns-in-Err-Twice-clause-err : goal.returns-in-Err-Twice-clause-err
returns-in-Err-Twice-clause-err c =
    let l = c.loop-word in
    let there = c.insert.ensures.twice.0 (c.in-Err-Twice.is ∙ ap (λ f. Err f) c.in-Err-Twice.field-0-is) in
    name_again_at c.args.words.now l.word-index _ l.values c.loop-word-test.true l.invariant.read c.in-Some.value c.in-Some.ensures.read there

pub loop-word-preserved : goal.loop-word-preserved
loop-word-preserved c =
    let l = c.loop-word in
    record {
      read =
          value_at_place c.args.words.now l.word-index _ l.values c.loop-word-test.true l.invariant.read c.in-Some.value c.insert.new.self c.in-Some.ensures.read c.in-Ok.ensures.ok
          (λ some. cc (c.in-Ok.ensures.twice.1 some)) (λ full. cc (c.in-Ok.ensures.full.1 full));
      counted = omega (arith, l.invariant.counted);
    }

pub unreachable-requires : goal.unreachable-requires
unreachable-requires c =
    let l = c.loop-word in
    let full = c.insert.ensures.full.0 (c.in-Err-Full.is ∙ ap (λ f. Err f) c.in-Err-Full.field-0-is) in
    not_full_at c.args.words.now l.word-index l.values c.loop-word-test.true l.invariant.read c.requires full.1
