use Rattle.std.proofs.Common.{arith}
use Rattle.plain_words.proofs.StopLemmas.{behind_next, a_value, no_value}
use Rattle.plain_words.proofs.stops.tag_stop.Goals as goal

pub loop-front-preserved : goal.loop-front-preserved
loop-front-preserved c =
    let front = c.in-Some-read_value_front.front in
    let end = c.value_end-end in
    record {
      behind = behind_next c.split_letters.result.1.now c.loop-front.left.now front.name.now front.text.now end.result.now
          c.in-Some-after_byte.rest.now front.quote c.loop-front.invariant.behind c.in-Some-read_value_front.ensures.found
          end.ensures.reads end.ensures.within c.in-Some-after_byte.ensures.found;
      within = omega (arith, c.loop-front.invariant.within, c.in-Some-read_value_front.ensures.shorter, end.ensures.within, c.in-Some-after_byte.ensures.shorter);
    }

pub returns-in-None-clause-stops : goal.returns-in-None-clause-stops
returns-in-None-clause-stops c =
    let front = c.in-Some-read_value_front.front in
    let end = c.value_end-end in
    a_value c.args.text.now c.in-Some.inner.now c.split_letters.result.1.now c.loop-front.left.now front.name.now
    front.text.now end.result.now front.quote c.in-Some.ensures.found c.split_letters.ensures.left
    c.loop-front.invariant.behind c.in-Some-read_value_front.ensures.found
    (record { reads = end.ensures.reads; none = end.ensures.none; unclosed = c.in-None.ensures.found })

pub returns-clause-stops : goal.returns-clause-stops
returns-clause-stops c =
    no_value c.args.text.now c.in-Some.inner.now c.split_letters.result.1.now c.loop-front.left.now c.in-Some.ensures.found
    c.split_letters.ensures.left c.loop-front.invariant.behind c.in_default-read_value_front.ensures.found
