use Rattle.std.proofs.Common.{ℕ, ◌++◌, false, map, sym, ap, ◌∙◌, rules, tests}
use Rattle.std.specs.Prelude.{◌==◌}
use Rattle.std.specs.List.{slice_split}
use Rattle.std.proofs.lemmas.List.{map_push}
use Rattle.std.proofs.lemmas.Iterator.Consumers.{YieldsList-at, YieldsList-end}
use Rattle.std.proofs.lemmas.Iterator.Splits.{YieldsList-from_slice_split}
use Rattle.flowchart_page.specs.Pages.{shown_parts}
use Rattle.flowchart_page.proofs.HeaderLemmas.{is_code_behind, words_more, code_more}
use Rattle.flowchart_page.proofs.header.push_words.Goals as goal

pub loop-part-preserved : goal.loop-part-preserved
loop-part-preserved c =
    let i = c.loop-part.invariant in
    let old = c.args.html.now.items in
    let parts = map (λ part. part.now) c.loop-part.yielded in
    let part = c.in-Some.part.now in
    let more = map_push (λ part. part.now) c.loop-part.yielded c.in-Some.part in
    record {
      page = words_more old c.loop-part.html.items c.push_part.new.html.items parts part c.loop-part.is_code i.page i.code
          c.in_ok-push_part.ensures
          ∙ ap (λ ps. old ++ shown_parts false ps) (sym more);
      code = code_more parts part c.loop-part.is_code i.code ∙ ap (is_code_behind false) (sym more);
    }

pub returns : goal.returns
returns c =
    let is_backquote = λ (byte : ℕ). byte == 0x60 in
    let all = YieldsList-end (YieldsList-at c.into_iter-part-iterator.ensures.into_iter_gives
    (YieldsList-from_slice_split _ is_backquote c.as_bytes.result.now c.split-part-items.ensures.rest
    c.split-part-items.ensures.done c.split-part-items.ensures.closure (λ x b q k. search (rules, tests))))
    c.loop-part.yielded _ c.loop-part.yielded_by _ _ c.in-None.is c.next.ensures.steps in
    c.loop-part.invariant.page
    ∙ ap (λ parts. c.args.html.now.items ++ shown_parts false parts)
    (all.0 ∙ ap (slice_split is_backquote) c.as_bytes.ensures.value)
