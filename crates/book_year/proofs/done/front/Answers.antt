use Rattle.std.proofs.Common.{◌<◌, [], ◌∷◌, ◌++◌, length, get_or, ap, ◌∙◌, arith}
use Rattle.std.proofs.lemmas.List.{length-take}
use Rattle.book_year.proofs.FrontLemmas.{read_more, taken_read}
use Rattle.book_year.proofs.done.front.Goals as goal

pub loop-at-preserved : goal.loop-at-preserved
loop-at-preserved c = λ planned is.
    let rs = c.args.old.records.now in
    let os = c.args.old.outcomes.now in
    let i = c.loop-at.at in
    let within : i < length rs = omega (arith, c.loop-at-test.true, length-take c.args.count os, c.requires.within, c.requires.each) in
    let read = taken_read os c.args.count i c.outcome-item.result c.outcome-item.is c.loop-at-test.true in
    let r = get_or rs i c.index-old-at.result in
    read_more planned rs os i c.loop-at.earlier.items c.push.new.self.items r c.outcome-item.result is within (c.loop-at.invariant planned is) (ap (get_or rs i) c.index-old-at.is) read
    (c.in_ok-push.ensures.items ∙ ap (λ o. c.loop-at.earlier.items ++ record { day = r.day; outputs = o } ∷ []) c.in_ok-outputs.ensures)
