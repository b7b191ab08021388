use Rattle.std.proofs.Common.{[], ◌∷◌, ◌++◌, ◌∙◌, refl, ap, string_bytes, arith}
use Rattle.std.proofs.iter.Next.{says_at}
use Rattle.std.proofs.lemmas.Result.{on_ok_weaker}
use Rattle.diagnostics.specs.private.LineViews.{GivesWords}
use Rattle.diagnostics.proofs.LineLemmas.{told_none, told_more, all_told}
use Rattle.diagnostics.proofs.fault_lines.put_lines.Goals as goal

pub loop-fault-init : goal.loop-fault-init
loop-fault-init g c = told_none (GivesWords g.F.Fn c.args.words_of) (string_bytes c.args.text.now)

pub loop-fault-preserved : goal.loop-fault-preserved
loop-fault-preserved g c =
    let l = c.loop-fault in
    let old = string_bytes l.text in
    told_more (GivesWords g.F.Fn c.args.words_of) c.front-told.result.now l.fault-index c.fault-item.result (string_bytes c.in_ok-words.words)
    (string_bytes c.args.text.now) old (string_bytes c.put_line.new.text) c.loop-fault-test.true c.fault-item.is l.invariant
    (record { text = c.in_ok-words.words; gives = says_at g.F.Fn c.words_of.ensures c.in_ok-words.was; is = refl })
    (c.in_ok-put_line.ensures ∙ ap (λ w. old ++ (w ++ 10 ∷ [])) c.deref.ensures)

pub returns : goal.returns
returns g c =
    let l = c.loop-fault in
    on_ok_weaker c.put_more.result
    (λ more. all_told (GivesWords g.F.Fn c.args.words_of) c.args.faults.now c.front-told.result.now c.args.most l.fault-index _ (string_bytes c.args.text.now)
    (string_bytes l.text) (string_bytes c.put_more.new.text) c.front-told.ensures.first (omega (arith, c.loop-fault-test.false)) refl l.invariant more)
    c.put_more.ensures
