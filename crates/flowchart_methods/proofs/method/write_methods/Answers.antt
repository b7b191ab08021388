use Rattle.flowchart_methods.specs.Chapters.{chapter_captions}
use Rattle.flowchart_methods.proofs.Laws.{adds_none}
use Rattle.flowchart_methods.proofs.TurnLemmas.{adds_more, adds_all}
use Rattle.flowchart_methods.proofs.method.write_methods.Goals as goal

pub loop-i-init : goal.loop-i-init
loop-i-init c = adds_none c.args.page.now

pub loop-i-preserved : goal.loop-i-preserved
loop-i-preserved c =
    adds_more chapter_captions c.args.chapters.now c.loop-i.i c.index-chapters-i.result c.args.page.now c.loop-i.page c.write_method.new.page
    c.loop-i-test.true c.index-chapters-i.is c.loop-i.invariant c.in_ok-write_method.ensures

pub returns : goal.returns
returns c =
    adds_all chapter_captions c.args.chapters.now c.loop-i.i c.args.page.now c.loop-i.page c.loop-i-test.false c.loop-i.invariant
