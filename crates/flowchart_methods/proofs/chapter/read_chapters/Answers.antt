use Rattle.std.proofs.Common.{◌≡◌, ◌<◌, ◌+◌, [], ◌∷◌, ◌++◌, codes, length, get_or, ap, subst, ◌∙◌, length-append, arith}
use Rattle.pap_reader.specs.declared.element.Element.TheVariants.{Method}
use Rattle.pap_reader.specs.Trees.{RawRoutine, raw_body_of}
use Rattle.plan_notes.specs.declared.tag.Starts.TheVariants.{Of}
use Rattle.plan_notes.specs.Walks.{behind_start}
use Rattle.plan_notes.proofs.Laws.{one_start_more}
use Rattle.chart_layout.specs.Statements.{statements_of}
use Rattle.chart_layout.specs.Counts.{count_of}
use Rattle.flowchart_methods.specs.Sites.{named_statement}
use Rattle.flowchart_methods.proofs.ChapterLemmas.{first_chapter, next_chapter, first_count, next_count, first_commented, next_commented}
use Rattle.flowchart_methods.proofs.chapter.read_chapters.Goals as goal

pub loop-method-init : goal.loop-method-init
loop-method-init c =
    let main : RawRoutine = record { name = codes "MAIN"; body = raw_body_of c.args.elements.now.main.items } in
    let old = c.new-chapters.result.items in
    let new = c.push.new.self.items in
    let none = c.new-chapters.ensures.items in
    let pushed = c.in_ok-push.ensures.items in
    let first = c.in_ok-first.ensures in
    let counted = first.count ∙ ap (λ ss. count_of (statements_of (raw_body_of ss))) c.deref.ensures.value in
    record {
      captions = first_chapter (named_statement c.args.site.now) c.args.marks.now c.marks_of-of_main.result.now c.main-main.result
          (codes "MAIN") c.deref.result.now c.args.elements.now.main.items c.in_ok-first.first old new none pushed
          c.main-main.ensures c.deref.ensures.value c.marks_of-of_main.ensures first.chapter;
      comments = first_commented c.args.notes.now c.walk-to_main.result c.skip_to-comments.result.now c.in_ok-first.first
          old new none pushed first.comments c.skip_to-comments.ensures.comments c.walk-to_main.ensures.notes
          c.walk-to_main.ensures.left;
      counts = first_count main c.in_ok-first.first old new none pushed counted;
      number = ap length (pushed ∙ ap (λ l. l ++ c.in_ok-first.first ∷ []) none);
      left = c.walk-walk.ensures.left;
      same = c.walk-walk.ensures.notes;
    }

pub loop-method-preserved : goal.loop-method-preserved
loop-method-preserved c =
    let i = c.loop-method.method-index in
    let m = c.method-item.result in
    let ms = c.args.elements.now.methods.items in
    let notes = c.args.notes.now in
    let same = c.deref-method-items.ensures.value in
    let main : RawRoutine = record { name = codes "MAIN"; body = raw_body_of c.args.elements.now.main.items } in
    let some = subst (λ l. i < length l) same c.loop-method-test.true in
    let at = subst (λ l. m ≡ get_or l i m) same c.method-item.is in
    let before = c.loop-method.invariant in
    let old = c.loop-method.chapters.items in
    let new = c.push-in-loop-method.new.self.items in
    let pushed = c.in_ok-push-2.ensures.items in
    let chapter = c.in_ok-next.next in
    let next = c.in_ok-next.ensures in
    let found = c.skip_to-comments-in-loop-method in
    let counted : c.len.result ≡ i + 1 = omega (arith, c.loop-method.chapters.ok.0, c.len.ensures, before.number) in
    record {
      captions = next_chapter (named_statement c.args.site.now) c.args.marks.now c.marks_of-of_next.result.now
          c.len.result main ms i m c.deref-in-loop-method.result.now chapter old new some at pushed
          c.deref-in-loop-method.ensures.value c.marks_of-of_next.ensures counted next.chapter
          before.captions;
      comments = next_commented notes c.loop-method.walk i found.result.now chapter old new pushed before.number
          next.comments found.ensures.comments before.same before.left before.comments;
      counts = next_count main ms i m c.deref-in-loop-method.result.now chapter old new some at pushed
          c.deref-in-loop-method.ensures.value next.count before.counts;
      number = ap length pushed ∙ length-append old (chapter ∷ []) ∙ ap (λ n. n + 1) before.number;
      left = found.ensures.left ∙ ap (behind_start (Of Method)) before.left
          ∙ one_start_more (Of Method) i notes.marks.items;
      same = found.ensures.notes ∙ before.same;
    }
