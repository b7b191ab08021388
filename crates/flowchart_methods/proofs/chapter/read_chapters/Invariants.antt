use Rattle.std.proofs.Common.{◌≡◌, ◌∷◌, ◌+◌, length, map, take, codes}
use Rattle.std.specs.List.{flat_map}
use Rattle.pap_reader.specs.declared.element.Element.TheVariants.{Method}
use Rattle.pap_reader.specs.Trees.{RawRoutine, raw_body_of, raw_routine_of}
use Rattle.plan_notes.specs.declared.tag.Starts.TheVariants.{Of}
use Rattle.plan_notes.specs.Walks.{notes_of, marks_left, behind_starts}
use Rattle.chart_layout.specs.Statements.{statements_of}
use Rattle.chart_layout.specs.Counts.{count_of}
use Rattle.flowchart_methods.specs.declared.chapter.Chapter.{Chapter}
use Rattle.flowchart_methods.specs.Sites.{named_statement}
use Rattle.flowchart_methods.specs.Captions.{AreCaptions}
use Rattle.flowchart_methods.specs.Chapters.{chapter_captions, AreCommented}
use Rattle.flowchart_methods.proofs.chapter.read_chapters.Given as goal

-- MAIN and the methods so far
abbrev pub invariant-loop-method : goal.invariant-loop-method
invariant-loop-method l = record {
  captions : AreCaptions (named_statement l.site) l.marks (record { name = codes "MAIN"; body = raw_body_of l.elements.main.items }
      ∷ map raw_routine_of (take l.method-index l.elements.methods.items))
      (flat_map chapter_captions l.chapters.items);
  comments : AreCommented l.notes 0 l.chapters.items;
  counts : map (λ (c : Chapter). c.text.count) l.chapters.items
      ≡ map (λ (m : RawRoutine). count_of (statements_of m.body))
      (record { name = codes "MAIN"; body = raw_body_of l.elements.main.items }
      ∷ map raw_routine_of (take l.method-index l.elements.methods.items));
  number : length l.chapters.items ≡ l.method-index + 1;
  left : marks_left l.walk ≡ behind_starts (Of Method) l.method-index l.notes.marks.items;
  same : notes_of l.walk ≡ l.notes;
}
