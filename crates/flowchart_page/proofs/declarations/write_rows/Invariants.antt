use Rattle.std.proofs.Common.{◌≡◌, map, take}
use Rattle.pap_reader.specs.Trees.{raw_declaration_of}
use Rattle.plan_notes.specs.declared.tag.Starts.TheVariants.{Of}
use Rattle.plan_notes.specs.Walks.{notes_of, marks_left, behind_starts}
use Rattle.flowchart_page.specs.private.TableViews.{source_of, AddsRows}
use Rattle.flowchart_page.proofs.declarations.write_rows.Given as goal

-- the names so far have their rows, and the walk stands behind as many start tags
abbrev pub invariant-loop-number : goal.invariant-loop-number
invariant-loop-number l = record {
  rows : AddsRows (source_of l.declarations) l.element (map raw_declaration_of (take l.number l.names)) l.initial.page l.page;
  left : marks_left l.walk ≡ behind_starts (Of l.element) l.number l.declarations.notes.now.marks.items;
  same : notes_of l.walk ≡ l.declarations.notes.now;
}
