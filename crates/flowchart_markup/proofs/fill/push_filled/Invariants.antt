use Rattle.std.proofs.Common.{◌≡◌, ◌≤◌, ◌++◌, take, map}
use Rattle.flowchart_markup.specs.Fragments.{fill_text, template_text}
use Rattle.flowchart_markup.specs.private.Holes.{holes}
use Rattle.flowchart_markup.proofs.fill.push_filled.Given as goal

-- the bytes so far are written, and what stands at their percent signs
abbrev pub invariant-loop-byte : goal.invariant-loop-byte
invariant-loop-byte l = record {
  page : l.page.items ≡ l.initial.page.items ++ template_text (take l.byte-index l.template) (map fill_text l.fills);
  index : l.index ≡ holes (take l.byte-index l.template);
  few : l.index ≤ l.byte-index;
}
