use Rattle.std.proofs.Common.{◌≡◌, ◌++◌, false, map}
use Rattle.flowchart_page.specs.Pages.{shown_parts}
use Rattle.flowchart_page.proofs.HeaderLemmas.{is_code_behind}
use Rattle.flowchart_page.proofs.header.push_words.Given as goal

-- the parts so far are written
abbrev pub invariant-loop-part : goal.invariant-loop-part
invariant-loop-part l = record {
  page : l.html.items ≡ l.initial.html.items ++ shown_parts false (map (λ part. part.now) l.yielded);
  code : l.is_code ≡ is_code_behind false (map (λ part. part.now) l.yielded);
}
