use Rattle.std.proofs.Common.{not, ◌++◌, sym, ap, ◌∙◌, map-id}
use Rattle.std.specs.Prelude.{encode_utf8, encode_utf8_all, string_bytes, string_len}
use Rattle.std.specs.List.{slice_split}
use Rattle.std.proofs.lemmas.Iterator.{YieldsList-from_chars}
use Rattle.std.proofs.lemmas.Iterator.Consumers.{YieldsList-end}
use Rattle.plan_notes.specs.Lines.{is_blank}
use Rattle.plan_notes.specs.private.LineViews.{gap_text}
use Rattle.plan_notes.proofs.Spaces.{Line, line_of, joined, line_is, with_blank, with_letter, text_more, gap_is}
use Rattle.plan_notes.proofs.text.spaced.Goals as goal

pub loop-c-preserved-then-is_blank : goal.loop-c-preserved-then-is_blank
loop-c-preserved-then-is_blank c =
    let i = c.loop-c.invariant in
    let so_far : Line = line_of is_blank c.loop-c.yielded in
    let more = with_blank is_blank c.loop-c.yielded c.in-Some.c (sym c.is_blank.ensures ∙ c.if-is_blank.true) in
    record {
      text = i.text ∙ sym (ap (λ (l : Line). encode_utf8_all l.letters) more);
      gap = ap not c.is_empty-is_gap.ensures
          ∙ gap_is (string_len c.loop-c.line) (string_bytes c.loop-c.line) so_far.letters c.loop-c.line.bytes.ok.0
          i.text
          ∙ sym (ap (λ (l : Line). l.gap) more);
    }

pub loop-c-preserved : goal.loop-c-preserved
loop-c-preserved c =
    let i = c.loop-c.invariant in
    let so_far : Line = line_of is_blank c.loop-c.yielded in
    let more = with_letter is_blank c.loop-c.yielded c.in-Some.c (sym c.is_blank.ensures ∙ c.if-is_blank.false) in
    let grown = c.in_ok-push_behind.ensures
    ∙ ap (λ gap. string_bytes c.loop-c.line ++ (encode_utf8_all (gap_text gap) ++ encode_utf8 c.in-Some.c)) i.gap in
    record {
      text = text_more so_far.letters so_far.gap c.in-Some.c (string_bytes c.loop-c.line)
          (string_bytes c.push_behind.new.line) i.text grown
          ∙ sym (ap (λ (l : Line). encode_utf8_all l.letters) more);
      gap = sym (ap (λ (l : Line). l.gap) more);
    }

pub returns : goal.returns
returns c =
    let all = YieldsList-end (YieldsList-from_chars c.args.text.now c.utf8.text cc) c.loop-c.yielded _
    c.loop-c.yielded_by _ _ c.in-None.is c.next.ensures.steps in
    c.loop-c.invariant.text
    ∙ ap encode_utf8_all (line_is is_blank c.loop-c.yielded
    ∙ ap (λ cs. joined (slice_split is_blank cs)) (sym (map-id c.loop-c.yielded) ∙ all.0))
