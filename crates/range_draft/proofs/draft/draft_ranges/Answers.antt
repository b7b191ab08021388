use Rattle.std.proofs.Common.{◌+◌, length, get_or, arith, sym, ap, subst, ◌∙◌, string_bytes}
use Rattle.range_draft.specs.private.DraftViews.{texts_of}
use Rattle.range_draft.proofs.DraftLemmas.{IsDrafted, no_names, was_there, was_new, drafted_start, drafted_new, drafted_again}
use Rattle.range_draft.proofs.draft.draft_ranges.Goals.{then-branch+in_ok-write_input, else-branch}
use Rattle.range_draft.proofs.draft.draft_ranges.Goals as goal

pub loop-input-init : goal.loop-input-init
loop-input-init c =
    drafted_start c.args.elements.now.inputs.items c.args.notes.now c.walk-walk.result c.new-names.result
    (string_bytes c.in_ok-text.text) c.in_ok-text.ensures.ok c.walk-walk.ensures.left c.walk-walk.ensures.notes
    (no_names c.new-names.result c.new-names.ensures.empty)

pub loop-input-preserved : goal.loop-input-preserved
loop-input-preserved c =
    let inputs = c.args.elements.now.inputs.items in
    let notes = c.args.notes.now in
    let l = c.loop-input in
    let walk = c.skip_to-comments.new.self in
    let names = c.insert.new.self in
    let name = c.bytes.result in
    let input = c.input-item.result in
    let item = c.input-item.is ∙ ap (λ all. get_or all l.input-index input) c.as_slice-input-items.ensures.value in
    let size = ap length c.as_slice-input-items.ensures.value in
    elim c.if-branch.branch [
      | then-branch+in_ok-write_input w ↦
          let fresh = was_new _ _ w.if-branch.true c.in_ok-insert.ensures.added in
          subst (λ text. IsDrafted inputs notes (l.input-index + 1) walk names (string_bytes text)) (sym w.text-is)
          (drafted_new inputs notes l.input-index l.walk walk l.names names name input (string_bytes l.text) l.invariant
          (omega (arith, size)) item c.bytes.ensures.bytes c.skip_to-comments.ensures.left
          c.skip_to-comments.ensures.notes
          c.in_ok-insert.ensures.updates (string_bytes w.write_input.new.text) (texts_of c.skip_to-comments.result.now)
          fresh
          (ap texts_of c.skip_to-comments.ensures.comments) c.bytes.ensures.named
          w.in_ok-write_input.ensures)
      | else-branch w ↦
          let there = was_there _ _ w.if-branch.false c.in_ok-insert.ensures.added in
          subst (λ text. IsDrafted inputs notes (l.input-index + 1) walk names (string_bytes text)) (sym w.text-is)
          (drafted_again inputs notes l.input-index l.walk walk l.names names name input (string_bytes l.text)
          l.invariant (omega (arith, size)) item c.bytes.ensures.bytes c.skip_to-comments.ensures.left
          c.skip_to-comments.ensures.notes c.in_ok-insert.ensures.updates there)
    ]
