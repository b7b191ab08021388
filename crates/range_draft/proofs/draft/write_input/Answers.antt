use Rattle.std.proofs.Common.{◌≡◌, ◌++◌, string_bytes}
use Rattle.pap_reader.specs.Trees.{RawDeclaration, raw_declaration_of}
use Rattle.range_draft.specs.Draft.{table, entry_of}
use Rattle.range_draft.specs.private.DraftViews.{texts_of}
use Rattle.range_draft.proofs.DraftLemmas.{on_ok, entry_written}
use Rattle.range_draft.proofs.draft.write_input.Goals as goal

pub returns : goal.returns
returns c =
    let input : RawDeclaration = raw_declaration_of c.args.input.now in
    let comments = texts_of c.args.comments.now in
    let old = string_bytes c.args.text.now in
    let text = string_bytes c.write_comments.new.text in
    let new = string_bytes c.write_table.new.text in
    on_ok c.write_table.result (new ≡ text ++ table input.name input.kind) (new ≡ old ++ entry_of input comments)
    c.write_table.ensures
    (λ b. entry_written old (string_bytes c.push.new.self) text new input comments c.in_ok-push.ensures.bytes
    c.in_ok-write_comments.ensures b)
