use Rattle.std.proofs.Common.{length, map, ◌<◌}
use Rattle.std.specs.Prelude.{All, vec_len}
use Rattle.std.specs.List.Sorted.{IsNonDecreasingBy}
use Rattle.std.proofs.lemmas.Result.{IfOk-weaker}
use Rattle.pap_reader.specs.Contents.{tokens_of}
use Rattle.plan_notes.specs.declared.tag.Mark.{Mark}
use Rattle.plan_notes.specs.Edges.{HasEdges}
use Rattle.plan_notes.specs.Marks.{edge_of, HaveComments}
use Rattle.plan_notes.specs.Notes.{IsNoted, HasNotes}
use Rattle.plan_notes.proofs.EdgeLemmas.{whole_notes, has_edges, marks_within, marks_in_order, have_comments}
use Rattle.plan_notes.proofs.scan.read_notes.Goals as goal

pub returns : goal.returns
returns c =
    let file = c.args.file.now in
    let tokens = c.in_ok-tokens.tokens in
    let made = c.notes_of.result in
    let whole = IfOk-weaker made (λ notes. IsNoted (tokens_of tokens) notes) (λ notes. HasNotes file notes)
    (λ notes noted. whole_notes file tokens notes c.in_ok-tokens.ensures noted) c.notes_of.ensures in
    record {
      notes = whole;
      tags = IfOk-weaker made (λ notes. HasNotes file notes) (λ notes. HasEdges file (map edge_of notes.marks.items))
          (λ notes h. has_edges file notes h) whole;
      places = IfOk-weaker made (λ notes. HasNotes file notes) (λ notes. All (λ (m : Mark). m.at < length file) notes.marks.items)
          (λ notes h. marks_within file notes h) whole;
      in_order = IfOk-weaker made (λ notes. HasNotes file notes)
          (λ notes. IsNonDecreasingBy (λ (m : Mark). m.at) notes.marks.items) (λ notes h. marks_in_order file notes h) whole;
      comments = IfOk-weaker made (λ notes. HasNotes file notes)
          (λ notes. HaveComments notes.marks.items (vec_len notes.comments)) (λ notes h. have_comments file notes h) whole;
    }
