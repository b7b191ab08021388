use Rattle.std.proofs.Common.{◌≢◌, ◌++◌, ◌∙◌, ap, map, rules}
use Rattle.csv.specs.Writing.{row_text, writer_setup}
use Rattle.csv.specs.declared.writer.QuoteStyle.TheVariants as style
use Rattle.report_csv.specs.private.Views.{written}
use Rattle.report_csv.proofs.RowLemmas.{written_row}
use Rattle.report_csv.proofs.rows.Rows.with.Goals as goal
use Rattle.report_csv.proofs.rows.Rows.with.Goals.{in-Ok, in-Err}

pub returns : goal.returns
returns c = elim c.match-write_fields.branch [
  | in-Ok w ↦
      let held = c.self.invariant in
      let never : (writer_setup c.self.inside.writer.value).style ≢ style.NonNumeric = rw held.setup (λ e. cc e) in
      let bytes = rw c.deref_mut.ensures.value at w.in-Ok.ensures.bytes in
      let h = bytes held.fields held.clean never in
      let row = ap (λ setup. row_text setup (map (λ f. f.now) c.args.fields.now)) held.setup ∙ written_row c.args.fields.now c.requires in
      rw w.result-is (rw (← c.self.view_is) (h ∙ ap (λ t. written c.self.inside.writer.value ++ t) row))
  | in-Err w ↦ search rules
]
