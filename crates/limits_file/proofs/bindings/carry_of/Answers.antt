use Rattle.std.proofs.Common.{Some, sym, ap, ◌∙◌}
use Rattle.std.proofs.lemmas.Bool.{false≢true}
use Rattle.toml.specs.View.{table_view}
use Rattle.pap_tree.specs.Names.{is_name}
use Rattle.limits_file.proofs.BindingLemmas.{kind_missing, output_missing, output_named, gives_count, gives_sum, gives_last}
use Rattle.limits_file.proofs.bindings.carry_of.Goals as goal

pub returns-in_err-kind : goal.returns-in_err-kind
returns-in_err-kind c = rw c.from_residual.ensures (kind_missing (table_view c.args.entry.now) c.requires (sym c.in_err-kind.ensures))

pub returns-in_err-text_at : goal.returns-in_err-text_at
returns-in_err-text_at c = rw c.from_residual-in_err-text_at.ensures (output_missing (table_view c.args.entry.now) c.requires c.in_ok-kind.kind.now (sym c.in_ok-kind.ensures) (sym c.if-eq.ensures) (sym c.in_err-text_at.ensures))

pub returns-in_err-output : goal.returns-in_err-output
returns-in_err-output c =
    let entry = table_view c.args.entry.now in
    let named = output_named entry c.requires c.in_ok-text_at.field-0.now (sym c.in_ok-text_at.ensures) in
    absurd (false≢true (c.in_err-output.ensures.exact.1 (ap is_name c.as_bytes.ensures.value ∙ named)))

pub returns-then-eq : goal.returns-then-eq
returns-then-eq c = gives_count (table_view c.args.entry.now) c.in_ok-kind.kind.now (sym c.in_ok-kind.ensures) (sym c.if-eq.ensures)

pub returns-then-eq-2 : goal.returns-then-eq-2
returns-then-eq-2 c =
    let output = sym c.in_ok-text_at.ensures ∙ ap Some (sym (c.in_ok-output.ensures.read ∙ c.as_bytes.ensures.value)) in
    gives_sum (table_view c.args.entry.now) c.in_ok-kind.kind.now c.in_ok-output.output (sym c.in_ok-kind.ensures) (sym c.if-eq.ensures) output (sym c.if-eq-2.ensures)

pub returns-else-eq-2 : goal.returns-else-eq-2
returns-else-eq-2 c =
    let output = sym c.in_ok-text_at.ensures ∙ ap Some (sym (c.in_ok-output.ensures.read ∙ c.as_bytes.ensures.value)) in
    gives_last (table_view c.args.entry.now) c.in_ok-kind.kind.now c.in_ok-output.output (sym c.in_ok-kind.ensures) (sym c.if-eq.ensures) output c.requires (sym c.if-eq-2.ensures)
