use Rattle.std.proofs.Common.{◌≡◌, false, sym, ap, ◌∙◌}
use Rattle.std.proofs.lemmas.Bool.{false≢true, false_from_ne_true}
use Rattle.toml.proofs.Views.{view-Table}
use Rattle.toml.specs.View.{view, table_view}
use Rattle.pap_tree.specs.Names.{is_name}
use Rattle.limits_file.specs.Bindings.{binding_form}
use Rattle.limits_file.proofs.AnswerLemmas.{misnamed, binding_key}
use Rattle.limits_file.proofs.bindings.read_binding.Goals as goal

pub returns-in_default-read : goal.returns-in_default-read
returns-in_default-read c = λ n.
    let named : is_name c.args.key.now ≡ false = ap is_name (sym c.as_bytes.ensures.value) ∙ false_from_ne_true _ (λ e. false≢true (c.in_default-read.ensures.exact.1 e)) in
    binding_key n c.args.key.now (view c.args.value.now) (table_view c.in-Table.entry) c.args.key.now c.key-in_default-read.result
    (ap view c.in-Table.is ∙ view-Table c.in-Table.entry) (misnamed binding_form c.args.key.now (table_view c.in-Table.entry) named) c.key-in_default-read.ensures
