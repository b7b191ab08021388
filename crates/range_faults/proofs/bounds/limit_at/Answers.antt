use Rattle.std.proofs.Common.{sym, ap, ◌∙◌}
use Rattle.std.proofs.lemmas.Bool.{false≢true}
use Rattle.toml.specs.View.{table_view, view}
use Rattle.pap_tree.specs.Names.{is_name}
use Rattle.range_faults.proofs.AddLemmas.{limit_there, unnamed_lacks}
use Rattle.range_faults.proofs.bounds.limit_at.Goals as goal

pub returns-in_err-entry : goal.returns-in_err-entry
returns-in_err-entry c = rw c.from_residual.ensures (unnamed_lacks c.args.name.now (view c.args.value.now) (sym c.in_err-entry.ensures))

pub returns-in_err-name : goal.returns-in_err-name
returns-in_err-name c = rw c.from_residual-in_err-name.ensures (λ named. absurd (false≢true (c.in_err-name.ensures.exact.1 (ap is_name c.as_bytes.ensures.value ∙ named))))

pub returns : goal.returns
returns c =
    limit_there c.limit_of.result c.args.name.now c.in_ok-name.name (view c.args.value.now) (table_view c.in_ok-entry.entry.now)
    (c.in_ok-name.ensures.read ∙ c.as_bytes.ensures.value) (sym c.in_ok-entry.ensures) c.limit_of.ensures
