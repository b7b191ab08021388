use Rattle.std.proofs.Common.{◌++◌, sym, ap, ◌∙◌}
use Rattle.std.proofs.lemmas.Result.{on_ok_weaker}
use Rattle.toml.specs.View.{table_view, view}
use Rattle.range_faults.proofs.AddLemmas.{named_keys, unnamed_keys}
use Rattle.range_faults.proofs.entries.add_key_faults.Goals as goal

pub returns-in-Some : goal.returns-in-Some
returns-in-Some c =
    on_ok_weaker c.add_keys.result
    (λ k. k ∙ ap (λ t. c.args.faults.now.items ++ t) (sym (named_keys c.args.section c.args.name.now (view c.args.value.now) (table_view c.in-Some.entry.now) (sym c.in-Some.ensures))))
    c.add_keys.ensures

pub returns-in-None : goal.returns-in-None
returns-in-None c =
    on_ok_weaker c.put_entry.result
    (λ k. k ∙ ap (λ t. c.args.faults.now.items ++ t) (sym (unnamed_keys c.args.section c.args.name.now (view c.args.value.now) (sym c.in-None.ensures))))
    c.put_entry.ensures
