use Rattle.std.proofs.Common.{[], ◌∷◌, sym}
use Rattle.std.proofs.lemmas.Result.{on_ok_weaker}
use Rattle.toml.specs.View.{table_view, view}
use Rattle.range_faults.specs.declared.fault.EntryFault.TheVariants.{Key}
use Rattle.range_faults.specs.EntryFaults.{entry_form}
use Rattle.range_faults.proofs.AddLemmas.{key_put, key_suits}
use Rattle.range_faults.proofs.entries.add_key.Goals as goal

pub returns-then-suits : goal.returns-then-suits
returns-then-suits c =
    key_suits ((entry_form c.args.section).suits (table_view c.args.entry.now) c.args.key.now (view c.args.value.now)) c.args.faults.now.items
    (Key c.args.section c.args.name.now c.args.key.now ∷ []) (sym c.if-suits.ensures)

pub returns : goal.returns
returns c =
    on_ok_weaker c.put_key.result
    (λ more. key_put ((entry_form c.args.section).suits (table_view c.args.entry.now) c.args.key.now (view c.args.value.now)) c.args.faults.now.items
    c.put_key.new.faults.items (Key c.args.section c.args.name.now c.args.key.now ∷ []) (sym c.if-suits.ensures) more)
    c.put_key.ensures
