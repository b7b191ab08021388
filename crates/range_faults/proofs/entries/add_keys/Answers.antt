use Rattle.std.proofs.Common.{[], ◌∷◌, map, sym}
use Rattle.std.proofs.lemmas.Result.{on_ok_weaker}
use Rattle.toml.specs.View.{table_view}
use Rattle.limits_file.specs.Entries.{has_needed_keys}
use Rattle.range_faults.specs.declared.fault.EntryFault.TheVariants.{Entry, Key}
use Rattle.range_faults.specs.EntryFaults.{entry_form, unsuited_keys}
use Rattle.range_faults.proofs.AddLemmas.{keys_whole, keys_lacking}
use Rattle.range_faults.proofs.entries.add_keys.Goals as goal

pub returns-then-has_needed_keys : goal.returns-then-has_needed_keys
returns-then-has_needed_keys c =
    let entry = table_view c.args.entry.now in
    let form = entry_form c.args.section in
    keys_whole (has_needed_keys form entry) (map (Key c.args.section c.args.name.now) (unsuited_keys (form.suits entry) entry))
    (Entry c.args.section c.args.name.now ∷ []) c.args.faults.now.items c.add_unsuited.new.faults.items (sym c.if-has_needed_keys.ensures) c.in_ok-add_unsuited.ensures

pub returns : goal.returns
returns c =
    let entry = table_view c.args.entry.now in
    let form = entry_form c.args.section in
    on_ok_weaker c.put_entry.result
    (λ more. keys_lacking (has_needed_keys form entry) (map (Key c.args.section c.args.name.now) (unsuited_keys (form.suits entry) entry))
    (Entry c.args.section c.args.name.now ∷ []) c.args.faults.now.items c.add_unsuited.new.faults.items c.put_entry.new.faults.items
    (sym c.if-has_needed_keys.ensures) c.in_ok-add_unsuited.ensures more)
    c.put_entry.ensures
