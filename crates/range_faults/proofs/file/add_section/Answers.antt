use Rattle.std.proofs.Common.{sym}
use Rattle.std.proofs.lemmas.Result.{on_ok_weaker}
use Rattle.toml.specs.View.{table_view, view}
use Rattle.range_faults.proofs.AddLemmas.{bind_adds, input_adds, no_table_adds, other_adds}
use Rattle.range_faults.proofs.file.add_section.Goals as goal

pub returns-in_default : goal.returns-in_default
returns-in_default c =
    on_ok_weaker c.put_section.result
    (λ more. λ n. no_table_adds n c.args.key.now (view c.args.value.now) c.args.faults.now.items c.put_section.new.faults.items (sym c.in_default.ensures) more)
    c.put_section.ensures

pub returns-then-is_bind : goal.returns-then-is_bind
returns-then-is_bind c =
    on_ok_weaker c.add_bindings.result
    (λ h. λ n. bind_adds n c.args.key.now (view c.args.value.now) (table_view c.in-Some.entries.now) c.args.faults.now.items c.add_bindings.new.faults.items
    (sym c.in-Some.ensures) (sym c.if-is_bind.ensures) h)
    c.add_bindings.ensures

pub returns-then-is_input : goal.returns-then-is_input
returns-then-is_input c =
    on_ok_weaker c.add_inputs.result
    (λ h. λ n. input_adds n c.args.key.now (view c.args.value.now) (table_view c.in-Some.entries.now) c.args.faults.now.items c.add_inputs.new.faults.items
    (sym c.in-Some.ensures) (sym c.if-is_bind.ensures) (sym c.if-is_input.ensures) h)
    c.add_inputs.ensures

pub returns : goal.returns
returns c =
    on_ok_weaker c.put_section-2.result
    (λ more. λ n. other_adds n c.args.key.now (view c.args.value.now) (table_view c.in-Some.entries.now) c.args.faults.now.items c.put_section-2.new.faults.items
    (sym c.in-Some.ensures) (sym c.if-is_bind.ensures) (sym c.if-is_input.ensures) more)
    c.put_section-2.ensures
