use Rattle.std.proofs.Common.{string_bytes, sym, ap, ◌∙◌}
use Rattle.std.proofs.lemmas.Result.{err_from_is_err_and}
use Rattle.toml.specs.View.{view, table_view}
use Rattle.limits_file.specs.declared.fault.LimitsFault.TheVariants as answered
use Rattle.limits_file.specs.Labels.{label_of}
use Rattle.limits_file.proofs.ReadingLemmas.{starts, stranger, bind_stops, bind_goes, input_stops, input_goes, whole_says, no_section, no_table, is_table, other_text, same_limits}
use Rattle.limits_file.proofs.reading.read_table.Goals as goal

pub loop-key-init : goal.loop-key-init
loop-key-init c = rw c.into_iter-key-iterator.ensures.into_iter_gives.0 (starts c.args.table.now.entries _ (same_limits _ _ (c.from_vec.ensures ∙ c.new.ensures.items) (c.from_vec-2.ensures ∙ c.new-2.ensures.items)) c.into_iter-key-iterator.ensures.into_iter_gives.5)

pub returns-in_default-clause-says : goal.returns-in_default-clause-says
returns-in_default-clause-says c =
    let made = c.key.ensures ∙ ap answered.Key (ap label_of c.deref.ensures) in
    stranger c.loop-key.key-iterator c.args.table.now.entries c.loop-key.limits c.in-Some.key.now c.in-Some.value.now c.next.new.self c.loop-key.invariant c.in-Some.ensures.steps c.key.result made (λ n. no_table n (string_bytes c.in-Some.key.now) (view c.in-Some.value.now) (sym c.in_default.ensures))

pub returns-in_err-limits-in-bind-clause-says : goal.returns-in_err-limits-in-bind-clause-says
returns-in_err-limits-in-bind-clause-says c =
    let p = err_from_is_err_and c.from_residual.result c.from_residual.ensures.1 in
    rw (p.1, p.2) (bind_stops c.loop-key.key-iterator c.args.table.now.entries c.loop-key.limits c.in-Some.key.now c.in-Some.value.now c.next.new.self c.loop-key.invariant c.in-Some.ensures.steps (table_view c.in-Some-as_table.entries.now) (sym c.as_str.ensures.value ∙ c.in-bind.is) (is_table (view c.in-Some.value.now) (table_view c.in-Some-as_table.entries.now) (sym c.in-Some-as_table.ensures)) c.in_err-limits-in-bind.field-0.0 c.in_err-limits-in-bind.ensures.says)

pub loop-key-preserved-then-str_eq : goal.loop-key-preserved-then-str_eq
loop-key-preserved-then-str_eq c =
    bind_goes c.loop-key.key-iterator c.args.table.now.entries c.loop-key.limits c.in-Some.key.now c.in-Some.value.now c.next.new.self c.loop-key.invariant c.in-Some.ensures.steps (table_view c.in-Some-as_table.entries.now) (sym c.as_str.ensures.value ∙ c.in-bind.is) (is_table (view c.in-Some.value.now) (table_view c.in-Some-as_table.entries.now) (sym c.in-Some-as_table.ensures)) c.in_ok-limits-in-bind.field-0 c.in_ok-limits-in-bind.ensures.says c.in_ok-limits-in-bind.ensures.in_order

pub returns-in_err-limits-in-input-clause-says : goal.returns-in_err-limits-in-input-clause-says
returns-in_err-limits-in-input-clause-says c =
    let p = err_from_is_err_and c.from_residual-in_err-limits-in-input.result c.from_residual-in_err-limits-in-input.ensures.1 in
    rw (p.1, p.2) (input_stops c.loop-key.key-iterator c.args.table.now.entries c.loop-key.limits c.in-Some.key.now c.in-Some.value.now c.next.new.self c.loop-key.invariant c.in-Some.ensures.steps (table_view c.in-Some-as_table.entries.now) (sym c.as_str.ensures.value ∙ c.in-input.is) (is_table (view c.in-Some.value.now) (table_view c.in-Some-as_table.entries.now) (sym c.in-Some-as_table.ensures)) c.in_err-limits-in-input.field-0.0 c.in_err-limits-in-input.ensures.says)

pub loop-key-preserved : goal.loop-key-preserved
loop-key-preserved c =
    input_goes c.loop-key.key-iterator c.args.table.now.entries c.loop-key.limits c.in-Some.key.now c.in-Some.value.now c.next.new.self c.loop-key.invariant c.in-Some.ensures.steps (table_view c.in-Some-as_table.entries.now) (sym c.as_str.ensures.value ∙ c.in-input.is) (is_table (view c.in-Some.value.now) (table_view c.in-Some-as_table.entries.now) (sym c.in-Some-as_table.ensures)) c.in_ok-limits-in-input.field-0 c.in_ok-limits-in-input.ensures.says c.in_ok-limits-in-input.ensures.in_order

pub returns-in_default-as_str-clause-says : goal.returns-in_default-as_str-clause-says
returns-in_default-as_str-clause-says c =
    let made = c.key-in_default-as_str.ensures ∙ ap answered.Key (ap label_of c.deref-in_default-as_str.ensures) in
    stranger c.loop-key.key-iterator c.args.table.now.entries c.loop-key.limits c.in-Some.key.now c.in-Some.value.now c.next.new.self c.loop-key.invariant c.in-Some.ensures.steps c.key-in_default-as_str.result made (λ n. rw (is_table (view c.in-Some.value.now) (table_view c.in-Some-as_table.entries.now) (sym c.in-Some-as_table.ensures)) (no_section n (string_bytes c.in-Some.key.now) (table_view c.in-Some-as_table.entries.now) (other_text _ _ (λ e. c.in_default-as_str.not-bind (c.as_str.ensures.value ∙ e))) (other_text _ _ (λ e. c.in_default-as_str.not-input (c.as_str.ensures.value ∙ e)))))

pub returns-clause-says : goal.returns-clause-says
returns-clause-says c = whole_says c.loop-key.key-iterator c.args.table.now.entries c.loop-key.limits c.loop-key.invariant c.in-None.ensures.steps.0
