use Rattle.std.proofs.Common.{◌≡◌, true, false, refl, sym, ap, ◌∙◌, inr, subst}
use Rattle.std.proofs.lemmas.Bool.{false≢true, false_from_ne_true}
use Rattle.toml.proofs.Views.{view-Table}
use Rattle.toml.specs.View.{view, table_view}
use Rattle.pap_tree.specs.Names.{is_name}
use Rattle.limits_file.specs.Inputs.{input_form, GivesNoLimit}
use Rattle.limits_file.proofs.AnswerLemmas.{misnamed, lacking, nothing_fails, not_false, not_true, input_key, input_bound}
use Rattle.limits_file.proofs.inputs.read_input.Goals as goal

pub returns-in_default-read : goal.returns-in_default-read
returns-in_default-read c =
    let named : is_name c.args.key.now ≡ false = ap is_name (sym c.as_bytes.ensures.value) ∙ false_from_ne_true _ (λ e. false≢true (c.in_default-read.ensures.exact.1 e)) in
    input_key c.args.before c.args.key.now (view c.args.value.now) (table_view c.in-Table.entry) c.args.key.now c.key-in_default-read.result
    (ap view c.in-Table.is ∙ view-Table c.in-Table.entry) (misnamed input_form c.args.key.now (table_view c.in-Table.entry) named) c.key-in_default-read.ensures

pub returns-then-lacks_key : goal.returns-then-lacks_key
returns-then-lacks_key c =
    let named : is_name c.args.key.now ≡ true = ap is_name (sym c.as_bytes.ensures.value) ∙ c.in-Some.ensures.exact.0 refl in
    input_key c.args.before c.args.key.now (view c.args.value.now) (table_view c.in-Table.entry) c.args.key.now c.key-then-lacks_key.result
    (ap view c.in-Table.is ∙ view-Table c.in-Table.entry) (lacking input_form c.args.key.now (table_view c.in-Table.entry) named (sym c.in_default-unsuited_input_key.ensures) (not_true (sym c.if-lacks_key.ensures))) c.key-then-lacks_key.ensures

pub returns-in-None : goal.returns-in-None
returns-in-None c =
    let entry = table_view c.in-Table.entry in
    let named : is_name c.args.key.now ≡ true = ap is_name (sym c.as_bytes.ensures.value) ∙ c.in-Some.ensures.exact.0 refl in
    let name : c.in-Some.name ≡ c.args.key.now = c.in-Some.ensures.read ∙ c.as_bytes.ensures.value in
    input_bound c.args.before c.args.key.now (view c.args.value.now) entry c.bound-in-None.result
    (ap view c.in-Table.is ∙ view-Table c.in-Table.entry) (nothing_fails input_form c.args.key.now entry named (sym c.in_default-unsuited_input_key.ensures) (not_false (sym c.if-lacks_key.ensures))) c.bound-in-None.ensures
    (inr (subst (λ n. GivesNoLimit n entry) name c.in-None.ensures))
