use Rattle.std.proofs.Common.{◌<◌, ◌∙◌, length, refl, sym, subst}
use Rattle.std.proofs.lemmas.Bool.{false≢true}
use Rattle.std.proofs.lemmas.Result.{on_ok_weaker}
use Rattle.toml.specs.View.{view}
use Rattle.range_faults.proofs.AddLemmas.{input_breaks, input_fits, input_keys}
use Rattle.range_faults.proofs.entries.add_input.Goals as goal

pub returns-then-has_grown : goal.returns-then-has_grown
returns-then-has_grown c = λ n left.
    let now = c.add_key_faults.new.faults.items in
    input_keys n c.args.name.now (view c.args.value.now) c.args.faults.now.items now c.in_ok-add_key_faults.ensures
    (subst (λ k. k < length now) (c.len-before.ensures ∙ c.args.faults.now.ok.0) (c.if-has_grown.ensures.0 refl))

pub returns-then-is_accepted : goal.returns-then-is_accepted
returns-then-is_accepted c = λ n left.
    let now = c.add_key_faults.new.faults.items in
    input_fits n c.args.room c.args.name.now (view c.args.value.now) c.args.faults.now.items now c.in_ok-add_key_faults.ensures
    (λ more. false≢true (c.if-has_grown.ensures.1 (subst (λ k. k < length now) (sym (c.len-before.ensures ∙ c.args.faults.now.ok.0)) more))) left c.if-is_accepted.ensures

pub returns : goal.returns
returns c =
    let now = c.add_key_faults.new.faults.items in
    on_ok_weaker c.put_bounds.result
    (λ more. λ n left. input_breaks n c.args.room c.args.name.now (view c.args.value.now) c.args.faults.now.items now c.put_bounds.new.faults.items c.in_ok-add_key_faults.ensures
    (λ grown. false≢true (c.if-has_grown.ensures.1 (subst (λ k. k < length now) (sym (c.len-before.ensures ∙ c.args.faults.now.ok.0)) grown))) left c.if-is_accepted.ensures more)
    c.put_bounds.ensures
