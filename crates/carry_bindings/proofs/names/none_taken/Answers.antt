use Rattle.std.proofs.Common.{ap, ◌∙◌, length, false}
use Rattle.std.specs.Prelude.{replicate}
use Rattle.std.proofs.Math.ListN.{length-map}
use Rattle.payroll_records.specs.NamedValues.{name_of}
use Rattle.carry_bindings.proofs.NameLemmas.{none_taken}
use Rattle.carry_bindings.proofs.names.none_taken.Goals as goal

pub returns-clause-none : goal.returns-clause-none
returns-clause-none c =
    c.in_ok-marks.ensures.items_if_clones_equal (λ y h. h) ∙ ap (λ n. replicate n false) (ap length c.names.ensures.all ∙ length-map c.args.values.now name_of) ∙ none_taken c.args.values.now
