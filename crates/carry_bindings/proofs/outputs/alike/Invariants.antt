use Rattle.std.proofs.Common.{◌≡◌, length}
use Rattle.carry_bindings.specs.private.OutputViews.{AreAlike, lent_names, names_before}
use Rattle.carry_bindings.proofs.outputs.alike.Given as goal

abbrev pub invariant-loop-e : goal.invariant-loop-e
invariant-loop-e l = record {
  marks : AreAlike l.marks.items l.earlier;
  count : length l.marks.items ≡ l.e-index;
  before : lent_names l.before ≡ names_before l.earlier l.e-index;
}
