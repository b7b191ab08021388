-- What private contracts say of the operands of an operation.
use Rattle.std.specs.Prelude.{◌≤◌}
use Rattle.scaled_decimal.specs.Limits.{most_places}
use Rattle.pap_tree.specs.Term.{Term}
use Rattle.pap_tree.specs.Scales.{OneKeepsScale}
use Rattle.pap_tree.specs.Shapes.{one_meant}
use Rattle.interval_num.specs.Intervals.{Interval}
use Rattle.pap_types.specs.declared.kinds.NodeKind.{NodeKind}
use Rattle.pap_types.specs.Kinds.{shown_divisor}
use Rattle.pap_types.specs.Safety.{bits_of}
use Rattle.pap_types.specs.Scopes.{Scope}
use Rattle.pap_tree.specs.declared.shapes.One.{One}
use Rattle.pap_tree.specs.declared.shapes.One.TheVariants as ones
use Rattle.pap_tree.specs.declared.shapes.Two.{Two}
use Rattle.pap_tree.specs.declared.shapes.Two.TheVariants as twos
use Rattle.interval_analysis.specs.private.OperationViews.{TakesUnary, TakesWholes, TakesShown}

-- an operation takes the ranges of its operands where its result is of a kind, and has a scale of at most 30
abbrev pub TakesOne : One → NodeKind → Interval → Type 0
TakesOne (ones.Unary op) k a = TakesUnary op (bits_of k) a
TakesOne op k a = OneKeepsScale (one_meant op)

abbrev pub TakesTwo : Scope → Two → NodeKind → Term → Interval → Interval → Type 0
TakesTwo scope (twos.Operator op) k f a b = TakesWholes op (bits_of k) a b
TakesTwo scope (twos.Method m) k f a b = TakesShown m (shown_divisor scope f)
TakesTwo scope (twos.Divide s mode) k f a b = s ≤ most_places
