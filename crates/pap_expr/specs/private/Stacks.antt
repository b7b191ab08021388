-- The frames that wait, the innermost first.
use Rattle.std.specs.Prelude.{List}
use Rattle.expr_grammar.specs.Machine.{Frame}
use Rattle.pap_expr.specs.private.Frames.{frames_of}
use Rattle.pap_expr.specs.declared.stack.Stack.{Stack}

abbrev pub stack_of : Stack → List Frame
stack_of s = frames_of s.frames.items
