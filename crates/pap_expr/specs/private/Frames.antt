-- The stack of frames as the machine's, the innermost first.
use Rattle.std.specs.Prelude.{◌≡◌, ℕ, List, [], ◌∷◌, ◌++◌, true, Option, Some, None}
use Rattle.pap_tree.specs.Term.{Term, term_of}
use Rattle.expr_grammar.specs.Machine as machine
use Rattle.pap_expr.specs.declared.frame.Frame.{Frame}
use Rattle.pap_expr.specs.declared.frame.Frame.TheVariants as frames

abbrev pub frame_of : Frame → machine.Frame
frame_of frames.Brackets = machine.InBrackets
frame_of (frames.Argument c e) = machine.InCall c (term_of e.value)
frame_of (frames.Index w) = machine.InItem w
frame_of frames.ValueOf = machine.InValue
frame_of frames.NewBig = machine.InNew
frame_of frames.Minus = machine.Negating
frame_of frames.Not = machine.Denying
frame_of (frames.Right o e) = machine.Left o (term_of e.value)
frame_of (frames.Yes c) = machine.Chosen (term_of c.value)
frame_of (frames.No c a) = machine.Otherwise (term_of c.value) (term_of a.value)
frame_of (frames.Target w) = machine.Assigning w

abbrev pub frames_of : List Frame → List machine.Frame
frames_of [] = []
frames_of (f ∷ fs) = frames_of fs ++ (frame_of f ∷ [])

-- what taking the innermost frame leaves
abbrev pub Pops : List machine.Frame → List machine.Frame → Option Frame → Type 0
Pops old new None = (old ≡ []) × (new ≡ [])
Pops old new (Some f) = old ≡ frame_of f ∷ new

-- the same where the frame binds at least so tightly, and nothing happens where it doesn't
abbrev pub PopsBinding : ℕ → List machine.Frame → List machine.Frame → Option Frame → Type 0
PopsBinding n old new None = (new ≡ old) × ((x : Term) → machine.close n x old ≡ (x, old))
PopsBinding n old new (Some f) = (old ≡ frame_of f ∷ new) × (machine.closes n (machine.binds (frame_of f)) ≡ true)
