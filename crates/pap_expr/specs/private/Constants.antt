-- The states of the reading of a declared literal as the machine's.
use Rattle.std.specs.Prelude.{◌≡◌, Option, Some, None, Result, Ok, Err}
use Rattle.pap_tree.specs.Tokens.{Token, Word, Mark, Dot, Open, Close, Spot}
use Rattle.pap_tree.specs.Grammar.{LineMeaning, declared}
use Rattle.pap_tree.specs.Declarations.{declared_of}
use Rattle.pap_tree.specs.declared.declaration.Literal.{Literal}
use Rattle.expr_grammar.specs.Machine as machine
use Rattle.expr_grammar.specs.Machine.{settled}
use Rattle.expr_grammar.specs.Run.{Refusal, refusal_at, cause_of}
use Rattle.pap_expr.specs.declared.constant.Room.{Room}
use Rattle.pap_expr.specs.declared.constant.Room.TheVariants as rooms
use Rattle.pap_expr.specs.declared.constant.Slot.{Slot}
use Rattle.pap_expr.specs.declared.constant.Slot.TheVariants as slots
use Rattle.pap_expr.specs.declared.constant.Due.{Due}
use Rattle.pap_expr.specs.declared.constant.Due.TheVariants as dues
use Rattle.pap_expr.specs.declared.fault.ExprFault.{ExprFault}
use Rattle.pap_expr.specs.private.States.{the_class}
use Rattle.pap_expr.specs.private.Steps.{Refuses}
use Rattle.pap_expr.specs.private.Answers.{Fails}

abbrev pub room_of : Room → machine.Room
room_of rooms.Alone = machine.Alone
room_of (rooms.Table ds) = machine.InTable ds.items

abbrev pub slot_of : Slot → machine.Slot
slot_of slots.Line = machine.OfLine
slot_of (slots.Value r) = machine.OfValue (room_of r)
slot_of (slots.New r) = machine.OfNew (room_of r)

abbrev pub due_of : Due → machine.State
due_of (dues.Signed s) = machine.Signed (slot_of s)
due_of (dues.Minus s) = machine.Minus (slot_of s)
due_of (dues.ClassPoint r) = machine.Due 0 (Mark Dot) (machine.Settling (room_of r))
due_of (dues.Static r) = machine.Settling (room_of r)
due_of (dues.ValueOpen r) = machine.Due 0 (Mark Open) (machine.Signed (machine.OfValue (room_of r)))
due_of (dues.NewClass r) =
    machine.Due 0 the_class (machine.Due 0 (Mark Open) (machine.Signed (machine.OfNew (room_of r))))
due_of (dues.NewOpen r) = machine.Due 0 (Mark Open) (machine.Signed (machine.OfNew (room_of r)))
due_of (dues.ValueInt i r) = machine.ValuedInt i (room_of r)
due_of (dues.ValuePoint d r) = machine.ValuedPoint d (room_of r)
due_of (dues.Scale i r) = machine.ScaleDue (machine.declaring i (room_of r))
due_of (dues.Close d r) = machine.Due 1 (Mark Close) (settled (room_of r) d)
due_of (dues.Item ds) = machine.Listing ds.items
due_of (dues.AfterItem ds) = machine.Listed ds.items
due_of (dues.Done v) = machine.Done (declared (declared_of v))

-- the step with a word that begins a decimal
abbrev pub big_of : machine.Room → Token → Option machine.State
big_of r (Word w) = machine.big_step r w
big_of r t = None

-- the result is the next state, or there is none
abbrev pub GivesNext : Option machine.State → Refusal → Result Due ExprFault → Type 0
GivesNext o f (Ok s) = o ≡ Some (due_of s)
GivesNext o f (Err e) = Refuses o f e

abbrev pub Moves : machine.State → Spot → Result Due ExprFault → Type 0
Moves s t r = GivesNext (machine.step s t.token) (refusal_at (cause_of s t.token) t.at) r

-- the declared literal, or the refusal_at; or memory ran out
abbrev pub Gives : Result LineMeaning Refusal → Result Literal ExprFault → Type 0
Gives r (Ok v) = r ≡ Ok (declared (declared_of v))
Gives r (Err e) = Fails r e
