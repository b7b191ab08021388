use Rattle.std.proofs.Common.{suc}
use Rattle.expr_grammar.specs.Machine.{level}
use Rattle.pap_expr.specs.private.Stacks.{stack_of}
use Rattle.pap_expr.proofs.reader.Reader.step.Goals as goal

pub returns-in-ClassPoint : goal.returns-in-ClassPoint
returns-in-ClassPoint c = let k = stack_of c.args.self.now.stack in rw c.in-ClassPoint.is (c.due.ensures (level k) k)

pub returns-in-Static : goal.returns-in-Static
returns-in-Static c = let k = stack_of c.args.self.now.stack in rw c.in-Static.is (c.after_class.ensures k)

pub returns-in-ValueOpen : goal.returns-in-ValueOpen
returns-in-ValueOpen c = let k = stack_of c.args.self.now.stack in rw c.in-ValueOpen.is (c.opened.ensures (level k))

pub returns-in-NewClass : goal.returns-in-NewClass
returns-in-NewClass c = let k = stack_of c.args.self.now.stack in rw c.in-NewClass.is (c.after_new.ensures k)

pub returns-in-NewOpen : goal.returns-in-NewOpen
returns-in-NewOpen c = let k = stack_of c.args.self.now.stack in rw c.in-NewOpen.is (c.opened-in-NewOpen.ensures (level k))

pub returns-in-Member : goal.returns-in-Member
returns-in-Member c = let k = stack_of c.args.self.now.stack in rw c.in-Member.is (c.member.ensures k)

pub returns-in-Close : goal.returns-in-Close
returns-in-Close c = let k = stack_of c.args.self.now.stack in rw c.in-Close.is (c.due-in-Close.ensures (suc (level k)) k)

pub returns-in-Scale : goal.returns-in-Scale
returns-in-Scale c = let k = stack_of c.args.self.now.stack in rw c.in-Scale.is (c.scale.ensures k)

pub returns-in-Comma : goal.returns-in-Comma
returns-in-Comma c = let k = stack_of c.args.self.now.stack in rw c.in-Comma.is (c.comma.ensures k)

pub returns-in-Mode : goal.returns-in-Mode
returns-in-Mode c = let k = stack_of c.args.self.now.stack in rw c.in-Mode.is (c.mode.ensures k)

pub returns-in-ModePoint : goal.returns-in-ModePoint
returns-in-ModePoint c = let k = stack_of c.args.self.now.stack in rw c.in-ModePoint.is (c.due-in-ModePoint.ensures (suc (level k)) k)

pub returns-in-ModeWord : goal.returns-in-ModeWord
returns-in-ModeWord c = let k = stack_of c.args.self.now.stack in rw c.in-ModeWord.is (c.mode_word.ensures k)
