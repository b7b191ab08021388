-- What the machine's answer says of a text.
use Rattle.std.proofs.Common.{◌≡◌, ℕ, ◌≤◌, Ok, Err, Result, List, length, IfOk, IfErr, refl}
use Rattle.pap_tree.specs.Term.{Term}
use Rattle.pap_tree.specs.Numbering.{nodes}
use Rattle.pap_tree.specs.Tokens.{Spot, plain, Tokens}
use Rattle.pap_tree.specs.Grammar.{Item, Line, Level, Assignment, Constant, LineMeaning, tree, assignment, declared, Way}
use Rattle.pap_tree.specs.Declarations.{declared_of}
use Rattle.pap_tree.specs.declared.declaration.Literal.{Literal}
use Rattle.pap_tree.specs.Texts as texts
use Rattle.pap_tree.specs.Expressions.{IsText, IsAccepted}
use Rattle.expr_grammar.specs.Lines.{IsWholeLine, a_constant}
use Rattle.expr_grammar.specs.Run.{answer}
use Rattle.pap_tree.specs.Scales.{KeepsScales}
use Rattle.expr_grammar.proofs.Laws.{answer_ok, answer_err, bounded, bytes_keep}
use Rattle.pap_expr.specs.declared.fault.ExprFault.{ExprFault}
use Rattle.pap_expr.specs.declared.fault.ExprFault.TheVariants as faults
use Rattle.pap_expr.specs.private.Views.{refusal_of}
use Rattle.pap_expr.specs.private.Answers.{Fails}
use Rattle.pap_expr.specs.private.Constants.{Gives}
use Rattle.pap_expr.specs.Faults.{IsFaultOf}

pub accepted : (l : Line) → IsWholeLine l → (bytes : List ℕ) (ts : List Spot) (x : LineMeaning) → Tokens 0 bytes ts → answer l (length bytes) ts ≡ Ok x → IsAccepted l bytes x
accepted l w bytes ts x t e =
    let h = answer_ok l w (length bytes) ts x e in
    record { spots = ts; tokens = t; text = h.0; read = h.1 }

pub wrong : (l : Line) → IsWholeLine l → (bytes : List ℕ) (ts : List Spot) (e : ExprFault) → Tokens 0 bytes ts → Fails (answer l (length bytes) ts) e → IsFaultOf l bytes e
wrong l w bytes ts (faults.Syntax n) t h = record { spots = ts; tokens = t; refused = answer_err l w (length bytes) ts (refusal_of (faults.Syntax n)) h }
wrong l w bytes ts (faults.Unsupported n) t h = record { spots = ts; tokens = t; refused = answer_err l w (length bytes) ts (refusal_of (faults.Unsupported n)) h }
wrong l w bytes ts (faults.BinaryFraction n) t h = record { spots = ts; tokens = t; refused = answer_err l w (length bytes) ts (refusal_of (faults.BinaryFraction n)) h }
wrong l w bytes ts (faults.Number n) t h = record { spots = ts; tokens = t; refused = answer_err l w (length bytes) ts (refusal_of (faults.Number n)) h }
wrong l w bytes ts (faults.Deep n) t h = record { spots = ts; tokens = t; refused = answer_err l w (length bytes) ts (refusal_of (faults.Deep n)) h }
wrong l w bytes ts faults.Memory t h = tt

pub text_of : (l : Line) (bytes : List ℕ) (x : LineMeaning) → IsAccepted l bytes x → IsText l bytes x
text_of l bytes x h = record { spots = h.spots; tokens = h.tokens; text = h.text }

-- at most 1,000 nodes, and scales of at most 30
pub test_nodes : (bytes : List ℕ) (x : Term) → IsAccepted (Level 0) bytes (tree x) → nodes x ≤ 1000
test_nodes bytes x h = bounded (Level 0) (plain h.spots) (tree x) refl h.text h.read

pub test_scales : (bytes : List ℕ) (x : Term) → IsAccepted (Level 0) bytes (tree x) → KeepsScales x
test_scales bytes x h = bytes_keep (Level 0) bytes (tree x) (text_of (Level 0) bytes (tree x) h)

pub assignment_nodes : (bytes : List ℕ) (w : List ℕ) (x : Term) → IsAccepted Assignment bytes (assignment w x) → nodes x ≤ 1000
assignment_nodes bytes w x h = bounded Assignment (plain h.spots) (assignment w x) refl h.text h.read

pub assignment_scales : (bytes : List ℕ) (w : List ℕ) (x : Term) → IsAccepted Assignment bytes (assignment w x) → KeepsScales x
assignment_scales bytes w x h = bytes_keep Assignment bytes (assignment w x) (text_of Assignment bytes (assignment w x) h)

-- a test stands for no assignment, an assignment for no lone expression
no_way : (n : ℕ) (way : List Item) (w : List ℕ) (x : Term) → Way (Level n) way (assignment w x) → ⊥
no_way n way w x h = elim h [ ]

no_tree_way : (way : List Item) (x : Term) → Way Assignment way (tree x) → ⊥
no_tree_way way x h = elim h [ ]

pub no_assignment : (bytes : List ℕ) (w : List ℕ) (x : Term) → IsAccepted (Level 0) bytes (assignment w x) → ⊥
no_assignment bytes w x h = elim h.text [ texts.by way v ts ↦ no_way 0 way w x v ]

pub no_test : (bytes : List ℕ) (x : Term) → IsAccepted Assignment bytes (tree x) → ⊥
no_test bytes x h = elim h.text [ texts.by way v ts ↦ no_tree_way way x v ]

-- ---- declared literals

pub literal_text : (bytes : List ℕ) (ts : List Spot) (r : Result Literal ExprFault) → Tokens 0 bytes ts → Gives (answer Constant (length bytes) ts) r
    → IfOk r (λ v. IsAccepted Constant bytes (declared (declared_of v)))
literal_text bytes ts (Ok v) t h = accepted Constant a_constant bytes ts (declared (declared_of v)) t h
literal_text bytes ts (Err e) t h = tt

pub literal_fault : (bytes : List ℕ) (ts : List Spot) (r : Result Literal ExprFault) → Tokens 0 bytes ts → Gives (answer Constant (length bytes) ts) r
    → IfErr r (IsFaultOf Constant bytes)
literal_fault bytes ts (Ok v) t h = tt
literal_fault bytes ts (Err e) t h = wrong Constant a_constant bytes ts e t h
