-- Which bytes are the text of a plan, with which flowchart, and what is wrong with the others.
use Rattle.std.specs.Prelude.{◌≡◌, ℕ, Option, Some, None, List, [], ◌∷◌, ⊤}
use Rattle.pap_tree.specs.Grammar.{Level, Assignment, Constant, tree, assignment, declared}
use Rattle.pap_tree.specs.Expressions.{IsAccepted}
use Rattle.pap_tree.specs.Declarations.{Declaration, DeclaredLiteral}
use Rattle.pap_tree.specs.Flowchart.{Body, Routine, Flowchart}
use Rattle.pap_tree.specs.Flowchart as tree
use Rattle.pap_reader.specs.Trees.{RawDeclaration, RawBody, done, eval, branch, execute, RawRoutine, ElementTree}
use Rattle.pap_reader.specs.Elements.{IsElements, IsFault}
use Rattle.plan_text.specs.declared.fault.PlanFault.{PlanFault}
use Rattle.plan_text.specs.declared.fault.PlanFault.TheVariants as faults
use Rattle.plan_text.specs.Sites.{sites_of, IsFirstFault}

-- the text of a literal, where one is written
abbrev pub IsLiteralText : Option (List ℕ) → Option DeclaredLiteral → Type 0
IsLiteralText None None = ⊤
IsLiteralText (Some text) (Some l) = IsAccepted Constant text (declared l)
IsLiteralText _ _ = ⊥

-- the declaration that is written, its literal read
pub record IsDeclaration (raw : RawDeclaration) (d : Declaration) : Type 0 where
  pub name : d.name ≡ raw.name
  pub kind : d.kind ≡ raw.kind
  pub value : IsLiteralText raw.value d.value

-- the declarations are those that are written, one by one, with their literals read
abbrev pub AreDeclarations : List RawDeclaration → List Declaration → Type 0
AreDeclarations [] [] = ⊤
AreDeclarations (raw ∷ raws) (d ∷ ds) = IsDeclaration raw d × AreDeclarations raws ds
AreDeclarations _ _ = ⊥

-- the statements are those that are written, each text with its expression
abbrev pub IsBody : RawBody → Body → Type 0
IsBody done tree.done = ⊤
IsBody (eval text rest) (tree.eval x e more) = IsAccepted Assignment text (assignment x e) × IsBody rest more
IsBody (branch text a b rest) (tree.branch t first second more) =
    IsAccepted (Level 0) text (tree t) × IsBody a first × IsBody b second × IsBody rest more
IsBody (execute m rest) (tree.execute name more) = (name ≡ m) × IsBody rest more
IsBody _ _ = ⊥

-- the methods are those that are written, one by one
abbrev pub AreRoutines : List RawRoutine → List Routine → Type 0
AreRoutines [] [] = ⊤
AreRoutines (raw ∷ raws) (m ∷ ms) = (m.name ≡ raw.name) × IsBody raw.body m.body × AreRoutines raws ms
AreRoutines _ _ = ⊥

-- the elements with their expressions
pub record HasFlowchart (x : ElementTree) (f : Flowchart) : Type 0 where
  pub inputs : AreDeclarations x.inputs f.inputs
  pub outputs : AreDeclarations x.outputs f.outputs
  pub internals : AreDeclarations x.internals f.internals
  pub constants : AreDeclarations x.constants f.constants
  pub main : IsBody x.main f.main
  pub methods : AreRoutines x.methods f.methods

-- the bytes are the text of a plan, and this is its flowchart
pub record IsPlan (bytes : List ℕ) (f : Flowchart) : Type 0 where
  pub elements : ElementTree
  pub read : IsElements bytes elements
  pub flowchart : HasFlowchart elements f

-- what is wrong with the bytes: their elements, or the first text that isn't an expression
abbrev pub IsPlanFault : List ℕ → PlanFault → Type 0
IsPlanFault bytes (faults.Read f) = IsFault bytes f
IsPlanFault bytes (faults.Expr spot f) =
    (x : ElementTree) × IsElements bytes x × IsFirstFault (sites_of x) spot f
IsPlanFault bytes faults.Memory = ⊥

-- the fault of the bytes, unless memory ran out
abbrev pub IsFaultOrMemory : List ℕ → PlanFault → Type 0
IsFaultOrMemory bytes faults.Memory = ⊤
IsFaultOrMemory bytes f = IsPlanFault bytes f
