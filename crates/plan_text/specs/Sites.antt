-- The texts of a plan's expressions, in the order in which they are read: the declared literals of inputs, outputs, internals
-- and constants, then the expressions of MAIN's statements and of the methods', and the first that isn't one.
use Rattle.std.specs.Prelude.{◌≡◌, ℕ, ◌+◌, List, [], ◌∷◌, ◌++◌, All}
use Rattle.std.specs.Option.{option_map_or}
use Rattle.pap_tree.specs.Grammar.{Line, Level, Assignment, Constant, LineMeaning}
use Rattle.pap_tree.specs.Expressions.{IsAccepted}
use Rattle.pap_tree.specs.Names.{main_name}
use Rattle.pap_expr.specs.declared.fault.ExprFault.{ExprFault}
use Rattle.plan_text.specs.ExprFaults.{IsExprFault}
use Rattle.pap_reader.specs.Trees.{RawDeclaration, RawBody, done, eval, branch, execute, RawRoutine, ElementTree}
use Rattle.pap_reader.specs.TreeLimits.{raw_written}
use Rattle.plan_text.specs.declared.fault.Spot.{Spot}
use Rattle.plan_text.specs.declared.fault.Spot.TheVariants.{Statement, Declared}

-- the text of an expression, the line of the grammar that it is read by, and where it stands
pub record Site : Type 0 where
  pub line : Line
  pub text : List ℕ
  pub spot : Spot

-- the text_site of a line, a text and a spot
abbrev pub text_site : Line → List ℕ → Spot → Site
text_site line text spot = record { line = line; text = text; spot = spot }

-- the literal of a declaration, where one is written
abbrev pub literal_sites : RawDeclaration → List Site
literal_sites d = option_map_or (λ text. text_site Constant text (Declared d.name) ∷ []) d.value []

-- the sites of some declarations' literals, in their order
abbrev pub declared_sites : List RawDeclaration → List Site
declared_sites [] = []
declared_sites (d ∷ ds) = literal_sites d ++ declared_sites ds

-- the expressions of a method's statements, which are numbered in the order of the text
module _ (method : List ℕ) where
  -- the sites of statements that are numbered from `at`
  abbrev pub body_sites : ℕ → RawBody → List Site
  body_sites at done = []
  body_sites at (eval text rest) = text_site Assignment text (Statement method at) ∷ body_sites (at + 1) rest
  body_sites at (branch text a b rest) =
      text_site (Level 0) text (Statement method at)
      ∷ (body_sites (at + 1) a
      ++ (body_sites (at + 1 + raw_written a) b ++ body_sites (at + 1 + raw_written a + raw_written b) rest))
  body_sites at (execute m rest) = body_sites (at + 1) rest

-- the sites of methods, in their order
abbrev pub routine_sites : List RawRoutine → List Site
routine_sites [] = []
routine_sites (m ∷ ms) = body_sites m.name 0 m.body ++ routine_sites ms

-- all sites of a plan, in the order in which they are read
abbrev pub sites_of : ElementTree → List Site
sites_of x =
    declared_sites x.inputs
    ++ (declared_sites x.outputs
    ++ (declared_sites x.internals
    ++ (declared_sites x.constants ++ (body_sites main_name 0 x.main ++ routine_sites x.methods))))

-- the site's text is an expression of its line
abbrev pub IsReadable : Site → Type 0
IsReadable s = (x : LineMeaning) × IsAccepted s.line s.text x

-- all texts before one are expressions, and that one has the fault
pub record IsFirstFault (sites : List Site) (spot : Spot) (fault : ExprFault) : Type 0 where
  pub before : List Site
  pub stop : Site
  pub after : List Site
  pub whole : sites ≡ before ++ (stop ∷ after)
  pub read : All IsReadable before
  pub fails : IsExprFault stop.line stop.text fault
  pub there : spot ≡ stop.spot
