-- The texts of what has its tree are readable.
use Rattle.std.proofs.Common.{ℕ, ◌+◌, List, [], ◌∷◌, ◌++◌, Option, Some, None}
use Rattle.std.specs.List.{All}
use Rattle.std.proofs.lemmas.List.Elements.{All-nil, All-cons, All-append}
use Rattle.pap_tree.specs.Grammar.{Level, Assignment, Constant, tree, assignment, declared}
use Rattle.pap_tree.specs.Declarations.{Declaration, DeclaredLiteral}
use Rattle.pap_tree.specs.Flowchart.{Body, Routine}
use Rattle.pap_tree.specs.Flowchart as bodies
use Rattle.pap_reader.specs.Trees.{RawDeclaration, RawBody, done, eval, branch, execute, RawRoutine}
use Rattle.pap_reader.specs.TreeLimits.{raw_written}
use Rattle.plan_text.specs.declared.fault.Spot.TheVariants.{Statement, Declared}
use Rattle.plan_text.specs.Sites.{text_site, literal_sites, declared_sites, body_sites, routine_sites, IsReadable}
use Rattle.plan_text.specs.Plans.{IsLiteralText, IsDeclaration, AreDeclarations, IsBody, AreRoutines}

pub literal_readable : (raw : RawDeclaration) (d : Declaration) → IsDeclaration raw d → All IsReadable (literal_sites raw)
literal_readable raw d h = by_value raw.value d.value h.value
  where
    by_value : (v : Option (List ℕ)) (l : Option DeclaredLiteral) → IsLiteralText v l → All IsReadable (literal_sites (record raw { value = v }))
    by_value None l h = All-nil IsReadable
    by_value (Some text) None h = absurd h
    by_value (Some text) (Some l) h = All-cons IsReadable (text_site Constant text (Declared raw.name)) [] (declared l, h) (All-nil IsReadable)

pub declared_readable : (raws : List RawDeclaration) (ds : List Declaration) → AreDeclarations raws ds → All IsReadable (declared_sites raws)
declared_readable [] ds h = All-nil IsReadable
declared_readable (raw ∷ raws) [] h = absurd h
declared_readable (raw ∷ raws) (d ∷ ds) h = All-append IsReadable (literal_sites raw) (declared_sites raws) (literal_readable raw d h.0) (declared_readable raws ds h.1)

pub body_readable : (m : List ℕ) (at : ℕ) (raw : RawBody) (b : Body) → IsBody raw b → All IsReadable (body_sites m at raw)
body_readable m at done b h = All-nil IsReadable
body_readable m at (eval text rest) bodies.done h = absurd h
body_readable m at (eval text rest) (bodies.eval x e more) h =
    All-cons IsReadable (text_site Assignment text (Statement m at)) (body_sites m (at + 1) rest) (assignment x e, h.0) (body_readable m (at + 1) rest more h.1)
body_readable m at (eval text rest) (bodies.branch t a b more) h = absurd h
body_readable m at (eval text rest) (bodies.execute x more) h = absurd h
body_readable m at (branch text a b rest) bodies.done h = absurd h
body_readable m at (branch text a b rest) (bodies.eval x e more) h = absurd h
body_readable m at (branch text a b rest) (bodies.branch t us vs more) h =
    let n = at + 1 + raw_written a in
    let k = at + 1 + raw_written a + raw_written b in
    All-cons IsReadable (text_site (Level 0) text (Statement m at)) (body_sites m (at + 1) a ++ (body_sites m n b ++ body_sites m k rest)) (tree t, h.0)
    (All-append IsReadable (body_sites m (at + 1) a) (body_sites m n b ++ body_sites m k rest) (body_readable m (at + 1) a us h.1)
    (All-append IsReadable (body_sites m n b) (body_sites m k rest) (body_readable m n b vs h.2) (body_readable m k rest more h.3)))
body_readable m at (branch text a b rest) (bodies.execute x more) h = absurd h
body_readable m at (execute x rest) bodies.done h = absurd h
body_readable m at (execute x rest) (bodies.eval y e more) h = absurd h
body_readable m at (execute x rest) (bodies.branch t a b more) h = absurd h
body_readable m at (execute x rest) (bodies.execute y more) h = body_readable m (at + 1) rest more h.1

pub routines_readable : (raws : List RawRoutine) (ms : List Routine) → AreRoutines raws ms → All IsReadable (routine_sites raws)
routines_readable [] ms h = All-nil IsReadable
routines_readable (raw ∷ raws) [] h = absurd h
routines_readable (raw ∷ raws) (m ∷ ms) h =
    All-append IsReadable (body_sites raw.name 0 raw.body) (routine_sites raws) (body_readable raw.name 0 raw.body m.body h.1) (routines_readable raws ms h.2)
