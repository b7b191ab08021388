-- What a drawing shows: the statements of a method by their numbers, each test with its two ways, and where each line leads.
use Rattle.std.specs.Prelude.{ℕ, List, [], ◌∷◌}
use Rattle.pap_reader.specs.Trees.{RawBody, done, eval, branch, execute}
use Rattle.chart_layout.specs.declared.statement.Statement.{Statement}
use Rattle.chart_layout.specs.declared.figure.Body.{Body}
use Rattle.chart_layout.specs.declared.figure.Figure.TheOpen.{Figure-F, Note, Box, Call, Choice, Arm-F, Choice-F, Body-F}
use Rattle.chart_layout.specs.declared.figure.Figure.TheFolds.{fold-Body}
use Rattle.chart_layout.specs.Statements.{next_number, number_behind, statements_of}

-- the statements of a body from the top to the bottom
pub data Tree : Type 0 where
  -- nothing more
  stop : Tree
  -- an EVAL or an EXECUTE, and what stands below it
  step : ℕ → Tree → Tree
  -- a test: what stands on its way `yes`, on its way `no`, and below, where both have come together
  fork : ℕ → Tree → Tree → Tree → Tree

-- one body above another
abbrev pub above : Tree → Tree → Tree
above stop u = u
above (step n t) u = step n (above t u)
above (fork n a b t) u = fork n a b (above t u)

-- ---- what is to be drawn

-- a body of the file whose first statement has a number: THEN stands on the way `yes`, ELSE on the way `no`, and what follows an IF
-- stands below both
abbrev pub drawing_of : ℕ → RawBody → Tree
drawing_of n done = stop
drawing_of n (eval text rest) = step n (drawing_of (next_number n) rest)
drawing_of n (execute name rest) = step n (drawing_of (next_number n) rest)
drawing_of n (branch text a b rest) =
    let in_else = number_behind (next_number n) (statements_of a) in
    fork n (drawing_of (next_number n) a) (drawing_of in_else b) (drawing_of (number_behind in_else (statements_of b)) rest)

-- ---- what figures show: each step is given what the parts show

-- the bodies one above the other
abbrev pub stacked : List Tree → Tree
stacked [] = stop
stacked (t ∷ ts) = above t (stacked ts)

-- the statements of a box stand one above the other
abbrev pub row_tree : List Statement → Tree
row_tree [] = stop
row_tree (s ∷ ss) = step s.number (row_tree ss)

-- what a figure shows, given what the parts of a test show
abbrev pub figure_shows : Figure-F Tree (Tree → Tree) Tree Tree → Tree
figure_shows (Note n) = stop
figure_shows (Box row) = row_tree row.items
figure_shows (Call c) = step c.number stop
figure_shows (Choice c) = c

-- an arm with what stands on its way `no`
abbrev pub arm_shows : Arm-F Tree (Tree → Tree) Tree Tree → Tree → Tree
arm_shows a otherwise = fork a.test.number a.then otherwise stop

-- later arms, which stand from the last to the first: each has those behind it on its way `no`, and the last one has ELSE there
abbrev pub nested : List (Tree → Tree) → Tree → Tree
nested [] otherwise = otherwise
nested (arm ∷ arms) otherwise = nested arms (arm otherwise)

-- what a test with its arms shows: each later arm stands on the way `no` of the one before
abbrev pub choice_shows : Choice-F Tree (Tree → Tree) Tree Tree → Tree
choice_shows c = c.first (nested c.later.items c.otherwise)

-- what a body shows: its figures one above the other
abbrev pub body_shows : Body-F Tree (Tree → Tree) Tree Tree → Tree
body_shows b = stacked b.figures.items

-- the tree that the figures of a body show
abbrev pub shown_tree : Body → Tree
shown_tree = fold-Body Tree (Tree → Tree) Tree Tree figure_shows arm_shows choice_shows body_shows
