-- What figures show.
use Rattle.std.proofs.Common.{◌≡◌, Option, Vec, Global, ℕ, ◌+◌, ◌<◌, ◌≤◌, List, [], ◌∷◌, ◌++◌, map, drop, take, length, get_or, refl, sym, ap, ◌∙◌}
use Rattle.std.proofs.lemmas.List.{append-nil, map_push, drop_more, drop_all, take_more, take_all}
use Rattle.pap_reader.specs.declared.elements.RawStmt.{RawStmt}
use Rattle.pap_reader.specs.declared.elements.RawStmt as raws
use Rattle.pap_reader.specs.declared.elements.RawStmt.TheVariants as inner
use Rattle.pap_reader.specs.Trees.{RawBody, done, raw_stmt_then, raw_body_of, raw_body_of_row}
use Rattle.pap_reader.proofs.Laws.{raw_stmt_then-If}
use Rattle.chart_layout.specs.declared.statement.Statement.{Statement}
use Rattle.chart_layout.specs.declared.statement.Call.{Call}
use Rattle.chart_layout.specs.declared.note.Note.{Note}
use Rattle.chart_layout.specs.declared.figure.Figure.{Figure}
use Rattle.chart_layout.specs.declared.figure.Figure.TheVariants as variants
use Rattle.chart_layout.specs.declared.figure.Figure.TheVariants.{rolls-Note, rolls-Choice, rolls-Box, rolls-Call}
use Rattle.chart_layout.specs.declared.figure.Figure.TheOpen as layers
use Rattle.chart_layout.specs.declared.figure.Figure.TheFolds.{fold-roll-Figure}
use Rattle.chart_layout.specs.declared.figure.Body.{Body}
use Rattle.chart_layout.specs.declared.choice.Arm.{Arm, out-Arm, fold_out-Arm, Arm-F, roll-Arm, fold-roll-Arm}
use Rattle.chart_layout.specs.declared.choice.Choice.{Choice, out-Choice, fold_out-Choice, Choice-F, roll-Choice, fold-roll-Choice}
use Rattle.chart_layout.specs.Statements.{statements_of, next_number, number_behind}
use Rattle.chart_layout.specs.private.Statements.{statements_in}
use Rattle.chart_layout.proofs.AddingLemmas.{behind_append}
use Rattle.chart_layout.specs.Trees.{Tree, stop, step, fork, above, row_tree, nested, figure_shows, arm_shows, choice_shows, body_shows, shown_tree, drawing_of}
use Rattle.chart_layout.specs.private.Trees.{figure_tree, arm_tree, choice_tree, figures_tree, drawing_in, behind_arms}

-- ---- trees one above another

pub above_stop : (t : Tree) → above t stop ≡ t
above_stop stop = refl
above_stop (step n t) = ap (step n) (above_stop t)
above_stop (fork n a b t) = ap (fork n a b) (above_stop t)

pub above_assoc : (t u v : Tree) → above (above t u) v ≡ above t (above u v)
above_assoc stop u v = refl
above_assoc (step n t) u v = ap (step n) (above_assoc t u v)
above_assoc (fork n a b t) u v = ap (fork n a b) (above_assoc t u v)

-- ---- what figures show, by their parts

pub arm_tree_is : (a : Arm) (otherwise : Tree) → arm_tree a otherwise ≡ fork (out-Arm a).test.number (shown_tree (out-Arm a).then) otherwise stop
arm_tree_is a otherwise = ap (λ f. f otherwise) (fold_out-Arm Tree (Tree → Tree) Tree Tree figure_shows arm_shows choice_shows body_shows a)

pub choice_tree_is : (c : Choice) → choice_tree c
    ≡ arm_tree (out-Choice c).first (nested (map arm_tree (out-Choice c).later.items) (shown_tree (out-Choice c).otherwise))
choice_tree_is = fold_out-Choice Tree (Tree → Tree) Tree Tree figure_shows arm_shows choice_shows body_shows

pub choice_tree_roll : (x : Choice-F Figure Arm Choice Body) → choice_tree (roll-Choice x)
    ≡ arm_tree x.first (nested (map arm_tree x.later.items) (shown_tree x.otherwise))
choice_tree_roll = fold-roll-Choice Tree (Tree → Tree) Tree Tree figure_shows arm_shows choice_shows body_shows

pub arm_tree_roll : (x : Arm-F Figure Arm Choice Body) (otherwise : Tree)
    → arm_tree (roll-Arm x) otherwise ≡ fork x.test.number (shown_tree x.then) otherwise stop
arm_tree_roll x otherwise = ap (λ f. f otherwise) (fold-roll-Arm Tree (Tree → Tree) Tree Tree figure_shows arm_shows choice_shows body_shows x)

pub tree_of_note : (n : Note) → figure_tree (variants.Note n) ≡ stop
tree_of_note n =
    ap figure_tree (sym (rolls-Note n))
    ∙ fold-roll-Figure Tree (Tree → Tree) Tree Tree figure_shows arm_shows choice_shows body_shows (layers.Note n)

pub tree_of_box : (row : Vec Statement Global) → figure_tree (variants.Box row) ≡ row_tree row.items
tree_of_box row =
    ap figure_tree (sym (rolls-Box row))
    ∙ fold-roll-Figure Tree (Tree → Tree) Tree Tree figure_shows arm_shows choice_shows body_shows (layers.Box row)

pub tree_of_call : (c : Call) → figure_tree (variants.Call c) ≡ step c.number stop
tree_of_call c =
    ap figure_tree (sym (rolls-Call c))
    ∙ fold-roll-Figure Tree (Tree → Tree) Tree Tree figure_shows arm_shows choice_shows body_shows (layers.Call c)

pub tree_of_choice : (c : Choice) → figure_tree (variants.Choice c) ≡ choice_tree c
tree_of_choice c =
    ap figure_tree (sym (rolls-Choice c))
    ∙ fold-roll-Figure Tree (Tree → Tree) Tree Tree figure_shows arm_shows choice_shows body_shows (layers.Choice c)

-- ---- one figure more

pub tree_push : (figures : List Figure) (figure : Figure)
    → figures_tree (figures ++ figure ∷ []) ≡ above (figures_tree figures) (figure_tree figure)
tree_push [] figure = above_stop (figure_tree figure)
tree_push (f ∷ figures) figure =
    ap (above (figure_tree f)) (tree_push figures figure)
    ∙ sym (above_assoc (figure_tree f) (figures_tree figures) (figure_tree figure))

-- one figure more, with what it shows
pub tree_pushed : (old grown : List Figure) (figure : Figure) (t : Tree) → grown ≡ old ++ figure ∷ [] → figure_tree figure ≡ t
    → figures_tree grown ≡ above (figures_tree old) t
tree_pushed old grown figure t is same = ap figures_tree is ∙ tree_push old figure ∙ ap (above (figures_tree old)) same

-- comments as the last figure show no statement
pub tree_note_last : (figures grown : List Figure) (figure : Figure) (n : Note) → grown ≡ figures ++ figure ∷ [] → figure ≡ variants.Note n
    → figures_tree grown ≡ figures_tree figures
tree_note_last figures grown figure n is note =
    tree_pushed figures grown figure stop is (ap figure_tree note ∙ tree_of_note n) ∙ above_stop (figures_tree figures)

-- a box as the last figure
pub tree_box_last : (figures grown : List Figure) (figure : Figure) (row : Vec Statement Global) → grown ≡ figures ++ figure ∷ []
    → figure ≡ variants.Box row → figures_tree grown ≡ above (figures_tree figures) (row_tree row.items)
tree_box_last figures grown figure row is box = tree_pushed figures grown figure (row_tree row.items) is (ap figure_tree box ∙ tree_of_box row)

row_push : (row : List Statement) (s : Statement) → row_tree (row ++ s ∷ []) ≡ above (row_tree row) (step s.number stop)
row_push [] s = refl
row_push (r ∷ row) s = ap (step r.number) (row_push row s)

-- the last box with one statement more
pub tree_evaluation : (old front grown : List Figure) (row more : Vec Statement Global) (s : Statement)
    → figures_tree old ≡ above (figures_tree front) (row_tree row.items) → more.items ≡ row.items ++ s ∷ []
    → grown ≡ front ++ variants.Box more ∷ [] → figures_tree grown ≡ above (figures_tree old) (step s.number stop)
tree_evaluation old front grown row more s was one is =
    tree_box_last front grown (variants.Box more) more is refl
    ∙ ap (λ l. above (figures_tree front) (row_tree l)) one
    ∙ ap (above (figures_tree front)) (row_push row.items s)
    ∙ sym (above_assoc (figures_tree front) (row_tree row.items) (step s.number stop))
    ∙ ap (λ t. above t (step s.number stop)) (sym was)

-- ---- an IF in the ELSE of another

pub nested_push : (arms : List (Tree → Tree)) (arm : Tree → Tree) (t : Tree) → nested (arms ++ arm ∷ []) t ≡ arm (nested arms t)
nested_push [] arm t = refl
nested_push (f ∷ arms) arm t = nested_push arms arm (f t)

-- the IF alone in the ELSE of a first arm, with that arm
pub tree_cascaded : (first : Arm) (note : Option Note) (choice : Choice) (grown : Vec Arm Global)
    → grown.items
    ≡ (out-Choice choice).later.items
    ++ roll-Arm (record { note = note; test = (out-Arm (out-Choice choice).first).test; then = (out-Arm (out-Choice choice).first).then }) ∷ []
    → choice_tree (roll-Choice (record { first = first; later = grown; otherwise = (out-Choice choice).otherwise }))
    ≡ arm_tree first (choice_tree choice)
tree_cascaded first note choice grown is =
    let x : Choice-F Figure Arm Choice Body = record { first = first; later = grown; otherwise = (out-Choice choice).otherwise } in
    let y : Arm-F Figure Arm Choice Body = record { note = note; test = (out-Arm (out-Choice choice).first).test; then = (out-Arm (out-Choice choice).first).then } in
    let later = (out-Choice choice).later.items in
    let otherwise = shown_tree (out-Choice choice).otherwise in
    let rest = nested (map arm_tree later) otherwise in
    choice_tree_roll x
    ∙ ap (arm_tree first)
    (ap (λ l. nested (map arm_tree l) otherwise) is
    ∙ ap (λ l. nested l otherwise) (map_push arm_tree later (roll-Arm y))
    ∙ nested_push (map arm_tree later) (arm_tree (roll-Arm y)) otherwise
    ∙ arm_tree_roll y rest
    ∙ sym (arm_tree_is (out-Choice choice).first rest)
    ∙ sym (choice_tree_is choice))

-- an IF alone, behind comments, is all that an ELSE has
pub tree_alone : (first : Arm) (otherwise front : List Figure) (figure : Figure) (choice : Choice) → otherwise ≡ front ++ figure ∷ []
    → figure ≡ variants.Choice choice → figures_tree front ≡ stop → arm_tree first (choice_tree choice) ≡ arm_tree first (figures_tree otherwise)
tree_alone first otherwise front figure choice is alone none =
    ap (arm_tree first)
    (sym (tree_pushed front otherwise figure (choice_tree choice) is (ap figure_tree alone ∙ tree_of_choice choice)
    ∙ ap (λ t. above t (choice_tree choice)) none))

-- ---- what is to be drawn of a list of statements

in_then : (n : ℕ) (s : RawStmt) (rest : RawBody)
    → drawing_of n (raw_stmt_then s rest) ≡ above (drawing_in n s) (drawing_of (number_behind n (statements_in s)) rest)
in_then n (raws.Eval x) rest = refl
in_then n (raws.If' t m ys k zs) rest =
    let a = statements_of (raw_body_of_row ys) in
    let b = statements_of (raw_body_of_row zs) in
    let then_at = next_number n in
    let else_at = number_behind then_at a in
    ap (λ j. fork n (drawing_of then_at (raw_body_of_row ys)) (drawing_of else_at (raw_body_of_row zs)) (drawing_of j rest))
    (sym (behind_append then_at a (b ++ []) ∙ ap (number_behind else_at) (append-nil b)))
in_then n (raws.Execute x) rest = refl

-- one statement more is drawn of those from a number on
pub tree_next : (ss : List RawStmt) (i n m : ℕ) (s : RawStmt) (now grown all : Tree) → i < length ss → s ≡ get_or ss i s
    → m ≡ number_behind n (statements_in s) → grown ≡ above now (drawing_in n s)
    → above now (drawing_of n (raw_body_of (drop i ss))) ≡ all → above grown (drawing_of m (raw_body_of (drop (i + 1) ss))) ≡ all
tree_next ss i n m s now grown all some is behind one so_far =
    let rest = raw_body_of (drop (i + 1) ss) in
    ap (λ t. above t (drawing_of m rest)) one
    ∙ above_assoc now (drawing_in n s) (drawing_of m rest)
    ∙ ap (above now)
    (ap (λ k. above (drawing_in n s) (drawing_of k rest)) behind
    ∙ sym (in_then n s rest)
    ∙ ap (λ x. drawing_of n (raw_stmt_then x rest)) is
    ∙ ap (λ l. drawing_of n (raw_body_of l)) (sym (drop_more ss i s some)))
    ∙ so_far

-- all are drawn
pub tree_all : (ss : List RawStmt) (i n : ℕ) (now grown all : Tree) → length ss ≤ i → grown ≡ now
    → above now (drawing_of n (raw_body_of (drop i ss))) ≡ all → grown ≡ all
tree_all ss i n now grown all past same so_far =
    same ∙ sym (above_stop now) ∙ ap (λ l. above now (drawing_of n (raw_body_of l))) (sym (drop_all i ss past)) ∙ so_far

-- ---- a statement by its kind

pub tree_of_eval : (n : ℕ) (s : RawStmt) (x : Vec ℕ Global) → s ≡ inner.Eval x → step n stop ≡ drawing_in n s
tree_of_eval n s x is = ap (drawing_in n) (sym is)

pub tree_of_execute : (n : ℕ) (s : RawStmt) (name : List ℕ) → s ≡ inner.Execute name → step n stop ≡ drawing_in n s
tree_of_execute n s name is = ap (drawing_in n) (sym is)

-- an IF, by what its branches show
pub tree_of_if : (n then_at else_at : ℕ) (s : RawStmt) (t : Vec ℕ Global) (ys zs : Vec RawStmt Global) (a b : List RawStmt) (x y : Tree)
    → s ≡ inner.If t ys zs → a ≡ ys.items → b ≡ zs.items → then_at ≡ next_number n → else_at ≡ number_behind then_at (statements_of (raw_body_of a))
    → x ≡ drawing_of then_at (raw_body_of a) → y ≡ drawing_of else_at (raw_body_of b) → fork n x y stop ≡ drawing_in n s
tree_of_if n then_at else_at s t ys zs a b x y is first second then_is else_is x_is y_is =
    ap (λ u. fork n u y stop) (x_is ∙ ap (λ k. drawing_of k (raw_body_of a)) then_is ∙ ap (λ l. drawing_of (next_number n) (raw_body_of l)) first)
    ∙ ap (λ u. fork n (drawing_of (next_number n) (raw_body_of ys.items)) u stop)
    (y_is
    ∙ ap (λ k. drawing_of k (raw_body_of b)) else_is
    ∙ ap (λ k. drawing_of (number_behind k (statements_of (raw_body_of a))) (raw_body_of b)) then_is
    ∙ ap (λ l. drawing_of (number_behind (next_number n) (statements_of (raw_body_of l))) (raw_body_of b)) first
    ∙ ap (λ l. drawing_of (number_behind (next_number n) (statements_of (raw_body_of ys.items))) (raw_body_of l)) second)
    ∙ sym (ap (drawing_in n) is ∙ ap (drawing_of n) (raw_stmt_then-If t ys zs done))

-- a figure more is drawn as the statement that it stands for
pub tree_as : (old new from to t u : Tree) → old ≡ from → new ≡ to → t ≡ u → new ≡ above old t → to ≡ above from u
tree_as old new from to t u first last same grown = sym last ∙ grown ∙ ap (λ x. above x t) first ∙ ap (above from) same

-- ---- an IF by its arms

pub choice_first : (c : Choice) (left : ℕ) → length (out-Choice c).later.items ≤ left
    → fork (out-Arm (out-Choice c).first).test.number (shown_tree (out-Arm (out-Choice c).first).then) (behind_arms c left) stop ≡ choice_tree c
choice_first c left whole =
    sym (arm_tree_is (out-Choice c).first (behind_arms c left))
    ∙ ap (λ l. arm_tree (out-Choice c).first (nested (map arm_tree l) (shown_tree (out-Choice c).otherwise))) (take_all left (out-Choice c).later.items whole)
    ∙ sym (choice_tree_is c)

pub arm_next : (c : Choice) (left k : ℕ) (x : Arm) → left ≡ k + 1 → k < length (out-Choice c).later.items
    → get_or (out-Choice c).later.items k x ≡ x
    → fork (out-Arm x).test.number (shown_tree (out-Arm x).then) (behind_arms c k) stop ≡ behind_arms c left
arm_next c left k x one some is =
    let arms = (out-Choice c).later.items in
    let otherwise = shown_tree (out-Choice c).otherwise in
    sym (arm_tree_is x (behind_arms c k))
    ∙ sym (ap (λ n. nested (map arm_tree (take n arms)) otherwise) one
    ∙ ap (λ l. nested (map arm_tree l) otherwise) (take_more arms k x some)
    ∙ ap (λ l. nested l otherwise) (map_push arm_tree (take k arms) (get_or arms k x))
    ∙ nested_push (map arm_tree (take k arms)) (arm_tree (get_or arms k x)) otherwise
    ∙ ap (λ y. arm_tree y (behind_arms c k)) is)
