-- The statements of drawings and figures.
use Rattle.std.proofs.Common.{◌≡◌, Option, Result, Ok, Err, Vec, Global, ℕ, zero, suc, ◌+◌, ◌-◌, ◌<◌, List, [], ◌∷◌, ◌++◌, map, take, length, get_or, refl, sym, ap, ◌∙◌, arith, append_assoc}
use Rattle.std.proofs.Math.ListN.{set}
use Rattle.std.specs.Prelude.{IfOk, OnOk}
use Rattle.std.specs.List.{flat_map}
use Rattle.chart_layout.specs.declared.statement.Statement.{Statement}
use Rattle.chart_layout.specs.declared.statement.Call.{Call}
use Rattle.std.proofs.lemmas.List.{append-nil, flat_map_more, take_more, map_push}
use Rattle.chart_layout.specs.declared.drawing.Part.{Part}
use Rattle.chart_layout.specs.declared.drawing.Row.{Row}
use Rattle.chart_layout.specs.declared.note.Note.{Note}
use Rattle.chart_layout.specs.declared.figure.Figure.{Figure}
use Rattle.chart_layout.specs.declared.figure.Figure.TheVariants as variants
use Rattle.chart_layout.specs.declared.figure.Figure.TheVariants.{rolls-Note, rolls-Choice, rolls-Box, rolls-Call}
use Rattle.chart_layout.specs.declared.figure.Figure.TheOpen as layers
use Rattle.chart_layout.specs.declared.figure.Figure.TheFolds.{fold-roll-Figure}
use Rattle.chart_layout.specs.declared.figure.Body.{Body, out-Body, fold_out-Body}
use Rattle.chart_layout.specs.declared.choice.Arm.{Arm, out-Arm, fold_out-Arm, Arm-F, roll-Arm, fold-roll-Arm}
use Rattle.chart_layout.specs.declared.choice.Choice.{Choice, out-Choice, fold_out-Choice, Choice-F, roll-Choice, fold-roll-Choice}
use Rattle.chart_layout.specs.Drawn.{Drawn, drawn_statement, drawn_call, concatenated, joined_back, figure_step, arm_step, choice_step, body_step, body_statements, row_statements, part_statements, drawing_statements, drawing_rows}
use Rattle.chart_layout.specs.private.Drawn.{figure_statements, arm_statements, choice_statements, figures_statements}

-- ---- parts

-- a part that has the rows of the one before it in its place
pub same_part : (parts : List Part) (i : ℕ) (old new : Part) → old ≡ get_or parts i old → new.rows.items ≡ old.rows.items
    → drawing_rows (set parts i new) ≡ drawing_rows parts
same_part [] i old new is same = refl
same_part (p ∷ parts) zero old new is same = ap (λ l. l ++ drawing_rows parts) (same ∙ ap (λ q. q.rows.items) is)
same_part (p ∷ parts) (suc i) old new is same = ap (λ l. p.rows.items ++ l) (same_part parts i old new is same)

-- the last part with one row more
pub last_part : (parts : List Part) (i : ℕ) (old new : Part) (row : Row) → 0 < length parts → i ≡ length parts - 1 → old ≡ get_or parts i old
    → new.rows.items ≡ old.rows.items ++ row ∷ [] → drawing_rows (set parts i new) ≡ drawing_rows parts ++ row ∷ []
last_part [] i old new row some last is grown = absurd (omega (arith, some))
last_part (p ∷ []) zero old new row some last is grown =
    append-nil new.rows.items ∙ grown ∙ ap (λ (q : Part). q.rows.items ++ row ∷ []) is ∙ ap (λ l. l ++ row ∷ []) (sym (append-nil p.rows.items))
last_part (p ∷ q ∷ parts) zero old new row some last is grown = absurd (omega (arith, last))
last_part (p ∷ parts) (suc i) old new row some last is grown =
    ap (λ l. p.rows.items ++ l) (last_part parts i old new row (omega (arith, last)) (omega (arith, last)) is grown)
    ∙ sym (append_assoc p.rows.items (drawing_rows parts) (row ∷ []))

pub row_push : {A : Type 0} (f : Row → List A) (old new : List Row) (row : Row) → new ≡ old ++ row ∷ []
    → flat_map f new ≡ flat_map f old ++ f row
row_push f old new row grown = ap (flat_map f) grown ∙ sym (flat_map_more f [] old row)

flat_append : {A : Type 0} (f : Row → List A) (xs ys : List Row) → flat_map f (xs ++ ys) ≡ flat_map f xs ++ flat_map f ys
flat_append f [] ys = refl
flat_append f (x ∷ xs) ys = ap (λ l. f x ++ l) (flat_append f xs ys) ∙ sym (append_assoc (f x) (flat_map f xs) (flat_map f ys))

-- the statements of the rows are those of the parts
pub by_parts : (parts : List Part) → flat_map row_statements (drawing_rows parts) ≡ drawing_statements parts
by_parts [] = refl
by_parts (p ∷ parts) =
    flat_append row_statements p.rows.items (drawing_rows parts) ∙ ap (λ l. part_statements p ++ l) (by_parts parts)

-- ---- figures

pub body_is : (b : Body) → body_statements b ≡ concatenated (map figure_statements (out-Body b).figures.items)
body_is = fold_out-Body (List Drawn) (List Drawn) (List Drawn) (List Drawn) figure_step arm_step choice_step body_step

pub arm_is : (a : Arm) → arm_statements a ≡ drawn_statement (out-Arm a).test ∷ body_statements (out-Arm a).then
arm_is = fold_out-Arm (List Drawn) (List Drawn) (List Drawn) (List Drawn) figure_step arm_step choice_step body_step

pub choice_is : (c : Choice) → choice_statements c
    ≡ arm_statements (out-Choice c).first
    ++ (joined_back (map arm_statements (out-Choice c).later.items) ++ body_statements (out-Choice c).otherwise)
choice_is = fold_out-Choice (List Drawn) (List Drawn) (List Drawn) (List Drawn) figure_step arm_step choice_step body_step

-- ---- lists from the last to the first

back_push : (ls : List (List Drawn)) (l : List Drawn) → joined_back (ls ++ l ∷ []) ≡ l ++ joined_back ls
back_push [] l = sym (append-nil l)
back_push (x ∷ ls) l = ap (λ m. m ++ x) (back_push ls l) ∙ append_assoc l (joined_back ls) x

-- one arm more of those before a number
pub back_more : (f : Arm → List Drawn) (arms : List Arm) (k : ℕ) (d : Arm) → k < length arms
    → joined_back (map f (take (k + 1) arms)) ≡ f (get_or arms k d) ++ joined_back (map f (take k arms))
back_more f arms k d some =
    ap (λ l. joined_back (map f l)) (take_more arms k d some)
    ∙ ap joined_back (map_push f (take k arms) (get_or arms k d))
    ∙ back_push (map f (take k arms)) (f (get_or arms k d))

-- one arm more is drawn
pub arms_step : (f : Arm → List Drawn) (arms : List Arm) (left k : ℕ) (x : Arm) (now before all : List Drawn) → left ≡ k + 1
    → k < length arms → get_or arms k x ≡ x → now ≡ before ++ f x
    → before ++ joined_back (map f (take left arms)) ≡ all → now ++ joined_back (map f (take k arms)) ≡ all
arms_step f arms left k x now before all one some is grown so_far =
    ap (λ l. l ++ joined_back (map f (take k arms))) grown
    ∙ append_assoc before (f x) (joined_back (map f (take k arms)))
    ∙ ap (λ l. before ++ l)
    (ap (λ y. f y ++ joined_back (map f (take k arms))) (sym is)
    ∙ sym (back_more f arms k x some)
    ∙ ap (λ n. joined_back (map f (take n arms))) (sym one))
    ∙ so_far

-- one figure more
pub figures_push : (figures : List Figure) (figure : Figure)
    → figures_statements (figures ++ figure ∷ []) ≡ figures_statements figures ++ figure_statements figure
figures_push [] figure = append-nil (figure_statements figure)
figures_push (f ∷ figures) figure =
    ap (λ l. figure_statements f ++ l) (figures_push figures figure)
    ∙ sym (append_assoc (figure_statements f) (figures_statements figures) (figure_statements figure))

pub choice_roll : (x : Choice-F Figure Arm Choice Body) → choice_statements (roll-Choice x)
    ≡ arm_statements x.first ++ (joined_back (map arm_statements x.later.items) ++ body_statements x.otherwise)
choice_roll = fold-roll-Choice (List Drawn) (List Drawn) (List Drawn) (List Drawn) figure_step arm_step choice_step body_step

-- the arms of an IF behind a first one, with other comments before the second
pub cascade_is : (arms grown : List Arm) (second other : Arm) (rest : List Drawn) → grown ≡ arms ++ other ∷ []
    → arm_statements other ≡ arm_statements second
    → joined_back (map arm_statements grown) ++ rest ≡ arm_statements second ++ (joined_back (map arm_statements arms) ++ rest)
cascade_is arms grown second other rest is same =
    ap (λ l. joined_back (map arm_statements l) ++ rest) is
    ∙ ap (λ l. joined_back l ++ rest) (map_push arm_statements arms other)
    ∙ ap (λ l. l ++ rest) (back_push (map arm_statements arms) (arm_statements other))
    ∙ ap (λ l. (l ++ joined_back (map arm_statements arms)) ++ rest) same
    ∙ append_assoc (arm_statements second) (joined_back (map arm_statements arms)) rest

pub arm_roll : (x : Arm-F Figure Arm Choice Body) → arm_statements (roll-Arm x) ≡ drawn_statement x.test ∷ body_statements x.then
arm_roll = fold-roll-Arm (List Drawn) (List Drawn) (List Drawn) (List Drawn) figure_step arm_step choice_step body_step

-- the IF alone in the ELSE of a first arm, with that arm
pub cascaded : (first : Arm) (note : Option Note) (choice : Choice) (grown : Vec Arm Global)
    → grown.items
    ≡ (out-Choice choice).later.items
    ++ roll-Arm (record { note = note; test = (out-Arm (out-Choice choice).first).test; then = (out-Arm (out-Choice choice).first).then }) ∷ []
    → choice_statements (roll-Choice (record { first = first; later = grown; otherwise = (out-Choice choice).otherwise }))
    ≡ arm_statements first ++ choice_statements choice
cascaded first note choice grown is =
    let x : Choice-F Figure Arm Choice Body = record { first = first; later = grown; otherwise = (out-Choice choice).otherwise } in
    let y : Arm-F Figure Arm Choice Body = record { note = note; test = (out-Arm (out-Choice choice).first).test; then = (out-Arm (out-Choice choice).first).then } in
    choice_roll x
    ∙ ap (λ l. arm_statements first ++ l)
    (cascade_is (out-Choice choice).later.items grown.items (out-Choice choice).first (roll-Arm y) (body_statements (out-Choice choice).otherwise) is
    (arm_roll y ∙ sym (arm_is (out-Choice choice).first))
    ∙ sym (choice_is choice))

pub figure_note : (n : Note) → figure_statements (variants.Note n) ≡ []
figure_note n =
    ap figure_statements (sym (rolls-Note n))
    ∙ fold-roll-Figure (List Drawn) (List Drawn) (List Drawn) (List Drawn) figure_step arm_step choice_step body_step (layers.Note n)

pub figure_choice : (c : Choice) → figure_statements (variants.Choice c) ≡ choice_statements c
figure_choice c =
    ap figure_statements (sym (rolls-Choice c))
    ∙ fold-roll-Figure (List Drawn) (List Drawn) (List Drawn) (List Drawn) figure_step arm_step choice_step body_step (layers.Choice c)

-- comments as the last figure have no statement
pub note_last : (figures grown : List Figure) (figure : Figure) (n : Note) → grown ≡ figures ++ figure ∷ [] → figure ≡ variants.Note n
    → figures_statements grown ≡ figures_statements figures
note_last figures grown figure n is note =
    ap figures_statements is
    ∙ figures_push figures figure
    ∙ ap (λ f. figures_statements figures ++ figure_statements f) note
    ∙ ap (λ l. figures_statements figures ++ l) (figure_note n)
    ∙ append-nil (figures_statements figures)

-- an IF alone, behind comments, is all that an ELSE has
pub choice_alone : (test : Statement) (then : Body) (first : Arm) (otherwise front : List Figure) (figure : Figure) (choice : Choice)
    → arm_statements first ≡ drawn_statement test ∷ body_statements then → otherwise ≡ front ++ figure ∷ []
    → figure ≡ variants.Choice choice → figures_statements front ≡ []
    → arm_statements first ++ choice_statements choice ≡ drawn_statement test ∷ (body_statements then ++ figures_statements otherwise)
choice_alone test then first otherwise front figure choice arm is alone none =
    ap (λ l. l ++ choice_statements choice) arm
    ∙ ap (λ l. drawn_statement test ∷ (body_statements then ++ l))
    (sym (ap figures_statements is
    ∙ figures_push front figure
    ∙ ap (λ l. l ++ figure_statements figure) none
    ∙ ap figure_statements alone
    ∙ figure_choice choice))

pub if_ok : {A E : Type 0} {P Q : A → Type 0} (r : Result A E) → ((x : A) → P x → Q x) → IfOk r P → IfOk r Q
if_ok (Ok x) f p = f x p
if_ok (Err e) f p = p

pub figure_box : (row : Vec Statement Global) → figure_statements (variants.Box row) ≡ map drawn_statement row.items
figure_box row =
    ap figure_statements (sym (rolls-Box row))
    ∙ fold-roll-Figure (List Drawn) (List Drawn) (List Drawn) (List Drawn) figure_step arm_step choice_step body_step (layers.Box row)

-- a box as the last figure has its statements
pub box_last : (figures grown : List Figure) (figure : Figure) (row : Vec Statement Global) → grown ≡ figures ++ figure ∷ []
    → figure ≡ variants.Box row → figures_statements grown ≡ figures_statements figures ++ map drawn_statement row.items
box_last figures grown figure row is box =
    ap figures_statements is
    ∙ figures_push figures figure
    ∙ ap (λ f. figures_statements figures ++ figure_statements f) box
    ∙ ap (λ l. figures_statements figures ++ l) (figure_box row)

-- the last box with one statement more
pub evaluation_push : (old front grown : List Figure) (row more : Vec Statement Global) (s : Statement)
    → figures_statements old ≡ figures_statements front ++ map drawn_statement row.items → more.items ≡ row.items ++ s ∷ []
    → grown ≡ front ++ variants.Box more ∷ [] → figures_statements grown ≡ figures_statements old ++ drawn_statement s ∷ []
evaluation_push old front grown row more s was one is =
    box_last front grown (variants.Box more) more is refl
    ∙ ap (λ l. figures_statements front ++ map drawn_statement l) one
    ∙ ap (λ l. figures_statements front ++ l) (map_push drawn_statement row.items s)
    ∙ sym (append_assoc (figures_statements front) (map drawn_statement row.items) (drawn_statement s ∷ []))
    ∙ ap (λ l. l ++ drawn_statement s ∷ []) (sym was)

pub figure_call : (c : Call) → figure_statements (variants.Call c) ≡ drawn_call c ∷ []
figure_call c =
    ap figure_statements (sym (rolls-Call c))
    ∙ fold-roll-Figure (List Drawn) (List Drawn) (List Drawn) (List Drawn) figure_step arm_step choice_step body_step (layers.Call c)

-- one figure more, with its statements
pub one_figure : (old grown : List Figure) (figure : Figure) (more : List Drawn) → grown ≡ old ++ figure ∷ [] → figure_statements figure ≡ more
    → figures_statements grown ≡ figures_statements old ++ more
one_figure old grown figure more is same = ap figures_statements is ∙ figures_push old figure ∙ ap (λ l. figures_statements old ++ l) same

pub on_ok : {A E : Type 0} {P Q : Type 0} (r : Result A E) → (P → Q) → OnOk r P → OnOk r Q
on_ok (Ok x) f p = f p
on_ok (Err e) f p = p
