-- Where lines lead, of bodies one above another and of the arms of an IF.
use Rattle.std.proofs.Common.{◌≡◌, ℕ, ◌+◌, ◌<◌, ◌≤◌, Bool, true, false, List, [], ◌∷◌, ◌++◌, map, drop, length, get_or, refl, sym, ap, subst, ◌∙◌, append_assoc, arith}
use Rattle.std.specs.Prelude.{if◌then◌else◌, nat_lt}
use Rattle.std.proofs.lemmas.Bool.{lt-ltb, ltb-false}
use Rattle.std.proofs.lemmas.List.{append-nil, drop_more, drop_all}
use Rattle.chart_layout.specs.declared.statement.Statement.{Statement}
use Rattle.chart_layout.specs.declared.drawing.Word.TheVariants.{Yes, No}
use Rattle.chart_layout.specs.declared.figure.End.{End}
use Rattle.chart_layout.specs.declared.figure.End.TheVariants.{Spine, Rail}
use Rattle.chart_layout.specs.declared.leads.Exit.{Exit}
use Rattle.chart_layout.specs.declared.leads.Exit.TheVariants.{Below}
use Rattle.chart_layout.specs.declared.leads.Entry.TheVariants.{Into}
use Rattle.chart_layout.specs.declared.leads.Lead.{Lead}
use Rattle.chart_layout.specs.Drawn.{Drawn, concatenated}
use Rattle.chart_layout.specs.Trees.{Tree, stop, step, fork, above, stacked, row_tree}
use Rattle.chart_layout.specs.Leads.{at_way, leads, leaving, lines, ways_of}
use Rattle.chart_layout.specs.private.Leads.{end_behind, Leaves, LeavesArm}

-- ---- bodies one above another

pub leaving_above : (exits : List Exit) (t u : Tree) → leaving exits (above t u) ≡ leaving (leaving exits t) u
leaving_above exits stop u = refl
leaving_above exits (step n t) u = leaving_above (Below n ∷ []) t u
leaving_above exits (fork n a b t) u = leaving_above (leaving (at_way n Yes ∷ []) a ++ leaving (at_way n No ∷ []) b) t u

pub lines_above : (exits : List Exit) (t u : Tree) → lines exits (above t u) ≡ lines exits t ++ lines (leaving exits t) u
lines_above exits stop u = refl
lines_above exits (step n t) u =
    ap (λ l. leads exits (Into n) ++ l) (lines_above (Below n ∷ []) t u)
    ∙ sym (append_assoc (leads exits (Into n)) (lines (Below n ∷ []) t) (lines (leaving (Below n ∷ []) t) u))
lines_above exits (fork n a b t) u =
    let yes = lines (at_way n Yes ∷ []) a in
    let no = lines (at_way n No ∷ []) b in
    let behind = leaving (at_way n Yes ∷ []) a ++ leaving (at_way n No ∷ []) b in
    let rest = lines (leaving behind t) u in
    ap (λ l. leads exits (Into n) ++ (yes ++ (no ++ l))) (lines_above behind t u)
    ∙ sym (append_assoc (leads exits (Into n)) (yes ++ (no ++ lines behind t)) rest
    ∙ ap (λ l. leads exits (Into n) ++ l)
    (append_assoc yes (no ++ lines behind t) rest ∙ ap (λ l. yes ++ l) (append_assoc no (lines behind t) rest)))

pub ways_above : (t u : Tree) → ways_of (above t u) ≡ ways_of t ++ ways_of u
ways_above stop u = refl
ways_above (step n t) u = ways_above t u
ways_above (fork n a b t) u =
    ap (λ l. at_way n Yes ∷ (at_way n No ∷ l))
    (ap (λ l. ways_of a ++ (ways_of b ++ l)) (ways_above t u)
    ∙ sym (append_assoc (ways_of a) (ways_of b ++ ways_of t) (ways_of u) ∙ ap (λ l. ways_of a ++ l) (append_assoc (ways_of b) (ways_of t) (ways_of u))))

-- ---- one figure more of a body's

pub ways_next : {A : Type 0} (f : A → Tree) (xs : List A) (i : ℕ) (x : A) (now new all : List Exit)
    → i < length xs → x ≡ get_or xs i x → new ≡ now ++ ways_of (f x)
    → now ++ ways_of (stacked (map f (drop i xs))) ≡ all → new ++ ways_of (stacked (map f (drop (i + 1) xs))) ≡ all
ways_next f xs i x now new all some is grown so_far =
    let rest = stacked (map f (drop (i + 1) xs)) in
    ap (λ l. l ++ ways_of rest) grown
    ∙ append_assoc now (ways_of (f x)) (ways_of rest)
    ∙ ap (λ l. now ++ l)
    (sym (ways_above (f x) rest)
    ∙ ap (λ y. ways_of (above (f y) rest)) is
    ∙ ap (λ l. ways_of (stacked (map f l))) (sym (drop_more xs i x some)))
    ∙ so_far

-- the lines into what follows a figure: where nothing does, it doesn't matter what has met a rail
lines_step : (more : Bool) (end : End) (old new here exits : List Exit) (rest : Tree) → (more ≡ false → rest ≡ stop)
    → Leaves (if more then Spine else end) old new here exits → lines here rest ≡ lines exits rest
lines_step true end old new here exits rest last leaves = ap (λ o. lines o rest) leaves.1
lines_step false end old new here exits rest last leaves = ap (lines here) (last refl) ∙ sym (ap (lines exits) (last refl))

none_left : {A : Type 0} (f : A → Tree) (xs : List A) (i count : ℕ) → count ≡ length xs → nat_lt (i + 1) count ≡ false
    → stacked (map f (drop (i + 1) xs)) ≡ stop
none_left f xs i count is_count past =
    ap (λ l. stacked (map f l)) (drop_all (i + 1) xs (omega (arith, is_count, ltb-false (i + 1) count past)))

pub lines_next : {A : Type 0} (f : A → Tree) (xs : List A) (i count : ℕ) (x : A) (end : End) (now grown all : List Lead)
    (old new here here' : List Exit) → i < length xs → count ≡ length xs → x ≡ get_or xs i x → grown ≡ now ++ lines here (f x)
    → Leaves (end_behind (i + 1) count end) old new here' (leaving here (f x))
    → now ++ lines here (stacked (map f (drop i xs))) ≡ all → grown ++ lines here' (stacked (map f (drop (i + 1) xs))) ≡ all
lines_next f xs i count x end now grown all old new here here' some is_count is one leaves so_far =
    let rest = stacked (map f (drop (i + 1) xs)) in
    ap (λ l. l ++ lines here' rest) one
    ∙ ap (λ l. (now ++ lines here (f x)) ++ l)
    (lines_step (nat_lt (i + 1) count) end old new here' (leaving here (f x)) rest (none_left f xs i count is_count) leaves)
    ∙ append_assoc now (lines here (f x)) (lines (leaving here (f x)) rest)
    ∙ ap (λ l. now ++ l)
    (sym (lines_above here (f x) rest)
    ∙ ap (λ y. lines here (above (f y) rest)) is
    ∙ ap (λ l. lines here (stacked (map f l))) (sym (drop_more xs i x some)))
    ∙ so_far

-- what leaves, behind one figure more: `more` says that others follow
leaves_step : (more : Bool) (end : End) (before old new here here' all : List Exit) (t rest : Tree) → (more ≡ false → rest ≡ stop)
    → Leaves (if more then Spine else end) old new here' (leaving here t) → Leaves Spine before old (leaving here (above t rest)) all
    → Leaves (if more then Spine else end) before new (leaving here' rest) all
leaves_step true end before old new here here' all t rest last one so_far =
    (one.0 ∙ so_far.0, ap (λ o. leaving o rest) one.1 ∙ sym (leaving_above here t rest) ∙ so_far.1)
leaves_step false Spine before old new here here' all t rest last one so_far = (
  one.0 ∙ so_far.0,
  ap (leaving here') (last refl)
      ∙ one.1
      ∙ sym (leaving_above here t stop)
      ∙ ap (λ r. leaving here (above t r)) (sym (last refl))
      ∙ so_far.1,
)
leaves_step false Rail before old new here here' all t rest last one so_far =
    ap (λ r. new ++ leaving here' r) (last refl)
    ∙ one
    ∙ ap (λ l. l ++ leaving here t) so_far.0
    ∙ ap (λ l. before ++ l)
    (sym (leaving_above here t stop) ∙ ap (λ r. leaving here (above t r)) (sym (last refl)) ∙ so_far.1)

pub leaves_next : {A : Type 0} (f : A → Tree) (xs : List A) (i count : ℕ) (x : A) (end : End) (before old new here here' all : List Exit)
    → i < length xs → count ≡ length xs → x ≡ get_or xs i x
    → Leaves (end_behind (i + 1) count end) old new here' (leaving here (f x))
    → Leaves (end_behind i count end) before old (leaving here (stacked (map f (drop i xs)))) all
    → Leaves (end_behind (i + 1) count end) before new (leaving here' (stacked (map f (drop (i + 1) xs)))) all
leaves_next f xs i count x end before old new here here' all some is_count is one so_far =
    let rest = stacked (map f (drop (i + 1) xs)) in
    let under : nat_lt i count ≡ true = lt-ltb i count (omega (arith, some, is_count)) in
    let first : drop i xs ≡ x ∷ drop (i + 1) xs = drop_more xs i x some ∙ ap (λ y. y ∷ drop (i + 1) xs) (sym is) in
    leaves_step (nat_lt (i + 1) count) end before old new here here' all (f x) rest (none_left f xs i count is_count) one
    (subst (λ l. Leaves Spine before old (leaving here (stacked (map f l))) all) first
    (subst (λ b. Leaves (if b then Spine else end) before old (leaving here (stacked (map f (drop i xs)))) all) under so_far))

-- ---- an arm, with what stands on its way `no`

pub arm_lines : (is_end : Bool) (n : ℕ) (inside rest : Tree) (here here' old new : List Exit) (now grown all : List Lead)
    → (is_end ≡ true → rest ≡ stop) → LeavesArm is_end old new here' (leaving (at_way n Yes ∷ []) inside) (at_way n No ∷ [])
    → grown ≡ now ++ (leads here (Into n) ++ lines (at_way n Yes ∷ []) inside) → now ++ lines here (fork n inside rest stop) ≡ all
    → grown ++ lines here' rest ≡ all
arm_lines is_end n inside rest here here' old new now grown all last leaves one so_far =
    let first = leads here (Into n) in
    let yes = lines (at_way n Yes ∷ []) inside in
    let same : lines here' rest ≡ lines (at_way n No ∷ []) rest = elim is_end as
    (λ b. (b ≡ true → rest ≡ stop) → LeavesArm b old new here' (leaving (at_way n Yes ∷ []) inside) (at_way n No ∷ []) → lines here' rest ≡ lines (at_way n No ∷ []) rest)
    [ true ↦ λ bare _. ap (lines here') (bare refl) ∙ sym (ap (lines (at_way n No ∷ [])) (bare refl)) | false ↦ λ _ l. ap (λ o. lines o rest) l.1 ] last leaves in
    ap (λ l. l ++ lines here' rest) one
    ∙ ap (λ l. (now ++ (first ++ yes)) ++ l) (same ∙ sym (append-nil (lines (at_way n No ∷ []) rest)))
    ∙ append_assoc now (first ++ yes) (lines (at_way n No ∷ []) rest ++ [])
    ∙ ap (λ l. now ++ l) (append_assoc first yes (lines (at_way n No ∷ []) rest ++ []))
    ∙ so_far

pub arm_leaves : (is_end : Bool) (n : ℕ) (inside rest : Tree) (here here' old new all : List Exit)
    → (is_end ≡ true → rest ≡ stop) → LeavesArm is_end old new here' (leaving (at_way n Yes ∷ []) inside) (at_way n No ∷ [])
    → old ++ leaving here (fork n inside rest stop) ≡ all → new ++ leaving here' rest ≡ all
arm_leaves true n inside rest here here' old new all last leaves so_far =
    ap (λ t. new ++ leaving here' t) (last refl)
    ∙ leaves
    ∙ ap (λ t. old ++ (leaving (at_way n Yes ∷ []) inside ++ leaving (at_way n No ∷ []) t)) (sym (last refl))
    ∙ so_far
arm_leaves false n inside rest here here' old new all last leaves so_far =
    ap (λ l. l ++ leaving here' rest) leaves.0
    ∙ ap (λ o. (old ++ leaving (at_way n Yes ∷ []) inside) ++ leaving o rest) leaves.1
    ∙ append_assoc old (leaving (at_way n Yes ∷ []) inside) (leaving (at_way n No ∷ []) rest)
    ∙ so_far

pub arm_ways : (n : ℕ) (inside rest : Tree) (now grown all : List Exit) → grown ≡ now ++ (at_way n Yes ∷ (at_way n No ∷ ways_of inside))
    → now ++ ways_of (fork n inside rest stop) ≡ all → grown ++ ways_of rest ≡ all
arm_ways n inside rest now grown all one so_far =
    ap (λ l. l ++ ways_of rest) one
    ∙ append_assoc now (at_way n Yes ∷ (at_way n No ∷ ways_of inside)) (ways_of rest)
    ∙ ap (λ l. now ++ (at_way n Yes ∷ (at_way n No ∷ (ways_of inside ++ l)))) (sym (append-nil (ways_of rest)))
    ∙ so_far

-- ---- the statements of a box

pub row_has_no_way : (row : List Statement) → ways_of (row_tree row) ≡ []
row_has_no_way [] = refl
row_has_no_way (s ∷ row) = row_has_no_way row

pub row_lines : (row : List Statement) (i : ℕ) (x : Statement) (now new all : List Lead) (here here' : List Exit) → i < length row → x ≡ get_or row i x
    → new ≡ now ++ leads here (Into x.number) → here' ≡ Below x.number ∷ [] → now ++ lines here (row_tree (drop i row)) ≡ all
    → new ++ lines here' (row_tree (drop (i + 1) row)) ≡ all
row_lines row i x now new all here here' some is one below so_far =
    let rest = row_tree (drop (i + 1) row) in
    ap (λ l. l ++ lines here' rest) one
    ∙ ap (λ e. (now ++ leads here (Into x.number)) ++ lines e rest) below
    ∙ append_assoc now (leads here (Into x.number)) (lines (Below x.number ∷ []) rest)
    ∙ ap (λ l. now ++ l)
    (ap (λ (y : Statement). lines here (step y.number rest)) is ∙ ap (λ l. lines here (row_tree l)) (sym (drop_more row i x some)))
    ∙ so_far

pub row_leaving : (row : List Statement) (i : ℕ) (x : Statement) (here here' all : List Exit) → i < length row → x ≡ get_or row i x
    → here' ≡ Below x.number ∷ [] → leaving here (row_tree (drop i row)) ≡ all → leaving here' (row_tree (drop (i + 1) row)) ≡ all
row_leaving row i x here here' all some is below so_far =
    let rest = row_tree (drop (i + 1) row) in
    ap (λ e. leaving e rest) below
    ∙ ap (λ (y : Statement). leaving here (step y.number rest)) is
    ∙ ap (λ l. leaving here (row_tree l)) (sym (drop_more row i x some))
    ∙ so_far

pub row_lines_all : (row : List Statement) (i : ℕ) (now all : List Lead) (here : List Exit) → length row ≤ i
    → now ++ lines here (row_tree (drop i row)) ≡ all → now ≡ all
row_lines_all row i now all here done so_far =
    sym (append-nil now) ∙ ap (λ l. now ++ lines here (row_tree l)) (sym (drop_all i row done)) ∙ so_far

pub row_leaving_all : (row : List Statement) (i : ℕ) (here all : List Exit) → length row ≤ i → leaving here (row_tree (drop i row)) ≡ all → here ≡ all
row_leaving_all row i here all done so_far = ap (λ l. leaving here (row_tree l)) (sym (drop_all i row done)) ∙ so_far

pub statements_next : {A : Type 0} (f : A → List Drawn) (xs : List A) (i : ℕ) (x : A) (now new all : List Drawn) → i < length xs → x ≡ get_or xs i x
    → new ≡ now ++ f x → now ++ concatenated (map f (drop i xs)) ≡ all → new ++ concatenated (map f (drop (i + 1) xs)) ≡ all
statements_next f xs i x now new all some is grown so_far =
    let rest = concatenated (map f (drop (i + 1) xs)) in
    ap (λ l. l ++ rest) grown
    ∙ append_assoc now (f x) rest
    ∙ ap (λ l. now ++ l) (ap (λ y. f y ++ rest) is ∙ ap (λ l. concatenated (map f l)) (sym (drop_more xs i x some)))
    ∙ so_far

-- what leaves a branch, which then meets its rail or ends beside it
pub branch_leaves : (is_closing : Bool) (before old new here exits all down : List Exit) → old ++ exits ≡ before ++ all
    → LeavesArm is_closing old new here exits down → LeavesArm is_closing before new here all down
branch_leaves true before old new here exits all down inside leaves =
    leaves ∙ sym (append_assoc old exits down) ∙ ap (λ l. l ++ down) inside ∙ append_assoc before all down
branch_leaves false before old new here exits all down inside leaves = (leaves.0 ∙ inside, leaves.1)
