-- What is read after a token behind an expression, with where the nodes stand.
use Rattle.std.proofs.Common.{◌≡◌, ℕ, suc, ◌≤◌, Bool, true, false, cond, Some, List, [], ◌∷◌, ◌++◌, refl, sym, ap, subst, ◌∙◌}
use Rattle.std.specs.Prelude.{IsTrue}
use Rattle.pap_tree.specs.Names.{is_name}
use Rattle.std.proofs.lemmas.List.{append-nil}
use Rattle.pap_tree.specs.declared.expression.Unary.TheVariants as unaries
use Rattle.pap_tree.specs.declared.expression.Call.TheVariants as calls
use Rattle.pap_tree.specs.Term.{Term, unary, value_of, value_of_scaled, new_big, operator, method, divide, leaf, named, item, one, two, choice}
use Rattle.pap_tree.specs.Words.{level_of_operator}
use Rattle.pap_tree.specs.Tokens.{Sign, Token, Word, Operator, Mark, Equals, Question, Colon, Dot, Comma, Semicolon, Close, OpenItem, CloseItem}
use Rattle.pap_tree.specs.Grammar as grammar
use Rattle.pap_tree.specs.Grammar.{Item, Part, Guard, free, no_number, no_point, Line, Level, LineMeaning, tree, assignment, at, sign}
use Rattle.expr_grammar.specs.Machine.{Frame, InBrackets, InCall, InItem, InValue, InNew, Negating, Denying, Left, Chosen, Otherwise, Assigning, rounding, dividing, valuing, State, Want, Have, Named, Due, Member, ScaleDue, Done, binds, made, closes, close, ended, ended_in, behind_operand, tightness, step, finish, whole_of, whole_line}
use Rattle.pap_expr.specs.declared.stretch.Stretch.{Stretch}
use Rattle.pap_expr.specs.NodeBytes as nodes
use Rattle.pap_expr.specs.NodeBytes.{stretch, PlacedToken, end_byte, StandsOn}
use Rattle.pap_expr.specs.private.Tracks.{Track, taken, noted, close_track, ended_track, behind_track, have_track, named_track, last_track}
use Rattle.pap_expr.proofs.Lacking.{Lacks, whole_way, pass_is, pass_opens, pass_part, Behind, onward, seen, took, passed, noded, end_append}
use Rattle.pap_expr.proofs.Holding.{IsFrame, Waits, IsRead, IsNamed, IsDotted, ended_at, Holds}

pub moved : (r s : State) (tr : Track) (a : List PlacedToken) → Some r ≡ Some s → Holds r tr a → Holds s tr a
moved r s tr a e h = let f : r ≡ s = cc in subst (λ s. Holds s tr a) f h

abbrev pub track : List ℕ → ℕ → ℕ → List Stretch → Track
track bs first end m = record { begins = bs; first = first; end = end; made = m }

abbrev pub Held : List Frame → List ℕ → List PlacedToken → List Stretch → Type 0
Held k bs p q = Waits k bs p q

-- the last token is the end
pub last_end : (a : List PlacedToken) (t : PlacedToken) → t.on.end ≡ end_byte (a ++ (t ∷ []))
last_end a t = sym (end_append a t [])

-- an operand ends what a frame waits for
pub filled : (f : Frame) (k : List Frame) (x : Term) (n : Bool) (g : Guard) (l : Line) (items : List Item) (z : LineMeaning) (b : ℕ) (bs : List ℕ) (c : ℕ) (a : List PlacedToken) (m : List Stretch)
    → ((own : List PlacedToken) (i : List Stretch) → IsFrame f own i → Lacks n (Part g l (tree x) ∷ items) z own i)
    → Behind (Behind (Held k bs) (IsFrame f) b) (IsRead x) c a m → Behind (Held k bs) (Lacks n items z) b a m
filled f k x n g l items z b bs c a m lacks h =
    took (Held k bs) (IsFrame f) (Lacks n items z) b c a m (tree x) (λ own i part ps p s. pass_part n g l (tree x) items z own i part ps s (lacks own i p)) h

-- the last sign of a node is read
pub made_by : (S : List PlacedToken → List Stretch → Type 0) (b : ℕ) (a : List PlacedToken) (m : List Stretch) (t : PlacedToken) (u : Token) (x : Term) → t.token ≡ u
    → Behind S (Lacks true (grammar.Is u ∷ []) (tree x)) b a m → Behind S (IsRead x) b (a ++ (t ∷ [])) (m ++ (stretch b t.on.end ∷ []))
made_by S b a m t u x e h =
    noded S b t.on.end (a ++ (t ∷ [])) m (tree x) (last_end a t)
    (onward S (Lacks true (grammar.Is u ∷ []) (tree x)) (Lacks true [] (tree x)) b a m t (λ own i l. pass_is true u [] (tree x) own i t e l) h)

pub close_due : (k : List Frame) (n : ℕ) (bs : List ℕ) (b e : ℕ) (m : List Stretch) (a : List PlacedToken) (x : Term)
    → Behind (Held k bs) (Lacks true (sign Close ∷ []) (tree x)) b a m → Holds (Due n (Mark Close) (Have x k)) (track bs b e m) a
close_due k n bs b e m a x h t f = (made_by (Held k bs) b a m t (Mark Close) x f h, last_end a t)

-- ---- the frames that an expression closes

bound : (f : Frame) (k : List Frame) (x : Term) (n : ℕ) (bs : List ℕ) (first e : ℕ) (m : List Stretch) (a : List PlacedToken) → closes n (binds f) ≡ true → Holds (Have x (f ∷ k)) (track bs first e m) a
    → Holds (Have (made f x) k) (noted e (taken (track bs first e m))) a
bound Negating k x n [] first e m a c (h, l) = absurd h.context
bound Negating k x n (b ∷ bs) first e m a c (h, l) =
    (noded (Held k bs) b e a m (tree (one (unary unaries.Minus) x)) l (filled Negating k x true no_number (Level 7) [] (tree (one (unary unaries.Minus) x)) b bs first a m (λ own i p. p.0 x) h), l)
bound Denying k x n [] first e m a c (h, l) = absurd h.context
bound Denying k x n (b ∷ bs) first e m a c (h, l) =
    (noded (Held k bs) b e a m (tree (one (unary unaries.Not) x)) l (filled Denying k x true free (Level 7) [] (tree (one (unary unaries.Not) x)) b bs first a m (λ own i p. p x) h), l)
bound (Left o y) k x n [] first e m a c (h, l) = absurd h.context
bound (Left o y) k x n (b ∷ bs) first e m a c (h, l) =
    (noded (Held k bs) b e a m (tree (two (operator o) y x)) l (filled (Left o y) k x true free (Level (suc (level_of_operator o))) [] (tree (two (operator o) y x)) b bs first a m (λ own i p. p x) h), l)
bound (Otherwise d y) k x n [] first e m a c (h, l) = absurd h.context
bound (Otherwise d y) k x n (b ∷ bs) first e m a c (h, l) =
    (noded (Held k bs) b e a m (tree (choice d y x)) l (filled (Otherwise d y) k x true free (Level 0) [] (tree (choice d y x)) b bs first a m (λ own i p. p x) h), l)
bound f k x n bs first e m a c h = absurd cc

-- the same frames are left, and the expression is read
abbrev pub Closed : Track × List Frame → Term × List Frame → List PlacedToken → Type 0
Closed p q a = (p.1 ≡ q.1) × Holds (Have q.0 q.1) p.0 a

by_close : (n : ℕ) (f : Frame) (k : List Frame) (x : Term) (r : Track) (a : List PlacedToken) (c : Bool) → closes n (binds f) ≡ c → Holds (Have x (f ∷ k)) r a
    → (Holds (Have (made f x) k) (noted r.end (taken r)) a → Closed (close_track n k (noted r.end (taken r))) (close n (made f x) k) a)
    → Closed (cond c (close_track n k (noted r.end (taken r))) (r, f ∷ k)) (cond c (close n (made f x) k) (x, f ∷ k)) a
by_close n f k x r a true e h go = go (bound f k x n r.begins r.first r.end r.made a e h)
by_close n f k x r a false e h go = (refl, h)

pub closing : (n : ℕ) (k : List Frame) (x : Term) (r : Track) (a : List PlacedToken) → Holds (Have x k) r a → Closed (close_track n k r) (close n x k) a
closing n [] x r a h = (refl, h)
closing n (f ∷ k) x r a h = by_close n f k x r a (closes n (binds f)) refl h (λ g. closing n k (made f x) (noted r.end (taken r)) a g)

-- ---- the end of what a frame waits for

no_nodes : (a : List PlacedToken) (x : LineMeaning) (i : List Stretch) → StandsOn a x ((i ++ []) ++ []) → StandsOn a x i
no_nodes a x i h = subst (λ z. StandsOn a x z) (append-nil i) (subst (λ z. StandsOn a x z) (append-nil (i ++ [])) h)

-- the tokens of an assignment up to those behind its expression
assigned : (w : List ℕ) (k : List Frame) (x : Term) (bs : List ℕ) (first : ℕ) (a b : List PlacedToken) (m : List Stretch) → Behind (Waits (Assigning w ∷ k) bs) (IsRead x) first a m
    → ((t u : PlacedToken) (own : List PlacedToken) (i : List Stretch) → IsTrue (is_name w) → t.token ≡ Word w → u.token ≡ Mark Equals → StandsOn own (tree x) i → StandsOn (t ∷ u ∷ (own ++ b)) (assignment w x) ((i ++ []) ++ []))
    → StandsOn (a ++ b) (assignment w x) m
assigned w k x bs first a b m h text =
    let (eb, ek, name, em, (t, u, ea, et, eu)) = h.context in
    let own : List PlacedToken = h.first ∷ h.more in
    let whole : a ++ b ≡ t ∷ u ∷ (own ++ b) = ap (λ z. z ++ b) (h.whole ∙ ap (λ z. z ++ own) ea) in
    let inside : m ≡ h.inside = h.nodes ∙ ap (λ z. z ++ h.inside) em in
    subst (λ z. StandsOn z (assignment w x) m) (sym whole)
    (subst (λ z. StandsOn (t ∷ u ∷ (own ++ b)) (assignment w x) z) (sym inside) (no_nodes (t ∷ u ∷ (own ++ b)) (assignment w x) h.inside (text t u own h.inside name et eu h.own)))

ended_holds : (f : Frame) (k : List Frame) (s : Sign) (x : Term) (st : State) (bs : List ℕ) (first e : ℕ) (m : List Stretch) (a : List PlacedToken) (t : PlacedToken) → t.token ≡ Mark s
    → Holds (Have x (f ∷ k)) (track bs first e m) a → ended f s x k ≡ Some st → Holds st (ended_at t.on.end (ended_track (f ∷ k) s t.on.end (track bs first e m))) (a ++ (t ∷ []))
ended_holds InBrackets k Close x st [] first e m a t d (h, l) q = absurd h.context
ended_holds InBrackets k Close x st (b ∷ bs) first e m a t d (h, l) q = moved (Have x k) st _ (a ++ (t ∷ [])) q (
  passed (Held k bs) b (a ++ (t ∷ [])) m (tree x)
      (onward (Held k bs) (Lacks false (sign Close ∷ []) (tree x)) (Lacks false [] (tree x)) b a m t (λ own i z. pass_is false (Mark Close) [] (tree x) own i t d z)
      (filled InBrackets k x false free (Level 0) (sign Close ∷ []) (tree x) b bs first a m (λ own i p. p x) h)),
  last_end a t,
)
ended_holds (InCall c y) k Close x st [] first e m a t d (h, l) q = absurd h.context
ended_holds (InCall c y) k Close x st (b ∷ bs) first e m a t d (h, l) q = moved (Have (two (method c) y x) k) st _ (a ++ (t ∷ [])) q (
  made_by (Held k bs) b a m t (Mark Close) (two (method c) y x) d
      (filled (InCall c y) k x true free (Level 0) (sign Close ∷ []) (tree (two (method c) y x)) b bs first a m (λ own i p. p.0 x) h),
  last_end a t,
)
ended_holds (InCall calls.DivideExact y) k Comma x st [] first e m a t d (h, l) q = absurd h.context
ended_holds (InCall calls.DivideExact y) k Comma x st (b ∷ bs) first e m a t d (h, l) q = moved (ScaleDue (rounding (dividing y x) k)) st _ (a ++ (t ∷ [])) q
    (onward (Held k bs) _ _ b a m t (λ own i z s r le. pass_is true (Mark Comma) _ _ own i t d (z s r le))
    (took (Held k bs) (IsFrame (InCall calls.DivideExact y)) (λ own i. (s : ℕ) (r : _) → s ≤ 30 → Lacks true (sign Comma ∷ grammar.Scale grammar.of_quotient s ∷ sign Comma ∷ grammar.rounding r ∷ sign Close ∷ []) (tree (two (divide s r) y x)) own i)
    b first a m (tree x) (λ own i part ps p z s r le. pass_part true free (Level 0) (tree x) _ _ own i part ps z (p.1 x s r refl le)) h))
ended_holds (InItem w) k CloseItem x st [] first e m a t d (h, l) q = absurd h.context
ended_holds (InItem w) k CloseItem x st (b ∷ bs) first e m a t d (h, l) q = moved (Have (item w x) k) st _ (a ++ (t ∷ [])) q (
  made_by (Held k bs) b a m t (Mark CloseItem) (item w x) d (filled (InItem w) k x true free (Level 0) (sign CloseItem ∷ []) (tree (item w x)) b bs first a m (λ own i p. p x) h),
  last_end a t,
)
ended_holds InValue k Close x st [] first e m a t d (h, l) q = absurd h.context
ended_holds InValue k Close x st (b ∷ bs) first e m a t d (h, l) q = moved (Have (one value_of x) k) st _ (a ++ (t ∷ [])) q (
  made_by (Held k bs) b a m t (Mark Close) (one value_of x) d (filled InValue k x true free (Level 0) (sign Close ∷ []) (tree (one value_of x)) b bs first a m (λ own i p. p.0 x) h),
  last_end a t,
)
ended_holds InValue k Comma x st [] first e m a t d (h, l) q = absurd h.context
ended_holds InValue k Comma x st (b ∷ bs) first e m a t d (h, l) q = moved (ScaleDue (valuing x k)) st _ (a ++ (t ∷ [])) q
    (onward (Held k bs) _ _ b a m t (λ own i z s le. pass_is true (Mark Comma) _ _ own i t d (z s le))
    (took (Held k bs) (IsFrame InValue) (λ own i. (s : ℕ) → s ≤ 30 → Lacks true (sign Comma ∷ grammar.Scale grammar.of_value s ∷ sign Close ∷ []) (tree (one (value_of_scaled s) x)) own i)
    b first a m (tree x) (λ own i part ps p z s le. pass_part true free (Level 0) (tree x) _ _ own i part ps z (p.1 x s le)) h))
ended_holds InNew k Close x st [] first e m a t d (h, l) q = absurd h.context
ended_holds InNew k Close x st (b ∷ bs) first e m a t d (h, l) q = moved (Have (one new_big x) k) st _ (a ++ (t ∷ [])) q (
  made_by (Held k bs) b a m t (Mark Close) (one new_big x) d (filled InNew k x true no_point (Level 0) (sign Close ∷ []) (tree (one new_big x)) b bs first a m (λ own i p. p.0 x) h),
  last_end a t,
)
ended_holds (Chosen y) k Colon x st [] first e m a t d (h, l) q = absurd h.context
ended_holds (Chosen y) k Colon x st (b ∷ bs) first e m a t d (h, l) q = moved (Want (Otherwise y x ∷ k)) st _ (a ++ (t ∷ [])) q
    (onward (Held k bs) _ (IsFrame (Otherwise y x)) b a m t (λ own i z v. pass_is true (Mark Colon) _ _ own i t d (z v))
    (took (Held k bs) (IsFrame (Chosen y)) (λ own i. (v : Term) → Lacks true (sign Colon ∷ at 0 v ∷ []) (tree (choice y x v)) own i)
    b first a m (tree x) (λ own i part ps p z v. pass_part true free (Level 0) (tree x) _ _ own i part ps z (p x v)) h))
ended_holds (Assigning w) k Semicolon x st bs first e m a t d (h, l) q = moved (Done (assignment w x)) st _ (a ++ (t ∷ [])) q
    (assigned w k x bs first a (t ∷ []) m h (λ v u own i name ev eu s. nodes.by _ (grammar.assign_ended w x name) (nodes.is v ev (nodes.is u eu (nodes.part s (nodes.is t d nodes.done))))))
ended_holds f k s x st bs first e m a t d h q = absurd cc

ended_in_holds : (j : List Frame) (s : Sign) (x : Term) (st : State) (r : Track) (a : List PlacedToken) (t : PlacedToken) → t.token ≡ Mark s → Holds (Have x j) r a → ended_in j s x ≡ Some st
    → Holds st (ended_at t.on.end (ended_track j s t.on.end r)) (a ++ (t ∷ []))
ended_in_holds [] s x st r a t d h q = absurd cc
ended_in_holds (f ∷ k) s x st r a t d h q = ended_holds f k s x st r.begins r.first r.end r.made a t d h q

-- ---- what goes on with an expression

behind_one : (u : Token) (st : State) (t : PlacedToken) (r : Track) (y : Term) (j : List Frame) (a : List PlacedToken) → t.token ≡ u → Holds (Have y j) r a → behind_operand u (y, j) ≡ Some st
    → Holds st (ended_at t.on.end (behind_track u t.on.end (r, j))) (a ++ (t ∷ []))
behind_one (Operator o) st t r y j a d (h, l) q = moved (Want (Left o y ∷ j)) st _ (a ++ (t ∷ [])) q
    (onward (Held j r.begins) (IsRead y) (IsFrame (Left o y)) r.first a r.made t (λ own i s z. pass_is true (Operator o) _ _ own i t d
    (pass_part true free (Level (level_of_operator o)) (tree y) _ _ [] [] own i s (whole_way _ (grammar.operation (level_of_operator o) o y z refl)))) h)
behind_one (Mark Dot) st t r y j a d (h, l) q = moved (Member y j) st _ (a ++ (t ∷ [])) q
    (onward (Held j r.begins) (IsRead y) (IsDotted y) r.first a r.made t (λ own i s. (own, t, refl, d, s)) h)
behind_one (Mark Question) st t r y j a d (h, l) q = moved (Want (Chosen y ∷ j)) st _ (a ++ (t ∷ [])) q
    (onward (Held j r.begins) (IsRead y) (IsFrame (Chosen y)) r.first a r.made t (λ own i s v z. pass_opens true (Mark Question) _ _ own i t d
    (pass_part true free (Level 1) (tree y) _ _ [] [] own i s (whole_way _ (grammar.choose y v z)))) h)
behind_one (Mark s) st t r y j a d h q = ended_in_holds j s y st r a t d h q
behind_one u st t r y j a d h q = absurd cc

behind : (u : Token) (st : State) (t : PlacedToken) (p : Track × List Frame) (q : Term × List Frame) (a : List PlacedToken) → t.token ≡ u → Closed p q a → behind_operand u q ≡ Some st
    → Holds st (ended_at t.on.end (behind_track u t.on.end p)) (a ++ (t ∷ []))
behind u st t p q a d (e, h) f = subst (λ j. Holds st (ended_at t.on.end (behind_track u t.on.end (p.0, j))) (a ++ (t ∷ []))) (sym e) (behind_one u st t p.0 q.0 q.1 a d h f)

pub have_holds : (x : Term) (k : List Frame) (u : Token) (st : State) (r : Track) (a : List PlacedToken) (t : PlacedToken) → t.token ≡ u → Holds (Have x k) r a → step (Have x k) u ≡ Some st
    → Holds st (ended_at t.on.end (have_track k u t.on.end r)) (a ++ (t ∷ []))
have_holds x k u st r a t d h e = behind u st t (close_track (tightness u) k r) (close (tightness u) x k) a d (closing (tightness u) k x r a h) e

-- a name that no item follows is a node
named_lacks : (w : List ℕ) (own : List PlacedToken) (i : List Stretch) → IsNamed w own i → Lacks true [] (tree (leaf (named w))) own i
named_lacks w own i (t, e, f, name, g) =
    subst (λ z. Lacks true [] (tree (leaf (named w))) z i) (sym e)
    (subst (λ z. Lacks true [] (tree (leaf (named w))) (t ∷ []) z) (sym g) (pass_is true (Word w) [] (tree (leaf (named w))) [] [] t f (whole_way _ (grammar.a_name w name))))

named_read : (w : List ℕ) (k : List Frame) (r : Track) (a : List PlacedToken) → Holds (Named w k) r a → Holds (Have (leaf (named w)) k) (noted r.end r) a
named_read w k r a (h, l) =
    (noded (Held k r.begins) r.first r.end a r.made (tree (leaf (named w))) l (seen (Held k r.begins) (IsNamed w) (Lacks true [] (tree (leaf (named w)))) r.first a r.made (named_lacks w) h), l)

item_lacks : (w : List ℕ) (own : List PlacedToken) (i : List Stretch) (t : PlacedToken) → t.token ≡ Mark OpenItem → IsNamed w own i → IsFrame (InItem w) (own ++ (t ∷ [])) i
item_lacks w own i t d (v, e, f, name, g) y =
    subst (λ z. Lacks true (at 0 y ∷ sign CloseItem ∷ []) (tree (item w y)) (z ++ (t ∷ [])) i) (sym e)
    (subst (λ z. Lacks true (at 0 y ∷ sign CloseItem ∷ []) (tree (item w y)) (v ∷ t ∷ []) z) (sym g)
    (pass_opens true (Mark OpenItem) _ _ (v ∷ []) [] t d (pass_is true (Word w) _ _ [] [] v f (whole_way _ (grammar.an_item w y name)))))

pub named_holds : (w : List ℕ) (k : List Frame) (u : Token) (st : State) (r : Track) (a : List PlacedToken) (t : PlacedToken) → t.token ≡ u → Holds (Named w k) r a → step (Named w k) u ≡ Some st
    → Holds st (ended_at t.on.end (named_track k u t.on.end r)) (a ++ (t ∷ []))
named_holds w k (Mark OpenItem) st r a t d (h, l) q = moved (Want (InItem w ∷ k)) st _ (a ++ (t ∷ [])) q
    (onward (Held k r.begins) (IsNamed w) (IsFrame (InItem w)) r.first a r.made t (λ own i s. item_lacks w own i t d s) h)
named_holds w k u st r a t d h q = have_holds (leaf (named w)) k u st (noted r.end r) a t d (named_read w k r a h) q

-- ---- the end of the line

whole_stands : (j : List Frame) (x : Term) (y : LineMeaning) (r : Track) (a : List PlacedToken) → Holds (Have x j) r a → whole_of x j ≡ Some y → StandsOn a y r.made
whole_stands [] x y r a (h, l) e =
    let (eb, ea, em) = h.context in
    let own : List PlacedToken = h.first ∷ h.more in
    let f : tree x ≡ y = cc in
    let whole : a ≡ own = h.whole ∙ ap (λ z. z ++ own) ea in
    let inside : r.made ≡ h.inside = h.nodes ∙ ap (λ z. z ++ h.inside) em in
    subst (λ y. StandsOn a y r.made) f (subst (λ z. StandsOn z (tree x) r.made) (sym whole) (subst (λ z. StandsOn own (tree x) z) (sym inside) h.own))
whole_stands (Assigning w ∷ k) x y r a (h, l) e =
    let f : assignment w x ≡ y = cc in
    let g = assigned w k x r.begins r.first a [] r.made h (λ v u own i name ev eu s. nodes.by _ (grammar.assign w x name) (nodes.is v ev (nodes.is u eu (nodes.part s nodes.done)))) in
    subst (λ y. StandsOn a y r.made) f (subst (λ z. StandsOn z (assignment w x) r.made) (append-nil a) g)
whole_stands (f ∷ k) x y r a h e = absurd cc

have_last : (x : Term) (k : List Frame) (y : LineMeaning) (r : Track) (a : List PlacedToken) → Holds (Have x k) r a → whole_line (close 0 x k) ≡ Some y → StandsOn a y (close_track 0 k r).0.made
have_last x k y r a h e = whole_stands (close 0 x k).1 (close 0 x k).0 y (close_track 0 k r).0 a (closing 0 k x r a h).1 e

pub last_holds : (s : State) (y : LineMeaning) (r : Track) (a : List PlacedToken) → Holds s r a → finish s ≡ Some y → StandsOn a y (last_track s r).made
last_holds (Have x k) y r a h e = have_last x k y r a h e
last_holds (Named w k) y r a h e = have_last (leaf (named w)) k y (noted r.end r) a (named_read w k r a h) e
last_holds (Done x) y r a h e = let f : x ≡ y = cc in subst (λ y. StandsOn a y r.made) f h
last_holds s y r a h e = absurd cc
