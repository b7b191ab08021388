-- A state's step, with where the nodes stand.
use Rattle.std.proofs.Common.{◌≡◌, ℕ, suc, ◌≤◌, ◌⊎◌, inl, inr, Bool, true, false, cond, Option, Some, None, List, [], ◌∷◌, ◌++◌, refl, sym, ap, subst, ◌∙◌, append_assoc}
use Rattle.std.specs.Prelude.{IsTrue, codes, nat_le, option_map}
use Rattle.std.proofs.lemmas.List.{append-nil}
use Rattle.std.proofs.lemmas.Bool.{leb-true}
use Rattle.scaled_decimal.specs.Decimals.{Decimal}
use Rattle.scaled_decimal.specs.Limits.{most_places}
use Rattle.scaled_decimal.specs.declared.rounding.Mode.{Mode}
use Rattle.scaled_decimal.specs.declared.rounding.Mode.TheVariants as modes
use Rattle.pap_tree.specs.Names.{is_name}
use Rattle.pap_tree.specs.declared.expression.Known.TheVariants as knowns
use Rattle.pap_tree.specs.declared.expression.Call.{Call}
use Rattle.pap_tree.specs.declared.expression.Call.TheVariants as calls
use Rattle.pap_tree.specs.declared.expression.Unary.TheVariants as unaries
use Rattle.pap_tree.specs.declared.expression.Binary.TheVariants as binaries
use Rattle.pap_tree.specs.Term.{Leaf, Term, text, known, unary, value_of, value_of_scaled, new_big, set_scale, method, divide, leaf, one, two}
use Rattle.pap_tree.specs.Words.{call_word}
use Rattle.pap_tree.specs.Tokens as tokens
use Rattle.pap_tree.specs.Tokens.{Number, Token, Literal, Quoted, Word, Operator, Mark, Dot, Comma, Open, Close, int}
use Rattle.pap_tree.specs.Grammar as grammar
use Rattle.pap_tree.specs.Grammar.{Item, Is, Part, free, no_point, Line, Level, LineMeaning, tree, mode, at, sign, word, opens, leaf_of, negative_of, form_of, Way}
use Rattle.expr_grammar.specs.Machine as machine
use Rattle.expr_grammar.specs.Machine.{Frame, InBrackets, InCall, InValue, InNew, Negating, Denying, Rounded, dividing, setting, ScaleUse, valuing, declaring, Holder, the_decimal, the_mode, holder_word, holder_of, held_word, mode_of, Method, applied, opposite, magnitude, rescaled, method_word, method_of, Constancy, constant, of_number, constancy_word, constancy_of, Head, the_class, a_new, head_word, head_of, State, Want, Have, Named, Due, Member, Static, ScaleDue, Parting, Moding, Moded, level, called, scaled, class_held, moded, rounded, literal_step, want_step, same_token, step}
use Rattle.expr_grammar.proofs.Laws.{picked, token_is}
use Rattle.pap_expr.specs.declared.stretch.Stretch.{Stretch}
use Rattle.pap_expr.specs.NodeBytes as nodes
use Rattle.pap_expr.specs.NodeBytes.{stretch, PlacedToken, StandsOn}
use Rattle.pap_expr.specs.private.Tracks.{Track, begun, taken, noted, want_track, constant_track, step_track, next_track}
use Rattle.pap_expr.proofs.Lacking.{Lacks, whole_way, pass_is, pass_opens, pass_scale, pass_part, Behind, alone, onward, noded}
use Rattle.pap_expr.proofs.Holding.{scaling_of, IsFrame, Waits, IsNamed, IsDotted, IsClass, IsModed, ended_at, Holds}
use Rattle.pap_expr.proofs.Closing.{moved, track, Held, last_end, close_due, have_holds, named_holds}

-- ---- what a found word is

mapped : {A : Type 0} (f : A → State) (o : Option A) (r : State) → option_map f o ≡ Some r → (a : A) × (o ≡ Some a) × (f a ≡ r)
mapped f None r e = absurd cc
mapped f (Some a) r e = (a, refl, cc)

if_some : (c : Bool) (s r : State) → cond c (Some s) None ≡ Some r → (c ≡ true) × (s ≡ r)
if_some true s r e = (refl, cc)
if_some false s r e = absurd cc

either_some : (c : Bool) (s r : State) (o : Option State) → cond c (Some s) o ≡ Some r → ((c ≡ true) × (s ≡ r)) ⊎ ((c ≡ false) × (o ≡ Some r))
either_some true s r o e = inl (refl, cc)
either_some false s r o e = inr (refl, e)

-- ---- where an expression is due

literal_lacks : (n : Number) (t : PlacedToken) → t.token ≡ Literal n → Lacks true [] (tree (leaf (leaf_of n))) (t ∷ []) []
literal_lacks n t e =
    pass_part true free (grammar.Signed (form_of n)) (grammar.literal (leaf_of n)) [] (tree (leaf (leaf_of n))) [] [] (t ∷ []) []
    (nodes.by _ (grammar.without_sign (form_of n) n refl) (nodes.is t e nodes.done)) (whole_way _ (grammar.a_literal (form_of n) (leaf_of n)))

minus_lacks : (n : Number) (u t : PlacedToken) → u.token ≡ Operator binaries.Sub → t.token ≡ Literal n → Lacks true [] (tree (leaf (negative_of n))) (u ∷ t ∷ []) []
minus_lacks n u t d e =
    pass_part true free (grammar.Signed (form_of n)) (grammar.literal (negative_of n)) [] (tree (leaf (negative_of n))) [] [] (u ∷ t ∷ []) []
    (nodes.by _ (grammar.with_sign (form_of n) n refl) (nodes.opens u d (nodes.is t e nodes.done))) (whole_way _ (grammar.a_literal (form_of n) (negative_of n)))

plain : (k : List Frame) (n : Number) (st : State) (r : Track) (a : List PlacedToken) (t : PlacedToken) → t.token ≡ Literal n → Waits k r.begins a r.made → Some (Have (leaf (leaf_of n)) k) ≡ Some st
    → Holds st (ended_at t.on.end (noted t.on.end (begun t.on.first r))) (a ++ (t ∷ []))
plain k n st r a t d h q = moved (Have (leaf (leaf_of n)) k) st _ (a ++ (t ∷ [])) q (
  noded (Held k r.begins) t.on.first t.on.end (a ++ (t ∷ [])) r.made (tree (leaf (leaf_of n))) (last_end a t)
      (alone (Held k r.begins) (Lacks true [] (tree (leaf (leaf_of n)))) a r.made t h (literal_lacks n t d)),
  last_end a t,
)

taken_is : (k : List Frame) (n : Number) (l : Leaf) (st : State) → machine.taken k n l ≡ Some st → Some (Have (leaf l) k) ≡ Some st
taken_is [] n l st e = e
taken_is (InNew ∷ k) (tokens.int n) l st e = e
taken_is (InNew ∷ k) (tokens.long n) l st e = e
taken_is (InNew ∷ k) (tokens.point d) l st e = absurd cc
taken_is (f ∷ k) n l st e = e

negative_lacks : (n : Number) (t : PlacedToken) (own : List PlacedToken) (i : List Stretch) → t.token ≡ Literal n → IsFrame Negating own i → Lacks true [] (tree (leaf (negative_of n))) (own ++ (t ∷ [])) i
negative_lacks n t own i d p =
    let (u, e, f, g) = p.1 in
    subst (λ z. Lacks true [] (tree (leaf (negative_of n))) (z ++ (t ∷ [])) i) (sym e) (subst (λ z. Lacks true [] (tree (leaf (negative_of n))) (u ∷ t ∷ []) z) (sym g) (minus_lacks n u t f d))

negative : (k : List Frame) (n : Number) (st : State) (bs : List ℕ) (first e : ℕ) (m : List Stretch) (a : List PlacedToken) (t : PlacedToken) → t.token ≡ Literal n → Waits (Negating ∷ k) bs a m
    → Some (Have (leaf (negative_of n)) k) ≡ Some st → Holds st (ended_at t.on.end (noted t.on.end (taken (begun t.on.first (track bs first e m))))) (a ++ (t ∷ []))
negative k n st [] first e m a t d h q = absurd h
negative k n st (b ∷ bs) first e m a t d h q = moved (Have (leaf (negative_of n)) k) st _ (a ++ (t ∷ [])) q (
  noded (Held k bs) b t.on.end (a ++ (t ∷ [])) m (tree (leaf (negative_of n))) (last_end a t)
      (onward (Held k bs) (IsFrame Negating) (Lacks true [] (tree (leaf (negative_of n)))) b a m t (λ own i p. negative_lacks n t own i d p) h),
  last_end a t,
)

literal_holds : (k : List Frame) (n : Number) (st : State) (r : Track) (a : List PlacedToken) (t : PlacedToken) → t.token ≡ Literal n → Waits k r.begins a r.made → literal_step k n ≡ Some st
    → Holds st (ended_at t.on.end (want_track k (Literal n) t.on r)) (a ++ (t ∷ []))
literal_holds [] n st r a t d h q = plain [] n st r a t d h (taken_is [] n (leaf_of n) st q)
literal_holds (Negating ∷ k) n st r a t d h q = negative k n st r.begins r.first r.end r.made a t d h (taken_is k n (negative_of n) st q)
literal_holds (f ∷ k) n st r a t d h q = plain (f ∷ k) n st r a t d h (taken_is (f ∷ k) n (leaf_of n) st q)

quoted_holds : (k : List Frame) (v : Decimal) (st : State) (bs : List ℕ) (first e : ℕ) (m : List Stretch) (a : List PlacedToken) (t : PlacedToken) → t.token ≡ Quoted v → Waits k bs a m → want_step k (Quoted v) ≡ Some st
    → Holds st (ended_at t.on.end (taken (track bs first e m))) (a ++ (t ∷ []))
quoted_holds (InNew ∷ k) v st [] first e m a t d h q = absurd h
quoted_holds (InNew ∷ k) v st (b ∷ bs) first e m a t d h q = moved (Due (suc (level k)) (Mark Close) (Have (leaf (text v)) k)) st _ (a ++ (t ∷ [])) q
    (close_due k (suc (level k)) bs b t.on.end m (a ++ (t ∷ [])) (leaf (text v))
    (onward (Held k bs) (IsFrame InNew) (Lacks true (sign Close ∷ []) (tree (leaf (text v)))) b a m t (λ own i p. pass_is true (Quoted v) _ _ own i t d (p.1 v)) h))
quoted_holds k v st bs first e m a t d h q = absurd cc

-- the first tokens of `new BigDecimal(`
abbrev NewLacks : List Item → List PlacedToken → List Stretch → Type 0
NewLacks front own i =
    ((y : Term) → Lacks true (front ++ (Part no_point (Level 0) (tree y) ∷ sign Close ∷ [])) (tree (one new_big y)) own i)
    × ((d : Decimal) → Lacks true (front ++ (Is (Quoted d) ∷ sign Close ∷ [])) (tree (leaf (text d))) own i)

new_first : (t : PlacedToken) → t.token ≡ Word (codes "new") → NewLacks (word (codes "BigDecimal") ∷ opens Open ∷ []) (t ∷ []) []
new_first t e = (λ y. pass_is true _ _ _ [] [] t e (whole_way _ (grammar.a_new_big y)), λ d. pass_is true _ _ _ [] [] t e (whole_way _ (grammar.a_new_text d)))

new_holds : (k : List Frame) (r : Track) (a : List PlacedToken) (t : PlacedToken) → t.token ≡ Word (codes "new") → Waits k r.begins a r.made
    → Holds (Due (level k) (Word (codes "BigDecimal")) (Due (level k) (Mark Open) (Want (InNew ∷ k)))) (ended_at t.on.end (begun t.on.first r)) (a ++ (t ∷ []))
new_holds k r a t d h u f v g =
    onward (Held k r.begins) (NewLacks (opens Open ∷ [])) (IsFrame InNew) t.on.first ((a ++ (t ∷ [])) ++ (u ∷ [])) r.made v
    (λ own i p. (λ y. pass_opens true (Mark Open) _ _ own i v g (p.0 y), λ z. pass_opens true (Mark Open) _ _ own i v g (p.1 z)))
    (onward (Held k r.begins) (NewLacks (word (codes "BigDecimal") ∷ opens Open ∷ [])) (NewLacks (opens Open ∷ [])) t.on.first (a ++ (t ∷ [])) r.made u
    (λ own i p. (λ y. pass_is true (Word (codes "BigDecimal")) _ _ own i u f (p.0 y), λ z. pass_is true (Word (codes "BigDecimal")) _ _ own i u f (p.1 z)))
    (alone (Held k r.begins) (NewLacks (word (codes "BigDecimal") ∷ opens Open ∷ [])) a r.made t h (new_first t d)))

class_holds : (k : List Frame) (r : Track) (a : List PlacedToken) (t : PlacedToken) → t.token ≡ Word (codes "BigDecimal") → Waits k r.begins a r.made
    → Holds (Due (level k) (Mark Dot) (Static k)) (ended_at t.on.end (begun t.on.first r)) (a ++ (t ∷ []))
class_holds k r a t d h u f =
    onward (Held k r.begins) (λ own i. (own ≡ t ∷ []) × (i ≡ [])) IsClass t.on.first (a ++ (t ∷ [])) r.made u (λ own i p. (t, u, ap (λ z. z ++ (u ∷ [])) p.0, d, f, p.1))
    (alone (Held k r.begins) (λ own i. (own ≡ t ∷ []) × (i ≡ [])) a r.made t h (refl, refl))

head_holds : (k : List Frame) (w : List ℕ) (o : Option Head) (st : State) (r : Track) (a : List PlacedToken) (t : PlacedToken) → head_of w ≡ o → t.token ≡ Word w → Waits k r.begins a r.made
    → machine.begun k o ≡ Some st → Holds st (ended_at t.on.end (begun t.on.first r)) (a ++ (t ∷ []))
head_holds k w None st r a t f d h q = absurd cc
head_holds k w (Some the_class) st r a t f d h q =
    moved _ st _ (a ++ (t ∷ [])) q (class_holds k r a t (d ∙ ap (λ v. Word v) (picked head_word w (the_class ∷ a_new ∷ []) the_class f)) h)
head_holds k w (Some a_new) st r a t f d h q =
    moved _ st _ (a ++ (t ∷ [])) q (new_holds k r a t (d ∙ ap (λ v. Word v) (picked head_word w (the_class ∷ a_new ∷ []) a_new f)) h)

name_holds : (k : List Frame) (w : List ℕ) (r : Track) (a : List PlacedToken) (t : PlacedToken) → t.token ≡ Word w → IsTrue (is_name w) → Waits k r.begins a r.made
    → Holds (Named w k) (ended_at t.on.end (begun t.on.first r)) (a ++ (t ∷ []))
name_holds k w r a t d name h = (alone (Held k r.begins) (IsNamed w) a r.made t h (t, refl, d, name, refl), last_end a t)

word_holds : (k : List Frame) (w : List ℕ) (st : State) (r : Track) (a : List PlacedToken) (t : PlacedToken) → t.token ≡ Word w → Waits k r.begins a r.made → want_step k (Word w) ≡ Some st
    → Holds st (ended_at t.on.end (begun t.on.first r)) (a ++ (t ∷ []))
word_holds k w st r a t d h q = elim (either_some (is_name w) (Named w k) st (machine.begun k (head_of w)) q) as (λ z. Holds st (ended_at t.on.end (begun t.on.first r)) (a ++ (t ∷ []))) [
  | inl f ↦ subst (λ s. Holds s (ended_at t.on.end (begun t.on.first r)) (a ++ (t ∷ []))) f.1 (name_holds k w r a t d f.0 h)
  | inr f ↦ head_holds k w (head_of w) st r a t refl d h f.1
]

want_holds : (k : List Frame) (u : Token) (st : State) (r : Track) (a : List PlacedToken) (t : PlacedToken) → t.token ≡ u → Waits k r.begins a r.made → want_step k u ≡ Some st
    → Holds st (ended_at t.on.end (want_track k u t.on r)) (a ++ (t ∷ []))
want_holds k (Literal n) st r a t d h q = literal_holds k n st r a t d h q
want_holds k (Quoted v) st r a t d h q = quoted_holds k v st r.begins r.first r.end r.made a t d h q
want_holds k (Word w) st r a t d h q = word_holds k w st r a t d h q
want_holds k (Operator binaries.Sub) st r a t d h q = moved (Want (Negating ∷ k)) st _ (a ++ (t ∷ [])) q
    (alone (Held k r.begins) (IsFrame Negating) a r.made t h (λ y. pass_opens true (Operator binaries.Sub) _ _ [] [] t d (whole_way _ (grammar.minus y)), (t, refl, d, refl)))
want_holds k (Mark tokens.Bang) st r a t d h q = moved (Want (Denying ∷ k)) st _ (a ++ (t ∷ [])) q
    (alone (Held k r.begins) (IsFrame Denying) a r.made t h (λ y. pass_opens true (Mark tokens.Bang) _ _ [] [] t d (whole_way _ (grammar.negation y))))
want_holds k (Mark Open) st r a t d h q = moved (Want (InBrackets ∷ k)) st _ (a ++ (t ∷ [])) q
    (alone (Held k r.begins) (IsFrame InBrackets) a r.made t h (λ y. pass_opens false (Mark Open) _ _ [] [] t d (whole_way _ (grammar.in_brackets y))))
want_holds k u st r a t d h q = absurd cc

-- ---- methods

method_read : (x z : Term) (w : List ℕ) (more : List Item) (way : Way (Level 8) (at 8 x ∷ sign Dot ∷ word w ∷ more) (tree z)) (own : List PlacedToken) (i : List Stretch) (t : PlacedToken)
    → t.token ≡ Word w → IsDotted x own i → Lacks (nodes.makes_node way) more (tree z) (own ++ (t ∷ [])) i
method_read x z w more way own i t d (b, u, e, f, s) =
    pass_is (nodes.makes_node way) (Word w) more (tree z) own i t d
    (subst (λ o. Lacks (nodes.makes_node way) (word w ∷ more) (tree z) o i) (sym e)
    (pass_is (nodes.makes_node way) (Mark Dot) (word w ∷ more) (tree z) b i u f
    (pass_part (nodes.makes_node way) free (Level 8) (tree x) (sign Dot ∷ word w ∷ more) (tree z) [] [] b i s (whole_way _ way))))

method_opened : (x z : Term) (w : List ℕ) (more : List Item) (way : Way (Level 8) (at 8 x ∷ sign Dot ∷ word w ∷ opens Open ∷ more) (tree z)) (own : List PlacedToken) (i : List Stretch) (t u : PlacedToken)
    → t.token ≡ Word w → u.token ≡ Mark Open → IsDotted x own i → Lacks (nodes.makes_node way) more (tree z) ((own ++ (t ∷ [])) ++ (u ∷ [])) i
method_opened x z w more way own i t u d e p = pass_opens (nodes.makes_node way) (Mark Open) more (tree z) (own ++ (t ∷ [])) i u e (method_read x z w (opens Open ∷ more) way own i t d p)

-- two more tokens
onward_two : (S P Q : List PlacedToken → List Stretch → Type 0) (b : ℕ) (a : List PlacedToken) (m : List Stretch) (t u : PlacedToken)
    → ((own : List PlacedToken) (i : List Stretch) → P own i → Q ((own ++ (t ∷ [])) ++ (u ∷ [])) i) → Behind S P b a m → Behind S Q b ((a ++ (t ∷ [])) ++ (u ∷ [])) m
onward_two S P Q b a m t u f h = onward S (λ z i. Q (z ++ (u ∷ [])) i) Q b (a ++ (t ∷ [])) m u (λ own i p. p) (onward S P (λ z i. Q (z ++ (u ∷ [])) i) b a m t f h)

call_opened : (x : Term) (c : Call) (own : List PlacedToken) (i : List Stretch) (t u : PlacedToken) → t.token ≡ Word (call_word c) → u.token ≡ Mark Open → IsDotted x own i
    → IsFrame (InCall c x) ((own ++ (t ∷ [])) ++ (u ∷ [])) i
call_opened x calls.DivideExact own i t u d e p = (
  λ y. method_opened x (two (method calls.DivideExact) x y) (codes "divide") _ (grammar.call calls.DivideExact x y) own i t u d e p,
  λ y s m f g. method_opened x (two (divide s m) x y) (codes "divide") _ (grammar.divide_to s m x y g) own i t u d e p,
)
call_opened x c own i t u d e p = (λ y. method_opened x (two (method c) x y) (call_word c) _ (grammar.call c x y) own i t u d e p, λ y s m f g. absurd cc)

called_holds : (x : Term) (k : List Frame) (m : Method) (r : Track) (a : List PlacedToken) (t : PlacedToken) → t.token ≡ Word (method_word m) → Holds (Member x k) r a
    → Holds (called x k m) (ended_at t.on.end r) (a ++ (t ∷ []))
called_holds x k (applied c) r a t d h = λ u e. onward_two (Held k r.begins) (IsDotted x) (IsFrame (InCall c x)) r.first a r.made t u (λ own i p. call_opened x c own i t u d e p) h
called_holds x k opposite r a t d h = λ u e.
    close_due k (suc (level k)) r.begins r.first u.on.end r.made ((a ++ (t ∷ [])) ++ (u ∷ [])) (one (unary unaries.Negate) x)
    (onward_two (Held k r.begins) (IsDotted x) (Lacks true (sign Close ∷ []) (tree (one (unary unaries.Negate) x))) r.first a r.made t u
    (λ own i p. method_opened x _ (codes "negate") _ (grammar.plain_call unaries.Negate (codes "negate") x grammar.negate) own i t u d e p) h)
called_holds x k magnitude r a t d h = λ u e.
    close_due k (suc (level k)) r.begins r.first u.on.end r.made ((a ++ (t ∷ [])) ++ (u ∷ [])) (one (unary unaries.Abs) x)
    (onward_two (Held k r.begins) (IsDotted x) (Lacks true (sign Close ∷ []) (tree (one (unary unaries.Abs) x))) r.first a r.made t u
    (λ own i p. method_opened x _ (codes "abs") _ (grammar.plain_call unaries.Abs (codes "abs") x grammar.abs) own i t u d e p) h)
called_holds x k rescaled r a t d h = λ u e.
    onward_two (Held k r.begins) (IsDotted x) _ r.first a r.made t u
    (λ own i p s m g. method_opened x (one (set_scale s m) x) (codes "setScale") _ (grammar.set_scale_to s m x g) own i t u d e p) h

abbrev methods : List Method
methods = applied calls.Add ∷ applied calls.Subtract ∷ applied calls.Multiply ∷ applied calls.DivideExact ∷ applied calls.CompareTo
    ∷ applied calls.Min ∷ applied calls.Max ∷ opposite ∷ magnitude ∷ rescaled ∷ []

member_holds : (x : Term) (k : List Frame) (u : Token) (st : State) (r : Track) (a : List PlacedToken) (t : PlacedToken) → t.token ≡ u → Holds (Member x k) r a → step (Member x k) u ≡ Some st
    → Holds st (ended_at t.on.end r) (a ++ (t ∷ []))
member_holds x k (Word w) st r a t d h q =
    let (m, f, g) = mapped (called x k) (method_of w) st q in
    subst (λ s. Holds s (ended_at t.on.end r) (a ++ (t ∷ []))) g (called_holds x k m r a t (d ∙ ap (λ v. Word v) (picked method_word w methods m f)) h)
member_holds x k u st r a t d h q = absurd cc

-- ---- constants of BigDecimal, and valueOf

class_read : (z : Term) (w : List ℕ) (more : List Item) (way : Way (Level 9) (word (codes "BigDecimal") ∷ sign Dot ∷ word w ∷ more) (tree z)) (own : List PlacedToken) (i : List Stretch) (t : PlacedToken)
    → t.token ≡ Word w → IsClass own i → Lacks (nodes.makes_node way) more (tree z) (own ++ (t ∷ [])) i
class_read z w more way own i t d (u, v, e, f, g, j) =
    pass_is (nodes.makes_node way) (Word w) more (tree z) own i t d
    (subst (λ o. Lacks (nodes.makes_node way) (word w ∷ more) (tree z) o i) (sym e) (subst (λ n. Lacks (nodes.makes_node way) (word w ∷ more) (tree z) (u ∷ v ∷ []) n) (sym j)
    (pass_is (nodes.makes_node way) (Mark Dot) (word w ∷ more) (tree z) (u ∷ []) [] v g
    (pass_is (nodes.makes_node way) (Word (codes "BigDecimal")) (sign Dot ∷ word w ∷ more) (tree z) [] [] u f (whole_way _ way)))))

constant_holds : (k : List Frame) (c : Constancy) (r : Track) (a : List PlacedToken) (t : PlacedToken) → t.token ≡ Word (constancy_word c) → Holds (Static k) r a
    → Holds (machine.of_class k c) (ended_at t.on.end (constant_track (Some c) t.on.end r)) (a ++ (t ∷ []))
constant_holds k (constant c) r a t d h = (
  noded (Held k r.begins) r.first t.on.end (a ++ (t ∷ [])) r.made (tree (leaf (known c))) (last_end a t)
      (onward (Held k r.begins) IsClass (Lacks true [] (tree (leaf (known c)))) r.first a r.made t (λ own i p. class_read (leaf (known c)) _ [] (grammar.a_known c) own i t d p) h),
  last_end a t,
)
constant_holds k of_number r a t d h = λ u e.
    onward_two (Held k r.begins) IsClass (IsFrame InValue) r.first a r.made t u
    (λ own i p. (
      λ y. pass_opens true (Mark Open) _ _ (own ++ (t ∷ [])) i u e (class_read (one value_of y) (codes "valueOf") _ (grammar.a_value y) own i t d p),
      λ y n g. pass_opens true (Mark Open) _ _ (own ++ (t ∷ [])) i u e (class_read (one (value_of_scaled n) y) (codes "valueOf") _ (grammar.a_scaled_value n y g) own i t d p),
    )) h

abbrev constancies : List Constancy
constancies = constant knowns.Zero ∷ constant knowns.One ∷ constant knowns.Ten ∷ of_number ∷ []

static_holds : (k : List Frame) (u : Token) (st : State) (r : Track) (a : List PlacedToken) (t : PlacedToken) → t.token ≡ u → Holds (Static k) r a → step (Static k) u ≡ Some st
    → Holds st (ended_at t.on.end (step_track (Static k) u t.on r)) (a ++ (t ∷ []))
static_holds k (Word w) st r a t d h q =
    let (c, f, g) = mapped (machine.of_class k) (constancy_of w) st q in
    subst (λ o. Holds st (ended_at t.on.end (constant_track o t.on.end r)) (a ++ (t ∷ []))) (sym f)
    (subst (λ s. Holds s (ended_at t.on.end (constant_track (Some c) t.on.end r)) (a ++ (t ∷ []))) g
    (constant_holds k c r a t (d ∙ ap (λ v. Word v) (picked constancy_word w constancies c f)) h))
static_holds k u st r a t d h q = absurd cc

-- ---- scales and modes

scaled_holds : (j : ScaleUse) (s : ℕ) (r : Track) (a : List PlacedToken) (t : PlacedToken) → t.token ≡ Literal (int s) → s ≤ most_places → Holds (ScaleDue j) r a
    → Holds (scaled j s) (ended_at t.on.end r) (a ++ (t ∷ []))
scaled_holds (valuing x k) s r a t d le h =
    close_due k (suc (level k)) r.begins r.first t.on.end r.made (a ++ (t ∷ [])) (one (value_of_scaled s) x)
    (onward (Held k r.begins) _ (Lacks true (sign Close ∷ []) (tree (one (value_of_scaled s) x))) r.first a r.made t (λ own i p. pass_scale true grammar.of_value s _ _ own i t d (p s le)) h)
scaled_holds (machine.rounding q k) s r a t d le h = onward (Held k r.begins) _ _ r.first a r.made t (λ own i p m. pass_scale true (scaling_of q) s _ _ own i t d (p s m le)) h
scaled_holds (declaring v o) s r a t d le h = absurd h

scale_holds : (j : ScaleUse) (u : Token) (st : State) (r : Track) (a : List PlacedToken) (t : PlacedToken) → t.token ≡ u → Holds (ScaleDue j) r a → step (ScaleDue j) u ≡ Some st
    → Holds st (ended_at t.on.end r) (a ++ (t ∷ []))
scale_holds j (Literal (int s)) st r a t d h q =
    let (c, f) = if_some (nat_le s most_places) (scaled j s) st q in
    subst (λ s. Holds s (ended_at t.on.end r) (a ++ (t ∷ []))) f (scaled_holds j s r a t d (leb-true s most_places c) h)
scale_holds j u st r a t d h q = absurd cc

comma_holds : (g : Rounded) (s : ℕ) (k : List Frame) (u : Token) (st : State) (r : Track) (a : List PlacedToken) (t : PlacedToken) → t.token ≡ u → Holds (Parting g s k) r a
    → step (Parting g s k) u ≡ Some st → Holds st (ended_at t.on.end r) (a ++ (t ∷ []))
comma_holds g s k (Mark Comma) st r a t d h q = moved (machine.Moding g s k) st _ (a ++ (t ∷ [])) q
    (onward (Held k r.begins) _ _ r.first a r.made t (λ own i p m. pass_is true (Mark Comma) _ _ own i t d (p m)) h)
comma_holds g s k u st r a t d h q = absurd cc

held_holds : (g : Rounded) (s : ℕ) (k : List Frame) (o : Holder) (r : Track) (a : List PlacedToken) (t : PlacedToken) → t.token ≡ Word (holder_word o) → Holds (Moding g s k) r a
    → Holds (class_held g s k o) (ended_at t.on.end r) (a ++ (t ∷ []))
held_holds g s k o r a t d h u e = onward_two (Held k r.begins) _ _ r.first a r.made t u (λ own i p. (own, t, u, append_assoc own (t ∷ []) (u ∷ []), d, e, p)) h

mode_holds : (g : Rounded) (s : ℕ) (k : List Frame) (u : Token) (st : State) (r : Track) (a : List PlacedToken) (t : PlacedToken) → t.token ≡ u → Holds (Moding g s k) r a
    → step (Moding g s k) u ≡ Some st → Holds st (ended_at t.on.end r) (a ++ (t ∷ []))
mode_holds g s k (Word w) st r a t d h q =
    let (o, f, e) = mapped (class_held g s k) (holder_of w) st q in
    subst (λ s. Holds s (ended_at t.on.end r) (a ++ (t ∷ []))) e (held_holds g s k o r a t (d ∙ ap (λ v. Word v) (picked holder_word w (the_decimal ∷ the_mode ∷ []) o f)) h)
mode_holds g s k u st r a t d h q = absurd cc

mode_text : (o : Holder) (m : Mode) (t u v : PlacedToken) → t.token ≡ Word (holder_word o) → u.token ≡ Mark Dot → v.token ≡ Word (held_word o m) → StandsOn (t ∷ u ∷ v ∷ []) (mode m) []
mode_text the_decimal m t u v e f g = nodes.by _ (grammar.old_mode m) (nodes.is t e (nodes.is u f (nodes.is v g nodes.done)))
mode_text the_mode m t u v e f g = nodes.by _ (grammar.new_mode m) (nodes.is t e (nodes.is u f (nodes.is v g nodes.done)))

mode_lacks : (g : Rounded) (s : ℕ) (o : Holder) (m : Mode) (own : List PlacedToken) (i : List Stretch) (v : PlacedToken) → v.token ≡ Word (held_word o m)
    → IsModed (λ n own i. Lacks true (grammar.rounding n ∷ sign Close ∷ []) (tree (rounded g s n)) own i) (holder_word o) own i → Lacks true (sign Close ∷ []) (tree (rounded g s m)) (own ++ (v ∷ [])) i
mode_lacks g s o m own i v d (b, t, u, e, f, k, p) =
    subst (λ z. Lacks true (sign Close ∷ []) (tree (rounded g s m)) z i) (sym (ap (λ z. z ++ (v ∷ [])) e ∙ append_assoc b (t ∷ u ∷ []) (v ∷ [])))
    (subst (λ z. Lacks true (sign Close ∷ []) (tree (rounded g s m)) (b ++ (t ∷ u ∷ v ∷ [])) z) (append-nil i)
    (pass_part true free grammar.Rounding (mode m) (sign Close ∷ []) (tree (rounded g s m)) b i (t ∷ u ∷ v ∷ []) [] (mode_text o m t u v f k d) (p m)))

moded_read : (o : Holder) (g : Rounded) (s : ℕ) (k : List Frame) (m : Mode) (r : Track) (a : List PlacedToken) (t : PlacedToken) → t.token ≡ Word (held_word o m) → Holds (Moded o g s k) r a
    → Holds (moded g s k m) (ended_at t.on.end r) (a ++ (t ∷ []))
moded_read o g s k m r a t d h =
    close_due k (suc (level k)) r.begins r.first t.on.end r.made (a ++ (t ∷ [])) (rounded g s m)
    (onward (Held k r.begins) _ (Lacks true (sign Close ∷ []) (tree (rounded g s m))) r.first a r.made t (λ own i p. mode_lacks g s o m own i t d p) h)

abbrev all_modes : List Mode
all_modes = modes.Down ∷ modes.Up ∷ modes.Floor ∷ modes.Ceiling ∷ modes.HalfUp ∷ modes.HalfDown ∷ modes.HalfEven ∷ []

moded_holds : (o : Holder) (g : Rounded) (s : ℕ) (k : List Frame) (u : Token) (st : State) (r : Track) (a : List PlacedToken) (t : PlacedToken) → t.token ≡ u → Holds (Moded o g s k) r a
    → step (Moded o g s k) u ≡ Some st → Holds st (ended_at t.on.end r) (a ++ (t ∷ []))
moded_holds o g s k (Word w) st r a t d h q =
    let (m, f, e) = mapped (moded g s k) (mode_of o w) st q in
    subst (λ s. Holds s (ended_at t.on.end r) (a ++ (t ∷ []))) e (moded_read o g s k m r a t (d ∙ ap (λ v. Word v) (picked (held_word o) w all_modes m f)) h)
moded_holds o g s k u st r a t d h q = absurd cc

-- ---- a sign or a word that is due

due_holds : (n : ℕ) (v : Token) (s : State) (u : Token) (st : State) (r : Track) (a : List PlacedToken) (t : PlacedToken) → t.token ≡ u → Holds (Due n v s) r a → step (Due n v s) u ≡ Some st
    → Holds st (ended_at t.on.end (step_track (Due n v s) u t.on r)) (a ++ (t ∷ []))
due_holds n v s u st r a t d h q =
    let (c, f) = if_some (same_token v u) s st q in
    due_moved n v s st u r a t f (h t (d ∙ sym (token_is v u c)))
  where
    due_moved : (n : ℕ) (v : Token) (s st : State) (u : Token) (r : Track) (a : List PlacedToken) (t : PlacedToken) → s ≡ st → Holds s (ended_at t.on.end (step_track (Due n v s) u t.on r)) (a ++ (t ∷ []))
        → Holds st (ended_at t.on.end (step_track (Due n v s) u t.on r)) (a ++ (t ∷ []))
    due_moved n v s st u r a t f h = subst (λ z. Holds z (ended_at t.on.end (step_track (Due n v s) u t.on r)) (a ++ (t ∷ []))) f h

-- ---- each state's step

pub step_holds : (s : State) (u : Token) (st : State) (r : Track) (a : List PlacedToken) (t : PlacedToken) → t.token ≡ u → Holds s r a → step s u ≡ Some st → Holds st (next_track s u t.on r) (a ++ (t ∷ []))
step_holds (Want k) u st r a t d h q = want_holds k u st r a t d h q
step_holds (Have x k) u st r a t d h q = have_holds x k u st r a t d h q
step_holds (Named w k) u st r a t d h q = named_holds w k u st r a t d h q
step_holds (Due n v s) u st r a t d h q = due_holds n v s u st r a t d h q
step_holds (Member x k) u st r a t d h q = member_holds x k u st r a t d h q
step_holds (Static k) u st r a t d h q = static_holds k u st r a t d h q
step_holds (ScaleDue j) u st r a t d h q = scale_holds j u st r a t d h q
step_holds (Parting g s k) u st r a t d h q = comma_holds g s k u st r a t d h q
step_holds (Moding g s k) u st r a t d h q = mode_holds g s k u st r a t d h q
step_holds (Moded o g s k) u st r a t d h q = moded_holds o g s k u st r a t d h q
step_holds (machine.Done x) u st r a t d h q = absurd cc
step_holds s u st r a t d h q = absurd h
