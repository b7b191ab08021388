-- What is read after a token of a call, of a scale or of a mode.
use Rattle.std.proofs.Common.{◌≡◌, ℕ, suc, ◌+◌, ◌≤◌, true, Some, List, [], ◌∷◌, ◌++◌, refl, sym, ap, subst, append_assoc, arith}
use Rattle.std.specs.Prelude.{codes, nat_le}
use Rattle.std.proofs.lemmas.Bool.{leb-true}
use Rattle.scaled_decimal.specs.Decimals.{decimal}
use Rattle.scaled_decimal.specs.Limits.{most_places}
use Rattle.scaled_decimal.specs.declared.rounding.Mode.{Mode}
use Rattle.scaled_decimal.specs.declared.rounding.Mode.TheVariants as modes
use Rattle.pap_tree.specs.Names.{is_name}
use Rattle.pap_tree.specs.declared.expression.Known.TheVariants as knowns
use Rattle.pap_tree.specs.declared.expression.Call.{Call}
use Rattle.pap_tree.specs.declared.expression.Call.TheVariants as calls
use Rattle.pap_tree.specs.declared.expression.Unary.TheVariants as unaries
use Rattle.pap_tree.specs.Term.{Term, known, unary, value_of, value_of_scaled, set_scale, method, divide, leaf, one, two}
use Rattle.pap_tree.specs.Words.{call_word}
use Rattle.pap_tree.specs.Tokens as tokens
use Rattle.pap_tree.specs.Tokens.{Token, Literal, Word, Mark, Dot, Comma, Open, Close, int}
use Rattle.pap_tree.specs.Grammar as grammar
use Rattle.pap_tree.specs.Grammar.{Item, free, Line, Level, Rounding, LineMeaning, tree, mode, at, sign, word, opens, rounding}
use Rattle.pap_tree.specs.Texts as texts
use Rattle.pap_tree.specs.Texts.{Derives}
use Rattle.pap_tree.specs.Fronts as fronts
use Rattle.pap_tree.specs.Fronts.{Front}
use Rattle.expr_grammar.specs.Machine as machine
use Rattle.expr_grammar.specs.Machine.{Frame, InCall, InValue, Assigning, Rounded, setting, ScaleUse, valuing, declaring, Holder, the_decimal, the_mode, holder_word, holder_of, held_word, mode_of, Method, applied, opposite, magnitude, rescaled, method_word, method_of, Constancy, constant, of_number, constancy_word, constancy_of, State, Want, Have, Due, Member, Static, ScaleDue, Parting, Moding, Moded, Naming, level, called, scaled, class_held, moded, rounded, same_token, step}
use Rattle.expr_grammar.proofs.Words.{picked, mapped, if_some, token_is}
use Rattle.expr_grammar.proofs.Pending.{Pending, Plugs, pass_is, pass_opens, pass_scale, pass_part, finished, front_here, front_inside, further}
use Rattle.expr_grammar.proofs.Levels.{some_term}
use Rattle.expr_grammar.proofs.Stacks.{Stack}
use Rattle.expr_grammar.proofs.Spelled.{PendingCall, Spelled, scaling_of}
use Rattle.expr_grammar.proofs.SpelledFronts.{at_level, placed, plug_whole, plug_call, dotted, of_class, scale_front}
use Rattle.expr_grammar.proofs.WantSteps.{moved, have_of, close_due}
use Rattle.expr_grammar.proofs.ConstantSteps.{big_close_due}

pub due_steps : (line : Line) (n : ℕ) (u : Token) (s : State) (t : Token) (r : State) (a : List Token) → Spelled line (Due n u s) a → step (Due n u s) t ≡ Some r → Spelled line r (a ++ (t ∷ []))
due_steps line n u s t r a h e =
    let (c, f) = if_some (same_token u t) s r e in
    subst (λ t. Spelled line r (a ++ (t ∷ []))) (token_is u t c) (subst (λ s. Spelled line s (a ++ (u ∷ []))) f h.1)

-- ---- methods

-- a method's word was read
method_read : (line : Line) (k : List Frame) (x z : Term) (w : List ℕ) (more : List Item) (a : List Token) → grammar.Way (Level 8) (at 8 x ∷ sign Dot ∷ word w ∷ more) (tree z)
    → Spelled line (Member x k) a → Pending (λ p. Stack line k p) k (Level 8) more 0 (tree z) (a ++ (Word w ∷ []))
method_read line k x z w more a way (p, r, e) = pass_is (λ p. Stack line k p) k (Level 8) (Word w) more 0 (tree z) a (dotted line k x z (word w ∷ more) p a way r e)

open_due : (line : Line) (k : List Frame) (l : Line) (more : List Item) (z : LineMeaning) (s : State) (a : List Token)
    → Plugs (λ p. Stack line k p) k l line (level k)
    → Pending (λ p. Stack line k p) k l (opens Open ∷ more) 0 z a → Spelled line s (a ++ (Mark Open ∷ [])) → Spelled line (Due (level k) (Mark Open) s) a
open_due line k l more z s a plug p h = (at_level line a (0 + level k) (level k) _ (omega arith) (front_here (λ p. Stack line k p) k l line (level k) _ more 0 z a plug refl p), h, tt)

-- after the bracket that a method opens
method_opened : (line : Line) (k : List Frame) (x z : Term) (w : List ℕ) (more : List Item) (a : List Token) → grammar.Way (Level 8) (at 8 x ∷ sign Dot ∷ word w ∷ opens Open ∷ more) (tree z)
    → Spelled line (Member x k) a → PendingCall line k more z ((a ++ (Word w ∷ [])) ++ (Mark Open ∷ []))
method_opened line k x z w more a way h = pass_opens (λ p. Stack line k p) k (Level 8) (Mark Open) more 0 (tree z) _ (method_read line k x z w (opens Open ∷ more) a way h)

call_opened : (line : Line) (k : List Frame) (x : Term) (c : Call) (a : List Token) → Spelled line (Member x k) a → Stack line (InCall c x ∷ k) ((a ++ (Word (call_word c) ∷ [])) ++ (Mark Open ∷ []))
call_opened line k x calls.DivideExact a h = (
  λ y. method_opened line k x (two (method calls.DivideExact) x y) (codes "divide") _ a (grammar.call calls.DivideExact x y) h,
  λ y s m e g. method_opened line k x (two (divide s m) x y) (codes "divide") _ a (grammar.divide_to s m x y g) h,
)
call_opened line k x c a h = (λ y. method_opened line k x (two (method c) x y) (call_word c) _ a (grammar.call c x y) h, λ y s m e g. absurd cc)

called_read : (line : Line) (k : List Frame) (x : Term) (m : Method) (a : List Token) → Spelled line (Member x k) a → Spelled line (called x k m) (a ++ (Word (method_word m) ∷ []))
called_read line k x (applied c) a h =
    open_due line k (Level 8) _ _ (Want (InCall c x ∷ k)) _ (plug_call line k) (method_read line k x (two (method c) x some_term) (call_word c) _ a (grammar.call c x some_term) h) (call_opened line k x c a h)
called_read line k x opposite a h =
    let way = grammar.plain_call unaries.Negate (codes "negate") x grammar.negate in
    open_due line k (Level 8) _ _ (Due (suc (level k)) (Mark Close) (Have (one (unary unaries.Negate) x) k)) _ (plug_call line k) (method_read line k x _ (codes "negate") _ a way h) (close_due line k 8 (one (unary unaries.Negate) x) _ (omega arith) (method_opened line k x _ (codes "negate") _ a way h))
called_read line k x magnitude a h =
    let way = grammar.plain_call unaries.Abs (codes "abs") x grammar.abs in
    open_due line k (Level 8) _ _ (Due (suc (level k)) (Mark Close) (Have (one (unary unaries.Abs) x) k)) _ (plug_call line k) (method_read line k x _ (codes "abs") _ a way h) (close_due line k 8 (one (unary unaries.Abs) x) _ (omega arith) (method_opened line k x _ (codes "abs") _ a way h))
called_read line k x rescaled a h =
    open_due line k (Level 8) _ _ (ScaleDue (machine.rounding (setting x) k)) _ (plug_call line k) (method_read line k x _ (codes "setScale") _ a (grammar.set_scale_to 0 modes.Up x (omega arith)) h)
    (λ s m g. method_opened line k x (one (set_scale s m) x) (codes "setScale") _ a (grammar.set_scale_to s m x g) h)

abbrev methods : List Method
methods = applied calls.Add ∷ applied calls.Subtract ∷ applied calls.Multiply ∷ applied calls.DivideExact ∷ applied calls.CompareTo
    ∷ applied calls.Min ∷ applied calls.Max ∷ opposite ∷ magnitude ∷ rescaled ∷ []

pub member_steps : (line : Line) (x : Term) (k : List Frame) (t : Token) (r : State) (a : List Token) → Spelled line (Member x k) a → step (Member x k) t ≡ Some r → Spelled line r (a ++ (t ∷ []))
member_steps line x k (Word w) r a h e =
    let (m, f, g) = mapped (called x k) (method_of w) r e in
    subst (λ w. Spelled line r (a ++ (Word w ∷ []))) (sym (picked method_word w methods m f))
    (subst (λ r. Spelled line r (a ++ (Word (method_word m) ∷ []))) g (called_read line k x m a h))
member_steps line x k t r a h e = absurd cc

-- ---- constants of BigDecimal, and valueOf

class_read : (line : Line) (k : List Frame) (c : Constancy) (a : List Token) → Spelled line (Static k) a → Spelled line (machine.of_class k c) (a ++ (Word (constancy_word c) ∷ []))
class_read line k (constant c) a (p, s, e) =
    have_of line k 9 (leaf (known c)) _ (omega arith) (finished (λ p. Stack line k p) k (Level 9) 0 _ _
    (pass_is (λ p. Stack line k p) k (Level 9) _ [] 0 _ a (of_class line k (leaf (known c)) _ p a (grammar.a_known c) s e)))
class_read line k of_number a (p, s, e) =
    let word_read : (z : Term) (more : List Item) → grammar.Way (Level 9) (word (codes "BigDecimal") ∷ sign Dot ∷ word (codes "valueOf") ∷ opens Open ∷ more) (tree z)
    → Pending (λ p. Stack line k p) k (Level 9) (opens Open ∷ more) 0 (tree z) (a ++ (Word (codes "valueOf") ∷ []))
    = λ z more way. pass_is (λ p. Stack line k p) k (Level 9) (Word (codes "valueOf")) (opens Open ∷ more) 0 (tree z) a (of_class line k z _ p a way s e) in
    open_due line k (Level 9) _ _ (Want (InValue ∷ k)) _ (plug_whole line k) (word_read (one value_of some_term) _ (grammar.a_value some_term)) (
      λ y. pass_opens (λ p. Stack line k p) k (Level 9) (Mark Open) _ 0 _ _ (word_read (one value_of y) _ (grammar.a_value y)),
      λ y n g. pass_opens (λ p. Stack line k p) k (Level 9) (Mark Open) _ 0 _ _ (word_read (one (value_of_scaled n) y) _ (grammar.a_scaled_value n y g)),
    )

abbrev constancies : List Constancy
constancies = constant knowns.Zero ∷ constant knowns.One ∷ constant knowns.Ten ∷ of_number ∷ []

pub static_steps : (line : Line) (k : List Frame) (t : Token) (r : State) (a : List Token) → Spelled line (Static k) a → step (Static k) t ≡ Some r → Spelled line r (a ++ (t ∷ []))
static_steps line k (Word w) r a h e =
    let (c, f, g) = mapped (machine.of_class k) (constancy_of w) r e in
    subst (λ w. Spelled line r (a ++ (Word w ∷ []))) (sym (picked constancy_word w constancies c f))
    (subst (λ r. Spelled line r (a ++ (Word (constancy_word c) ∷ []))) g (class_read line k c a h))
static_steps line k t r a h e = absurd cc

-- ---- scales

scaled_read : (line : Line) (j : ScaleUse) (s : ℕ) (a : List Token) → s ≤ most_places → Spelled line (ScaleDue j) a → Spelled line (scaled j s) (a ++ (Literal (int s) ∷ []))
scaled_read line (valuing x k) s a le h = close_due line k 9 (one (value_of_scaled s) x) _ (omega arith) (pass_scale (λ p. Stack line k p) k (Level 9) grammar.of_value s _ 1 _ a (h s le))
scaled_read line (machine.rounding r k) s a le h = (
  λ m. pass_scale (λ p. Stack line k p) k (Level 8) (scaling_of r) s _ 1 _ a (h s m le),
  (a, refl, (suc (level k), 0, scale_front line (machine.rounding r k) a h)),
)
scaled_read line (declaring i r) s a le h = big_close_due line r (decimal i s) _ (pass_scale _ [] grammar.Big grammar.of_value s _ 1 _ a (h s le))

pub scale_steps : (line : Line) (j : ScaleUse) (t : Token) (r : State) (a : List Token) → Spelled line (ScaleDue j) a → step (ScaleDue j) t ≡ Some r → Spelled line r (a ++ (t ∷ []))
scale_steps line j (Literal (int s)) r a h e =
    let (c, f) = if_some (nat_le s most_places) (scaled j s) r e in
    subst (λ r. Spelled line r (a ++ (Literal (int s) ∷ []))) f (scaled_read line j s a (leb-true s most_places c) h)
scale_steps line j t r a h e = absurd cc

-- ---- modes

pub comma_steps : (line : Line) (q : Rounded) (s : ℕ) (k : List Frame) (t : Token) (r : State) (a : List Token) → Spelled line (Parting q s k) a → step (Parting q s k) t ≡ Some r
    → Spelled line r (a ++ (t ∷ []))
comma_steps line q s k (Mark Comma) r a h e = moved line (Moding q s k) r _ e (λ m. pass_is (λ p. Stack line k p) k (Level 8) (Mark Comma) _ 1 _ a (h.0 m))
comma_steps line q s k t r a h e = absurd cc

holder_front : (h : Holder) → Front Rounding (Word (holder_word h) ∷ []) 0 (Some (sign Dot))
holder_front the_decimal = fronts.by _ (grammar.old_mode modes.Up) (fronts.is fronts.here)
holder_front the_mode = fronts.by _ (grammar.new_mode modes.Up) (fronts.is fronts.here)

held_read : (line : Line) (q : Rounded) (s : ℕ) (k : List Frame) (h : Holder) (a : List Token) → Spelled line (Moding q s k) a → Spelled line (class_held q s k h) (a ++ (Word (holder_word h) ∷ []))
held_read line q s k h a p = (
  at_level line _ ((1 + 0) + level k) (suc (level k)) _ (omega arith)
      (front_inside (λ p. Stack line k p) k (Level 8) line (level k) free Rounding (mode modes.Up) _ 1 _ a (Word (holder_word h) ∷ []) 0 _ (plug_call line k) refl (holder_front h) (p modes.Up)),
  (a, p, append_assoc a (Word (holder_word h) ∷ []) (Mark Dot ∷ [])),
  refl,
)

pub mode_steps : (line : Line) (q : Rounded) (s : ℕ) (k : List Frame) (t : Token) (r : State) (a : List Token) → Spelled line (Moding q s k) a → step (Moding q s k) t ≡ Some r
    → Spelled line r (a ++ (t ∷ []))
mode_steps line q s k (Word w) r a h e =
    let (c, f, g) = mapped (class_held q s k) (holder_of w) r e in
    subst (λ w. Spelled line r (a ++ (Word w ∷ []))) (sym (picked holder_word w (the_decimal ∷ the_mode ∷ []) c f))
    (subst (λ r. Spelled line r (a ++ (Word (holder_word c) ∷ []))) g (held_read line q s k c a h))
mode_steps line q s k t r a h e = absurd cc

mode_text : (h : Holder) (m : Mode) → Derives Rounding (Word (holder_word h) ∷ Mark Dot ∷ Word (held_word h m) ∷ []) (mode m)
mode_text the_decimal m = texts.by _ (grammar.old_mode m) (texts.is (texts.is (texts.is texts.done)))
mode_text the_mode m = texts.by _ (grammar.new_mode m) (texts.is (texts.is (texts.is texts.done)))

moded_read : (line : Line) (h : Holder) (q : Rounded) (s : ℕ) (k : List Frame) (m : Mode) (a : List Token) → Spelled line (Moded h q s k) a → Spelled line (moded q s k m) (a ++ (Word (held_word h m) ∷ []))
moded_read line h q s k m a (p, c, e) =
    close_due line k 8 (rounded q s m) _ (omega arith)
    (subst (λ b. PendingCall line k (sign Close ∷ []) (rounded q s m) b) (sym (further a p (Word (holder_word h) ∷ Mark Dot ∷ []) (Word (held_word h m) ∷ []) e))
    (pass_part (λ p. Stack line k p) k (Level 8) free Rounding (mode m) _ 1 _ p (Word (holder_word h) ∷ Mark Dot ∷ Word (held_word h m) ∷ []) refl (λ c. refl) (mode_text h m) (c m)))

abbrev all_modes : List Mode
all_modes = modes.Down ∷ modes.Up ∷ modes.Floor ∷ modes.Ceiling ∷ modes.HalfUp ∷ modes.HalfDown ∷ modes.HalfEven ∷ []

pub moded_steps : (line : Line) (h : Holder) (q : Rounded) (s : ℕ) (k : List Frame) (t : Token) (r : State) (a : List Token) → Spelled line (Moded h q s k) a → step (Moded h q s k) t ≡ Some r
    → Spelled line r (a ++ (t ∷ []))
moded_steps line h q s k (Word w) r a c e =
    let (m, f, g) = mapped (moded q s k) (mode_of h w) r e in
    subst (λ w. Spelled line r (a ++ (Word w ∷ []))) (sym (picked (held_word h) w all_modes m f))
    (subst (λ r. Spelled line r (a ++ (Word (held_word h m) ∷ []))) g (moded_read line h q s k m a c))
moded_steps line h q s k t r a c e = absurd cc

-- ---- assignments

named_due : (line : Line) (w : List ℕ) (a : List Token) → Spelled line Naming a → is_name w ≡ true → Spelled line (Due 0 (Mark tokens.Equals) (Want (Assigning w ∷ []))) (a ++ (Word w ∷ []))
named_due line w a (e, f) h =
    let g : a ++ (Word w ∷ []) ≡ Word w ∷ [] = ap (λ a. a ++ (Word w ∷ [])) f in (
      placed line (Word w ∷ []) _ 0 _ (sym g) (subst (λ l. Front l (Word w ∷ []) 0 (Some (sign tokens.Equals))) (sym e) (fronts.by _ (grammar.assign w some_term h) (fronts.is fronts.here))),
      (e, refl, h, ap (λ b. b ++ (Mark tokens.Equals ∷ [])) g),
      tt,
    )

pub naming_steps : (line : Line) (t : Token) (r : State) (a : List Token) → Spelled line Naming a → step Naming t ≡ Some r → Spelled line r (a ++ (t ∷ []))
naming_steps line (Word w) r a h e =
    let (c, f) = if_some (is_name w) (Due 0 (Mark tokens.Equals) (Want (Assigning w ∷ []))) r e in
    subst (λ r. Spelled line r (a ++ (Word w ∷ []))) f (named_due line w a h c)
naming_steps line t r a h e = absurd cc
