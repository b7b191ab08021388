-- What is read after a token of a constant.
use Rattle.std.proofs.Common.{◌≡◌, ℕ, ◌+◌, Option, Some, None, List, [], ◌∷◌, ◌++◌, ℤ, pos, refl, sym, ap, subst, ◌∙◌, append_assoc, arith}
use Rattle.std.specs.Prelude.{codes}
use Rattle.std.proofs.lemmas.List.{append-nil}
use Rattle.scaled_decimal.specs.Decimals.{Decimal, decimal}
use Rattle.scaled_decimal.specs.Shortening.{IsShortened}
use Rattle.pap_tree.specs.declared.expression.Known.TheVariants as knowns
use Rattle.pap_tree.specs.declared.expression.Binary.TheVariants as binaries
use Rattle.pap_tree.specs.Term as terms
use Rattle.pap_tree.specs.Term.{Leaf, point}
use Rattle.pap_tree.specs.Declarations.{big, number, table}
use Rattle.pap_tree.specs.Tokens as tokens
use Rattle.pap_tree.specs.Tokens.{Number, Token, Literal, Quoted, Word, Operator, Mark, Dot, Comma, Open, Close, OpenTable, CloseTable}
use Rattle.pap_tree.specs.Grammar as grammar
use Rattle.pap_tree.specs.Grammar.{LiteralForm, an_int, a_long, a_point, Item, Is, free, Line, Constant, Big, Bigs, LineMeaning, literal, declared, decimals, sign, word, leaf_of, negative_of, form_of, known_value}
use Rattle.pap_tree.specs.Texts as texts
use Rattle.pap_tree.specs.Texts.{Derives}
use Rattle.pap_tree.specs.Fronts as fronts
use Rattle.pap_tree.specs.Fronts.{Front}
use Rattle.expr_grammar.specs.Shortened.{shortened_places}
use Rattle.expr_grammar.specs.Machine.{Room, Alone, InTable, declaring, Slot, OfLine, OfValue, OfNew, Head, the_class, a_new, head_word, head_of, constant, of_number, constancy_word, constancy_of, State, Due, ScaleDue, Signed, Minus, ValuedInt, ValuedPoint, Settling, Listing, Listed, Done, filled, settled, big_begun, big_step, settling, step}
use Rattle.expr_grammar.proofs.ShortenedLemmas.{is_shortened}
use Rattle.expr_grammar.proofs.Words.{picked, mapped}
use Rattle.expr_grammar.proofs.Pending.{pass_is, pass_part, finished, front_here, front_inside, further, text_front}
use Rattle.expr_grammar.proofs.Starts.{begun}
use Rattle.expr_grammar.proofs.Spelled.{IsTabled, IsListed, Place, PendingBig, IsSlot, Spelled, class_tokens, value_tokens}
use Rattle.expr_grammar.proofs.SpelledFronts.{IsAt, at_level, plug_big, of_big_class, of_big_value, of_big_new}
use Rattle.expr_grammar.proofs.WantSteps.{moved}

-- ---- a decimal is read

text_is : (l : Line) (a b : List Token) (x : LineMeaning) → a ≡ b → Derives l a x → Derives l b x
text_is l a b x e t = subst (λ a. Derives l a x) e t

last_text : (b : List Token) (d : Decimal) → Derives Big b (declared (big d)) → Derives Bigs b (decimals (d ∷ []))
last_text b d t = text_is Bigs (b ++ []) b _ (append-nil b) (texts.by _ (grammar.last_big d) (texts.part refl t texts.done))

more_text : (b c : List Token) (d : Decimal) (es : List Decimal) → Derives Big b (declared (big d)) → Derives Bigs c (decimals es) → Derives Bigs (b ++ (Mark Comma ∷ c)) (decimals (d ∷ es))
more_text b c d es t u =
    text_is Bigs (b ++ (Mark Comma ∷ (c ++ []))) (b ++ (Mark Comma ∷ c)) _ (ap (λ c. b ++ (Mark Comma ∷ c)) (append-nil c))
    (texts.by _ (grammar.more_bigs d es) (texts.part refl t (texts.is (texts.part refl u texts.done))))

more_front : (b c : List Token) (d : Decimal) (n : ℕ) (i : Option Item) → Derives Big b (declared (big d)) → Front Bigs c n i → Front Bigs (b ++ (Mark Comma ∷ c)) n i
more_front b c d n i t f = fronts.by _ (grammar.more_bigs d []) (fronts.past refl t (fronts.is (fronts.inside n (omega arith) refl f)))

-- the tokens up to a comma, and those after it
comma_after : (a p b c : List Token) → a ≡ p ++ b → p ++ (b ++ (Mark Comma ∷ c)) ≡ (a ++ (Mark Comma ∷ [])) ++ c
comma_after a p b c e = sym (append_assoc p b (Mark Comma ∷ c)) ∙ ap (λ z. z ++ (Mark Comma ∷ c)) (sym e) ∙ sym (append_assoc a (Mark Comma ∷ []) c)

-- the table goes on after one more decimal
tabled : (line : Line) (ds : List Decimal) (d : Decimal) (p b a : List Token) → IsTabled line ds p → Derives Big b (declared (big d)) → a ≡ p ++ b → IsTabled line (ds ++ (d ∷ [])) (a ++ (Mark Comma ∷ []))
tabled line ds d p b a h t e = record {
  line = h.line;
  fronts = λ c n i f. subst (λ z. Front Constant z n i) (comma_after a p b c e) (h.fronts (b ++ (Mark Comma ∷ c)) n i (more_front b c d n i t f));
  texts = λ c es u. subst (λ (all : List Decimal). Derives Constant ((a ++ (Mark Comma ∷ [])) ++ (c ++ (Mark CloseTable ∷ []))) (declared (table all))) (sym (append_assoc ds (d ∷ []) es))
      (text_is Constant (p ++ ((b ++ (Mark Comma ∷ c)) ++ (Mark CloseTable ∷ []))) ((a ++ (Mark Comma ∷ [])) ++ (c ++ (Mark CloseTable ∷ []))) _
      (ap (λ z. p ++ z) (append_assoc b (Mark Comma ∷ c) (Mark CloseTable ∷ [])) ∙ comma_after a p b (c ++ (Mark CloseTable ∷ [])) e)
      (h.texts (b ++ (Mark Comma ∷ c)) (d ∷ es) (more_text b c d es t u)));
}

listed : (line : Line) (ds : List Decimal) (d : Decimal) (p b a : List Token) → IsTabled line ds p → Derives Big b (declared (big d)) → a ≡ p ++ b → IsListed line (ds ++ (d ∷ [])) a
listed line ds d p b a h t e = record {
  line = h.line;
  next = None;
  front = subst (λ z. Front Constant z 0 None) (sym e) (h.fronts b 0 None (text_front (last_text b d t)));
  text = text_is Constant (p ++ (b ++ (Mark CloseTable ∷ []))) (a ++ (Mark CloseTable ∷ [])) _ (sym (further a p b (Mark CloseTable ∷ []) e)) (h.texts b (d ∷ []) (last_text b d t));
  more = tabled line ds d p b a h t e;
}

-- the whole line is one text
lone_text : (line : Line) (p b a : List Token) (x : LineMeaning) → (line ≡ Constant) × (p ≡ []) → a ≡ p ++ b → Derives Constant b x → Derives line a x
lone_text line p b a x (f, g) e t = subst (λ l. Derives l a x) (sym f) (text_is Constant b a x (sym (e ∙ ap (λ p. p ++ b) g)) t)

settle : (line : Line) (r : Room) (m : ℕ) (d : Decimal) (a : List Token) → PendingBig line r [] m d a → Spelled line (settled r d) a
settle line Alone m d a h =
    let c = finished (λ p. Place line Alone p) [] Big m (declared (big d)) a h in
    lone_text line c.before c.own a _ c.context c.whole
    (text_is Constant (c.own ++ []) c.own _ (append-nil c.own) (texts.by _ (grammar.big_constant d) (texts.part refl c.text texts.done)))
settle line (InTable ds) m d a h =
    let c = finished (λ p. Place line (InTable ds) p) [] Big m (declared (big d)) a h in
    listed line ds d c.before c.own a c.context c.text c.whole

settle_at : (line : Line) (r : Room) (t : Token) (m : ℕ) (d : Decimal) (a : List Token) → PendingBig line r (Is t ∷ []) m d a → Spelled line (settled r d) (a ++ (t ∷ []))
settle_at line r t m d a h = settle line r m d _ (pass_is (λ p. Place line r p) [] Big t [] m (declared (big d)) a h)

-- a closing bracket is due
pub big_close_due : (line : Line) (r : Room) (d : Decimal) (a : List Token) → PendingBig line r (sign Close ∷ []) 1 d a → Spelled line (Due 1 (Mark Close) (settled r d)) a
big_close_due line r d a h =
    (at_level line a (1 + 0) 1 _ (omega arith) (front_here (λ p. Place line r p) [] Big line 0 _ _ 1 _ a (plug_big line r) refl h), settle_at line r (Mark Close) 1 d a h, tt)

-- ---- literals

form_of_leaf : Leaf → LiteralForm
form_of_leaf (terms.long i) = a_long
form_of_leaf (point d) = a_point
form_of_leaf _ = an_int

plain_form : (n : Number) → form_of n ≡ form_of_leaf (leaf_of n)
unfolding form_of_leaf
plain_form (tokens.int n) = refl
plain_form (tokens.long n) = refl
plain_form (tokens.point d) = refl

minus_form : (n : Number) → form_of n ≡ form_of_leaf (negative_of n)
unfolding form_of_leaf
minus_form (tokens.int n) = refl
minus_form (tokens.long n) = refl
minus_form (tokens.point d) = refl

some_shortened : IsShortened (decimal (pos 0) 1) 1 (decimal (pos 0) 1)
some_shortened = record { low = omega arith; high = omega arith; same = refl; short = λ h. refl }

value_passed : (line : Line) (r : Room) (d : Decimal) (l : Leaf) (f : LiteralForm) (more : List Item) (q p b a : List Token)
    → grammar.Way Big (word (codes "BigDecimal") ∷ sign Dot ∷ word (codes "valueOf") ∷ grammar.opens Open ∷ grammar.signed f l ∷ more) (declared (big d)) → Place line r q → p ≡ q ++ value_tokens
    → Derives (grammar.Signed f) b (literal l) → a ≡ p ++ b → PendingBig line r more 1 d a
value_passed line r d l f more q p b a w s g t e =
    subst (λ a. PendingBig line r more 1 d a) (sym e)
    (pass_part (λ p. Place line r p) [] Big free (grammar.Signed f) (literal l) more 1 (declared (big d)) p b refl (λ c. refl) t (of_big_value line r d (grammar.signed f l ∷ more) q p w s g))

point_front : (line : Line) (r : Room) (d : Decimal) (q p b a : List Token) → Place line r q → p ≡ q ++ value_tokens → Derives (grammar.Signed a_point) b (literal (point d)) → a ≡ p ++ b → IsAt line a 1
point_front line r d q p b a s g t e =
    at_level line a ((1 + 0) + 0) 1 None (omega arith) (subst (λ a. Front line a ((1 + 0) + 0) None) (sym e)
    (front_inside (λ p. Place line r p) [] Big line 0 free (grammar.Signed a_point) (literal (point (decimal (pos 0) 1))) _ 1 _ p b 0 None (plug_big line r) refl (text_front t)
    (of_big_value line r (decimal (pos 0) 1) (grammar.signed a_point (point (decimal (pos 0) 1)) ∷ sign Close ∷ []) q p
    (grammar.big_of_point (decimal (pos 0) 1) (decimal (pos 0) 1) some_shortened) s g)))

filled_steps : (line : Line) (s : Slot) (l : Leaf) (r : State) (p b a : List Token) → IsSlot line s p → Derives (grammar.Signed (form_of_leaf l)) b (literal l) → a ≡ p ++ b → filled s l ≡ Some r → Spelled line r a
unfolding form_of_leaf
filled_steps line OfLine l r p b a s t e f =
    moved line (Done (declared (number l))) r a f (lone_text line p b a _ s e
    (text_is Constant (b ++ []) b _ (append-nil b) (texts.by _ (grammar.number_constant (form_of_leaf l) l) (texts.part refl t texts.done))))
filled_steps line (OfValue o) (terms.whole i) r p b a (q, s, g) t e f = moved line (ValuedInt i o) r a f (
  value_passed line o (decimal i 0) (terms.whole i) an_int (sign Close ∷ []) q p b a (grammar.big_of_int i) s g t e,
  λ n h. value_passed line o (decimal i n) (terms.whole i) an_int (sign Comma ∷ grammar.Scale grammar.of_value n ∷ sign Close ∷ []) q p b a (grammar.big_of_scaled i n h) s g t e,
)
filled_steps line (OfValue o) (point d) r p b a (q, s, g) t e f = moved line (ValuedPoint d o) r a f (
  point_front line o d q p b a s g t e,
  λ c h. value_passed line o c (point d) a_point (sign Close ∷ []) q p b a (grammar.big_of_point d c h) s g t e,
)
filled_steps line (OfNew o) (terms.whole i) r p b a (q, s, g) t e f =
    moved line _ r a f (big_close_due line o (decimal i 0) a (subst (λ a. PendingBig line o (sign Close ∷ []) 1 (decimal i 0) a) (sym e)
    (pass_part (λ p. Place line o p) [] Big free (grammar.Signed an_int) (literal (terms.whole i)) (sign Close ∷ []) 1 (declared (big (decimal i 0))) p b refl (λ c. refl) t
    (of_big_new line o (decimal i 0) (grammar.signed an_int (terms.whole i) ∷ sign Close ∷ []) q p (grammar.big_new i) s g))))
filled_steps line s l r p b a h t e f = absurd cc

plain_text : (n : Number) → Derives (grammar.Signed (form_of_leaf (leaf_of n))) (Literal n ∷ []) (literal (leaf_of n))
plain_text n = texts.by _ (grammar.without_sign (form_of_leaf (leaf_of n)) n (plain_form n)) (texts.is texts.done)

minus_text : (n : Number) → Derives (grammar.Signed (form_of_leaf (negative_of n))) (Operator binaries.Sub ∷ Literal n ∷ []) (literal (negative_of n))
minus_text n = texts.by _ (grammar.with_sign (form_of_leaf (negative_of n)) n (minus_form n)) (texts.opens (texts.is texts.done))

-- ---- the words of a decimal

class_due : (line : Line) (r : Room) (a : List Token) → Place line r a → Spelled line (big_begun r the_class) (a ++ (Word (codes "BigDecimal") ∷ []))
class_due line r a s = (
  at_level line _ (0 + 0) 0 _ (omega arith) (front_here (λ p. Place line r p) [] Big line 0 _ _ 0 _ _ (plug_big line r) refl
      (begun (λ p. Place line r p) [] Big (sign Dot ∷ word (codes "ZERO") ∷ []) 0 _ a (Word (codes "BigDecimal") ∷ []) _ s tt (λ c f. refl)
      (λ c n i f. fronts.by _ (grammar.big_known knowns.Zero) (fronts.is f)) (λ c f. texts.by _ (grammar.big_known knowns.Zero) (texts.is f)) refl)),
  (a, s, append_assoc a (Word (codes "BigDecimal") ∷ []) (Mark Dot ∷ [])),
  refl,
)

abbrev new_class : List Token
new_class = Word (codes "new") ∷ Word (codes "BigDecimal") ∷ []

new_due : (line : Line) (r : Room) (a b : List Token) → Place line r a → b ≡ a ++ new_class → Spelled line (Due 0 (Mark Open) (Signed (OfNew r))) b
new_due line r a b s e = (
  at_level line b (0 + 0) 0 _ (omega arith) (front_here (λ p. Place line r p) [] Big line 0 _ _ 0 _ b (plug_big line r) refl
      (begun (λ p. Place line r p) [] Big (grammar.opens Open ∷ grammar.signed an_int (terms.whole (pos 0)) ∷ sign Close ∷ []) 0 _ a new_class b s tt (λ c f. refl)
      (λ c n i f. fronts.by _ (grammar.big_new (pos 0)) (fronts.is (fronts.is f))) (λ c f. texts.by _ (grammar.big_new (pos 0)) (texts.is (texts.is f))) e)),
  (a, s, further b a new_class (Mark Open ∷ []) e),
  tt,
)

class_of_new : (line : Line) (r : Room) (a : List Token) → Place line r a → Spelled line (big_begun r a_new) (a ++ (Word (codes "new") ∷ []))
class_of_new line r a s = (
  at_level line _ (0 + 0) 0 _ (omega arith) (front_here (λ p. Place line r p) [] Big line 0 _ _ 0 _ _ (plug_big line r) refl
      (begun (λ p. Place line r p) [] Big (word (codes "BigDecimal") ∷ grammar.opens Open ∷ grammar.signed an_int (terms.whole (pos 0)) ∷ sign Close ∷ []) 0 _ a (Word (codes "new") ∷ []) _ s tt
      (λ c f. refl) (λ c n i f. fronts.by _ (grammar.big_new (pos 0)) (fronts.is f)) (λ c f. texts.by _ (grammar.big_new (pos 0)) (texts.is f)) refl)),
  new_due line r a _ s (append_assoc a (Word (codes "new") ∷ []) (Word (codes "BigDecimal") ∷ [])),
  refl,
)

head_due : (line : Line) (r : Room) (h : Head) (a : List Token) → Place line r a → Spelled line (big_begun r h) (a ++ (Word (head_word h) ∷ []))
head_due line r the_class a s = class_due line r a s
head_due line r a_new a s = class_of_new line r a s

big_steps : (line : Line) (o : Room) (w : List ℕ) (r : State) (a : List Token) → Place line o a → big_step o w ≡ Some r → Spelled line r (a ++ (Word w ∷ []))
big_steps line o w r a s e =
    let (h, f, g) = mapped (big_begun o) (head_of w) r e in
    subst (λ w. Spelled line r (a ++ (Word w ∷ []))) (sym (picked head_word w (the_class ∷ a_new ∷ []) h f))
    (subst (λ r. Spelled line r (a ++ (Word (head_word h) ∷ []))) g (head_due line o h a s))

-- ---- the states

opened_table : (line : Line) (a : List Token) → (line ≡ Constant) × (a ≡ []) → IsTabled line [] (a ++ (Mark OpenTable ∷ []))
opened_table line a (e, f) = record {
  line = e;
  fronts = λ b n i g. subst (λ a. Front Constant ((a ++ (Mark OpenTable ∷ [])) ++ b) n i) (sym f) (fronts.by _ (grammar.table_constant []) (fronts.is (fronts.inside n (omega arith) refl g)));
  texts = λ b es t. subst (λ a. Derives Constant ((a ++ (Mark OpenTable ∷ [])) ++ (b ++ (Mark CloseTable ∷ []))) (declared (table es))) (sym f)
      (texts.by _ (grammar.table_constant es) (texts.is (texts.part refl t (texts.is texts.done))));
}

pub signed_steps : (line : Line) (s : Slot) (t : Token) (r : State) (a : List Token) → IsSlot line s a → step (Signed s) t ≡ Some r → Spelled line r (a ++ (t ∷ []))
signed_steps line s (Literal n) r a h e = filled_steps line s (leaf_of n) r a (Literal n ∷ []) _ h (plain_text n) refl e
signed_steps line s (Operator binaries.Sub) r a h e = moved line (Minus s) r _ e (a, h, refl)
signed_steps line OfLine (Word w) r a h e = big_steps line Alone w r a h e
signed_steps line OfLine (Mark OpenTable) r a h e = moved line (Listing []) r _ e (opened_table line a h)
signed_steps line (OfNew o) (Quoted d) r a (p, s, f) e =
    moved line _ r _ e (big_close_due line o d _ (pass_is (λ p. Place line o p) [] Big (Quoted d) (sign Close ∷ []) 1 (declared (big d)) a
    (of_big_new line o d (Is (Quoted d) ∷ sign Close ∷ []) p a (grammar.big_new_text d) s f)))
signed_steps line OfLine t r a h e = absurd cc
signed_steps line (OfValue o) t r a h e = absurd cc
signed_steps line (OfNew o) t r a h e = absurd cc

pub minus_steps : (line : Line) (s : Slot) (t : Token) (r : State) (a : List Token) → Spelled line (Minus s) a → step (Minus s) t ≡ Some r → Spelled line r (a ++ (t ∷ []))
minus_steps line s (Literal n) r a (p, h, f) e =
    filled_steps line s (negative_of n) r p (Operator binaries.Sub ∷ Literal n ∷ []) _ h (minus_text n) (further a p (Operator binaries.Sub ∷ []) (Literal n ∷ []) f) e
minus_steps line s t r a h e = absurd cc

pub int_steps : (line : Line) (i : ℤ) (o : Room) (t : Token) (r : State) (a : List Token) → Spelled line (ValuedInt i o) a → step (ValuedInt i o) t ≡ Some r → Spelled line r (a ++ (t ∷ []))
int_steps line i o (Mark Close) r a h e = moved line (settled o (decimal i 0)) r _ e (settle_at line o (Mark Close) 1 (decimal i 0) a h.0)
int_steps line i o (Mark Comma) r a h e = moved line (ScaleDue (declaring i o)) r _ e (λ s g. pass_is (λ p. Place line o p) [] Big (Mark Comma) _ 1 _ a (h.1 s g))
int_steps line i o t r a h e = absurd cc

pub point_steps : (line : Line) (d : Decimal) (o : Room) (t : Token) (r : State) (a : List Token) → Spelled line (ValuedPoint d o) a → step (ValuedPoint d o) t ≡ Some r → Spelled line r (a ++ (t ∷ []))
point_steps line d o (Mark Close) r a h e =
    let (c, f, g) = mapped (settled o) (shortened_places d) r e in
    subst (λ r. Spelled line r (a ++ (Mark Close ∷ []))) g (settle_at line o (Mark Close) 1 c a (h.1 c (is_shortened d c f)))
point_steps line d o t r a h e = absurd cc

settling_due : (line : Line) (o : Room) (c : _) (a : List Token) → Spelled line (Settling o) a → Spelled line (settling o c) (a ++ (Word (constancy_word c) ∷ []))
settling_due line o (constant k) a (p, s, e) = settle_at line o _ 0 (known_value k) a (of_big_class line o (known_value k) _ p a (grammar.big_known k) s e)
settling_due line o of_number a (p, s, e) = (
  at_level line _ (0 + 0) 0 _ (omega arith) (front_here (λ p. Place line o p) [] Big line 0 _ _ 0 _ _ (plug_big line o) refl
      (pass_is (λ p. Place line o p) [] Big (Word (codes "valueOf")) _ 0 _ a (of_big_class line o (decimal (pos 0) 0) _ p a (grammar.big_of_int (pos 0)) s e))),
  (p, s, further (a ++ (Word (codes "valueOf") ∷ [])) p (Word (codes "BigDecimal") ∷ Mark Dot ∷ Word (codes "valueOf") ∷ []) (Mark Open ∷ []) (further a p class_tokens (Word (codes "valueOf") ∷ []) e)),
  tt,
)

pub settling_steps : (line : Line) (o : Room) (t : Token) (r : State) (a : List Token) → Spelled line (Settling o) a → step (Settling o) t ≡ Some r → Spelled line r (a ++ (t ∷ []))
settling_steps line o (Word w) r a h e =
    let (c, f, g) = mapped (settling o) (constancy_of w) r e in
    subst (λ w. Spelled line r (a ++ (Word w ∷ []))) (sym (picked constancy_word w (constant knowns.Zero ∷ constant knowns.One ∷ constant knowns.Ten ∷ of_number ∷ []) c f))
    (subst (λ r. Spelled line r (a ++ (Word (constancy_word c) ∷ []))) g (settling_due line o c a h))
settling_steps line o t r a h e = absurd cc

pub listing_steps : (line : Line) (ds : List Decimal) (t : Token) (r : State) (a : List Token) → Spelled line (Listing ds) a → step (Listing ds) t ≡ Some r → Spelled line r (a ++ (t ∷ []))
listing_steps line ds (Word w) r a h e = big_steps line (InTable ds) w r a h e
listing_steps line ds t r a h e = absurd cc

pub listed_steps : (line : Line) (ds : List Decimal) (t : Token) (r : State) (a : List Token) → Spelled line (Listed ds) a → step (Listed ds) t ≡ Some r → Spelled line r (a ++ (t ∷ []))
listed_steps line ds (Mark Comma) r a h e = moved line (Listing ds) r _ e h.more
listed_steps line ds (Mark CloseTable) r a h e =
    moved line (Done (declared (table ds))) r _ e (subst (λ l. Derives l (a ++ (Mark CloseTable ∷ [])) (declared (table ds))) (sym h.line) h.text)
listed_steps line ds t r a h e = absurd cc
