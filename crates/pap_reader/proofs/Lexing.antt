-- What is read at a place is read in one way.
use Rattle.std.proofs.Common.{◌≡◌, ℕ, ◌+◌, ◌-◌, ◌≤◌, ◌<◌, ◌⊎◌, inl, inr, Bool, true, false, Option, Some, None, Bor, List, [], ◌∷◌, ◌++◌, length, refl, sym, ap, subst, ◌∙◌, append_assoc, arith, eq-eqb}
use Rattle.std.specs.Prelude.{◌==◌, MatchOption}
use Rattle.std.proofs.lemmas.List.{append-nil}
use Rattle.pap_tree.specs.White.{is_white}
use Rattle.pap_reader.specs.declared.tags.Form.{Form}
use Rattle.pap_reader.specs.declared.tags.Form.TheVariants as forms
use Rattle.pap_reader.specs.Tags.{Attribute, BeforeValue, IsAttribute, Ending, start, empty, more}
use Rattle.pap_reader.specs.Values.{Escape, StandsForItself, Quoted, closing_quote, byte, is_quote, IsByte, NoByte}
use Rattle.pap_reader.specs.Bytes.{is_first, is_inner, begins_with, drop_while}
use Rattle.std.specs.List.{take_while}
use Rattle.pap_reader.specs.private.EscapeDecisions.{byte_named}
use Rattle.pap_reader.specs.private.Views.{is_code, FoundEscape, NoFoundEscape, Closing}
use Rattle.pap_reader.proofs.Escapes.{found, escaped}

head_of : (b c : ℕ) (x y : List ℕ) → b ∷ x ≡ c ∷ y → b ≡ c
head_of b c x y e = cc

tail_of : (b c : ℕ) (x y : List ℕ) → b ∷ x ≡ c ∷ y → x ≡ y
tail_of b c x y e = cc

some_of : (b c : ℕ) → Some b ≡ Some c → b ≡ c
some_of b c e = cc

both_ways : (b : Bool) → b ≡ true → b ≡ false → ⊥
both_ways b e f = absurd cc

plain_escape : (q : ℕ) (bytes : List ℕ) (c d : ℕ) (n m : List ℕ) → StandsForItself q bytes c n → Escape bytes d m → ⊥
plain_escape q bytes c d n m p e =
    let f = found bytes d m e in
    let i : c ≡ 38 = head_of c 38 n f.inner (sym p.is ∙ f.amp) in
    both_ways (c == 38) (ap (λ x. x == 38) i) p.no_escape

pub byte_one : (q : ℕ) (bytes : List ℕ) (c d : ℕ) (n m : List ℕ) → IsByte q bytes c n → IsByte q bytes d m → (c ≡ d) × (n ≡ m)
byte_one q bytes c d n m (inl p) (inl r) = (head_of c d n m (sym p.is ∙ r.is), tail_of c d n m (sym p.is ∙ r.is))
byte_one q bytes c d n m (inl p) (inr r) = absurd (plain_escape q bytes c d n m p r)
byte_one q bytes c d n m (inr p) (inl r) = absurd (plain_escape q bytes d c m n r p)
byte_one q bytes c d n m (inr p) (inr r) =
    let f = found bytes c n p in
    let g = found bytes d m r in
    let w : f.inner ≡ g.inner = tail_of 38 38 f.inner g.inner (sym f.amp ∙ g.amp) in
    (some_of c d (sym f.byte ∙ ap (λ x. byte_named (take_while is_code x)) w ∙ g.byte), tail_of 59 59 n m (sym f.stop ∙ ap (drop_while is_code) w ∙ g.stop))

eq_self : (b c : ℕ) → b ≡ c → (b == c) ≡ true
eq_self b c e = eq-eqb b c e

no_amp : (q : ℕ) → q ≡ 38 → is_quote q ≡ true → ⊥
no_amp q e h = both_ways (is_quote q) h (ap is_quote e)

quote_no_byte : (q : ℕ) (rest : List ℕ) (c : ℕ) (n : List ℕ) → is_quote q ≡ true → IsByte q (q ∷ rest) c n → ⊥
quote_no_byte q rest c n h (inl p) = both_ways (c == q) (eq_self c q (sym (head_of q c rest n p.is))) p.no_quote
quote_no_byte q rest c n h (inr p) = let f = found (q ∷ rest) c n p in let i : q ≡ 38 = head_of q 38 rest f.inner f.amp in no_amp q i h

no_plain : (q : ℕ) (bytes tail : List ℕ) (c : ℕ) (rest : List ℕ) → bytes ≡ 38 ∷ tail → (Escape bytes c rest → ⊥) → IsByte q bytes c rest → ⊥
no_plain q bytes tail c rest e h (inl p) = both_ways (c == 38) (eq_self c 38 (head_of c 38 rest tail (sym p.is ∙ e))) p.no_escape
no_plain q bytes tail c rest e h (inr p) = h p

-- the first step of a value
pub record FirstByte (q : ℕ) (bytes value rest : List ℕ) : Type 0 where
  pub c : ℕ
  pub next : List ℕ
  pub left : List ℕ
  pub is : value ≡ c ∷ left
  pub first : IsByte q bytes c next
  pub others : Quoted q next left rest

pub unquoted : {q : ℕ} {bytes value rest : List ℕ} → Quoted q bytes value rest → ((value ≡ []) × (bytes ≡ q ∷ rest)) ⊎ FirstByte q bytes value rest
unquoted closing_quote = inl (refl, refl)
unquoted (byte {c} {next} {value} h k) = inr (record { c = c; next = next; left = value; is = refl; first = h; others = k })

record SameValue (v w x y : List ℕ) : Type 0 where
  value : v ≡ w
  rest : x ≡ y

same_value : (q : ℕ) {bytes v x : List ℕ} → is_quote q ≡ true → Quoted q bytes v x → (w y : List ℕ) → Quoted q bytes w y → SameValue v w x y
same_value q h (closing_quote {rest}) w y k = elim (unquoted k) [
  | inl e ↦ record { value = sym e.0; rest = tail_of q q rest y e.1 }
  | inr f ↦ absurd (quote_no_byte q rest f.c f.next h f.first)
]
same_value q {x} h (byte {c} {bytes} {next} {value} i j) w y k = elim (unquoted k) [
  | inl e ↦ absurd (quote_no_byte q y c next h (subst (λ z. IsByte q z c next) e.1 i))
  | inr f ↦
      let o = byte_one q bytes c f.c next f.next i f.first in
      let s = same_value q h j f.left y (subst (λ z. Quoted q z f.left y) (sym o.1) f.others) in
      record { value = ap (λ z. z ∷ value) o.0 ∙ ap (λ z. f.c ∷ z) s.value ∙ sym f.is; rest = s.rest }
]

-- what the loop over a value knows
pub record Reads (q : ℕ) (bytes seen left : List ℕ) : Type 0 where
  pub leads : (v rest : List ℕ) → Quoted q left v rest → Quoted q bytes (seen ++ v) rest
  pub only : (v rest : List ℕ) → Quoted q bytes v rest → (w : List ℕ) × Quoted q left w rest

pub reads_start : (q : ℕ) (bytes seen : List ℕ) → seen ≡ [] → Reads q bytes seen bytes
reads_start q bytes seen e = record { leads = λ v rest h. subst (λ s. Quoted q bytes (s ++ v) rest) (sym e) h; only = λ v rest h. (v, h) }

pub reads_next : (q : ℕ) (left next : List ℕ) (c : ℕ) (v rest : List ℕ) → is_quote q ≡ true → IsByte q left c next → Quoted q left v rest → (w : List ℕ) × Quoted q next w rest
reads_next q left next c v rest h i k = elim (unquoted k) [
  | inl e ↦ absurd (quote_no_byte q rest c next h (subst (λ z. IsByte q z c next) e.1 i))
  | inr f ↦ (f.left, subst (λ z. Quoted q z f.left rest) (sym (byte_one q left c f.c next f.next i f.first).1) f.others)
]

pub reads_more : (q : ℕ) (bytes seen seen' left next : List ℕ) (c : ℕ) → is_quote q ≡ true → Reads q bytes seen left → IsByte q left c next → seen' ≡ seen ++ (c ∷ []) → Reads q bytes seen' next
reads_more q bytes seen seen' left next c h r i e = record {
  leads = λ v rest k. subst (λ s. Quoted q bytes s rest) (sym (ap (λ s. s ++ v) e ∙ append_assoc seen (c ∷ []) v)) (r.leads (c ∷ v) rest (byte i k));
  only = λ v rest k. let o = r.only v rest k in reads_next q left next c o.0 rest h i o.1;
}

-- the value ends here
pub reads_end : (q : ℕ) (bytes seen left rest : List ℕ) → Reads q bytes seen left → left ≡ q ∷ rest → Quoted q bytes seen rest
reads_end q bytes seen left rest r e = subst (λ s. Quoted q bytes s rest) (append-nil seen) (r.leads [] rest (subst (λ z. Quoted q z [] rest) (sym e) closing_quote))

-- and nowhere
pub reads_none : (q : ℕ) (bytes seen left : List ℕ) → Reads q bytes seen left → ((c : ℕ) (n : List ℕ) → IsByte q left c n → ⊥) → ((rest : List ℕ) → left ≡ q ∷ rest → ⊥) → (v rest : List ℕ) → Quoted q bytes v rest → ⊥
reads_none q bytes seen left r h k v rest x = let o = r.only v rest x in elim (unquoted o.1) [
  | inl e ↦ k rest e.1
  | inr f ↦ h f.c f.next f.first
]

-- an escape is all that may come after `&`
pub or_escape : (q : ℕ) (bytes tail : List ℕ) (o : Option (ℕ × Bor (List ℕ))) → bytes ≡ 38 ∷ tail → MatchOption o (NoFoundEscape bytes) (λ r. FoundEscape bytes r.0 r.1.now)
    → MatchOption o (NoByte q bytes) (λ r. IsByte q bytes r.0 r.1.now)
or_escape q bytes tail None e h = λ c rest i. no_plain q bytes tail c rest e (λ f. h c rest (found bytes c rest f)) i
or_escape q bytes tail (Some r) e h = inr (escaped bytes r.0 r.1.now h)

-- ---- what stands before a value

-- the pieces of a front, as they are read
pub record Pieces (bytes named rest value text : List ℕ) (q : ℕ) : Type 0 where
  pub named_is : named ≡ drop_while is_white bytes
  pub rest_is : rest ≡ drop_while is_white (drop_while is_inner named)
  pub equals : rest ≡ 61 ∷ value
  pub opened : drop_while is_white value ≡ q ∷ text

value_is : (bytes named rest value : List ℕ) (f : BeforeValue bytes) → named ≡ drop_while is_white bytes → rest ≡ drop_while is_white (drop_while is_inner named) → rest ≡ 61 ∷ value → f.value ≡ value
value_is bytes named rest value f i j k = tail_of 61 61 f.value value (sym f.equals ∙ sym (j ∙ ap (λ x. drop_while is_white (drop_while is_inner x)) i) ∙ k)

pub no_front : (bytes named rest value last : List ℕ) → named ≡ drop_while is_white bytes → rest ≡ drop_while is_white (drop_while is_inner named) → rest ≡ 61 ∷ value → last ≡ drop_while is_white value
    → ((q : ℕ) (text : List ℕ) → last ≡ q ∷ text → is_quote q ≡ true → ⊥) → BeforeValue bytes → ⊥
no_front bytes named rest value last i j k l h f =
    h f.quote f.text (l ∙ ap (drop_while is_white) (sym (value_is bytes named rest value f i j k)) ∙ f.opened) f.quotes

abbrev pub a_front : (bytes named rest value last text : List ℕ) (q : ℕ) → begins_with is_white bytes ≡ true → begins_with is_first named ≡ true → named ≡ drop_while is_white bytes → rest ≡ drop_while is_white (drop_while is_inner named) → rest ≡ 61 ∷ value → last ≡ drop_while is_white value
    → last ≡ q ∷ text → is_quote q ≡ true → BeforeValue bytes
a_front bytes named rest value last text q a b i j k l m n = record {
  apart = a;
  named = sym (ap (begins_with is_first) i) ∙ b;
  value = value;
  equals = sym (j ∙ ap (λ x. drop_while is_white (drop_while is_inner x)) i) ∙ k;
  quote = q;
  text = text;
  opened = sym l ∙ m;
  quotes = n;
}

pub same_front : (bytes : List ℕ) (f g : BeforeValue bytes) → (f.quote ≡ g.quote) × (f.text ≡ g.text)
same_front bytes f g =
    let v : f.value ≡ g.value = tail_of 61 61 f.value g.value (sym f.equals ∙ g.equals) in
    let o = sym f.opened ∙ ap (drop_while is_white) v ∙ g.opened in
    (head_of f.quote g.quote f.text g.text o, tail_of f.quote g.quote f.text g.text o)

shorter_value : {q : ℕ} {bytes value rest : List ℕ} → Quoted q bytes value rest → 1 + length rest ≤ length bytes → (length bytes - length rest - 1) + 1 + length rest ≡ length bytes
shorter_value h le = omega arith

pub an_attribute : (bytes name text value rest : List ℕ) (q : ℕ) (f : BeforeValue bytes) → name ≡ take_while is_inner (drop_while is_white bytes) → q ≡ f.quote → text ≡ f.text → Quoted q text value rest → length rest < length text
    → IsAttribute bytes (record { name = name; quote = q; text = text; written = length text - length rest - 1; value = value }) rest
an_attribute bytes name text value rest q f i j k h lt = record {
  front = f;
  name = i;
  quote = j;
  text = k;
  quoted = subst (λ z. Quoted f.quote z value rest) k (subst (λ z. Quoted z text value rest) j h);
  written = (let l = ap length k in omega arith);
}

pub no_attribute : (bytes text : List ℕ) (q : ℕ) (f : BeforeValue bytes) → q ≡ f.quote → text ≡ f.text → ((value rest : List ℕ) → Quoted q text value rest → ⊥) → (a : Attribute) (rest : List ℕ) → IsAttribute bytes a rest → ⊥
no_attribute bytes text q f j k h a rest g =
    let s = same_front bytes g.front f in
    h a.value rest (subst (λ z. Quoted z text a.value rest) (s.0 ∙ sym j) (subst (λ z. Quoted g.front.quote z a.value rest) (s.1 ∙ sym k) g.quoted))

pub same_attribute : (bytes : List ℕ) (a b : Attribute) (x y : List ℕ) → IsAttribute bytes a x → IsAttribute bytes b y → (a ≡ b) × (x ≡ y)
same_attribute bytes a b x y g h =
    let s = same_front bytes g.front h.front in
    let v = same_value g.front.quote g.front.quotes g.quoted b.value y (subst (λ z. Quoted g.front.quote z b.value y) (sym s.1) (subst (λ z. Quoted z h.front.text b.value y) (sym s.0) h.quoted)) in
    let w : a.written ≡ b.written = (let l = ap length s.1 in let m = ap length v.rest in let n = g.written in let o = h.written in omega arith) in
    let q : a.quote ≡ b.quote = g.quote ∙ s.0 ∙ sym h.quote in
    let t : a.text ≡ b.text = g.text ∙ s.1 ∙ sym h.text in
    ((λ i. record { name = (g.name ∙ sym h.name) i; quote = q i; text = t i; written = w i; value = v.value i }), v.rest)

-- ---- what follows a tag's name

pub record FirstAttribute (bytes : List ℕ) (f : Form) (attributes : List Attribute) (rest : List ℕ) : Type 0 where
  pub a : Attribute
  pub next : List ℕ
  pub left : List Attribute
  pub is : attributes ≡ a ∷ left
  pub first : IsAttribute bytes a next
  pub others : Ending next f left rest

-- how it closes: as a start tag, or as an empty one
abbrev pub ClosesAs : List ℕ → Form → List ℕ → Type 0
ClosesAs bytes f rest = ((f ≡ forms.Start) × (drop_while is_white bytes ≡ 62 ∷ rest)) ⊎ ((f ≡ forms.Empty) × (drop_while is_white bytes ≡ 47 ∷ 62 ∷ rest))

pub unended : {bytes rest : List ℕ} {f : Form} {attributes : List Attribute} → Ending bytes f attributes rest → ((attributes ≡ []) × ClosesAs bytes f rest) ⊎ FirstAttribute bytes f attributes rest
unended (start e) = inl (refl, inl (refl, e))
unended (empty e) = inl (refl, inr (refl, e))
unended (more {next} {attributes} a h k) = inr (record { a = a; next = next; left = attributes; is = refl; first = h; others = k })

pub attribute_no_close : (bytes : List ℕ) (a : Attribute) (next : List ℕ) (f : Form) (rest : List ℕ) → IsAttribute bytes a next → ClosesAs bytes f rest → ⊥
attribute_no_close bytes a next f rest h (inl e) = both_ways (begins_with is_first (drop_while is_white bytes)) h.front.named (ap (begins_with is_first) e.1)
attribute_no_close bytes a next f rest h (inr e) = both_ways (begins_with is_first (drop_while is_white bytes)) h.front.named (ap (begins_with is_first) e.1)

no_slash : (x y : List ℕ) → 62 ∷ x ≡ 47 ∷ y → ⊥
no_slash x y e = absurd cc

same_close : (bytes : List ℕ) (f g : Form) (x y : List ℕ) → ClosesAs bytes f x → ClosesAs bytes g y → (f ≡ g) × (x ≡ y)
same_close bytes f g x y (inl h) (inl k) = (h.0 ∙ sym k.0, tail_of 62 62 x y (sym h.1 ∙ k.1))
same_close bytes f g x y (inl h) (inr k) = let e = sym h.1 ∙ k.1 in absurd (no_slash x (62 ∷ y) e)
same_close bytes f g x y (inr h) (inl k) = let e = sym k.1 ∙ h.1 in absurd (no_slash y (62 ∷ x) e)
same_close bytes f g x y (inr h) (inr k) = (h.0 ∙ sym k.0, tail_of 62 62 x y (tail_of 47 47 (62 ∷ x) (62 ∷ y) (sym h.1 ∙ k.1)))

pub record SameEnding (f g : Form) (attributes o : List Attribute) (x y : List ℕ) : Type 0 where
  pub form : f ≡ g
  pub own_is : attributes ≡ o
  pub rest : x ≡ y

pub same_ending : {bytes x : List ℕ} {f : Form} {attributes : List Attribute} → Ending bytes f attributes x → (g : Form) (o : List Attribute) (y : List ℕ) → Ending bytes g o y → SameEnding f g attributes o x y
same_ending (start {bytes} {rest} e) g o y k = elim (unended k) [
  | inl h ↦ let s = same_close bytes forms.Start g rest y (inl (refl, e)) h.1 in record { form = s.0; own_is = sym h.0; rest = s.1 }
  | inr h ↦ absurd (attribute_no_close bytes h.a h.next forms.Start rest h.first (inl (refl, e)))
]
same_ending (empty {bytes} {rest} e) g o y k = elim (unended k) [
  | inl h ↦ let s = same_close bytes forms.Empty g rest y (inr (refl, e)) h.1 in record { form = s.0; own_is = sym h.0; rest = s.1 }
  | inr h ↦ absurd (attribute_no_close bytes h.a h.next forms.Empty rest h.first (inr (refl, e)))
]
same_ending (more {bytes} {next} {attributes} a h j) g o y k = elim (unended k) [
  | inl e ↦ absurd (attribute_no_close bytes a next g y h e.1)
  | inr f ↦
      let s = same_attribute bytes a f.a next f.next h f.first in
      let t = same_ending j g f.left y (subst (λ z. Ending z g f.left y) (sym s.1) f.others) in
      record { form = t.form; own_is = ap (λ z. z ∷ attributes) s.0 ∙ ap (λ z. f.a ∷ z) t.own_is ∙ sym f.is; rest = t.rest }
]

-- what the loop over attributes knows
pub record Attributes (bytes : List ℕ) (seen : List Attribute) (left : List ℕ) : Type 0 where
  pub leads : (f : Form) (attributes : List Attribute) (rest : List ℕ) → Ending left f attributes rest → Ending bytes f (seen ++ attributes) rest
  pub only : (f : Form) (attributes : List Attribute) (rest : List ℕ) → Ending bytes f attributes rest → (o : List Attribute) × Ending left f o rest

pub attributes_start : (bytes : List ℕ) (seen : List Attribute) → seen ≡ [] → Attributes bytes seen bytes
attributes_start bytes seen e = record { leads = λ f attributes rest h. subst (λ s. Ending bytes f (s ++ attributes) rest) (sym e) h; only = λ f attributes rest h. (attributes, h) }

pub attributes_next : (left next : List ℕ) (a : Attribute) (f : Form) (attributes : List Attribute) (rest : List ℕ) → IsAttribute left a next → Ending left f attributes rest → (o : List Attribute) × Ending next f o rest
attributes_next left next a f attributes rest i k = elim (unended k) [
  | inl e ↦ absurd (attribute_no_close left a next f rest i e.1)
  | inr g ↦ (g.left, subst (λ z. Ending z f g.left rest) (sym (same_attribute left a g.a next g.next i g.first).1) g.others)
]

pub attributes_more : (bytes : List ℕ) (seen seen' : List Attribute) (left next : List ℕ) (a : Attribute) → Attributes bytes seen left → IsAttribute left a next → seen' ≡ seen ++ (a ∷ []) → Attributes bytes seen' next
attributes_more bytes seen seen' left next a r i e = record {
  leads = λ f attributes rest k. subst (λ s. Ending bytes f s rest) (sym (ap (λ s. s ++ attributes) e ∙ append_assoc seen (a ∷ []) attributes)) (r.leads f (a ∷ attributes) rest (more a i k));
  only = λ f attributes rest k. let o = r.only f attributes rest k in attributes_next left next a f o.0 rest i o.1;
}

pub attributes_end : (bytes : List ℕ) (seen : List Attribute) (left rest : List ℕ) (f : Form) → Attributes bytes seen left → Ending left f [] rest → Ending bytes f seen rest
attributes_end bytes seen left rest f r e = subst (λ s. Ending bytes f s rest) (append-nil seen) (r.leads f [] rest e)

no_closing : (left : List ℕ) (f : Form) (rest : List ℕ) → ((r : List ℕ) → Closing left r → ⊥) → ClosesAs left f rest → ⊥
no_closing left f rest k (inl e) = k rest (inl e.1)
no_closing left f rest k (inr e) = k rest (inr e.1)

pub attributes_none : (bytes : List ℕ) (seen : List Attribute) (left : List ℕ) → Attributes bytes seen left → ((a : Attribute) (n : List ℕ) → IsAttribute left a n → ⊥) → ((rest : List ℕ) → Closing left rest → ⊥)
    → (f : Form) (attributes : List Attribute) (rest : List ℕ) → Ending bytes f attributes rest → ⊥
attributes_none bytes seen left r h k f attributes rest x = let o = r.only f attributes rest x in elim (unended o.1) [
  | inl e ↦ no_closing left f rest k e.1
  | inr g ↦ h g.a g.next g.first
]
