-- A tag stops in at most one of its values, at one place.
use Rattle.std.proofs.Common.{◌≡◌, ℕ, ◌+◌, ◌-◌, ◌≤◌, ◌<◌, ◌⊎◌, inl, inr, Bool, true, false, not, List, [], ◌∷◌, ◌++◌, length, drop, refl, sym, ap, subst, ◌∙◌, arith, eq-eqb}
use Rattle.std.specs.Prelude.{◌==◌, Option, Some, None, MatchOption}
use Rattle.std.specs.Char.{digit_value, is_ascii_alphabetic}
use Rattle.std.specs.List.{list_all, take_while}
use Rattle.std.specs.Str.Parse.{AllDigits}
use Rattle.std.proofs.lemmas.Bool.{and_parts, and_from}
use Rattle.std.proofs.lemmas.Bool.Decides.{nat_tests}
use Rattle.pap_tree.specs.White.{is_white}
use Rattle.pap_reader.specs.Bytes.{is_inner, drop_while}
use Rattle.pap_reader.specs.Values.{StandsFor, less_than, greater_than, ampersand, quotation_mark, apostrophe, decimal, hexadecimal, Escape, IsByte, NoByte, Quoted, closing_quote, byte, is_quote}
use Rattle.pap_reader.specs.declared.tags.ValueFront.{ValueFront}
use Rattle.pap_reader.specs.Tags.{Attribute, BeforeValue, IsAttribute, IsFrontOf}
use Rattle.plain_words.specs.Strays.{ReadsValue, nothing, more, IsUnclosed, OpensValue, here, later, StopsInValue, begins_with_sign, IsStopByte}
use Rattle.plain_words.specs.declared.stops.TagStop.{TagStop}
use Rattle.plain_words.specs.private.StopViews.{StopsAs}

head_of : (b c : ℕ) (x y : List ℕ) → b ∷ x ≡ c ∷ y → b ≡ c
head_of b c x y e = cc

pub tail_of : (b c : ℕ) (x y : List ℕ) → b ∷ x ≡ c ∷ y → x ≡ y
tail_of b c x y e = cc

pub both_ways : (b : Bool) → b ≡ true → b ≡ false → ⊥
both_ways b e f = absurd cc

-- ---- an escape ends at its first ;

abbrev is_other : ℕ → Bool
is_other b = not (b == 59)

digit_other : (b : ℕ) → digit_value b < 16 → is_other b ≡ true
digit_other b h = grind (arith, nat_tests)

digits_other : (radix : ℕ) (ds : List ℕ) → radix ≤ 16 → AllDigits radix ds → list_all is_other ds ≡ true
digits_other radix [] le h = refl
digits_other radix (b ∷ ds) le h =
    and_from (is_other b) (list_all is_other ds) (digit_other b (omega (arith, h.0))) (digits_other radix ds le h.1)

word_other : {w : List ℕ} {c : ℕ} → StandsFor w c → list_all is_other w ≡ true
word_other less_than = refl
word_other greater_than = refl
word_other ampersand = refl
word_other quotation_mark = refl
word_other apostrophe = refl
word_other (decimal {digits} {code} h) = digits_other 10 digits (omega arith) h.numeral.1
word_other (hexadecimal {digits} {code} h) = digits_other 16 digits (omega arith) h.numeral.1

not_other : (b : ℕ) (rest : List ℕ) → 59 ≡ b → list_all is_other (b ∷ rest) ≡ true → ⊥
not_other b rest e h =
    both_ways (is_other b) (and_parts (is_other b) (list_all is_other rest) h).0 (ap is_other (sym e))

behind_word : (a b x y : List ℕ) → list_all is_other a ≡ true → list_all is_other b ≡ true
    → a ++ (59 ∷ x) ≡ b ++ (59 ∷ y) → x ≡ y
behind_word [] [] x y h k e = tail_of 59 59 x y e
behind_word [] (d ∷ b) x y h k e = absurd (not_other d b (head_of 59 d x (b ++ (59 ∷ y)) e) k)
behind_word (c ∷ a) [] x y h k e = absurd (not_other c a (sym (head_of c 59 (a ++ (59 ∷ x)) y e)) h)
behind_word (c ∷ a) (d ∷ b) x y h k e =
    behind_word a b x y (and_parts (is_other c) (list_all is_other a) h).1 (and_parts (is_other d) (list_all is_other b) k).1
    (tail_of c d (a ++ (59 ∷ x)) (b ++ (59 ∷ y)) e)

-- ---- what is left behind a byte of a value

is_escape : (q : ℕ) (bytes tail : List ℕ) (c : ℕ) (next : List ℕ) → bytes ≡ 38 ∷ tail → IsByte q bytes c next → Escape bytes c next
is_escape q bytes tail c next e (inl p) =
    absurd (both_ways (c == 38) (eq-eqb c 38 (head_of c 38 next tail (sym p.is ∙ e))) p.no_escape)
is_escape q bytes tail c next e (inr p) = p

same_escape : (bytes : List ℕ) (c d : ℕ) (x y : List ℕ) → Escape bytes c x → Escape bytes d y → x ≡ y
same_escape bytes c d x y p r =
    behind_word p.word r.word x y (word_other p.byte) (word_other r.byte)
    (tail_of 38 38 (p.word ++ (59 ∷ x)) (r.word ++ (59 ∷ y)) (sym p.is ∙ r.is))

next_one : (q : ℕ) (bytes : List ℕ) (c d : ℕ) (x y : List ℕ) → IsByte q bytes c x → IsByte q bytes d y → x ≡ y
next_one q bytes c d x y (inl p) (inl r) = tail_of c d x y (sym p.is ∙ r.is)
next_one q bytes c d x y (inr p) r = same_escape bytes c d x y p (is_escape q bytes (p.word ++ (59 ∷ x)) d y p.is r)
next_one q bytes c d x y p (inr r) = same_escape bytes c d x y (is_escape q bytes (r.word ++ (59 ∷ y)) c x r.is p) r

quote_no_byte : (q : ℕ) (rest : List ℕ) → is_quote q ≡ true → NoByte q (q ∷ rest)
quote_no_byte q rest h c n (inl p) = both_ways (c == q) (eq-eqb c q (sym (head_of q c rest n p.is))) p.no_quote
quote_no_byte q rest h c n (inr p) =
    both_ways (is_quote q) h (ap is_quote (head_of q 38 rest (p.word ++ (59 ∷ n)) p.is))

-- ---- a value is read up to one place

record NextByte (q : ℕ) (text left : List ℕ) : Type 0 where
  c : ℕ
  next : List ℕ
  first : IsByte q text c next
  others : ReadsValue q next left

unread : {q : ℕ} {text left : List ℕ} → ReadsValue q text left → (text ≡ left) ⊎ NextByte q text left
unread nothing = inl refl
unread (more {c} {next} i h) = inr (record { c = c; next = next; first = i; others = h })

reads_one : (q : ℕ) {text left : List ℕ} → ReadsValue q text left → NoByte q left
    → (other : List ℕ) → ReadsValue q text other → NoByte q other → left ≡ other
reads_one q nothing none other k last = elim (unread k) [
  | inl e ↦ e
  | inr f ↦ absurd (none f.c f.next f.first)
]
reads_one q (more {c} {text} {next} i h) none other k last = elim (unread k) [
  | inl e ↦ absurd (last c next (subst (λ z. IsByte q z c next) e i))
  | inr f ↦
      reads_one q h none other
      (subst (λ z. ReadsValue q z other) (next_one q text f.c c f.next next f.first i) f.others) last
]

-- a whole value is read up to its closing quote
quoted_reads : (q : ℕ) {text value rest : List ℕ} → Quoted q text value rest → ReadsValue q text (q ∷ rest)
quoted_reads q closing_quote = nothing
quoted_reads q (byte i h) = more i (quoted_reads q h)

-- up to a quote a value is read
reads_quoted : (q : ℕ) (rest : List ℕ) {text left : List ℕ} → ReadsValue q text left → left ≡ q ∷ rest
    → (value : List ℕ) × Quoted q text value rest
reads_quoted q rest (nothing {text}) e = ([], subst (λ z. Quoted q z [] rest) (sym e) closing_quote)
reads_quoted q rest (more {c} i h) e = let k = reads_quoted q rest h e in (c ∷ k.0, byte i k.1)

-- ---- an attribute leaves one rest

same_front : (bytes : List ℕ) (f g : BeforeValue bytes) → (f.quote ≡ g.quote) × (f.text ≡ g.text)
same_front bytes f g =
    let v : f.value ≡ g.value = tail_of 61 61 f.value g.value (sym f.equals ∙ g.equals) in
    let o = sym f.opened ∙ ap (drop_while is_white) v ∙ g.opened in
    (head_of f.quote g.quote f.text g.text o, tail_of f.quote g.quote f.text g.text o)

-- the value of an attribute is read up to its closing quote, and no further
pub record IsClosed (q : ℕ) (text rest : List ℕ) : Type 0 where
  pub reads : ReadsValue q text (q ∷ rest)
  pub none : NoByte q (q ∷ rest)

closed : (bytes : List ℕ) (f : BeforeValue bytes) (q : ℕ) (text : List ℕ) (a : Attribute) (next : List ℕ)
    → q ≡ f.quote → text ≡ f.text → IsAttribute bytes a next → IsClosed q text next
closed bytes f q text a next j k g =
    let s = same_front bytes g.front f in
    subst (λ z. IsClosed q z next) (s.1 ∙ sym k)
    (subst (λ z. IsClosed z g.front.text next) (s.0 ∙ sym j) (record {
      reads = quoted_reads g.front.quote g.quoted;
      none = quote_no_byte g.front.quote next g.front.quotes;
    }))

not_closed : (q : ℕ) (text next left : List ℕ) → IsClosed q text next → IsUnclosed q text left → ⊥
not_closed q text next left h u = u.unclosed next (reads_one q u.reads u.none (q ∷ next) h.reads h.none)

next_attribute : (bytes : List ℕ) (a b : Attribute) (x y : List ℕ) → IsAttribute bytes a x → IsAttribute bytes b y → x ≡ y
next_attribute bytes a b x y g h =
    let q = g.front.quote in
    let mine = closed bytes g.front q g.front.text a x refl refl g in
    let other = closed bytes g.front q g.front.text b y refl refl h in
    tail_of q q x y (reads_one q mine.reads mine.none (q ∷ y) other.reads other.none)

-- ---- one value is unclosed

record OpensHere (bytes : List ℕ) (q : ℕ) (text : List ℕ) : Type 0 where
  front : BeforeValue bytes
  quote : q ≡ front.quote
  is : text ≡ front.text

record OpensLater (bytes : List ℕ) (q : ℕ) (text : List ℕ) : Type 0 where
  a : Attribute
  next : List ℕ
  first : IsAttribute bytes a next
  others : OpensValue next q text

unopened : {bytes text : List ℕ} {q : ℕ} → OpensValue bytes q text → OpensHere bytes q text ⊎ OpensLater bytes q text
unopened (here name f) = inl (record { front = f.0; quote = f.2; is = f.3 })
unopened (later {next} a g h) = inr (record { a = a; next = next; first = g; others = h })

pub record SameStop (q p : ℕ) (text other left end : List ℕ) : Type 0 where
  pub same_quote : q ≡ p
  pub same_text : text ≡ other
  pub same_left : left ≡ end

both_here : (bytes : List ℕ) (q p : ℕ) (text other left end : List ℕ) → OpensHere bytes q text → IsUnclosed q text left
    → OpensHere bytes p other → IsUnclosed p other end → SameStop q p text other left end
both_here bytes q p text other left end f u g v =
    let s = same_front bytes f.front g.front in
    let same = f.quote ∙ s.0 ∙ sym g.quote in
    let alike = f.is ∙ s.1 ∙ sym g.is in
    let w = subst (λ z. IsUnclosed q z end) (sym alike) (subst (λ z. IsUnclosed z other end) (sym same) v) in
    record { same_quote = same; same_text = alike; same_left = reads_one q u.reads u.none end w.reads w.none }

one_unclosed : {bytes text : List ℕ} {q : ℕ} → OpensValue bytes q text → (left : List ℕ) → IsUnclosed q text left
    → (p : ℕ) (other end : List ℕ) → OpensValue bytes p other → IsUnclosed p other end → SameStop q p text other left end
one_unclosed (here {bytes} {text} {quote} name f) left u p other end k v = elim (unopened k) [
  | inl g ↦ both_here bytes quote p text other left end (record { front = f.0; quote = f.2; is = f.3 }) u g v
  | inr g ↦ absurd (not_closed quote text g.next left (closed bytes f.0 quote text g.a g.next f.2 f.3 g.first) u)
]
one_unclosed (later {bytes} {next} a g h) left u p other end k v = elim (unopened k) [
  | inl f ↦ absurd (not_closed p other next end (closed bytes f.front p other a next f.quote f.is g) v)
  | inr f ↦
      one_unclosed h left u p other end
      (subst (λ z. OpensValue z p other) (next_attribute bytes f.a a f.next next f.first g) f.others) v
]

-- ---- what the loop over a tag's attributes knows

pub record Behind (start left : List ℕ) : Type 0 where
  pub leads : (q : ℕ) (text : List ℕ) → OpensValue left q text → OpensValue start q text
  pub only : (q : ℕ) (text end : List ℕ) → OpensValue start q text → IsUnclosed q text end → OpensValue left q text

pub behind_start : (start : List ℕ) → Behind start start
behind_start start = record { leads = λ q text h. h; only = λ q text end h u. h }

an_attribute : (bytes name text value rest : List ℕ) (q : ℕ) → (f : IsFrontOf bytes name q text) → Quoted q text value rest
    → length (q ∷ rest) ≤ length text
    → IsAttribute bytes (record { name = name; quote = q; text = text; written = length text - length (q ∷ rest); value = value }) rest
an_attribute bytes name text value rest q f h within = record {
  front = f.0;
  name = f.1;
  quote = f.2;
  text = f.3;
  quoted = subst (λ z. Quoted f.0.quote z value rest) f.3 (subst (λ z. Quoted z text value rest) f.2 h);
  written = (let l = ap length f.3 in omega arith);
}

pub behind_next : (start left name text end rest : List ℕ) (q : ℕ) → Behind start left → IsFrontOf left name q text
    → ReadsValue q text end → length end ≤ length text → end ≡ q ∷ rest → Behind start rest
behind_next start left name text end rest q b f h within e =
    let value = reads_quoted q rest h e in
    let a = an_attribute left name text value.0 rest q f value.1 (subst (λ z. length z ≤ length text) e within) in
    record {
      leads = λ p other k. b.leads p other (later _ a k);
      only = λ p other end' k u. only p other end' a (b.only p other end' k u) u;
    }
  where
    only : (p : ℕ) (other end' : List ℕ) {a : Attribute} → IsAttribute left a rest → OpensValue left p other
        → IsUnclosed p other end' → OpensValue rest p other
    only p other end' {a} g k u = elim (unopened k) [
      | inl h ↦ absurd (not_closed p other rest end' (closed left h.front p other a rest h.quote h.is g) u)
      | inr h ↦ subst (λ z. OpensValue z p other) (next_attribute left h.a a h.next rest h.first g) h.others
    ]

-- no value is unclosed where no attribute is left
pub behind_none : (start left : List ℕ) → Behind start left → (BeforeValue left → ⊥)
    → (q : ℕ) (text end : List ℕ) → OpensValue start q text → IsUnclosed q text end → ⊥
behind_none start left b none q text end h u = elim (unopened (b.only q text end h u)) [
  | inl f ↦ none f.front
  | inr f ↦ none f.first.front
]

-- ---- of a whole tag

pub one_value : (tag : List ℕ) (q p : ℕ) (text other left end : List ℕ) → StopsInValue tag q text left
    → StopsInValue tag p other end → SameStop q p text other left end
one_value tag q p text other left end h k =
    let same : k.inner ≡ h.inner = tail_of 60 60 k.inner h.inner (sym k.is ∙ h.is) in
    one_unclosed h.opens left h.stop p other end
    (subst (λ z. OpensValue (drop_while is_ascii_alphabetic z) p other) same k.opens) k.stop

pub a_value : (tag inner start left name text end : List ℕ) (q : ℕ) → tag ≡ 60 ∷ inner
    → start ≡ drop_while is_ascii_alphabetic inner → Behind start left → IsFrontOf left name q text → IsUnclosed q text end
    → StopsInValue tag q text end
a_value tag inner start left name text end q e first b f u = record {
  inner = inner;
  is = e;
  opens = subst (λ z. OpensValue z q text) first (b.leads q text (here name f));
  stop = u;
}

pub no_value : (tag inner start left : List ℕ) → tag ≡ 60 ∷ inner → start ≡ drop_while is_ascii_alphabetic inner
    → Behind start left → (BeforeValue left → ⊥) → (q : ℕ) (text end : List ℕ) → StopsInValue tag q text end → ⊥
no_value tag inner start left e first b none q text end h =
    let same : h.inner ≡ inner = tail_of 60 60 h.inner inner (sym h.is ∙ e) in
    behind_none start left b none q text end
    (subst (λ z. OpensValue z q text) (ap (drop_while is_ascii_alphabetic) same ∙ sym first) h.opens) h.stop

-- ---- the byte at which it is shown

at_some : {A : Type 0} (o : Option A) (x : A) (P : Type 0) (Q : A → Type 0) → MatchOption o P Q → o ≡ Some x → Q x
at_some o x P Q h e = subst (λ z. MatchOption z P Q) e h

at_none : {A : Type 0} (o : Option A) (P : Type 0) (Q : A → Type 0) → MatchOption o P Q → o ≡ None → P
at_none o P Q h e = subst (λ z. MatchOption z P Q) e h

abbrev NoValue : List ℕ → Type 0
NoValue tag = (q : ℕ) (text left : List ℕ) → StopsInValue tag q text left → ⊥

abbrev InValue : List ℕ → TagStop → ValueFront → Type 0
InValue tag stop front = StopsInValue tag front.quote front.text.now stop.left.now

pub stop_outside : (plan : List ℕ) (at : ℕ) (stop : TagStop) → StopsAs (drop at plan) stop → stop.value ≡ None
    → IsStopByte plan at at
stop_outside plan at stop h e =
    let none = at_none stop.value (NoValue (drop at plan)) (InValue (drop at plan) stop) h e in
    inr (refl, λ j s. none s.stray.quote s.stray.text s.left s.stray.stops)

pub stop_at_sign : (plan : List ℕ) (at to : ℕ) (stop : TagStop) (front : ValueFront) → StopsAs (drop at plan) stop
    → stop.value ≡ Some front → begins_with_sign front.text.now stop.left.now ≡ true
    → to + length stop.left.now ≡ length plan → IsStopByte plan at to
stop_at_sign plan at to stop front h e sign place = inl (record {
  left = stop.left.now;
  stray = record {
    quote = front.quote;
    text = front.text.now;
    stops = at_some stop.value front (NoValue (drop at plan)) (InValue (drop at plan) stop) h e;
    sign = sign;
  };
  place = place;
})

pub stop_at_first : (plan : List ℕ) (at : ℕ) (stop : TagStop) (front : ValueFront) → StopsAs (drop at plan) stop
    → stop.value ≡ Some front → begins_with_sign front.text.now stop.left.now ≡ false → IsStopByte plan at at
stop_at_first plan at stop front h e no_sign =
    let tag = drop at plan in
    let stops = at_some stop.value front (NoValue tag) (InValue tag stop) h e in
    inr (
      refl,
      λ j s.
          let same = one_value tag front.quote s.stray.quote front.text.now s.stray.text stop.left.now s.left stops s.stray.stops in
          both_ways (begins_with_sign front.text.now stop.left.now)
          (ap (λ z. begins_with_sign z stop.left.now) same.same_text ∙ ap (λ z. begins_with_sign s.stray.text z) same.same_left
          ∙ s.stray.sign) no_sign,
    )
