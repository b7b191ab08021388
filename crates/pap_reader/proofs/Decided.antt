-- What is read at a place is decided.
use Rattle.std.proofs.Common.{◌≡◌, ℕ, zero, suc, ◌-◌, ◌≤◌, ◌<◌, ◌⊎◌, inl, inr, Bool, true, false, Option, Some, None, List, [], ◌∷◌, ◌++◌, length, refl, sym, ap, subst, ◌∙◌, arith}
use Rattle.std.specs.Prelude.{◌==◌, codes}
use Rattle.std.specs.List.{prefix_len, take_while}
use Rattle.std.proofs.lemmas.Bool.{cases_Bool, eqb-true, eqb-false}
use Rattle.std.proofs.lemmas.List.{length-append, length-drop}
use Rattle.pap_tree.specs.White.{is_white}
use Rattle.pap_reader.specs.declared.tags.Form.{Form}
use Rattle.pap_reader.specs.declared.tags.Form.TheVariants as forms
use Rattle.pap_reader.specs.Tags.{Attribute, Tag, BeforeValue, IsAttribute, Ending, start, empty, more, IsTag, closing, NoTag}
use Rattle.pap_reader.specs.Bytes.{is_first, is_inner, begins_with, drop_while}
use Rattle.std.specs.Char.{is_ascii_alphabetic}
use Rattle.pap_reader.specs.Values.{Escape, StandsForItself, Quoted, closing_quote, byte, is_quote, IsByte}
use Rattle.pap_reader.specs.private.Values.{NoValue}
use Rattle.pap_reader.specs.private.EscapeDecisions.{byte_named}
use Rattle.pap_reader.specs.private.Views.{is_code, NoAttribute, NoEnding}
use Rattle.pap_reader.specs.Skipped.{Past, here, later, IsPassed, white, comment, byte_order_mark, IsAfterMark, IsAfterDeclaration}
use Rattle.pap_reader.proofs.Escapes.{found, escaped}
use Rattle.pap_reader.proofs.Lexing.{unquoted, reads_next, unended, ClosesAs, an_attribute, no_attribute, attributes_next}
use Rattle.pap_reader.proofs.Passing.{past_here, past_later, past_only, unpast, unpassed, untagged, a_tag, end_tag, an_opening, no_opening, no_letter, slash_no_letter, append_same}

head_of : (b c : ℕ) (x y : List ℕ) → b ∷ x ≡ c ∷ y → b ≡ c
head_of b c x y e = cc

tail_of : (b c : ℕ) (x y : List ℕ) → b ∷ x ≡ c ∷ y → x ≡ y
tail_of b c x y e = cc

no_cons : (b : ℕ) (x : List ℕ) → [] ≡ b ∷ x → ⊥
no_cons b x e = absurd cc

both_ways : (b : Bool) → b ≡ true → b ≡ false → ⊥
both_ways b e f = absurd cc

after_shorter : (p : ℕ → Bool) (bytes : List ℕ) → length (drop_while p bytes) ≤ length bytes
after_shorter p bytes = let l = length-drop (prefix_len p bytes) bytes in omega arith

-- ---- marks

dec_prefix : (mark bytes : List ℕ) → ((rest : List ℕ) × (bytes ≡ mark ++ rest)) ⊎ ((rest : List ℕ) → bytes ≡ mark ++ rest → ⊥)
dec_prefix [] bytes = inl (bytes, refl)
dec_prefix (m ∷ mark) [] = inr (λ rest e. no_cons m (mark ++ rest) e)
dec_prefix (m ∷ mark) (b ∷ bytes) = elim (cases_Bool (b == m)) [
  | inl t ↦ elim (dec_prefix mark bytes) [
    | inl f ↦ inl (f.0, ap (λ z. z ∷ bytes) (eqb-true b m t) ∙ ap (λ z. m ∷ z) f.1)
    | inr n ↦ inr (λ rest e. n rest (tail_of b m bytes (mark ++ rest) e))
  ]
  | inr t ↦ inr (λ rest e. eqb-false b m t (head_of b m bytes (mark ++ rest) e))
]

dec_past_here : (mark bytes : List ℕ) → ((rest : List ℕ) → bytes ≡ mark ++ rest → ⊥) → bytes ≡ [] → (rest : List ℕ) → Past mark bytes rest → ⊥
dec_past_here mark bytes n e rest p = elim (unpast p) [ inl f ↦ n rest f | inr f ↦ no_cons f.b f.next (sym e ∙ f.is) ]

dec_past : (mark bytes : List ℕ) → ((rest : List ℕ) × Past mark bytes rest) ⊎ ((rest : List ℕ) → Past mark bytes rest → ⊥)
dec_past mark [] = elim (dec_prefix mark []) [
  | inl f ↦ inl (f.0, past_here mark [] f.0 f.1)
  | inr n ↦ inr (dec_past_here mark [] n refl)
]
dec_past mark (b ∷ bytes) = elim (dec_prefix mark (b ∷ bytes)) [
  | inl f ↦ inl (f.0, past_here mark (b ∷ bytes) f.0 f.1)
  | inr n ↦ elim (dec_past mark bytes) [
    | inl f ↦ inl (f.0, past_later mark (b ∷ bytes) bytes f.0 b refl n f.1)
    | inr h ↦ inr (λ rest p. h rest (past_only mark (b ∷ bytes) bytes rest b refl n p))
  ]
]

pub past_shorter : {mark bytes rest : List ℕ} → Past mark bytes rest → length rest ≤ length bytes
past_shorter (here {mark} {rest}) = let l = length-append mark rest in omega arith
past_shorter (later h p) = let l = past_shorter p in omega arith

pub passed_shorter : (bytes rest : List ℕ) → IsPassed bytes rest → length rest < length bytes
passed_shorter bytes rest p = elim (unpassed p) [
  | inl f ↦ let l = ap length f.is in omega arith
  | inr f ↦ let l = ap length f.is in let m = past_shorter f.past in omega arith
]

a_comment : (bytes inside rest : List ℕ) → bytes ≡ codes "<!--" ++ inside → Past (codes "-->") inside rest → IsPassed bytes rest
a_comment bytes inside rest e p = subst (λ z. IsPassed z rest) (sym e) (comment p)

inside_is : (bytes x y : List ℕ) → bytes ≡ codes "<!--" ++ x → bytes ≡ codes "<!--" ++ y → x ≡ y
inside_is bytes x y e f = tail_of 45 45 x y (tail_of 45 45 (45 ∷ x) (45 ∷ y) (tail_of 33 33 (45 ∷ 45 ∷ x) (45 ∷ 45 ∷ y) (tail_of 60 60 (33 ∷ 45 ∷ 45 ∷ x) (33 ∷ 45 ∷ 45 ∷ y) (sym e ∙ f))))

no_comment_in : (bytes tail inside rest : List ℕ) (b : ℕ) → bytes ≡ b ∷ tail → is_white b ≡ false → bytes ≡ codes "<!--" ++ inside → ((r : List ℕ) → Past (codes "-->") inside r → ⊥) → IsPassed bytes rest → ⊥
no_comment_in bytes tail inside rest b e t m n p = elim (unpassed p) [
  | inl f ↦ both_ways (is_white b) (ap is_white (head_of b f.b tail rest (sym e ∙ f.is)) ∙ f.white) t
  | inr f ↦ n rest (subst (λ z. Past (codes "-->") z rest) (inside_is bytes f.inside inside f.is m) f.past)
]

pub dec_passed : (bytes : List ℕ) → ((rest : List ℕ) × IsPassed bytes rest) ⊎ ((rest : List ℕ) → IsPassed bytes rest → ⊥)
dec_passed [] = inr (λ rest p. elim (unpassed p) [ inl f ↦ no_cons f.b rest f.is | inr f ↦ no_cons 60 (codes "!--" ++ f.inside) f.is ])
dec_passed (b ∷ bytes) = elim (cases_Bool (is_white b)) [
  | inl t ↦ inl (bytes, white t)
  | inr t ↦ elim (dec_prefix (codes "<!--") (b ∷ bytes)) [
    | inl m ↦ elim (dec_past (codes "-->") m.0) [
      | inl f ↦ inl (f.0, a_comment (b ∷ bytes) m.0 f.0 m.1 f.1)
      | inr n ↦ inr (λ rest p. no_comment_in (b ∷ bytes) bytes m.0 rest b refl t m.1 n p)
    ]
    | inr n ↦ inr (λ rest p. elim (unpassed p) [
      | inl f ↦ both_ways (is_white b) (ap is_white (head_of b f.b bytes rest f.is) ∙ f.white) t
      | inr f ↦ n f.inside f.is
    ])
  ]
]

-- ---- values

escape_shorter : (bytes : List ℕ) (c : ℕ) (rest : List ℕ) → Escape bytes c rest → length rest < length bytes
escape_shorter bytes c rest e =
    let f = found bytes c rest e in
    let a = ap length f.amp in
    let b = ap length f.stop in
    let d = after_shorter is_code f.inner in
    omega arith

pub byte_shorter : (q : ℕ) (bytes : List ℕ) (c : ℕ) (rest : List ℕ) → IsByte q bytes c rest → length rest < length bytes
byte_shorter q bytes c rest (inl p) = let a = ap length p.is in omega arith
byte_shorter q bytes c rest (inr e) = escape_shorter bytes c rest e

dec_stop : (x : List ℕ) (m : ℕ) → ((rest : List ℕ) × (x ≡ m ∷ rest)) ⊎ ((rest : List ℕ) → x ≡ m ∷ rest → ⊥)
dec_stop [] m = inr (λ rest e. no_cons m rest e)
dec_stop (b ∷ x) m = elim (cases_Bool (b == m)) [
  | inl t ↦ inl (x, ap (λ z. z ∷ x) (eqb-true b m t))
  | inr t ↦ inr (λ rest e. eqb-false b m t (head_of b m x rest e))
]

dec_named : (o : Option ℕ) → ((c : ℕ) × (o ≡ Some c)) ⊎ ((c : ℕ) → o ≡ Some c → ⊥)
dec_named None = inr (λ c e. absurd cc)
dec_named (Some c) = inl (c, refl)

dec_escape : (bytes : List ℕ) → ((c : ℕ) × (rest : List ℕ) × Escape bytes c rest) ⊎ ((c : ℕ) (rest : List ℕ) → Escape bytes c rest → ⊥)
dec_escape bytes = elim (dec_stop bytes 38) [
  | inr n ↦ inr (λ c rest e. let f = found bytes c rest e in n f.inner f.amp)
  | inl w ↦ elim (dec_named (byte_named (take_while is_code w.0))) [
    | inr n ↦ inr (λ c rest e. let f = found bytes c rest e in n c (ap (λ z. byte_named (take_while is_code z)) (tail_of 38 38 w.0 f.inner (sym w.1 ∙ f.amp)) ∙ f.byte))
    | inl b ↦ elim (dec_stop (drop_while is_code w.0) 59) [
      | inr n ↦ inr (λ c rest e. let f = found bytes c rest e in n rest (ap (drop_while is_code) (tail_of 38 38 w.0 f.inner (sym w.1 ∙ f.amp)) ∙ f.stop))
      | inl s ↦ inl (b.0, s.0, escaped bytes b.0 s.0 (record { inner = w.0; amp = w.1; byte = b.1; stop = s.1 }))
    ]
  ]
]

dec_plain : (q : ℕ) (bytes : List ℕ) → ((c : ℕ) × (rest : List ℕ) × StandsForItself q bytes c rest) ⊎ ((c : ℕ) (rest : List ℕ) → StandsForItself q bytes c rest → ⊥)
dec_plain q [] = inr (λ c rest p. no_cons c rest p.is)
dec_plain q (b ∷ bytes) = elim (cases_Bool (b == q)) [
  | inl t ↦ inr (λ c rest p. both_ways (b == q) t (ap (λ z. z == q) (head_of b c bytes rest p.is) ∙ p.no_quote))
  | inr t ↦ elim (cases_Bool (b == 60)) [
    | inl u ↦ inr (λ c rest p. both_ways (b == 60) u (ap (λ z. z == 60) (head_of b c bytes rest p.is) ∙ p.no_tag))
    | inr u ↦ elim (cases_Bool (b == 38)) [
      | inl v ↦ inr (λ c rest p. both_ways (b == 38) v (ap (λ z. z == 38) (head_of b c bytes rest p.is) ∙ p.no_escape))
      | inr v ↦ inl (b, bytes, record { is = refl; no_quote = t; no_tag = u; no_escape = v })
    ]
  ]
]

neither : (q : ℕ) (bytes : List ℕ) (c : ℕ) (rest : List ℕ) → (StandsForItself q bytes c rest → ⊥) → (Escape bytes c rest → ⊥) → IsByte q bytes c rest → ⊥
neither q bytes c rest n m (inl p) = n p
neither q bytes c rest n m (inr e) = m e

dec_byte : (q : ℕ) (bytes : List ℕ) → ((c : ℕ) × (rest : List ℕ) × IsByte q bytes c rest) ⊎ ((c : ℕ) (rest : List ℕ) → IsByte q bytes c rest → ⊥)
dec_byte q bytes = elim (dec_plain q bytes) [
  | inl p ↦ inl (p.0, p.1, inl p.2)
  | inr n ↦ elim (dec_escape bytes) [
    | inl e ↦ inl (e.0, e.1, inr e.2)
    | inr m ↦ inr (λ c rest b. neither q bytes c rest (n c rest) (m c rest) b)
  ]
]

abbrev IsValue : ℕ → List ℕ → Type 0
IsValue q bytes = (v : List ℕ) × (rest : List ℕ) × Quoted q bytes v rest

value_after : (q : ℕ) (bytes next : List ℕ) (c : ℕ) → is_quote q ≡ true → IsByte q bytes c next → IsValue q next ⊎ NoValue q next → IsValue q bytes ⊎ NoValue q bytes
value_after q bytes next c h i (inl v) = inl (c ∷ v.0, v.1, byte i v.2)
value_after q bytes next c h i (inr n) = inr (λ v rest k. let w = reads_next q bytes next c v rest h i k in n w.0 rest w.1)

value_here : (q : ℕ) (bytes : List ℕ) → ((c : ℕ) (rest : List ℕ) → IsByte q bytes c rest → ⊥) → IsValue q bytes ⊎ NoValue q bytes
value_here q bytes n = elim (dec_stop bytes q) [
  | inl s ↦ inl ([], s.0, subst (λ z. Quoted q z [] s.0) (sym s.1) closing_quote)
  | inr m ↦ inr (λ v rest k. elim (unquoted k) [ inl e ↦ m rest e.1 | inr f ↦ n f.c f.next f.first ])
]

dec_quoted : (n q : ℕ) (bytes : List ℕ) → length bytes ≤ n → is_quote q ≡ true → IsValue q bytes ⊎ NoValue q bytes
dec_quoted zero q bytes le h = elim (dec_byte q bytes) [
  | inl b ↦ let l = byte_shorter q bytes b.0 b.1 b.2 in absurd (omega arith)
  | inr m ↦ value_here q bytes m
]
dec_quoted (suc n) q bytes le h = elim (dec_byte q bytes) [
  | inl b ↦ value_after q bytes b.1 b.0 h b.2 (dec_quoted n q b.1 (let l = byte_shorter q bytes b.0 b.1 b.2 in omega arith) h)
  | inr m ↦ value_here q bytes m
]

quoted_shorter : {q : ℕ} {bytes v rest : List ℕ} → Quoted q bytes v rest → length rest < length bytes
quoted_shorter closing_quote = omega arith
quoted_shorter (byte {q} {c} {bytes} {next} h k) = let a = byte_shorter q bytes c next h in let b = quoted_shorter k in omega arith

-- ---- attributes

front_shorter : (bytes : List ℕ) (f : BeforeValue bytes) → length f.text < length bytes
front_shorter bytes f =
    let a = after_shorter is_white bytes in
    let b = after_shorter is_inner (drop_while is_white bytes) in
    let c = after_shorter is_white (drop_while is_inner (drop_while is_white bytes)) in
    let d = ap length f.equals in
    let e = after_shorter is_white f.value in
    let g = ap length f.opened in
    omega arith

dec_opened : (x : List ℕ) → ((q : ℕ) × (text : List ℕ) × (x ≡ q ∷ text) × (is_quote q ≡ true)) ⊎ ((q : ℕ) (text : List ℕ) → x ≡ q ∷ text → is_quote q ≡ true → ⊥)
dec_opened [] = inr (λ q text e h. no_cons q text e)
dec_opened (b ∷ x) = elim (cases_Bool (is_quote b)) [
  | inl t ↦ inl (b, x, refl, t)
  | inr t ↦ inr (λ q text e h. both_ways (is_quote b) (ap is_quote (head_of b q x text e) ∙ h) t)
]

dec_front : (bytes : List ℕ) → BeforeValue bytes ⊎ (BeforeValue bytes → ⊥)
dec_front bytes = elim (cases_Bool (begins_with is_white bytes)) [
  | inr t ↦ inr (λ f. both_ways (begins_with is_white bytes) f.apart t)
  | inl t ↦ elim (cases_Bool (begins_with is_first (drop_while is_white bytes))) [
    | inr u ↦ inr (λ f. both_ways (begins_with is_first (drop_while is_white bytes)) f.named u)
    | inl u ↦ elim (dec_stop (drop_while is_white (drop_while is_inner (drop_while is_white bytes))) 61) [
      | inr n ↦ inr (λ f. n f.value f.equals)
      | inl v ↦ elim (dec_opened (drop_while is_white v.0)) [
        | inl w ↦ inl (record { apart = t; named = u; value = v.0; equals = v.1; quote = w.0; text = w.1; opened = w.2; quotes = w.3 })
        | inr n ↦ inr (λ f. n f.quote f.text (ap (drop_while is_white) (tail_of 61 61 v.0 f.value (sym v.1 ∙ f.equals)) ∙ f.opened) f.quotes)
      ]
    ]
  ]
]

abbrev AnAttribute : List ℕ → Type 0
AnAttribute bytes = (a : Attribute) × (rest : List ℕ) × IsAttribute bytes a rest

dec_attribute : (bytes : List ℕ) → AnAttribute bytes ⊎ NoAttribute bytes
dec_attribute bytes = elim (dec_front bytes) [
  | inr n ↦ inr (λ a rest i. n i.front)
  | inl f ↦ elim (dec_quoted (length f.text) f.quote f.text (omega arith) f.quotes) [
    | inl v ↦
        let a = an_attribute bytes (take_while is_inner (drop_while is_white bytes)) f.text v.0 v.1 f.quote f refl refl refl v.2 (quoted_shorter v.2) in
        inl (record { name = take_while is_inner (drop_while is_white bytes); quote = f.quote; text = f.text; written = length f.text - length v.1 - 1; value = v.0 }, v.1, a)
    | inr n ↦ inr (no_attribute bytes f.text f.quote f refl refl n)
  ]
]

attribute_shorter : (bytes : List ℕ) (a : Attribute) (rest : List ℕ) → IsAttribute bytes a rest → length rest < length bytes
attribute_shorter bytes a rest i = let f = front_shorter bytes i.front in let q = quoted_shorter i.quoted in omega arith

-- ---- tags

ending_shorter : {bytes rest : List ℕ} {f : Form} {attributes : List Attribute} → Ending bytes f attributes rest → length rest < length bytes
ending_shorter (start {bytes} e) = let a = after_shorter is_white bytes in let b = ap length e in omega arith
ending_shorter (empty {bytes} e) = let a = after_shorter is_white bytes in let b = ap length e in omega arith
ending_shorter (more {bytes} {next} a h k) = let b = attribute_shorter bytes a next h in let c = ending_shorter k in omega arith

abbrev AnEnding : List ℕ → Type 0
AnEnding bytes = (f : Form) × (attributes : List Attribute) × (rest : List ℕ) × Ending bytes f attributes rest

ending_after : (bytes next : List ℕ) (a : Attribute) → IsAttribute bytes a next → AnEnding next ⊎ NoEnding next → AnEnding bytes ⊎ NoEnding bytes
ending_after bytes next a i (inl e) = inl (e.0, a ∷ e.1, e.2, more a i e.3)
ending_after bytes next a i (inr n) = inr (λ f attributes rest k. let o = attributes_next bytes next a f attributes rest i k in n f o.0 rest o.1)

no_close_here : (bytes : List ℕ) (f : Form) (rest : List ℕ) → ((r : List ℕ) → drop_while is_white bytes ≡ 62 ∷ r → ⊥) → ((r : List ℕ) → drop_while is_white bytes ≡ 47 ∷ 62 ∷ r → ⊥) → ClosesAs bytes f rest → ⊥
no_close_here bytes f rest n m (inl e) = n rest e.1
no_close_here bytes f rest n m (inr e) = m rest e.1

no_ending_here : (bytes : List ℕ) → NoAttribute bytes → ((r : List ℕ) → drop_while is_white bytes ≡ 62 ∷ r → ⊥) → ((r : List ℕ) → drop_while is_white bytes ≡ 47 ∷ 62 ∷ r → ⊥) → NoEnding bytes
no_ending_here bytes a n m f attributes rest k = elim (unended k) [
  | inl e ↦ no_close_here bytes f rest n m e.1
  | inr g ↦ a g.a g.next g.first
]

ending_here : (bytes : List ℕ) → NoAttribute bytes → AnEnding bytes ⊎ NoEnding bytes
ending_here bytes a = elim (dec_stop (drop_while is_white bytes) 62) [
  | inl s ↦ inl (forms.Start, [], s.0, start s.1)
  | inr n ↦ elim (dec_stop (drop_while is_white bytes) 47) [
    | inr m ↦ inr (no_ending_here bytes a n (λ r e. m (62 ∷ r) e))
    | inl s ↦ elim (dec_stop s.0 62) [
      | inl t ↦ inl (forms.Empty, [], t.0, empty (s.1 ∙ ap (λ z. 47 ∷ z) t.1))
      | inr m ↦ inr (no_ending_here bytes a n (λ r e. m r (tail_of 47 47 s.0 (62 ∷ r) (sym s.1 ∙ e))))
    ]
  ]
]

dec_ending : (n : ℕ) (bytes : List ℕ) → length bytes ≤ n → AnEnding bytes ⊎ NoEnding bytes
dec_ending zero bytes le = elim (dec_attribute bytes) [
  | inl a ↦ let l = attribute_shorter bytes a.0 a.1 a.2 in absurd (omega arith)
  | inr m ↦ ending_here bytes m
]
dec_ending (suc n) bytes le = elim (dec_attribute bytes) [
  | inl a ↦ ending_after bytes a.1 a.0 a.2 (dec_ending n a.1 (let l = attribute_shorter bytes a.0 a.1 a.2 in omega arith))
  | inr m ↦ ending_here bytes m
]

abbrev pub ATag : List ℕ → Type 0
ATag bytes = (t : Tag) × (rest : List ℕ) × IsTag bytes t rest

end_only : (bytes inner : List ℕ) (g : Tag) (rest : List ℕ) → bytes ≡ 60 ∷ 47 ∷ inner → IsTag bytes g rest → (begins_with is_ascii_alphabetic inner ≡ true → drop_while is_white (drop_while is_ascii_alphabetic inner) ≡ 62 ∷ rest → ⊥) → ⊥
end_only bytes inner g rest e i h = elim (untagged i) [
  | inl f ↦ slash_no_letter f.inner inner (tail_of 60 60 f.inner (47 ∷ inner) (sym f.is ∙ e)) f.letter
  | inr f ↦
      let s : f.inner ≡ inner = tail_of 47 47 f.inner inner (tail_of 60 60 (47 ∷ f.inner) (47 ∷ inner) (sym f.is ∙ e)) in
      h (ap (begins_with is_ascii_alphabetic) (sym s) ∙ f.letter) (ap (λ z. drop_while is_white (drop_while is_ascii_alphabetic z)) (sym s) ∙ f.closes)
]

-- after `</`
dec_end : (bytes inner : List ℕ) → bytes ≡ 60 ∷ 47 ∷ inner → ATag bytes ⊎ NoTag bytes
dec_end bytes inner e = elim (cases_Bool (begins_with is_ascii_alphabetic inner)) [
  | inr t ↦ inr (λ g rest i. end_only bytes inner g rest e i (λ b c. both_ways (begins_with is_ascii_alphabetic inner) b t))
  | inl t ↦ elim (dec_stop (drop_while is_white (drop_while is_ascii_alphabetic inner)) 62) [
    | inl s ↦ inl (record { form = forms.End; name = take_while is_ascii_alphabetic inner; attributes = [] }, s.0, subst (λ z. IsTag z (end_tag (take_while is_ascii_alphabetic inner) []) s.0) (sym e) (closing t s.1))
    | inr n ↦ inr (λ g rest i. end_only bytes inner g rest e i (λ b c. n rest c))
  ]
]

-- after `<`
dec_start : (bytes inner : List ℕ) → bytes ≡ 60 ∷ inner → ((r : List ℕ) → inner ≡ 47 ∷ r → ⊥) → ATag bytes ⊎ NoTag bytes
dec_start bytes inner e n = elim (cases_Bool (begins_with is_ascii_alphabetic inner)) [
  | inr t ↦ inr (no_letter bytes inner e n t)
  | inl t ↦ elim (dec_ending (length (drop_while is_ascii_alphabetic inner)) (drop_while is_ascii_alphabetic inner) (omega arith)) [
    | inl h ↦ inl (a_tag h.0 (take_while is_ascii_alphabetic inner) h.1, h.2, an_opening bytes inner (take_while is_ascii_alphabetic inner) (drop_while is_ascii_alphabetic inner) h.2 h.0 h.1 e t refl refl h.3)
    | inr m ↦ inr (no_opening bytes inner (drop_while is_ascii_alphabetic inner) e n refl m)
  ]
]

pub dec_tag : (bytes : List ℕ) → ATag bytes ⊎ NoTag bytes
dec_tag bytes = elim (dec_stop bytes 60) [
  | inr n ↦ inr (λ t rest i. elim (untagged i) [ inl f ↦ n f.inner f.is | inr f ↦ n (47 ∷ f.inner) f.is ])
  | inl s ↦ elim (dec_stop s.0 47) [
    | inl r ↦ dec_end bytes r.0 (s.1 ∙ ap (λ z. 60 ∷ z) r.1)
    | inr n ↦ dec_start bytes s.0 s.1 n
  ]
]

pub tag_shorter : (bytes : List ℕ) (t : Tag) (rest : List ℕ) → IsTag bytes t rest → length rest < length bytes
tag_shorter bytes t rest i = elim (untagged i) [
  | inl f ↦ let a = ap length f.is in let b = after_shorter is_ascii_alphabetic f.inner in let c = ending_shorter f.ending in omega arith
  | inr f ↦ let a = ap length f.is in let b = after_shorter is_ascii_alphabetic f.inner in let d = after_shorter is_white (drop_while is_ascii_alphabetic f.inner) in let c = ap length f.closes in omega arith
]

-- ---- what may stand before the tokens

pub dec_mark : (bytes : List ℕ) → (rest : List ℕ) × IsAfterMark bytes rest
dec_mark bytes = elim (dec_prefix byte_order_mark bytes) [
  | inl f ↦ (f.0, inl f.1)
  | inr n ↦ (bytes, inr (n, refl))
]

past_of : (bytes inside i r : List ℕ) → bytes ≡ codes "<?xml" ++ inside → bytes ≡ codes "<?xml" ++ i → Past (codes "?>") i r → Past (codes "?>") inside r
past_of bytes inside i r e f p = subst (λ z. Past (codes "?>") z r) (append_same (codes "<?xml") i inside (sym f ∙ e)) p

pub dec_declaration : (bytes : List ℕ) → (rest : List ℕ) × IsAfterDeclaration bytes rest
dec_declaration bytes = elim (dec_prefix (codes "<?xml") bytes) [
  | inr n ↦ (bytes, inr ((λ i r e p. n i e), refl))
  | inl f ↦ elim (dec_past (codes "?>") f.0) [
    | inl g ↦ (g.0, inl (f.0, f.1, g.1))
    | inr n ↦ (bytes, inr ((λ i r e p. n r (past_of bytes f.0 i r f.1 e p)), refl))
  ]
]
