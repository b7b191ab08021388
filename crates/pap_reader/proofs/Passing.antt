-- What is passed over, and tags.
use Rattle.std.proofs.Common.{◌≡◌, ℕ, ◌⊎◌, inl, inr, Bool, true, false, Option, Some, None, Bor, List, [], ◌∷◌, ◌++◌, refl, sym, ap, subst, ◌∙◌}
use Rattle.std.specs.Prelude.{MatchOption, codes}
use Rattle.pap_tree.specs.White.{is_white}
use Rattle.pap_reader.specs.declared.tags.Form.{Form}
use Rattle.pap_reader.specs.declared.tags.Form.TheVariants as forms
use Rattle.pap_reader.specs.Tags.{Attribute, Tag, Ending, IsTag, opening, closing}
use Rattle.pap_reader.specs.Bytes.{begins_with, drop_while}
use Rattle.std.specs.Char.{is_ascii_alphabetic}
use Rattle.std.specs.List.{take_while}
use Rattle.pap_reader.specs.Skipped.{Past, here, later, IsPassed, white, comment}
use Rattle.pap_reader.proofs.Lexing.{same_ending}

tail_of : (b c : ℕ) (x y : List ℕ) → b ∷ x ≡ c ∷ y → x ≡ y
tail_of b c x y e = cc

head_of : (b c : ℕ) (x y : List ℕ) → b ∷ x ≡ c ∷ y → b ≡ c
head_of b c x y e = cc

both_ways : (b : Bool) → b ≡ true → b ≡ false → ⊥
both_ways b e f = absurd cc

pub append_same : (front xs ys : List ℕ) → front ++ xs ≡ front ++ ys → xs ≡ ys
append_same [] xs ys e = e
append_same (b ∷ front) xs ys e = append_same front xs ys (tail_of b b (front ++ xs) (front ++ ys) e)

-- ---- up to a mark

pub past_here : (mark bytes rest : List ℕ) → bytes ≡ mark ++ rest → Past mark bytes rest
past_here mark bytes rest e = subst (λ z. Past mark z rest) (sym e) here

pub past_later : (mark bytes next rest : List ℕ) (b : ℕ) → bytes ≡ b ∷ next → ((left : List ℕ) → bytes ≡ mark ++ left → ⊥) → Past mark next rest → Past mark bytes rest
past_later mark bytes next rest b e h p = subst (λ z. Past mark z rest) (sym e) (later (λ left f. h left (e ∙ f)) p)

pub record LaterOn (mark bytes rest : List ℕ) : Type 0 where
  pub b : ℕ
  pub next : List ℕ
  pub is : bytes ≡ b ∷ next
  pub no : (left : List ℕ) → bytes ≡ mark ++ left → ⊥
  pub past : Past mark next rest

pub unpast : {mark bytes rest : List ℕ} → Past mark bytes rest → (bytes ≡ mark ++ rest) ⊎ LaterOn mark bytes rest
unpast here = inl refl
unpast (later {bytes} {b} h p) = inr (record { b = b; next = bytes; is = refl; no = h; past = p })

pub past_only : (mark bytes next rest : List ℕ) (b : ℕ) → bytes ≡ b ∷ next → ((left : List ℕ) → bytes ≡ mark ++ left → ⊥) → Past mark bytes rest → Past mark next rest
past_only mark bytes next rest b e h p = elim (unpast p) [
  | inl f ↦ absurd (h rest f)
  | inr f ↦ subst (λ z. Past mark z rest) (tail_of f.b b f.next next (sym f.is ∙ e)) f.past
]

pub same_past : {mark bytes x : List ℕ} → Past mark bytes x → (y : List ℕ) → Past mark bytes y → x ≡ y
same_past (here {mark} {rest}) y k = elim (unpast k) [
  | inl e ↦ append_same mark rest y e
  | inr f ↦ absurd (f.no rest refl)
]
same_past (later {mark} {bytes} {rest} {b} h p) y k = elim (unpast k) [
  | inl e ↦ absurd (h y e)
  | inr f ↦ same_past p y (subst (λ z. Past mark z y) (sym (tail_of b f.b bytes f.next f.is)) f.past)
]

-- ---- white space and comments

pub record WhiteFirst (bytes rest : List ℕ) : Type 0 where
  pub b : ℕ
  pub is : bytes ≡ b ∷ rest
  pub white : is_white b ≡ true

pub record CommentFirst (bytes rest : List ℕ) : Type 0 where
  pub inside : List ℕ
  pub is : bytes ≡ codes "<!--" ++ inside
  pub past : Past (codes "-->") inside rest

pub unpassed : {bytes rest : List ℕ} → IsPassed bytes rest → WhiteFirst bytes rest ⊎ CommentFirst bytes rest
unpassed (white {b} h) = inl (record { b = b; is = refl; white = h })
unpassed (comment {bytes} p) = inr (record { inside = bytes; is = refl; past = p })

-- ---- tags

abbrev pub a_tag : Form → List ℕ → List Attribute → Tag
a_tag f n attributes = record { form = f; name = n; attributes = attributes }

abbrev pub end_tag : List ℕ → List Attribute → Tag
end_tag n attributes = record { form = forms.End; name = n; attributes = attributes }

pub a_closing : (bytes name left rest : List ℕ) (attributes : List Attribute) → begins_with is_ascii_alphabetic bytes ≡ true → name ≡ take_while is_ascii_alphabetic bytes → attributes ≡ [] → left ≡ drop_while is_white (drop_while is_ascii_alphabetic bytes) → left ≡ 62 ∷ rest
    → IsTag (60 ∷ 47 ∷ bytes) (record { form = forms.End; name = name; attributes = attributes }) rest
a_closing bytes name left rest attributes b e f g h =
    let t : end_tag (take_while is_ascii_alphabetic bytes) [] ≡ end_tag name attributes = λ i. record { form = forms.End; name = sym e i; attributes = sym f i } in
    subst (λ z. IsTag (60 ∷ 47 ∷ bytes) z rest) t (closing b (sym g ∙ h))

pub an_opening : (bytes inner name left rest : List ℕ) (f : Form) (attributes : List Attribute) → bytes ≡ 60 ∷ inner → begins_with is_ascii_alphabetic inner ≡ true → name ≡ take_while is_ascii_alphabetic inner → left ≡ drop_while is_ascii_alphabetic inner → Ending left f attributes rest → IsTag bytes (a_tag f name attributes) rest
an_opening bytes inner name left rest f attributes e b i j h =
    subst (λ z. IsTag z (a_tag f name attributes) rest) (sym e)
    (subst (λ z. IsTag (60 ∷ inner) (a_tag f z attributes) rest) (sym i) (opening b (subst (λ z. Ending z f attributes rest) j h)))

-- how a tag begins
pub record OpeningFirst (bytes : List ℕ) (t : Tag) (rest : List ℕ) : Type 0 where
  pub inner : List ℕ
  pub is : bytes ≡ 60 ∷ inner
  pub letter : begins_with is_ascii_alphabetic inner ≡ true
  pub ending : Ending (drop_while is_ascii_alphabetic inner) t.form t.attributes rest
  pub name : t.name ≡ take_while is_ascii_alphabetic inner

pub record ClosingFirst (bytes : List ℕ) (t : Tag) (rest : List ℕ) : Type 0 where
  pub inner : List ℕ
  pub is : bytes ≡ 60 ∷ 47 ∷ inner
  pub letter : begins_with is_ascii_alphabetic inner ≡ true
  pub closes : drop_while is_white (drop_while is_ascii_alphabetic inner) ≡ 62 ∷ rest
  pub tag : t ≡ end_tag (take_while is_ascii_alphabetic inner) []

pub untagged : {bytes rest : List ℕ} {t : Tag} → IsTag bytes t rest → OpeningFirst bytes t rest ⊎ ClosingFirst bytes t rest
untagged (opening {bytes} b h) = inl (record { inner = bytes; is = refl; letter = b; ending = h; name = refl })
untagged (closing {bytes} b h) = inr (record { inner = bytes; is = refl; letter = b; closes = h; tag = refl })

pub slash_no_letter : (inner more : List ℕ) → inner ≡ 47 ∷ more → begins_with is_ascii_alphabetic inner ≡ true → ⊥
slash_no_letter inner more e h = both_ways (begins_with is_ascii_alphabetic inner) h (ap (begins_with is_ascii_alphabetic) e)

pub no_opening : (bytes inner left : List ℕ) → bytes ≡ 60 ∷ inner → ((r : List ℕ) → inner ≡ 47 ∷ r → ⊥) → left ≡ drop_while is_ascii_alphabetic inner → ((f : Form) (attributes : List Attribute) (rest : List ℕ) → Ending left f attributes rest → ⊥) → (t : Tag) (rest : List ℕ) → IsTag bytes t rest → ⊥
no_opening bytes inner left e n j h t rest k = elim (untagged k) [
  | inl g ↦
      let s : g.inner ≡ inner = tail_of 60 60 g.inner inner (sym g.is ∙ e) in
      h t.form t.attributes rest (subst (λ z. Ending z t.form t.attributes rest) (ap (drop_while is_ascii_alphabetic) s ∙ sym j) g.ending)
  | inr g ↦ n g.inner (tail_of 60 60 inner (47 ∷ g.inner) (sym e ∙ g.is))
]

pub no_letter : (bytes inner : List ℕ) → bytes ≡ 60 ∷ inner → ((r : List ℕ) → inner ≡ 47 ∷ r → ⊥) → begins_with is_ascii_alphabetic inner ≡ false → (t : Tag) (rest : List ℕ) → IsTag bytes t rest → ⊥
no_letter bytes inner e n b t rest k = elim (untagged k) [
  | inl g ↦ both_ways (begins_with is_ascii_alphabetic inner) (ap (begins_with is_ascii_alphabetic) (tail_of 60 60 inner g.inner (sym e ∙ g.is)) ∙ g.letter) b
  | inr g ↦ n g.inner (tail_of 60 60 inner (47 ∷ g.inner) (sym e ∙ g.is))
]

pub record SameTag (t u : Tag) (x y : List ℕ) : Type 0 where
  pub tag : t ≡ u
  pub rest : x ≡ y

pub same_tag : (bytes : List ℕ) (t u : Tag) (x y : List ℕ) → IsTag bytes t x → IsTag bytes u y → SameTag t u x y
same_tag bytes t u x y h k = elim (untagged h) [
  | inl f ↦ elim (untagged k) [
    | inl g ↦
        let i : f.inner ≡ g.inner = tail_of 60 60 f.inner g.inner (sym f.is ∙ g.is) in
        let s = same_ending f.ending u.form u.attributes y (subst (λ z. Ending (drop_while is_ascii_alphabetic z) u.form u.attributes y) (sym i) g.ending) in
        record { tag = λ j. record { form = s.form j; name = (f.name ∙ ap (take_while is_ascii_alphabetic) i ∙ sym g.name) j; attributes = s.own_is j }; rest = s.rest }
    | inr g ↦ absurd (slash_no_letter f.inner g.inner (tail_of 60 60 f.inner (47 ∷ g.inner) (sym f.is ∙ g.is)) f.letter)
  ]
  | inr f ↦ elim (untagged k) [
    | inl g ↦ absurd (slash_no_letter g.inner f.inner (tail_of 60 60 g.inner (47 ∷ f.inner) (sym g.is ∙ f.is)) g.letter)
    | inr g ↦
        let i : f.inner ≡ g.inner = tail_of 47 47 f.inner g.inner (tail_of 60 60 (47 ∷ f.inner) (47 ∷ g.inner) (sym f.is ∙ g.is)) in
        record { tag = f.tag ∙ ap (λ z. end_tag (take_while is_ascii_alphabetic z) []) i ∙ sym g.tag; rest = tail_of 62 62 x y (sym f.closes ∙ ap (λ z. drop_while is_white (drop_while is_ascii_alphabetic z)) i ∙ g.closes) }
  ]
]

angle_no_white : (b : ℕ) (x y : List ℕ) → b ∷ x ≡ 60 ∷ y → is_white b ≡ true → ⊥
angle_no_white b x y e h = both_ways (is_white b) h (ap is_white (head_of b 60 x y e))

bang_no_letter : (inner more : List ℕ) → inner ≡ 33 ∷ more → begins_with is_ascii_alphabetic inner ≡ true → ⊥
bang_no_letter inner more e h = both_ways (begins_with is_ascii_alphabetic inner) h (ap (begins_with is_ascii_alphabetic) e)

no_slash : (x y : List ℕ) → 60 ∷ 33 ∷ x ≡ 60 ∷ 47 ∷ y → ⊥
no_slash x y e = absurd cc

pub same_passed : (bytes x y : List ℕ) → IsPassed bytes x → IsPassed bytes y → x ≡ y
same_passed bytes x y h k = elim (unpassed h) [
  | inl f ↦ elim (unpassed k) [
    | inl g ↦ tail_of f.b g.b x y (sym f.is ∙ g.is)
    | inr g ↦ absurd (angle_no_white f.b x (codes "!--" ++ g.inside) (sym f.is ∙ g.is) f.white)
  ]
  | inr f ↦ elim (unpassed k) [
    | inl g ↦ absurd (angle_no_white g.b y (codes "!--" ++ f.inside) (sym g.is ∙ f.is) g.white)
    | inr g ↦ same_past f.past y (subst (λ z. Past (codes "-->") z y) (append_same (codes "<!--") g.inside f.inside (sym g.is ∙ f.is)) g.past)
  ]
]

-- what is passed over is no tag
pub passed_no_tag : (bytes x : List ℕ) (t : Tag) (y : List ℕ) → IsPassed bytes x → IsTag bytes t y → ⊥
passed_no_tag bytes x t y h k = elim (unpassed h) [
  | inl f ↦ elim (untagged k) [
    | inl g ↦ angle_no_white f.b x g.inner (sym f.is ∙ g.is) f.white
    | inr g ↦ angle_no_white f.b x (47 ∷ g.inner) (sym f.is ∙ g.is) f.white
  ]
  | inr f ↦ elim (untagged k) [
    | inl g ↦ bang_no_letter g.inner (codes "--" ++ f.inside) (tail_of 60 60 g.inner (33 ∷ (codes "--" ++ f.inside)) (sym g.is ∙ f.is)) g.letter
    | inr g ↦ no_slash (codes "--" ++ f.inside) g.inner (sym f.is ∙ g.is)
  ]
]
