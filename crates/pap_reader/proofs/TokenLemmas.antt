-- The tokens of a file: how they are read, that there is one list of them, and where each of their tags stands.
use Rattle.std.proofs.Common.{◌≡◌, ℕ, suc, ◌+◌, ◌-◌, ◌<◌, ◌≤◌, ◌⊎◌, inl, inr, Bool, true, false, cond, List, [], ◌∷◌, ◌++◌, length, take, drop, get_or, map, refl, sym, ap, subst, ◌∙◌, arith}
use Rattle.std.specs.Prelude.{codes}
use Rattle.std.specs.List.{prefix_len}
use Rattle.std.proofs.lemmas.Bool.{cases_Bool, both_ways}
use Rattle.std.proofs.lemmas.List.{append-nil, append_assoc, map-append, length-append, take_at, take_more, drop_more, take-append-drop}
use Rattle.std.proofs.lemmas.List.Concat.{flat_map-append}
use Rattle.pap_tree.specs.White.{is_white}
use Rattle.pap_reader.specs.declared.tokens.Token.{Token as ReadToken}
use Rattle.pap_reader.specs.Bytes.{begins_with, drop_while}
use Rattle.pap_reader.specs.Tags.{IsTag}
use Rattle.pap_reader.specs.Skipped.{Past, here, later, IsPassed, IsAfterProlog, comment}
use Rattle.pap_reader.specs.Skipped as skipped
use Rattle.pap_reader.specs.Tokens.{PlacedTag, Leads, Reads, IsAlien, placed}
use Rattle.pap_reader.specs.Tokens as tokens
use Rattle.pap_reader.specs.Contents.{Token, remark, tagged, IsComment, IsToken, Tells, nothing, white, token, HasTokens, tag_in, tags_of, token_meant}
use Rattle.pap_reader.specs.private.Views.{NoComment, NoToken}
use Rattle.pap_reader.proofs.Passing.{unpassed}

-- ---- white space

pub after_one : (p : ℕ → Bool) (b : ℕ) (bs : List ℕ) → p b ≡ true → drop_while p (b ∷ bs) ≡ drop_while p bs
after_one p b bs e =
    let next : suc (prefix_len p bs) ≡ 1 + prefix_len p bs = omega arith in
    ap (λ c. drop (cond c (1 + prefix_len p bs) 0) (b ∷ bs)) e
    ∙ subst (λ n. drop n (b ∷ bs) ≡ drop (prefix_len p bs) bs) next refl

pub after_none : (p : ℕ → Bool) (b : ℕ) (bs : List ℕ) → p b ≡ false → drop_while p (b ∷ bs) ≡ b ∷ bs
after_none p b bs e = ap (λ c. drop (cond c (1 + prefix_len p bs) 0) (b ∷ bs)) e

told_white : (n : ℕ) (bs : List ℕ) → Tells n bs [] (drop_while is_white bs)
told_white n [] = nothing
told_white n (b ∷ bs) = elim (cases_Bool (is_white b)) [
  | inl w ↦ subst (Tells n (b ∷ bs) []) (sym (after_one is_white b bs w)) (white w (told_white n bs))
  | inr w ↦ subst (Tells n (b ∷ bs) []) (sym (after_none is_white b bs w)) nothing
]

pub black : (bs : List ℕ) → begins_with is_white (drop_while is_white bs) ≡ false
black [] = refl
black (b ∷ bs) = elim (cases_Bool (is_white b)) [
  | inl w ↦ ap (begins_with is_white) (after_one is_white b bs w) ∙ black bs
  | inr w ↦ ap (begins_with is_white) (after_none is_white b bs w) ∙ w
]

-- ---- a comment

past_parts : {mark bytes rest : List ℕ} → Past mark bytes rest
    → (inside : List ℕ) × (bytes ≡ inside ++ (mark ++ rest))
past_parts here = ([], refl)
past_parts (later {b} h p) = let parts = past_parts p in (b ∷ parts.0, ap (λ z. b ∷ z) parts.1)

-- what stands before the mark
pub comment_found : (bytes inner rest : List ℕ) → bytes ≡ codes "<!--" ++ inner → Past (codes "-->") inner rest
    → IsComment bytes (take (length inner - length rest - 3) inner) rest
comment_found bytes inner rest e p =
    let parts = past_parts p in
    let end = codes "-->" ++ rest in
    let size : length (parts.0 ++ end) - length rest - 3 ≡ length parts.0 = omega (arith, length-append parts.0 end) in
    let is : take (length inner - length rest - 3) inner ≡ parts.0 =
    ap (λ z. take (length z - length rest - 3) z) parts.1 ∙ ap (λ n. take n (parts.0 ++ end)) size
    ∙ take_at parts.0 end (length parts.0) refl in
    subst (λ z. IsComment bytes z rest) (sym is)
    (record { is = e ∙ ap (λ z. codes "<!--" ++ z) parts.1; first = subst (λ z. Past (codes "-->") z rest) parts.1 p })

pub comment_size : (inner rest : List ℕ) → Past (codes "-->") inner rest → length rest + 3 ≤ length inner
comment_size inner rest p =
    let parts = past_parts p in
    omega (arith, ap length parts.1, length-append parts.0 (codes "-->" ++ rest))

pub comment_passed : (bytes inside rest : List ℕ) → IsComment bytes inside rest → IsPassed bytes rest
comment_passed bytes inside rest h = subst (λ z. IsPassed z rest) (sym h.is) (comment h.first)

passed_comment : (bytes rest : List ℕ) → begins_with is_white bytes ≡ false → NoComment bytes → IsPassed bytes rest → ⊥
passed_comment bytes rest b n p = elim (unpassed p) [
  | inl w ↦ both_ways (is_white w.b) (ap (begins_with is_white) (sym w.is) ∙ b) w.white
  | inr k ↦
      let f = comment_found bytes k.inside rest k.is k.past in
      n (take (length k.inside - length rest - 3) k.inside) rest f
]

cons_nil : (b : ℕ) (x : List ℕ) → b ∷ x ≡ [] → ⊥
cons_nil b x e = absurd cc

-- where no token begins
pub ended : (left : List ℕ) → begins_with is_white left ≡ false → NoToken left → (left ≡ []) ⊎ IsAlien left
ended [] b n = inl refl
ended (c ∷ left) b n = inr (record {
  some = cons_nil c left;
  no_tag = n.1;
  not_passed = λ rest p. passed_comment (c ∷ left) rest b n.0 p;
})

-- ---- one token after the other

tells_more : {end : ℕ} {bytes left rest : List ℕ} {ts us : List Token} → Tells end bytes ts left
    → Tells end left us rest → Tells end bytes (ts ++ us) rest
tells_more nothing k = k
tells_more (white w h) k = white w (tells_more h k)
tells_more (token t is h) k = token t is (tells_more h k)

pub tokens_start : (file body : List ℕ) (ts : List Token) → IsAfterProlog file body → ts ≡ []
    → HasTokens file ts (drop_while is_white body)
tokens_start file body ts p e =
    subst (λ us. HasTokens file us (drop_while is_white body)) (sym e)
    (record { body = body; prolog = p; tells = told_white (length file) body })

tokens_more : (file left rest : List ℕ) (ts : List Token) (t : Token) → HasTokens file ts left
    → IsToken (length file - length left) left t rest → HasTokens file (ts ++ (t ∷ [])) (drop_while is_white rest)
tokens_more file left rest ts t h i = record {
  body = h.body;
  prolog = h.prolog;
  tells = tells_more h.tells (token t i (told_white (length file) rest));
}

-- ---- the tags among the tokens

leads_told : {n : ℕ} {bytes rest : List ℕ} {ts : List Token} → Tells n bytes ts rest → Leads n bytes (tags_of ts) rest
leads_told nothing = tokens.nothing
leads_told (white w h) = tokens.passed (skipped.white w) (leads_told h)
leads_told (token {bytes} {next} (remark at inside) i h) =
    tokens.passed (comment_passed bytes inside next i.1) (leads_told h)
leads_told {n} {rest} (token {bytes} {next} {ts} (tagged t) i h) =
    let here : t ≡ placed n bytes t.tag = λ j. record { at = i.0 j; tag = t.tag } in
    subst (λ u. Leads n bytes (u ∷ tags_of ts) rest) (sym here) (tokens.tag t.tag i.1 (leads_told h))

pub reads_told : (file rest : List ℕ) (ts : List Token) → HasTokens file ts rest → Reads file (tags_of ts) rest
reads_told file rest ts h = record {
  unmarked = h.prolog.0;
  mark = h.prolog.1;
  body = h.body;
  declaration = h.prolog.2;
  leads = leads_told h.tells;
}

-- where one of the tokens stands
record Found (n : ℕ) (bytes : List ℕ) (a : List Token) (t : Token) : Type 0 where
  here : List ℕ
  next : List ℕ
  before : Tells n bytes a here
  is : IsToken (n - length here) here t next

find : {n : ℕ} {bytes rest : List ℕ} {ts : List Token} → Tells n bytes ts rest → (a b : List Token) (t : Token)
    → ts ≡ a ++ (t ∷ b) → Found n bytes a t
find nothing [] b t e = absurd cc
find nothing (u ∷ a) b t e = absurd cc
find (white w h) a b t e =
    let f = find h a b t e in record { here = f.here; next = f.next; before = white w f.before; is = f.is }
find {n} (token {bytes} {next} u i h) [] b t e =
    let same : u ≡ t = cc in
    record { here = bytes; next = next; before = nothing; is = subst (λ z. IsToken (n - length bytes) bytes z next) same i }
find {n} (token {bytes} {next} {ts} u i h) (v ∷ a) b t e =
    let same : u ≡ v = cc in
    let others : ts ≡ a ++ (t ∷ b) = cc in
    let f = find h a b t others in
    record {
      here = f.here;
      next = f.next;
      before = token v (subst (λ z. IsToken (n - length bytes) bytes z next) same i) f.before;
      is = f.is;
    }

-- the tags before a tag are read, and then it stands there
pub record Reached (file : List ℕ) (before : List PlacedTag) (t : PlacedTag) : Type 0 where
  pub here : List ℕ
  pub next : List ℕ
  pub read : Reads file before here
  pub at : t.at ≡ length file - length here
  pub is : IsTag here t.tag next

pub reached : (file rest : List ℕ) (a b : List Token) (t : PlacedTag) → HasTokens file (a ++ (tagged t ∷ b)) rest
    → Reached file (tags_of a) t
reached file rest a b t h =
    let f = find h.tells a b (tagged t) refl in
    record {
      here = f.here;
      next = f.next;
      read = reads_told file f.here a (record { body = h.body; prolog = h.prolog; tells = f.before });
      at = f.is.0;
      is = f.is.1;
    }

-- ---- as the code has them

-- The list of a slice `ys` is that of its `Vec`.
pub one_token_more : (xs ys : List ReadToken) (i : ℕ) (t : ReadToken) → ys ≡ xs → i < length ys → t ≡ get_or ys i t
    → map token_meant (take (i + 1) xs) ≡ map token_meant (take i xs) ++ (token_meant t ∷ [])
one_token_more xs ys i t same lt e =
    subst (λ zs. map token_meant (take (i + 1) zs) ≡ map token_meant (take i zs) ++ (token_meant t ∷ [])) same
    (ap (map token_meant) (take_more ys i t lt) ∙ map-append token_meant (take i ys) (get_or ys i t ∷ [])
    ∙ ap (λ z. map token_meant (take i ys) ++ (token_meant z ∷ [])) (sym e))

-- The tokens from a number on.
pub tokens_left : (xs ys : List ReadToken) (i : ℕ) (t u : ReadToken) → ys ≡ xs → i < length ys → t ≡ get_or ys i t → t ≡ u
    → map token_meant (drop i xs) ≡ token_meant u ∷ map token_meant (drop (i + 1) xs)
tokens_left xs ys i t u same lt e is =
    subst (λ zs. map token_meant (drop i zs) ≡ token_meant u ∷ map token_meant (drop (i + 1) zs)) same
    (ap (map token_meant) (drop_more ys i t lt) ∙ ap (λ z. token_meant z ∷ map token_meant (drop (i + 1) ys)) (sym e ∙ is))

-- one token more is kept, and white space is passed over
pub tokens_pushed : (file left rest next : List ℕ) (xs ys : List ReadToken) (t : ReadToken) → HasTokens file (map token_meant xs) left
    → IsToken (length file - length left) left (token_meant t) rest → ys ≡ xs ++ (t ∷ []) → next ≡ drop_while is_white rest
    → HasTokens file (map token_meant ys) next
tokens_pushed file left rest next xs ys t h i e w =
    subst (HasTokens file (map token_meant ys)) (sym w)
    (subst (λ ts. HasTokens file ts (drop_while is_white rest)) (sym (ap (map token_meant) e ∙ map-append token_meant xs (t ∷ [])))
    (tokens_more file left rest (map token_meant xs) (token_meant t) h i))

-- the tags of the first tokens
abbrev pub tags_before : List ReadToken → ℕ → List PlacedTag
tags_before xs i = tags_of (map token_meant (take i xs))

pub tags_more : (xs ys : List ReadToken) (i : ℕ) (t u : ReadToken) → ys ≡ xs → i < length ys → t ≡ get_or ys i t → t ≡ u
    → tags_before xs (i + 1) ≡ tags_before xs i ++ tag_in (token_meant u)
tags_more xs ys i t u same lt e is =
    ap tags_of (one_token_more xs ys i t same lt e) ∙ flat_map-append tag_in (map token_meant (take i xs)) (token_meant t ∷ [])
    ∙ ap (λ z. tags_before xs i ++ z) (append-nil (tag_in (token_meant t))) ∙ ap (λ z. tags_before xs i ++ tag_in (token_meant z)) is

-- the tag of a number is reached behind those before it
pub reached_at : (file rest : List ℕ) (xs ys : List ReadToken) (i : ℕ) (t : ReadToken) (p : PlacedTag) → HasTokens file (map token_meant xs) rest
    → ys ≡ xs → i < length ys → t ≡ get_or ys i t → token_meant t ≡ tagged p → Reached file (tags_before xs i) p
reached_at file rest xs ys i t p h same lt e is =
    let front : List Token = map token_meant (take i xs) in
    let behind : List Token = map token_meant (drop (i + 1) xs) in
    let whole : map token_meant xs ≡ front ++ (tagged p ∷ behind) =
    ap (map token_meant) (sym (take-append-drop (i + 1) xs)) ∙ map-append token_meant (take (i + 1) xs) (drop (i + 1) xs)
    ∙ ap (λ z. z ++ behind) (one_token_more xs ys i t same lt e) ∙ append_assoc front (token_meant t ∷ []) behind
    ∙ ap (λ z. front ++ (z ∷ behind)) is in
    reached file rest front behind p (subst (λ ts. HasTokens file ts rest) whole h)
