-- What was read of a way, with the nodes of its parts.
use Rattle.std.proofs.Common.{◌≡◌, ℕ, Bool, true, false, List, [], ◌∷◌, ◌++◌, refl, sym, ap, subst, ◌∙◌, append_assoc}
use Rattle.std.proofs.lemmas.List.{append-nil}
use Rattle.pap_tree.specs.Tokens.{Token, Literal, int}
use Rattle.pap_tree.specs.Grammar.{Item, Is, Opens, Scale, Scaling, Part, Guard, Line, LineMeaning, Way}
use Rattle.pap_expr.specs.declared.stretch.Stretch.{Stretch}
use Rattle.pap_expr.specs.NodeBytes as nodes
use Rattle.pap_expr.specs.NodeBytes.{stretch, PlacedToken, end_byte, bytes_of, makes_node, own_node, StandsOn, ItemsStandOn}

-- ---- bytes of tokens

-- the last of some tokens is that of those behind the first ones
pub end_append : (a : List PlacedToken) (t : PlacedToken) (b : List PlacedToken) → end_byte (a ++ (t ∷ b)) ≡ end_byte (t ∷ b)
end_append [] t b = refl
end_append (u ∷ []) t b = refl
end_append (u ∷ v ∷ a) t b = end_append (v ∷ a) t b

-- ---- a way of which some items are left

-- Before tokens of these items, the tokens that were read make a text that stands for this; n says whether it is a node.
abbrev pub Lacks : Bool → List Item → LineMeaning → List PlacedToken → List Stretch → Type 0
Lacks n items x own inside = (c : List PlacedToken) (ps : List Stretch) → ItemsStandOn items c ps → StandsOn (own ++ c) x ((inside ++ ps) ++ own_node n (own ++ c))

-- nothing was read yet
pub whole_way : {l : Line} {x : LineMeaning} (items : List Item) (w : Way l items x) → Lacks (makes_node w) items x [] []
whole_way items w c ps h = nodes.by items w h

stands_at : (a b : List PlacedToken) (x : LineMeaning) (inside : List Stretch) (n : Bool) → a ≡ b → StandsOn a x (inside ++ own_node n a) → StandsOn b x (inside ++ own_node n b)
stands_at a b x inside n e h = subst (λ z. StandsOn z x (inside ++ own_node n z)) e h

pub pass_is : (n : Bool) (u : Token) (items : List Item) (x : LineMeaning) (own : List PlacedToken) (inside : List Stretch) (t : PlacedToken)
    → t.token ≡ u → Lacks n (Is u ∷ items) x own inside → Lacks n items x (own ++ (t ∷ [])) inside
pass_is n u items x own inside t e l c ps h = stands_at (own ++ (t ∷ c)) ((own ++ (t ∷ [])) ++ c) x (inside ++ ps) n (sym (append_assoc own (t ∷ []) c)) (l (t ∷ c) ps (nodes.is t e h))

pub pass_opens : (n : Bool) (u : Token) (items : List Item) (x : LineMeaning) (own : List PlacedToken) (inside : List Stretch) (t : PlacedToken)
    → t.token ≡ u → Lacks n (Opens u ∷ items) x own inside → Lacks n items x (own ++ (t ∷ [])) inside
pass_opens n u items x own inside t e l c ps h = stands_at (own ++ (t ∷ c)) ((own ++ (t ∷ [])) ++ c) x (inside ++ ps) n (sym (append_assoc own (t ∷ []) c)) (l (t ∷ c) ps (nodes.opens t e h))

pub pass_scale : (n : Bool) (p : Scaling) (s : ℕ) (items : List Item) (x : LineMeaning) (own : List PlacedToken) (inside : List Stretch) (t : PlacedToken)
    → t.token ≡ Literal (int s) → Lacks n (Scale p s ∷ items) x own inside → Lacks n items x (own ++ (t ∷ [])) inside
pass_scale n p s items x own inside t e l c ps h = stands_at (own ++ (t ∷ c)) ((own ++ (t ∷ [])) ++ c) x (inside ++ ps) n (sym (append_assoc own (t ∷ []) c)) (l (t ∷ c) ps (nodes.scale t e h))

pub pass_part : (n : Bool) (g : Guard) (l : Line) (y : LineMeaning) (items : List Item) (x : LineMeaning) (own : List PlacedToken) (inside : List Stretch) (b : List PlacedToken) (qs : List Stretch)
    → StandsOn b y qs → Lacks n (Part g l y ∷ items) x own inside → Lacks n items x (own ++ b) (inside ++ qs)
pass_part n g l y items x own inside b qs t h c ps more =
    stands_at (own ++ (b ++ c)) ((own ++ b) ++ c) x ((inside ++ qs) ++ ps) n (sym (append_assoc own b c))
    (subst (λ z. StandsOn (own ++ (b ++ c)) x (z ++ own_node n (own ++ (b ++ c)))) (sym (append_assoc inside qs ps)) (h (b ++ c) (qs ++ ps) (nodes.part t more)))

-- nothing is left
pub finished : (n : Bool) (x : LineMeaning) (own : List PlacedToken) (inside : List Stretch) → Lacks n [] x own inside → StandsOn own x (inside ++ own_node n own)
finished n x own inside l =
    stands_at (own ++ []) own x inside n (append-nil own)
    (subst (λ z. StandsOn (own ++ []) x (z ++ own_node n (own ++ []))) (append-nil inside) (l [] [] nodes.done))

-- ---- what stands behind a context

-- Of these tokens and nodes the first are those of the context, and the others, which begin at this byte, are these.
pub record Behind (S P : List PlacedToken → List Stretch → Type 0) (b : ℕ) (a : List PlacedToken) (m : List Stretch) : Type 0 where
  pub before : List PlacedToken
  pub first : PlacedToken
  pub more : List PlacedToken
  pub earlier : List Stretch
  pub inside : List Stretch
  pub context : S before earlier
  pub whole : a ≡ before ++ (first ∷ more)
  pub nodes : m ≡ earlier ++ inside
  pub begins : first.on.first ≡ b
  pub own : P (first ∷ more) inside

-- one token, right behind the context
pub alone : (S P : List PlacedToken → List Stretch → Type 0) (a : List PlacedToken) (m : List Stretch) (t : PlacedToken) → S a m → P (t ∷ []) [] → Behind S P t.on.first (a ++ (t ∷ [])) m
alone S P a m t s p = record { before = a; first = t; more = []; earlier = m; inside = []; context = s; whole = refl; nodes = sym (append-nil m); begins = refl; own = p }

-- the same tokens, seen otherwise
pub seen : (S P Q : List PlacedToken → List Stretch → Type 0) (b : ℕ) (a : List PlacedToken) (m : List Stretch) → ((own : List PlacedToken) (i : List Stretch) → P own i → Q own i) → Behind S P b a m → Behind S Q b a m
seen S P Q b a m f h = record {
  before = h.before;
  first = h.first;
  more = h.more;
  earlier = h.earlier;
  inside = h.inside;
  context = h.context;
  whole = h.whole;
  nodes = h.nodes;
  begins = h.begins;
  own = f (h.first ∷ h.more) h.inside h.own;
}

-- one more token
pub onward : (S P Q : List PlacedToken → List Stretch → Type 0) (b : ℕ) (a : List PlacedToken) (m : List Stretch) (t : PlacedToken)
    → ((own : List PlacedToken) (i : List Stretch) → P own i → Q (own ++ (t ∷ [])) i) → Behind S P b a m → Behind S Q b (a ++ (t ∷ [])) m
onward S P Q b a m t f h = record {
  before = h.before;
  first = h.first;
  more = h.more ++ (t ∷ []);
  earlier = h.earlier;
  inside = h.inside;
  context = h.context;
  whole = ap (λ z. z ++ (t ∷ [])) h.whole ∙ append_assoc h.before (h.first ∷ h.more) (t ∷ []);
  nodes = h.nodes;
  begins = h.begins;
  own = f (h.first ∷ h.more) h.inside h.own;
}

-- the part is taken by what waited for it
pub took : (S P Q : List PlacedToken → List Stretch → Type 0) (b c : ℕ) (a : List PlacedToken) (m : List Stretch) (y : LineMeaning)
    → ((own : List PlacedToken) (i : List Stretch) (part : List PlacedToken) (ps : List Stretch) → P own i → StandsOn part y ps → Q (own ++ part) (i ++ ps))
    → Behind (Behind S P b) (λ own i. StandsOn own y i) c a m → Behind S Q b a m
took S P Q b c a m y f h =
    let o = h.context in record {
      before = o.before;
      first = o.first;
      more = o.more ++ (h.first ∷ h.more);
      earlier = o.earlier;
      inside = o.inside ++ h.inside;
      context = o.context;
      whole = h.whole ∙ ap (λ z. z ++ (h.first ∷ h.more)) o.whole ∙ append_assoc o.before (o.first ∷ o.more) (h.first ∷ h.more);
      nodes = h.nodes ∙ ap (λ z. z ++ h.inside) o.nodes ∙ append_assoc o.earlier o.inside h.inside;
      begins = o.begins;
      own = f (o.first ∷ o.more) o.inside (h.first ∷ h.more) h.inside o.own h.own;
    }

-- a way that makes no node is read
pub passed : (S : List PlacedToken → List Stretch → Type 0) (b : ℕ) (a : List PlacedToken) (m : List Stretch) (x : LineMeaning) → Behind S (Lacks false [] x) b a m → Behind S (λ own i. StandsOn own x i) b a m
passed S b a m x h = seen S (Lacks false [] x) (λ own i. StandsOn own x i) b a m (λ own i l. subst (λ z. StandsOn own x z) (append-nil i) (finished false x own i l)) h

-- a way that makes a node is read
pub noded : (S : List PlacedToken → List Stretch → Type 0) (b e : ℕ) (a : List PlacedToken) (m : List Stretch) (x : LineMeaning) → e ≡ end_byte a → Behind S (Lacks true [] x) b a m
    → Behind S (λ own i. StandsOn own x i) b a (m ++ (stretch b e ∷ []))
noded S b e a m x f h =
    let own : List PlacedToken = h.first ∷ h.more in
    let last : end_byte own ≡ e = sym (f ∙ ap end_byte h.whole ∙ end_append h.before h.first h.more) in
    let on : bytes_of own ≡ stretch b e = ap (λ n. stretch n (end_byte own)) h.begins ∙ ap (stretch b) last in
    record {
      before = h.before;
      first = h.first;
      more = h.more;
      earlier = h.earlier;
      inside = h.inside ++ (stretch b e ∷ []);
      context = h.context;
      whole = h.whole;
      nodes = ap (λ z. z ++ (stretch b e ∷ [])) h.nodes ∙ append_assoc h.earlier h.inside (stretch b e ∷ []);
      begins = h.begins;
      own = subst (λ p. StandsOn own x (h.inside ++ (p ∷ []))) on (finished true x own h.inside h.own);
    }
