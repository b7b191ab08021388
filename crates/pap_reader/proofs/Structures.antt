-- What the stack of open elements has read is a front, and each front is read.
use Rattle.std.proofs.Common.{◌≡◌, ℕ, true, ◌&&◌, inl, inr, Option, Some, None, List, [], ◌∷◌, ◌++◌, refl, sym, ap, subst, ◌∙◌, append_assoc}
use Rattle.std.specs.Prelude.{◌==◌, if◌then◌else◌, option_and_then}
use Rattle.std.proofs.lemmas.Bool.{and_parts, and_from, eqb-true, cases_Bool}
use Rattle.std.proofs.lemmas.List.{append-nil}
use Rattle.pap_reader.specs.declared.element.Element.{Element}
use Rattle.pap_reader.specs.declared.element.Element.TheVariants.{Pap, Interface, Variables, Inputs, Outputs, Internals, Constants, Input, Output, Internal, Constant, Methods, Main, Method, Eval, Execute, If, Then, Else}
use Rattle.pap_reader.specs.Table.{number, same, may_stand, is_complete, all_stand, are_contents}
use Rattle.pap_reader.specs.Structure.{Shape, opens, closes, foreign, Nodes, none, node}
use Rattle.pap_reader.specs.private.NestingDecisions.{Open, fresh, with_child, is_inside, enter, enters}

-- ---- two elements with one number are the same

abbrev named : ℕ → Element
named n =
    if n == 0 then Pap else (if n == 1 then Interface else (if n == 2 then Variables else (if n == 3 then Inputs else
    (if n == 4 then Outputs else (if n == 5 then Internals else (if n == 6 then Constants else (if n == 7 then Input else
    (if n == 8 then Output else (if n == 9 then Internal else (if n == 10 then Constant else (if n == 11 then Methods else
    (if n == 12 then Main else (if n == 13 then Method else (if n == 14 then Eval else (if n == 15 then Execute else
    (if n == 16 then If else (if n == 17 then Then else Else)))))))))))))))))

named_is : (e : Element) → named (number e) ≡ e
named_is Pap = refl
named_is Interface = refl
named_is Variables = refl
named_is Inputs = refl
named_is Outputs = refl
named_is Internals = refl
named_is Constants = refl
named_is Input = refl
named_is Output = refl
named_is Internal = refl
named_is Constant = refl
named_is Methods = refl
named_is Main = refl
named_is Method = refl
named_is Eval = refl
named_is Execute = refl
named_is If = refl
named_is Then = refl
named_is Else = refl

pub same_is : (a b : Element) → same a b ≡ true → a ≡ b
same_is a b e = sym (named_is a) ∙ ap named (eqb-true (number a) (number b) e) ∙ named_is b

pub same_refl : (a : Element) → same a a ≡ true
same_refl Pap = refl
same_refl Interface = refl
same_refl Variables = refl
same_refl Inputs = refl
same_refl Outputs = refl
same_refl Internals = refl
same_refl Constants = refl
same_refl Input = refl
same_refl Output = refl
same_refl Internal = refl
same_refl Constant = refl
same_refl Methods = refl
same_refl Main = refl
same_refl Method = refl
same_refl Eval = refl
same_refl Execute = refl
same_refl If = refl
same_refl Then = refl
same_refl Else = refl

-- ---- children

-- the same with more children
abbrev pub with_children : Open → List Element → Open
with_children o es = record { inside = o.inside; children = o.children ++ es }

pub all_stand-append : (p : Option Element) (before es fs : List Element) → all_stand p before (es ++ fs) ≡ (all_stand p before es && all_stand p (before ++ es) fs)
all_stand-append p before [] fs = ap (λ b. all_stand p b fs) (sym (append-nil before))
all_stand-append p before (e ∷ es) fs =
    let h = all_stand-append p (before ++ (e ∷ [])) es fs in
    let r : all_stand p ((before ++ (e ∷ [])) ++ es) fs ≡ all_stand p (before ++ (e ∷ es)) fs = ap (λ b. all_stand p b fs) (append_assoc before (e ∷ []) es) in
    elim (cases_Bool (may_stand p before e)) [
      | inl t ↦ rw (t, h, r) refl
      | inr t ↦ rw t refl
    ]

pub nodes-append : {a b : List Shape} {ks ls : List Element} → Nodes a ks → Nodes b ls → Nodes (a ++ b) (ks ++ ls)
nodes-append none h = h
nodes-append {b} {ls} (node {inside} {rest} {kinds} e i f r) h =
    subst (λ x. Nodes (opens e ∷ x) (e ∷ (kinds ++ ls))) (sym (append_assoc inside (closes e ∷ rest) b)) (node e i f (nodes-append r h))

-- ---- each text is read

record Reads (o : Open) (os : List Open) (ss : List Shape) (kinds : List Element) : Type 0 where
  goes : (rest : List Shape) → enters (o ∷ os) (ss ++ rest) ≡ enters (with_children o kinds ∷ os) rest

pub goes : {ss : List Shape} {kinds : List Element} → Nodes ss kinds → (o : Open) (os : List Open) (rest : List Shape) → all_stand o.inside o.children kinds ≡ true
    → enters (o ∷ os) (ss ++ rest) ≡ enters (with_children o kinds ∷ os) rest
goes none o os rest e = ap (λ es. enters (record { inside = o.inside; children = es } ∷ os) rest) (sym (append-nil o.children))
goes (node {inside} {rest = after} {children} {kinds} f i fit r) o os rest e =
    let parts = and_parts (may_stand o.inside o.children f) (all_stand o.inside (o.children ++ (f ∷ [])) kinds) e in
    let fits_parts = and_parts (all_stand (Some f) [] children) (is_complete (Some f) children) fit in
    let first : enters (o ∷ os) (opens f ∷ ((inside ++ (closes f ∷ after)) ++ rest)) ≡ enters (fresh (Some f) ∷ with_child o f ∷ os) ((inside ++ (closes f ∷ after)) ++ rest)
    = ap (λ b. option_and_then (λ x. enters x ((inside ++ (closes f ∷ after)) ++ rest)) (if b then Some (fresh (Some f) ∷ with_child o f ∷ os) else None)) parts.0 in
    let regroup : enters (fresh (Some f) ∷ with_child o f ∷ os) ((inside ++ (closes f ∷ after)) ++ rest) ≡ enters (fresh (Some f) ∷ with_child o f ∷ os) (inside ++ (closes f ∷ (after ++ rest)))
    = ap (λ x. enters (fresh (Some f) ∷ with_child o f ∷ os) x) (append_assoc inside (closes f ∷ after) rest) in
    let second = goes i (fresh (Some f)) (with_child o f ∷ os) (closes f ∷ (after ++ rest)) fits_parts.0 in
    let close_parts = and_from (same f f) (is_complete (Some f) children) (same_refl f) fits_parts.1 in
    let third : enters (with_children (fresh (Some f)) children ∷ with_child o f ∷ os) (closes f ∷ (after ++ rest)) ≡ enters (with_child o f ∷ os) (after ++ rest)
    = ap (λ b. option_and_then (λ x. enters x (after ++ rest)) (if b then Some (with_child o f ∷ os) else None)) close_parts in
    let fourth = goes r (with_child o f) os rest parts.1 in
    let last : enters (with_children (with_child o f) kinds ∷ os) rest ≡ enters (with_children o (f ∷ kinds) ∷ os) rest
    = ap (λ es. enters (record { inside = o.inside; children = es } ∷ os) rest) (append_assoc o.children (f ∷ []) kinds) in
    first ∙ regroup ∙ second ∙ third ∙ fourth ∙ last

-- ---- what the stack has read

pub data Spelled : List Open → List Shape → Type 0 where
  whole : {ss : List Shape} {kinds : List Element} → Nodes ss kinds → all_stand None [] kinds ≡ true → Spelled (record { inside = None; children = kinds } ∷ []) ss
  within : {o : Open} {os : List Open} {before inside : List Shape} {kinds : List Element} (e : Element)
      → Spelled (o ∷ os) before → may_stand o.inside o.children e ≡ true → Nodes inside kinds → all_stand (Some e) [] kinds ≡ true
      → Spelled (record { inside = Some e; children = kinds } ∷ with_child o e ∷ os) (before ++ (opens e ∷ inside))

pub more_stand : (p : Option Element) (ks ls : List Element) → all_stand p [] ks ≡ true → all_stand p ks ls ≡ true → all_stand p [] (ks ++ ls) ≡ true
more_stand p ks ls h k = all_stand-append p [] ks ls ∙ and_from (all_stand p [] ks) (all_stand p ks ls) h k

-- more elements in the inmost open one
pub adds : {o : Open} {os : List Open} {ss ns : List Shape} {ks : List Element} → Spelled (o ∷ os) ss → Nodes ns ks → all_stand o.inside o.children ks ≡ true → Spelled (with_children o ks ∷ os) (ss ++ ns)
adds {ks = ls} (whole {kinds} n f) ns e = whole (nodes-append n ns) (more_stand None kinds ls f e)
adds {ns = l} {ks = ls} (within {o} {os} {before} {inside} {kinds} g h m n f) ns e =
    subst (λ x. Spelled (record { inside = Some g; children = kinds ++ ls } ∷ with_child o g ∷ os) x) (sym (append_assoc before (opens g ∷ inside) l)) (within g h m (nodes-append n ns) (more_stand (Some g) kinds ls f e))

-- the inmost open element closed
pub closed : {u o : Open} {os : List Open} {ss : List Shape} (e : Element) → Spelled (u ∷ o ∷ os) ss → u.inside ≡ Some e → is_complete u.inside u.children ≡ true → Spelled (o ∷ os) (ss ++ (closes e ∷ []))
closed e (within {o} {os} {before} {inside} {kinds} f h m n a) i c =
    let same_kind : f ≡ e = cc in
    let fit : are_contents (Some f) kinds ≡ true = and_from (all_stand (Some f) [] kinds) (is_complete (Some f) kinds) a c in
    let attributes : Nodes (opens f ∷ (inside ++ (closes f ∷ []))) (f ∷ []) = node f n fit none in
    let all = adds h attributes (and_from (may_stand o.inside o.children f) true m refl) in
    subst (λ x. Spelled (with_child o f ∷ os) x) (sym (append_assoc before (opens f ∷ inside) (closes e ∷ [])))
    (subst (λ g. Spelled (with_child o f ∷ os) (before ++ (opens f ∷ (inside ++ (closes g ∷ []))))) same_kind all)

is_some : {A : Type 0} (a b : A) → Some a ≡ Some b → a ≡ b
is_some a b e = cc

no_some : {A : Type 0} (a : A) → None ≡ Some a → ⊥
no_some a e = absurd cc

inside_is : (i : Option Element) (e : Element) → is_inside i e ≡ true → i ≡ Some e
inside_is None e h = absurd cc
inside_is (Some f) e h = ap Some (same_is f e h)

opened : {o : Open} {os : List Open} {ss : List Shape} (e : Element) → Spelled (o ∷ os) ss → may_stand o.inside o.children e ≡ true → Spelled (fresh (Some e) ∷ with_child o e ∷ os) (ss ++ (opens e ∷ []))
opened e h m = within e h m none refl

pub enter_spelled : (os os' : List Open) (ss : List Shape) (s : Shape) → Spelled os ss → enter os s ≡ Some os' → Spelled os' (ss ++ (s ∷ []))
enter_spelled [] os' ss s h e = absurd (no_some os' e)
enter_spelled (o ∷ os) os' ss (opens f) h e = elim (cases_Bool (may_stand o.inside o.children f)) [
  | inl t ↦
      let i : fresh (Some f) ∷ with_child o f ∷ os ≡ os' = is_some _ _ (ap (λ b. if b then Some (fresh (Some f) ∷ with_child o f ∷ os) else None) (sym t) ∙ e) in
      subst (λ x. Spelled x (ss ++ (opens f ∷ []))) i (opened f h t)
  | inr t ↦ absurd (no_some os' (ap (λ b. if b then Some (fresh (Some f) ∷ with_child o f ∷ os) else None) (sym t) ∙ e))
]
enter_spelled (o ∷ []) os' ss (closes f) (whole n a) e = absurd (no_some os' e)
enter_spelled (o ∷ u ∷ us) os' ss (closes f) h e = elim (cases_Bool (is_inside o.inside f && is_complete o.inside o.children)) [
  | inl t ↦
      let i : u ∷ us ≡ os' = is_some _ _ (ap (λ b. if b then Some (u ∷ us) else None) (sym t) ∙ e) in
      let p = and_parts (is_inside o.inside f) (is_complete o.inside o.children) t in
      subst (λ x. Spelled x (ss ++ (closes f ∷ []))) i (closed f h (inside_is o.inside f p.0) p.1)
  | inr t ↦ absurd (no_some os' (ap (λ b. if b then Some (u ∷ us) else None) (sym t) ∙ e))
]
enter_spelled (o ∷ os) os' ss foreign h e = absurd (no_some os' e)
