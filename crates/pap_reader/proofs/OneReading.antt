-- A text is read in one way, so it has one tree or one fault, and never both.
use Rattle.std.proofs.Common.{◌≡◌, ℕ, ◌≤◌, ◌<◌, ◌⊎◌, inl, inr, List, [], ◌∷◌, ◌++◌, length, refl, sym, ap, subst, ◌∙◌, arith}
use Rattle.std.proofs.lemmas.List.{append-nil}
use Rattle.pap_reader.specs.declared.fault.Which.TheVariants as which
use Rattle.pap_reader.specs.declared.fault.ReadFault.{ReadFault}
use Rattle.pap_reader.specs.declared.fault.ReadFault.TheVariants as faults
use Rattle.pap_reader.specs.Structure.{IsDocument}
use Rattle.pap_reader.specs.Tags.{Tag, IsTag}
use Rattle.pap_reader.specs.Tokens.{PlacedTag, Leads, Reads, nothing, passed, tag, IsAlien, placed}
use Rattle.pap_reader.specs.Marks.{shapes}
use Rattle.pap_reader.specs.Trees.{ElementTree}
use Rattle.pap_reader.specs.Limits.{most}
use Rattle.pap_reader.specs.Elements.{HasTree, IsElementText, IsElements, StopsAt, IsRefusedText, IsFault}
use Rattle.pap_reader.specs.Faults.{Earns, IsClean}
use Rattle.pap_reader.specs.Skipped.{IsPassed, Past, IsAfterMark, IsAfterDeclaration, byte_order_mark}
use Rattle.pap_reader.proofs.Passing.{unpassed, untagged, same_tag, same_passed, same_past, append_same, passed_no_tag}
use Rattle.std.specs.Prelude.{codes}
use Rattle.pap_reader.proofs.Unique as unique

-- ---- what is read

pub record PassedFirst (n : ℕ) (bytes rest : List ℕ) (ts : List PlacedTag) : Type 0 where
  pub next : List ℕ
  pub is : IsPassed bytes next
  pub left : Leads n next ts rest

pub record TagFirst (n : ℕ) (bytes rest : List ℕ) (ts : List PlacedTag) : Type 0 where
  pub next : List ℕ
  pub t : Tag
  pub us : List PlacedTag
  pub all : ts ≡ placed n bytes t ∷ us
  pub is : IsTag bytes t next
  pub left : Leads n next us rest

pub unled : {n : ℕ} {bytes rest : List ℕ} {ts : List PlacedTag} → Leads n bytes ts rest → ((ts ≡ []) × (bytes ≡ rest)) ⊎ (PassedFirst n bytes rest ts ⊎ TagFirst n bytes rest ts)
unled nothing = inl (refl, refl)
unled (passed {next} p h) = inr (inl (record { next = next; is = p; left = h }))
unled (tag {next} {ts} t i h) = inr (inr (record { next = next; t = t; us = ts; all = refl; is = i; left = h }))

-- one goes on where the other ends
pub record OnFrom (n : ℕ) (x y : List ℕ) (ts us : List PlacedTag) : Type 0 where
  pub more : List PlacedTag
  pub whole : us ≡ ts ++ more
  pub left : Leads n x more y

pub meet : {n : ℕ} {bytes x : List ℕ} {ts : List PlacedTag} → Leads n bytes ts x → (y : List ℕ) (us : List PlacedTag) → Leads n bytes us y → OnFrom n x y ts us ⊎ OnFrom n y x us ts
meet nothing y us k = inl (record { more = us; whole = refl; left = k })
meet {n} {x} {ts} (passed {bytes} {next} p h) y us k = elim (unled k) [
  | inl e ↦ inr (record { more = ts; whole = ap (λ z. z ++ ts) (sym e.0); left = subst (λ z. Leads n z ts x) e.1 (passed p h) })
  | inr (inl f) ↦ meet h y us (subst (λ z. Leads n z us y) (same_passed bytes f.next next f.is p) f.left)
  | inr (inr f) ↦ absurd (passed_no_tag bytes next f.t f.next p f.is)
]
meet {n} {x} {ts = all} (tag {bytes} {next} {ts} t i h) y us k = elim (unled k) [
  | inl e ↦ inr (record { more = placed n bytes t ∷ ts; whole = ap (λ z. z ++ (placed n bytes t ∷ ts)) (sym e.0); left = subst (λ z. Leads n z (placed n bytes t ∷ ts) x) e.1 (tag t i h) })
  | inr (inl f) ↦ absurd (passed_no_tag bytes f.next t next f.is i)
  | inr (inr f) ↦
      let s = same_tag bytes t f.t next f.next i f.is in
      elim (meet h y f.us (subst (λ z. Leads n z f.us y) (sym s.rest) f.left)) [
        | inl m ↦ inl (record { more = m.more; whole = f.all ∙ ap (λ z. placed n bytes z ∷ f.us) (sym s.tag) ∙ ap (λ z. placed n bytes t ∷ z) m.whole; left = m.left })
        | inr m ↦ inr (record { more = m.more; whole = ap (λ z. placed n bytes t ∷ z) m.whole ∙ ap (λ z. placed n bytes z ∷ (f.us ++ m.more)) s.tag ∙ ap (λ z. z ++ m.more) (sym f.all); left = m.left })
      ]
]

same_mark : (bytes a b : List ℕ) → IsAfterMark bytes a → IsAfterMark bytes b → a ≡ b
same_mark bytes a b (inl h) (inl k) = append_same byte_order_mark a b (sym h ∙ k)
same_mark bytes a b (inl h) (inr k) = absurd (k.0 a h)
same_mark bytes a b (inr h) (inl k) = absurd (h.0 b k)
same_mark bytes a b (inr h) (inr k) = h.1 ∙ sym k.1

same_declaration : (bytes a b : List ℕ) → IsAfterDeclaration bytes a → IsAfterDeclaration bytes b → a ≡ b
same_declaration bytes a b (inl h) (inl k) = same_past h.2 b (subst (λ z. Past (codes "?>") z b) (append_same (codes "<?xml") k.0 h.0 (sym k.1 ∙ h.1)) k.2)
same_declaration bytes a b (inl h) (inr k) = absurd (k.0 h.0 a h.1 h.2)
same_declaration bytes a b (inr h) (inl k) = absurd (h.0 k.0 b k.1 k.2)
same_declaration bytes a b (inr h) (inr k) = h.1 ∙ sym k.1

meet_reads : {bytes x y : List ℕ} {ts us : List PlacedTag} → Reads bytes ts x → Reads bytes us y → OnFrom (length bytes) x y ts us ⊎ OnFrom (length bytes) y x us ts
meet_reads {bytes} {x} {y} {ts} {us} h k =
    let m = same_mark bytes h.unmarked k.unmarked h.mark k.mark in
    let b = same_declaration h.unmarked h.body k.body h.declaration (subst (λ z. IsAfterDeclaration z k.body) (sym m) k.declaration) in
    meet h.leads y us (subst (λ z. Leads (length bytes) z us y) (sym b) k.leads)

no_cons : (b : ℕ) (x : List ℕ) → [] ≡ b ∷ x → ⊥
no_cons b x e = absurd cc

no_passed_empty : (next : List ℕ) → IsPassed [] next → ⊥
no_passed_empty next p = elim (unpassed p) [ inl f ↦ no_cons f.b next f.is | inr f ↦ no_cons 60 (codes "!--" ++ f.inside) f.is ]

no_tag_empty : (t : Tag) (next : List ℕ) → IsTag [] t next → ⊥
no_tag_empty t next i = elim (untagged i) [ inl f ↦ no_cons 60 f.inner f.is | inr f ↦ no_cons 60 (47 ∷ f.inner) f.is ]

no_tag_at : (bytes : List ℕ) (t : Tag) (next : List ℕ) → bytes ≡ [] → IsTag bytes t next → ⊥
no_tag_at bytes t next e i = no_tag_empty t next (subst (λ z. IsTag z t next) e i)

-- nothing is read of nothing
pub empty_leads : (n : ℕ) (bytes y : List ℕ) (ts : List PlacedTag) → bytes ≡ [] → Leads n bytes ts y → (ts ≡ []) × (bytes ≡ y)
empty_leads n bytes y ts e h = elim (unled h) [
  | inl f ↦ f
  | inr (inl f) ↦ absurd (no_passed_empty f.next (subst (λ z. IsPassed z f.next) e f.is))
  | inr (inr f) ↦ absurd (no_tag_at bytes f.t f.next e f.is)
]

alien_leads : (n : ℕ) (bytes y : List ℕ) (ts : List PlacedTag) → IsAlien bytes → Leads n bytes ts y → (ts ≡ []) × (bytes ≡ y)
alien_leads n bytes y ts a h = elim (unled h) [
  | inl f ↦ f
  | inr (inl f) ↦ absurd (a.not_passed f.next f.is)
  | inr (inr f) ↦ absurd (a.no_tag f.t f.next f.is)
]

same_list : (ts us more : List PlacedTag) → us ≡ ts ++ more → more ≡ [] → us ≡ ts
same_list ts us more e f = e ∙ ap (λ z. ts ++ z) f ∙ append-nil ts

-- ---- one list of tags

ended_leads : (n : ℕ) (bytes y : List ℕ) (ts : List PlacedTag) → (bytes ≡ []) ⊎ IsAlien bytes → Leads n bytes ts y → ts ≡ []
ended_leads n bytes y ts (inl e) h = (empty_leads n bytes y ts e h).0
ended_leads n bytes y ts (inr a) h = (alien_leads n bytes y ts a h).0

pub one_list : (bytes x y : List ℕ) (ts us : List PlacedTag) → Reads bytes ts x → (x ≡ []) ⊎ IsAlien x → Reads bytes us y → (y ≡ []) ⊎ IsAlien y → ts ≡ us
one_list bytes x y ts us h a k b = elim (meet_reads h k) [
  | inl m ↦ sym (same_list ts us m.more m.whole (ended_leads (length bytes) x y m.more a m.left))
  | inr m ↦ same_list us ts m.more m.whole (ended_leads (length bytes) y x m.more b m.left)
]

-- ---- one tree

pub one_tree : (bytes : List ℕ) (x y : ElementTree) → IsElementText bytes x → IsElementText bytes y → x ≡ y
one_tree bytes x y h k =
    let same : h.tags ≡ k.tags = elim (meet_reads h.read k.read) [
      | inl m ↦ sym (same_list h.tags k.tags m.more m.whole (empty_leads (length bytes) [] [] m.more refl m.left).0)
      | inr m ↦ same_list k.tags h.tags m.more m.whole (empty_leads (length bytes) [] [] m.more refl m.left).0
    ] in
    unique.one_tree h.tags x y h.tree (subst (λ ts. HasTree ts y) (sym same) k.tree)

-- ---- a tree or a fault

fault_parts : (bytes : List ℕ) (f : ReadFault) → IsFault bytes f → ((f ≡ faults.Many which.Bytes) × (most which.Bytes < length bytes)) ⊎ ((length bytes ≤ most which.Bytes) × IsRefusedText bytes f)
fault_parts bytes (faults.Text at) h = inr h
fault_parts bytes (faults.Element at) h = inr h
fault_parts bytes (faults.Attribute at) h = inr h
fault_parts bytes (faults.Many which.Bytes) h = inl (refl, h)
fault_parts bytes (faults.Many which.Inputs) h = inr h
fault_parts bytes (faults.Many which.Outputs) h = inr h
fault_parts bytes (faults.Many which.Internals) h = inr h
fault_parts bytes (faults.Many which.Constants) h = inr h
fault_parts bytes (faults.Many which.Methods) h = inr h
fault_parts bytes (faults.Many which.Statements) h = inr h
fault_parts bytes (faults.Many which.Depth) h = inr h
fault_parts bytes faults.Memory h = absurd h

-- the refusal stops before the tree's tags end
stop_in_tree : (n : ℕ) (tags before more : List PlacedTag) (rest : List ℕ) (f : ReadFault) → IsDocument (shapes tags) → IsClean tags → tags ≡ before ++ more → Leads n rest more [] → StopsAt n before rest f → ⊥
stop_in_tree n tags before more rest f d c e l (inl s) =
    s.2 (subst (λ ts. IsDocument (shapes ts)) (same_list before tags more e (empty_leads n rest [] more s.0 l).0) d)
stop_in_tree n tags before more rest f d c e l (inr (inl s)) = s.0.some (alien_leads n rest [] more s.0 l).1
stop_in_tree n tags before more rest f d c e l (inr (inr s)) = elim (unled l) [
  | inl m ↦ no_tag_at rest s.0 s.1 m.1 s.2
  | inr (inl m) ↦ passed_no_tag rest m.next s.0 s.1 m.is s.2
  | inr (inr m) ↦
      let t = same_tag rest s.0 m.t s.1 m.next s.2 m.is in
      c before m.us (placed n rest s.0) f (e ∙ ap (λ z. before ++ z) (m.all ∙ ap (λ z. placed n rest z ∷ m.us) (sym t.tag))) s.3
]

-- it stops at their end
stop_after_tree : (n : ℕ) (tags before more : List PlacedTag) (rest : List ℕ) (f : ReadFault) → IsDocument (shapes tags) → IsClean tags → before ≡ tags ++ more → Leads n [] more rest → StopsAt n before rest f → ⊥
stop_after_tree n tags before more rest f d c e l s =
    let m = empty_leads n [] rest more refl l in
    stop_in_tree n tags before [] rest f d c (sym (same_list tags before more e m.0) ∙ sym (append-nil before)) (subst (λ z. Leads n z [] []) m.1 nothing) s

pub never_both : (bytes : List ℕ) (x : ElementTree) (f : ReadFault) → IsElements bytes x → IsFault bytes f → ⊥
never_both bytes x f h k = elim (fault_parts bytes f k) [
  | inl p ↦ let a = p.1 in let b = h.short in absurd (omega arith)
  | inr (_, r) ↦
      let t = h.text in
      let c = unique.tree_clean t.tags x t.tree h.few in
      elim (meet_reads t.read r.read) [
        | inl m ↦ stop_after_tree (length bytes) t.tags r.before m.more r.rest f t.tree.document c m.whole m.left r.stop
        | inr m ↦ stop_in_tree (length bytes) t.tags r.before m.more r.rest f t.tree.document c m.whole m.left r.stop
      ]
]

-- ---- one fault

-- both stop at one place
same_stop : (n : ℕ) (before : List PlacedTag) (rest : List ℕ) (f g : ReadFault) → StopsAt n before rest f → StopsAt n before rest g → f ≡ g
same_stop n before rest f g (inl h) (inl k) = h.1 ∙ sym k.1
same_stop n before rest f g (inl h) (inr (inl k)) = absurd (k.0.some h.0)
same_stop n before rest f g (inl h) (inr (inr k)) = absurd (no_tag_at rest k.0 k.1 h.0 k.2)
same_stop n before rest f g (inr (inl h)) (inl k) = absurd (h.0.some k.0)
same_stop n before rest f g (inr (inl h)) (inr (inl k)) = h.1 ∙ sym k.1
same_stop n before rest f g (inr (inl h)) (inr (inr k)) = absurd (h.0.no_tag k.0 k.1 k.2)
same_stop n before rest f g (inr (inr h)) (inl k) = absurd (no_tag_at rest h.0 h.1 k.0 h.2)
same_stop n before rest f g (inr (inr h)) (inr (inl k)) = absurd (k.0.no_tag h.0 h.1 h.2)
same_stop n before rest f g (inr (inr h)) (inr (inr k)) =
    let t = same_tag rest h.0 k.0 h.1 k.1 h.2 k.2 in
    unique.earns_one before (placed n rest h.0) f g h.3 (subst (λ z. Earns before (placed n rest z) g) (sym t.tag) k.3)

stop_here : (n : ℕ) (a b d : List PlacedTag) (x y : List ℕ) (f g : ReadFault) → StopsAt n a x f → StopsAt n b y g → b ≡ a ++ d → (d ≡ []) × (x ≡ y) → f ≡ g
stop_here n a b d x y f g h k e m =
    same_stop n a x f g h (subst (λ z. StopsAt n a z g) (sym m.1) (subst (λ z. StopsAt n z y g) (same_list a b d e m.0) k))

-- the first stops no later than the second
earlier : (n : ℕ) (a b d : List PlacedTag) (x y : List ℕ) (f g : ReadFault) → StopsAt n a x f → IsClean b → StopsAt n b y g → b ≡ a ++ d → Leads n x d y → f ≡ g
earlier n a b d x y f g (inl h) c k e l = stop_here n a b d x y f g (inl h) k e (empty_leads n x y d h.0 l)
earlier n a b d x y f g (inr (inl h)) c k e l = stop_here n a b d x y f g (inr (inl h)) k e (alien_leads n x y d h.0 l)
earlier n a b d x y f g (inr (inr h)) c k e l = elim (unled l) [
  | inl m ↦ stop_here n a b d x y f g (inr (inr h)) k e m
  | inr (inl m) ↦ absurd (passed_no_tag x m.next h.0 h.1 m.is h.2)
  | inr (inr m) ↦
      let t = same_tag x h.0 m.t h.1 m.next h.2 m.is in
      absurd (c a m.us (placed n x h.0) f (e ∙ ap (λ z. a ++ z) (m.all ∙ ap (λ z. placed n x z ∷ m.us) (sym t.tag))) h.3)
]

pub one_fault : (bytes : List ℕ) (f g : ReadFault) → IsFault bytes f → IsFault bytes g → f ≡ g
one_fault bytes f g h k = elim (fault_parts bytes f h) [
  | inl p ↦ elim (fault_parts bytes g k) [
    | inl q ↦ p.0 ∙ sym q.0
    | inr q ↦ let a = p.1 in let b = q.0 in absurd (omega arith)
  ]
  | inr p ↦ elim (fault_parts bytes g k) [
    | inl q ↦ let a = p.0 in let b = q.1 in absurd (omega arith)
    | inr q ↦ elim (meet_reads p.1.read q.1.read) [
      | inl m ↦ earlier (length bytes) p.1.before q.1.before m.more p.1.rest q.1.rest f g p.1.stop q.1.clean q.1.stop m.whole m.left
      | inr m ↦ sym (earlier (length bytes) q.1.before p.1.before m.more q.1.rest p.1.rest g f q.1.stop p.1.clean p.1.stop m.whole m.left)
    ]
  ]
]
