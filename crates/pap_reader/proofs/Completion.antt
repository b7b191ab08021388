-- Each stack of open elements can be closed: what is missing is added, and all is closed.
use Rattle.std.proofs.Common.{◌≡◌, ◌+◌, ◌≤◌, Bool, true, false, ◌||◌, inl, inr, Option, Some, None, List, [], ◌∷◌, ◌++◌, cond, refl, sym, ap, subst, ◌∙◌, append_assoc, arith}
use Rattle.std.specs.List.{list_any}
use Rattle.std.specs.Prelude.{count_by}
use Rattle.std.proofs.lemmas.Bool.{and_parts, and_from, cases_Bool}
use Rattle.std.proofs.lemmas.List.{append-nil}
use Rattle.std.proofs.lemmas.List.Sums.{sum_by-append, sum_by-cons}
use Rattle.std.proofs.lemmas.List.Folds.{list_any-append}
use Rattle.pap_reader.specs.declared.element.Element.{Element}
use Rattle.pap_reader.specs.declared.element.Element.TheVariants.{Pap, Interface, Variables, Outputs, Output, Methods, Main, If, Then}
use Rattle.pap_reader.specs.Table.{same, is_complete, all_stand, are_contents}
use Rattle.pap_reader.specs.Structure.{Shape, opens, closes, Nodes, none, node, opens_internals, IsDocument, BeginsDocument}
use Rattle.pap_reader.specs.private.NestingDecisions.{Open, fresh, enters, start}
use Rattle.pap_reader.proofs.Structures.{Spelled, whole, within, adds, closed, nodes-append, more_stand, goes}

-- shapes that hold no INTERNALS and are elements of these kinds
pub record Least (kinds : List Element) : Type 0 where
  pub shapes : List Shape
  pub nodes : Nodes shapes kinds
  pub plain : count_by opens_internals shapes ≡ 0

-- an element with the least content
abbrev output : List Shape
output = opens Output ∷ closes Output ∷ []

abbrev outputs : List Shape
outputs = opens Outputs ∷ (output ++ (closes Outputs ∷ []))

abbrev group : List Shape
group = opens Interface ∷ (outputs ++ (closes Interface ∷ []))

abbrev main : List Shape
main = opens Main ∷ closes Main ∷ []

abbrev methods : List Shape
methods = opens Methods ∷ (main ++ (closes Methods ∷ []))

nothing : Least []
nothing = record { shapes = []; nodes = none; plain = refl }

an_output : Least (Output ∷ [])
an_output = record { shapes = output; nodes = node Output none refl none; plain = refl }

an_outputs : Least (Outputs ∷ [])
an_outputs = record { shapes = outputs; nodes = node Outputs (node Output none refl none) refl none; plain = refl }

a_main : Least (Main ∷ [])
a_main = record { shapes = main; nodes = node Main none refl none; plain = refl }

a_then : Least (Then ∷ [])
a_then = record { shapes = opens Then ∷ closes Then ∷ []; nodes = node Then none refl none; plain = refl }

a_group : Least (Interface ∷ [])
unfolding an_outputs
a_group = record { shapes = group; nodes = node Interface an_outputs.nodes refl none; plain = refl }

a_methods : Least (Methods ∷ [])
unfolding a_main
a_methods = record { shapes = methods; nodes = node Methods a_main.nodes refl none; plain = refl }

both : Least (Interface ∷ Methods ∷ [])
unfolding an_outputs a_methods a_main
both = record { shapes = group ++ methods; nodes = node Interface an_outputs.nodes refl a_methods.nodes; plain = refl }

a_pap : Least (Pap ∷ [])
unfolding both
a_pap = record { shapes = opens Pap ∷ ((group ++ methods) ++ (closes Pap ∷ [])); nodes = node Pap both.nodes refl none; plain = refl }

-- what is missing among an element's children
pub record Filled (p : Option Element) (children : List Element) : Type 0 where
  pub kinds : List Element
  pub stand : all_stand p children kinds ≡ true
  pub complete : is_complete p (children ++ kinds) ≡ true
  pub least : Least kinds

-- one needed part
filled_whole : (children : List Element) → Filled None children
filled_whole children = elim (cases_Bool (list_any (same Pap) children)) [
  | inl t ↦ record { kinds = []; stand = refl; complete = rw (append-nil, t) refl; least = nothing }
  | inr t ↦ record { kinds = Pap ∷ []; stand = rw t refl; complete = rw (list_any-append, t) refl; least = a_pap }
]

filled_outputs : (children : List Element) → Filled (Some Outputs) children
filled_outputs children = elim (cases_Bool (list_any (same Output) children)) [
  | inl t ↦ record { kinds = []; stand = refl; complete = rw (append-nil, t) refl; least = nothing }
  | inr t ↦ record { kinds = Output ∷ []; stand = refl; complete = rw (list_any-append, t) refl; least = an_output }
]

filled_interface : (children : List Element) → Filled (Some Interface) children
filled_interface children = elim (cases_Bool (list_any (same Outputs) children)) [
  | inl t ↦ record { kinds = []; stand = refl; complete = rw (append-nil, t) refl; least = nothing }
  | inr t ↦ record { kinds = Outputs ∷ []; stand = refl; complete = rw (list_any-append, t) refl; least = an_outputs }
]

filled_variables : (children : List Element) → Filled (Some Variables) children
filled_variables children = elim (cases_Bool (list_any (same Outputs) children)) [
  | inl t ↦ record { kinds = []; stand = refl; complete = rw (append-nil, t) refl; least = nothing }
  | inr t ↦ record { kinds = Outputs ∷ []; stand = refl; complete = rw (list_any-append, t) refl; least = an_outputs }
]

filled_methods : (children : List Element) → Filled (Some Methods) children
filled_methods children = elim (cases_Bool (list_any (same Main) children)) [
  | inl t ↦ record { kinds = []; stand = refl; complete = rw (append-nil, t) refl; least = nothing }
  | inr t ↦ record { kinds = Main ∷ []; stand = rw t refl; complete = rw (list_any-append, t) refl; least = a_main }
]

filled_if : (children : List Element) → Filled (Some If) children
filled_if children = elim (cases_Bool (list_any (same Then) children)) [
  | inl t ↦ record { kinds = []; stand = refl; complete = rw (append-nil, t) refl; least = nothing }
  | inr t ↦ record { kinds = Then ∷ []; stand = rw t refl; complete = rw (list_any-append, t) refl; least = a_then }
]

or-false : (b : Bool) → (b || false) ≡ b
or-false true = refl
or-false false = refl

or-true : (b : Bool) → (b || true) ≡ true
or-true true = refl
or-true false = refl

-- an element with a group, or with none
with_group : (children : List Element) → (list_any (same Interface) children || (list_any (same Variables) children || false)) ≡ true → Filled (Some Pap) children
with_group children t = elim (cases_Bool (list_any (same Methods) children)) [
  | inl u ↦ record { kinds = []; stand = refl; complete = rw (append-nil, t, u) refl; least = nothing }
  | inr u ↦ record { kinds = Methods ∷ []; stand = rw u refl; complete = simp (list_any-append, u, or-false, sym (ap (λ b. list_any (same Interface) children || b) (or-false (list_any (same Variables) children))) ∙ t); least = a_methods }
]

without_group : (children : List Element) → (list_any (same Interface) children || (list_any (same Variables) children || false)) ≡ false → Filled (Some Pap) children
without_group children t = elim (cases_Bool (list_any (same Methods) children)) [
  | inl u ↦ record { kinds = Interface ∷ []; stand = rw t refl; complete = simp (list_any-append, or-false, or-true, u); least = a_group }
  | inr u ↦ record { kinds = Interface ∷ Methods ∷ []; stand = rw (t, list_any-append, u) refl; complete = simp (list_any-append, or-false, or-true, u); least = both }
]

filled_pap : (children : List Element) → Filled (Some Pap) children
filled_pap children = elim (cases_Bool (list_any (same Interface) children || (list_any (same Variables) children || false))) [
  | inl t ↦ with_group children t
  | inr t ↦ without_group children t
]

pub filled : (p : Option Element) (children : List Element) → Filled p children
filled None children = filled_whole children
filled (Some Pap) children = filled_pap children
filled (Some Interface) children = filled_interface children
filled (Some Variables) children = filled_variables children
filled (Some Outputs) children = filled_outputs children
filled (Some Methods) children = filled_methods children
filled (Some If) children = filled_if children
filled (Some e) children = record { kinds = []; stand = refl; complete = refl; least = nothing }

-- ---- the whole stack

pub count_by-append : {A : Type 0} (p : A → Bool) (a b : List A) → count_by p (a ++ b) ≡ count_by p a + count_by p b
count_by-append p a b = sum_by-append (λ s. cond (p s) 1 0) a b

pub count_by-cons : {A : Type 0} (p : A → Bool) (s : A) (ss : List A) → count_by p (s ∷ ss) ≡ cond (p s) 1 0 + count_by p ss
count_by-cons p s ss = sum_by-cons (λ s. cond (p s) 1 0) s ss

-- what makes a whole text of the shapes that a stack has read
pub record Finished (ss : List Shape) : Type 0 where
  pub more : List Shape
  pub kinds : List Element
  pub nodes : Nodes (ss ++ more) kinds
  pub root : are_contents None kinds ≡ true
  pub plain : count_by opens_internals more ≡ 0

last_fits : (kinds more : List Element) → all_stand None [] kinds ≡ true → all_stand None kinds more ≡ true → is_complete None (kinds ++ more) ≡ true → are_contents None (kinds ++ more) ≡ true
last_fits kinds more a b c = and_from (all_stand None [] (kinds ++ more)) (is_complete None (kinds ++ more)) (more_stand None kinds more a b) c

finish_whole : {ss : List Shape} (o : Open) → Spelled (o ∷ []) ss → Finished ss
finish_whole o (whole {ss} {kinds} n a) =
    let f = filled None kinds in
    record { more = f.least.shapes; kinds = kinds ++ f.kinds; nodes = nodes-append n f.least.nodes; root = last_fits kinds f.kinds a f.stand f.complete; plain = f.least.plain }

inside_of : {o u : Open} {us : List Open} {ss : List Shape} → Spelled (o ∷ u ∷ us) ss → (e : Element) × (o.inside ≡ Some e)
inside_of (within e h m n a) = (e, refl)

pub finish : (os : List Open) (o : Open) (ss : List Shape) → Spelled (o ∷ os) ss → Finished ss
finish [] o ss h = finish_whole o h
finish (u ∷ us) o ss h =
    let f = filled o.inside o.children in
    let i = inside_of h in
    let c = closed i.0 (adds h f.least.nodes f.stand) i.1 f.complete in
    let g = finish us u ((ss ++ f.least.shapes) ++ (closes i.0 ∷ [])) c in
    record {
      more = f.least.shapes ++ (closes i.0 ∷ g.more);
      kinds = g.kinds;
      nodes = subst (λ x. Nodes x g.kinds) (append_assoc (ss ++ f.least.shapes) (closes i.0 ∷ []) g.more ∙ append_assoc ss f.least.shapes (closes i.0 ∷ g.more)) g.nodes;
      root = g.root;
      plain = count_by-append opens_internals f.least.shapes (closes i.0 ∷ g.more) ∙ (let a = f.least.plain in let b = g.plain in omega arith);
    }

-- ---- what is read, and fronts

pub record Reached (before : List Shape) (os : List Open) : Type 0 where
  pub read : enters start before ≡ Some os
  pub spelled : Spelled os before
  pub once : count_by opens_internals before ≤ 1

no_empty : {os : List Open} {ss : List Shape} → Spelled os ss → os ≡ [] → ⊥
no_empty (whole n a) e = absurd cc
no_empty (within e h m n a) f = absurd cc

no_stack : {ss : List Shape} → Spelled [] ss → ⊥
no_stack h = no_empty h refl

pub is_front : (before : List Shape) (os : List Open) → Spelled os before → count_by opens_internals before ≤ 1 → BeginsDocument before
is_front before [] h le = absurd (no_stack h)
is_front before (o ∷ os) h le =
    let f = finish os o before h in
    let p = f.plain in
    (f.more, record { kinds = f.kinds; nodes = f.nodes; root = f.root; once = rw (count_by-append opens_internals before f.more) (omega arith) })

-- a whole text is one that the stack reads, and ends
pub document_read : (ss : List Shape) (d : IsDocument ss) → enters start ss ≡ Some (record { inside = None; children = d.kinds } ∷ [])
document_read ss d =
    ap (λ x. enters start x) (sym (append-nil ss)) ∙ goes d.nodes (fresh None) [] [] (and_parts (all_stand None [] d.kinds) (is_complete None d.kinds) d.root).0
