-- What the reader's steps are, from what its calls say.
use Rattle.std.proofs.Common.{◌≡◌, ℕ, ◌+◌, ◌≤◌, Bool, true, false, ◌&&◌, ◌||◌, inl, inr, Option, Some, None, is_some, Err, List, [], ◌∷◌, ◌++◌, length, reverse, refl, sym, ap, subst, ◌∙◌, append_assoc, arith}
use Rattle.std.specs.Prelude.{if◌then◌else◌, nat_lt, MatchOption, count_by}
use Rattle.std.specs.List.{list_any}
use Rattle.std.proofs.lemmas.Bool.{and_parts, cases_Bool, ltb-false}
use Rattle.std.proofs.lemmas.List.{reverse-append}
use Rattle.std.proofs.lemmas.List.Folds.{list_any-append}
use Rattle.pap_reader.specs.declared.element.Element.{Element}
use Rattle.pap_reader.specs.declared.counts.Counts.{Counts}
use Rattle.pap_reader.specs.declared.fault.Which.{Which}
use Rattle.pap_reader.specs.declared.fault.Which.TheVariants as which
use Rattle.pap_reader.specs.declared.fault.ReadFault.TheVariants as faults
use Rattle.pap_reader.specs.declared.reader.OpenElement.{OpenElement}
use Rattle.pap_reader.specs.declared.elements.Elements.{Elements}
use Rattle.pap_reader.specs.declared.attributes.TagValue.{TagValue}
use Rattle.pap_reader.specs.Table.{may_stand, is_complete}
use Rattle.pap_reader.specs.Structure.{Shape, opens, closes, opens_internals}
use Rattle.pap_reader.specs.private.NestingDecisions.{Open, fresh, with_child, is_inside, enter, is_second, step, start, is_ended}
use Rattle.pap_reader.specs.Tags.{Attribute}
use Rattle.pap_reader.specs.Marks.{begins, ends}
use Rattle.pap_reader.specs.Limits.{counts, is_counted, most, tested}
use Rattle.pap_reader.specs.private.CountDecisions.{deeper, depth_from, tally}
use Rattle.pap_reader.specs.private.VerdictDecisions.{IsFew, built, begun, Work, build, first_over, within, entered}
use Rattle.pap_reader.specs.Trees.{RawBody, raw_body_of, tree_of}
use Rattle.pap_reader.specs.Meaning.{later, Piece, nothing, both, said_outside, adds, or_done, piece_tree}
use Rattle.pap_reader.specs.private.Views.{HasFlags, Tallies, IsSmall, IsMore, one_if, IsValueOf}
use Rattle.pap_reader.specs.private.ReaderViews.{one_verdict, ShowsPlan, IsValueIn, ShowsOpen, Closed, ShowsAll, total}
use Rattle.pap_reader.proofs.Pieces.{both-nothing, later-assoc}
use Rattle.pap_reader.proofs.Structures.{same_is}
use Rattle.pap_reader.proofs.Completion.{count_by-append, count_by-cons}
use Rattle.pap_reader.specs.declared.element.Children.{Children}

pub none_is : {A : Type 0} (o : Option A) → is_some o ≡ false → o ≡ None
none_is None e = refl
none_is (Some x) e = absurd cc

pub some_is : {A : Type 0} (o : Option A) → is_some o ≡ true → (x : A) × (o ≡ Some x)
some_is None e = absurd cc
some_is (Some x) e = (x, refl)

-- ---- counts

count-one : (p : Shape → Bool) (ss : List Shape) (s : Shape) → count_by p (ss ++ (s ∷ [])) ≡ count_by p ss + one_if (p s)
count-one p ss s = count_by-append p ss (s ∷ []) ∙ omega (arith, count_by-cons p s [])

pub depth-one : (d : ℕ) (ss : List Shape) (s : Shape) → depth_from d (ss ++ (s ∷ [])) ≡ deeper (depth_from d ss) s
depth-one d [] s = refl
depth-one d (u ∷ ss) s = depth-one (deeper d u) ss s

pub small : (c : Counts) (ss : List Shape) → Tallies c ss → IsFew ss tested → IsSmall c
small c ss t f = record {
  inputs = let a = f.0 in let b = t.inputs in omega arith;
  outputs = let a = f.1.0 in let b = t.outputs in omega arith;
  internals = let a = f.1.1.0 in let b = t.internals in omega arith;
  constants = let a = f.1.1.1.0 in let b = t.constants in omega arith;
  methods = let a = f.1.1.1.1.0 in let b = t.methods in omega arith;
  statements = let a = f.1.1.1.1.1.0 in let b = t.statements in omega arith;
  depth = let a = f.1.1.1.1.1.1.0 in let b = t.depth in omega arith;
}

pub tallies_open : (c d : Counts) (ss : List Shape) (e : Element) → Tallies c ss → IsFew ss tested → (IsSmall c → IsMore c d e) → Tallies d (ss ++ (opens e ∷ []))
tallies_open c d ss e t f h =
    let m = h (small c ss t f) in
    record {
      inputs = m.inputs ∙ ap (λ n. n + one_if (is_counted which.Inputs e)) t.inputs ∙ sym (count-one (counts which.Inputs) ss (opens e));
      outputs = m.outputs ∙ ap (λ n. n + one_if (is_counted which.Outputs e)) t.outputs ∙ sym (count-one (counts which.Outputs) ss (opens e));
      internals = m.internals ∙ ap (λ n. n + one_if (is_counted which.Internals e)) t.internals ∙ sym (count-one (counts which.Internals) ss (opens e));
      constants = m.constants ∙ ap (λ n. n + one_if (is_counted which.Constants e)) t.constants ∙ sym (count-one (counts which.Constants) ss (opens e));
      methods = m.methods ∙ ap (λ n. n + one_if (is_counted which.Methods e)) t.methods ∙ sym (count-one (counts which.Methods) ss (opens e));
      statements = m.statements ∙ ap (λ n. n + one_if (is_counted which.Statements e)) t.statements ∙ sym (count-one (counts which.Statements) ss (opens e));
      depth = m.depth ∙ ap (λ n. deeper n (opens e)) t.depth ∙ sym (depth-one 0 ss (opens e));
    }

pub closes_count : (w : Which) (ss : List Shape) (e : Element) → count_by (counts w) (ss ++ (closes e ∷ [])) ≡ count_by (counts w) ss
closes_count w ss e = count-one (counts w) ss (closes e) ∙ omega arith

pub tallies_close : (c d : Counts) (ss : List Shape) (e : Element) → Tallies c ss → d ≡ record c { depth = deeper c.depth (closes e) } → Tallies d (ss ++ (closes e ∷ []))
tallies_close c d ss e t h = record {
  inputs = ap (λ x. x.inputs) h ∙ t.inputs ∙ sym (closes_count which.Inputs ss e);
  outputs = ap (λ x. x.outputs) h ∙ t.outputs ∙ sym (closes_count which.Outputs ss e);
  internals = ap (λ x. x.internals) h ∙ t.internals ∙ sym (closes_count which.Internals ss e);
  constants = ap (λ x. x.constants) h ∙ t.constants ∙ sym (closes_count which.Constants ss e);
  methods = ap (λ x. x.methods) h ∙ t.methods ∙ sym (closes_count which.Methods ss e);
  statements = ap (λ x. x.statements) h ∙ t.statements ∙ sym (closes_count which.Statements ss e);
  depth = ap (λ x. x.depth) h ∙ ap (λ n. deeper n (closes e)) t.depth ∙ sym (depth-one 0 ss (closes e));
}

deeper_close : (d : ℕ) (e : Element) → deeper d (closes e) ≤ d
deeper_close d e = grind (arith)

pub few_close : (ss : List Shape) (e : Element) → IsFew ss tested → IsFew (ss ++ (closes e ∷ [])) tested
few_close ss e f = (
  subst (λ n. n ≤ 256) (sym (closes_count which.Inputs ss e)) f.0,
  (
    subst (λ n. n ≤ 256) (sym (closes_count which.Outputs ss e)) f.1.0,
    (
      subst (λ n. n ≤ 1024) (sym (closes_count which.Internals ss e)) f.1.1.0,
      (
        subst (λ n. n ≤ 512) (sym (closes_count which.Constants ss e)) f.1.1.1.0,
        (
          subst (λ n. n ≤ 256) (sym (closes_count which.Methods ss e)) f.1.1.1.1.0,
          (
            subst (λ n. n ≤ 20000) (sym (closes_count which.Statements ss e)) f.1.1.1.1.1.0,
            (subst (λ n. n ≤ 32) (sym (depth-one 0 ss (closes e))) (let a = deeper_close (depth_from 0 ss) e in let b = f.1.1.1.1.1.1.0 in omega arith), tt),
          ),
        ),
      ),
    ),
  ),
)

no_none : (w : Which) → Some w ≡ None → ⊥
no_none w e = absurd cc

-- no amount is over
few_tested : (ss : List Shape) (ws : List Which) → first_over ss ws ≡ None → IsFew ss ws
few_tested ss [] e = tt
few_tested ss (w ∷ ws) e = elim (cases_Bool (nat_lt (most w) (tally w ss))) [
  | inl t ↦ absurd (no_none w (sym (ap (λ b. if b then Some w else first_over ss ws) t) ∙ e))
  | inr t ↦ ((let h = ltb-false (most w) (tally w ss) t in omega arith), few_tested ss ws (sym (ap (λ b. if b then Some w else first_over ss ws) t) ∙ e))
]

pub few_open : (ss : List Shape) → first_over ss tested ≡ None → IsFew ss tested
few_open ss e = few_tested ss tested e

-- ---- the open elements

no_list : (next : List Open) → None ≡ Some next → ⊥
no_list next e = absurd cc

some_list : (a b : List Open) → Some a ≡ Some b → a ≡ b
some_list a b e = cc

none_all : (r : OpenElement) (rs : List OpenElement) (ws : List Work) → ShowsAll (r ∷ rs) [] ws → ⊥
none_all r rs [] a = a
none_all r rs (w ∷ ws) a = a

entered_opens : (o : Open) (os next : List Open) (e : Element) → enter (o ∷ os) (opens e) ≡ Some next → fresh (Some e) ∷ with_child o e ∷ os ≡ next
entered_opens o os next e h = elim (cases_Bool (may_stand o.inside o.children e)) [
  | inl t ↦ some_list (fresh (Some e) ∷ with_child o e ∷ os) next (ap (λ b. if b then Some (fresh (Some e) ∷ with_child o e ∷ os) else None) (sym t) ∙ h)
  | inr t ↦ absurd (no_list next (ap (λ b. if b then Some (fresh (Some e) ∷ with_child o e ∷ os) else None) (sym t) ∙ h))
]

pub step_opens : (before : List Shape) (o : Open) (os next : List Open) (e : Element) → step before (o ∷ os) (opens e) ≡ Some next → fresh (Some e) ∷ with_child o e ∷ os ≡ next
step_opens before o os next e h = elim (cases_Bool (is_second before (opens e))) [
  | inl t ↦ absurd (no_list next (ap (λ b. if b then None else enter (o ∷ os) (opens e)) (sym t) ∙ h))
  | inr t ↦ entered_opens o os next e (ap (λ b. if b then None else enter (o ∷ os) (opens e)) (sym t) ∙ h)
]

-- one element more
pub all_open : (r n p : OpenElement) (rs : List OpenElement) (before : List Shape) (os next : List Open) (ws : List Work) (e : Element) (attributes : List Attribute)
    → ShowsAll (r ∷ rs) os ws → ((children : List Element) → HasFlags r.children.stands children → HasFlags p.children.stands (children ++ (e ∷ [])))
    → p ≡ record r { children = p.children } → ShowsOpen n (fresh (Some e)) (record { attributes = attributes; piece = nothing }) → step before os (opens e) ≡ Some next
    → ShowsAll (n ∷ p ∷ rs) next (build ws (begins e attributes))
all_open r n p rs before [] next ws e attributes a f g h s = absurd (none_all r rs ws a)
all_open r n p rs before (o ∷ os) next [] e attributes a f g h s = absurd a
all_open r n p rs before (o ∷ os) next (w ∷ ws) e attributes a f g h s =
    subst (λ x. ShowsAll (n ∷ p ∷ rs) x (build (w ∷ ws) (begins e attributes))) (step_opens before o os next e s) (
      h,
      (
        record {
          inside = ap (λ x. x.element) g ∙ a.0.inside;
          children = f o.children a.0.children;
          value = subst (IsValueIn o.inside w.attributes) (sym (ap (λ x. x.value) g)) a.0.value;
          piece = record {
            statements = ap (λ x. raw_body_of x.statements.items) g ∙ a.0.piece.statements;
            yes = ap (λ x. raw_body_of x.yes.items) g ∙ a.0.piece.yes;
            no = ap (λ x. raw_body_of x.no.items) g ∙ a.0.piece.no;
          };
        },
        a.1,
      ),
    )

pub all_new : (r : OpenElement) (rs : List OpenElement) → ShowsOpen r (fresh None) (record { attributes = []; piece = nothing }) → rs ≡ [] → ShowsAll (r ∷ reverse rs) start begun
all_new r rs h e = subst (λ l. ShowsAll (r ∷ reverse l) start begun) (sym e) (h, tt)

pub few_start : IsFew [] tested
few_start = (omega arith, (omega arith, (omega arith, (omega arith, (omega arith, (omega arith, (omega arith, tt)))))))

-- the parts after one element more, from what the calls say
pub parts_open : (top n res dest : OpenElement) (k : Children) (outer items : List OpenElement) (before : List Shape) (os next : List Open) (ws : List Work) (e : Element) (attributes : List Attribute)
    → dest ≡ n → res ≡ record top { children = k } → items ≡ outer ++ (res ∷ []) → ((children : List Element) → HasFlags top.children.stands children → HasFlags k.stands (children ++ (e ∷ [])))
    → ShowsOpen n (fresh (Some e)) (record { attributes = attributes; piece = nothing }) → ShowsAll (top ∷ reverse outer) os ws → step before os (opens e) ≡ Some next
    → ShowsAll (dest ∷ reverse items) next (build ws (begins e attributes))
parts_open top n res dest k outer items before os next ws e attributes d r i f h a s =
    let q : OpenElement = record top { children = k } in
    let all = all_open top n q (reverse outer) before os next ws e attributes a f refl h s in
    let turned : reverse items ≡ q ∷ reverse outer = ap reverse (i ∙ ap (λ y. outer ++ (y ∷ [])) r) ∙ reverse-append outer (q ∷ []) in
    subst (λ y. ShowsAll (y ∷ reverse items) next (build ws (begins e attributes))) (sym d)
    (subst (λ l. ShowsAll (n ∷ l) next (build ws (begins e attributes))) (sym turned) all)

or_false : (b : Bool) → b ≡ (b || false)
or_false true = refl
or_false false = refl

false_or : (b : Bool) → (b || false) ≡ b
false_or true = refl
false_or false = refl

pub internals_more : (b c : Bool) (before : List Shape) (s : Shape) → b ≡ list_any opens_internals before → c ≡ (b || opens_internals s) → c ≡ list_any opens_internals (before ++ (s ∷ []))
internals_more b c before s e f =
    f ∙ ap (λ x. x || opens_internals s) e ∙ ap (λ x. list_any opens_internals before || x) (or_false (opens_internals s)) ∙ sym (list_any-append opens_internals before (s ∷ []))

pub internals_kept : (b : Bool) (before : List Shape) (e : Element) → b ≡ list_any opens_internals before → b ≡ list_any opens_internals (before ++ (closes e ∷ []))
internals_kept b before e f = f ∙ sym (false_or (list_any opens_internals before)) ∙ sym (list_any-append opens_internals before (closes e ∷ []))

pub plan_begun : (x : Elements) (ws : List Work) (e : Element) (attributes : List Attribute) → ShowsPlan x (total ws) → ShowsPlan x (total (build ws (begins e attributes)))
plan_begun x ws e attributes h = subst (ShowsPlan x) (sym (both-nothing (total ws))) h

-- ---- refusals

pub verdict_none : (at : ℕ) (before : List Shape) (os : List Open) (right : Bool) (s : Shape) → step before os s ≡ None → one_verdict at before os right s ≡ Err (faults.Element at)
verdict_none at before os right s e = ap (entered at right (first_over (before ++ (s ∷ [])) tested)) e

pub verdict_wrong : (at : ℕ) (before : List Shape) (os : List Open) (right : Bool) (s : Shape) → is_some (step before os s) ≡ true → right ≡ false → one_verdict at before os right s ≡ Err (faults.Attribute at)
verdict_wrong at before os right s e f =
    let n = some_is (step before os s) e in
    ap (entered at right (first_over (before ++ (s ∷ [])) tested)) n.1
    ∙ ap (λ b. if b then within (first_over (before ++ (s ∷ [])) tested) n.0 else Err (faults.Attribute at)) f

pub verdict_over : (at : ℕ) (before : List Shape) (os : List Open) (right : Bool) (s : Shape) (w : Which) → is_some (step before os s) ≡ true → right ≡ true → first_over (before ++ (s ∷ [])) tested ≡ Some w → one_verdict at before os right s ≡ Err (faults.Many w)
verdict_over at before os right s w e f g =
    let n = some_is (step before os s) e in
    ap (entered at right (first_over (before ++ (s ∷ [])) tested)) n.1
    ∙ ap (λ b. if b then within (first_over (before ++ (s ∷ [])) tested) n.0 else Err (faults.Attribute at)) f
    ∙ ap (λ o. within o n.0) g

-- ---- the end of an element

inside_eq : (i : Option Element) (e : Element) → is_inside i e ≡ true → i ≡ Some e
inside_eq None e h = absurd cc
inside_eq (Some f) e h = ap Some (same_is f e h)

pub close_none : (top : OpenElement) (rs : List OpenElement) (before : List Shape) (os : List Open) (ws : List Work) (e : Element) (b : Bool)
    → ((o : Open) (w : Work) → ShowsOpen top o w → b ≡ (is_inside o.inside e && is_complete o.inside o.children)) → b ≡ false → ShowsAll (top ∷ rs) os ws → step before os (closes e) ≡ None
close_none top rs before [] ws e b h f a = refl
close_none top rs before (o ∷ os) [] e b h f a = absurd a
close_none top rs before (o ∷ []) (w ∷ ws) e b h f a = refl
close_none top rs before (o ∷ u ∷ os) (w ∷ ws) e b h f a = ap (λ x. if x then Some (u ∷ os) else None) (sym (h o w a.0) ∙ f)

close_alone : (top : OpenElement) (before : List Shape) (os : List Open) (ws : List Work) (e : Element) → ShowsAll (top ∷ []) os ws → step before os (closes e) ≡ None
close_alone top before [] ws e a = refl
close_alone top before (o ∷ []) ws e a = refl
close_alone top before (o ∷ u ∷ os) [] e a = absurd a
close_alone top before (o ∷ u ∷ os) (w ∷ []) e a = absurd a.1
close_alone top before (o ∷ u ∷ os) (w ∷ v ∷ ws) e a = absurd a.1

pub close_last : (top : OpenElement) (rs : List OpenElement) (before : List Shape) (os : List Open) (ws : List Work) (e : Element) → rs ≡ [] → ShowsAll (top ∷ reverse rs) os ws → step before os (closes e) ≡ None
close_last top rs before os ws e f a = close_alone top before os ws e (subst (λ l. ShowsAll (top ∷ reverse l) os ws) f a)

plan_lists : (x : Elements) (p q : Piece) → p.inputs ≡ q.inputs → p.outputs ≡ q.outputs → p.internals ≡ q.internals → p.constants ≡ q.constants → p.main ≡ q.main → p.methods ≡ q.methods → ShowsPlan x p → ShowsPlan x q
plan_lists x p q a b c d e f h = record {
  inputs = h.inputs ∙ a;
  outputs = h.outputs ∙ b;
  internals = h.internals ∙ c;
  constants = h.constants ∙ d;
  main = h.main ∙ ap or_done e;
  methods = h.methods ∙ f;
}

-- what a list says in three parts
thrice : {A : Type 0} (t v p a : List A) → ((t ++ v) ++ p) ++ a ≡ t ++ (v ++ (p ++ a))
thrice t v p a = append_assoc (t ++ v) p a ∙ append_assoc t v (p ++ a)

later_thrice : (t v p a : Option RawBody) → later (later (later t v) p) a ≡ later t (later v (later p a))
later_thrice t v p None = later-assoc t v p
later_thrice t v p (Some b) = refl

plan_closed : (x : Elements) (t v p a : Piece) → ShowsPlan x (both (both (both t v) p) a) → ShowsPlan x (both t (both v (both (said_outside p) a)))
plan_closed x t v p a h =
    plan_lists x (both (both (both t v) p) a) (both t (both v (both (said_outside p) a))) (thrice t.inputs v.inputs p.inputs a.inputs) (thrice t.outputs v.outputs p.outputs a.outputs) (thrice t.internals v.internals p.internals a.internals)
    (thrice t.constants v.constants p.constants a.constants) (later_thrice t.main v.main p.main a.main) (thrice t.methods v.methods p.methods a.methods) h

-- the parts and the plan after an element ended
pub record AfterClose (before : List Shape) (os : List Open) (ws : List Work) (e : Element) (after : OpenElement) (rs : List OpenElement) (y : Elements) : Type 0 where
  pub next : List Open
  pub stepped : step before os (closes e) ≡ Some next
  pub parts : ShowsAll (after ∷ rs) next (build ws (ends e))
  pub plan : ShowsPlan y (total (build ws (ends e)))

close_two : (top parent after : OpenElement) (rs : List OpenElement) (x y : Elements) (before : List Shape) (o u : Open) (os : List Open) (w v : Work) (ws : List Work) (e : Element)
    → (is_inside o.inside e && is_complete o.inside o.children) ≡ true → Closed e top parent after x y → ShowsOpen top o w → ShowsOpen parent u v → ShowsAll rs os ws → ShowsPlan x (total (w ∷ v ∷ ws))
    → AfterClose before (o ∷ u ∷ os) (w ∷ v ∷ ws) e after rs y
close_two top parent after rs x y before o u os w v ws e t c a b r p =
    let i = inside_eq o.inside e (and_parts (is_inside o.inside e) (is_complete o.inside o.children) t).0 in
    let s : IsValueOf e w.attributes top.value = subst (λ z. IsValueIn z w.attributes top.value) i a.value in
    record {
      next = u ∷ os;
      stepped = ap (λ z. if z then Some (u ∷ os) else None) t;
      parts = (
        record {
          inside = c.body.element ∙ b.inside;
          children = subst (λ z. HasFlags z.stands u.children) (sym c.body.children) b.children;
          value = subst (IsValueIn u.inside v.attributes) (sym c.body.value) b.value;
          piece = c.body.piece w.attributes w.piece v.piece s a.piece b.piece;
        },
        r,
      );
      plan = plan_closed y (total ws) v.piece w.piece (adds e w.attributes w.piece) (c.plan w.attributes w.piece (total (w ∷ v ∷ ws)) s a.piece p);
    }

close_all : (top parent after : OpenElement) (rs : List OpenElement) (x y : Elements) (before : List Shape) (os : List Open) (ws : List Work) (e : Element) (b : Bool)
    → ((o : Open) (w : Work) → ShowsOpen top o w → b ≡ (is_inside o.inside e && is_complete o.inside o.children)) → b ≡ true → Closed e top parent after x y
    → ShowsAll (top ∷ parent ∷ rs) os ws → ShowsPlan x (total ws) → AfterClose before os ws e after rs y
close_all top parent after rs x y before [] [] e b h t c a p = absurd a
close_all top parent after rs x y before [] (w ∷ ws) e b h t c a p = absurd a
close_all top parent after rs x y before (o ∷ os) [] e b h t c a p = absurd a
close_all top parent after rs x y before (o ∷ []) (w ∷ []) e b h t c a p = absurd a.1
close_all top parent after rs x y before (o ∷ []) (w ∷ v ∷ ws) e b h t c a p = absurd a.1
close_all top parent after rs x y before (o ∷ u ∷ os) (w ∷ []) e b h t c a p = absurd a.1
close_all top parent after rs x y before (o ∷ u ∷ os) (w ∷ v ∷ ws) e b h t c a p = close_two top parent after rs x y before o u os w v ws e (sym (h o w a.0) ∙ t) c a.0 a.1.0 a.1.1 p

pub parts_close : (top child parent dest after : OpenElement) (outer items : List OpenElement) (x y : Elements) (before : List Shape) (os : List Open) (ws : List Work) (e : Element) (b : Bool)
    → ((o : Open) (w : Work) → ShowsOpen top o w → b ≡ (is_inside o.inside e && is_complete o.inside o.children)) → b ≡ true
    → child ≡ top → dest ≡ parent → outer ≡ items ++ (parent ∷ []) → Closed e child dest after x y → ShowsAll (top ∷ reverse outer) os ws → ShowsPlan x (total ws)
    → AfterClose before os ws e after (reverse items) y
parts_close top child parent dest after outer items x y before os ws e b h t f g i c a p =
    let closed : Closed e top parent after x y = subst (λ z. Closed e z parent after x y) f (subst (λ z. Closed e child z after x y) g c) in
    let turned : reverse outer ≡ parent ∷ reverse items = ap reverse i ∙ reverse-append items (parent ∷ []) in
    close_all top parent after (reverse items) x y before os ws e b h t closed (subst (λ l. ShowsAll (top ∷ l) os ws) turned a) p

pub at_none : {A : Type 0} (o : Option A) (P : Type 0) (Q : A → Type 0) → MatchOption o P Q → o ≡ None → P
at_none None P Q h e = h
at_none (Some x) P Q h e = absurd cc

pub at_some : {A : Type 0} (o : Option A) (x : A) (P : Type 0) (Q : A → Type 0) → MatchOption o P Q → o ≡ Some x → Q x
at_some o x P Q h e = subst (λ z. MatchOption z P Q) e h

pub said_inside : (e : Element) (attributes : List Attribute) (s : TagValue) → IsValueOf e attributes s → IsValueIn (Some e) attributes s
said_inside e attributes s h = h

-- ---- the end of the text

pub not_ended : (top : OpenElement) (rs : List OpenElement) (os : List Open) (ws : List Work) → ShowsAll (top ∷ rs) os ws → (length rs ≡ 0 → ⊥) → is_ended os ≡ false
not_ended top rs [] ws a h = refl
not_ended top [] (o ∷ os) ws a h = absurd (h refl)
not_ended top (r ∷ rs) (o ∷ u ∷ os) ws a h = refl
not_ended top (r ∷ rs) (o ∷ []) [] a h = absurd a
not_ended top (r ∷ rs) (o ∷ []) (w ∷ []) a h = absurd a.1
not_ended top (r ∷ rs) (o ∷ []) (w ∷ v ∷ ws) a h = absurd a.1

none_before : (a : Option RawBody) → later None a ≡ a
none_before None = refl
none_before (Some b) = refl

tree_of_plan : (x : Elements) (p : Piece) → ShowsPlan x (both nothing p) → piece_tree p ≡ tree_of x
tree_of_plan x p h =
    let main_is : raw_body_of x.main.items ≡ or_done p.main = h.main ∙ ap or_done (none_before p.main) in
    sym (λ i. record {
      inputs = h.inputs i;
      outputs = h.outputs i;
      internals = h.internals i;
      constants = h.constants i;
      main = main_is i;
      methods = h.methods i;
    })

pub tree_built : (top : OpenElement) (rs : List OpenElement) (x : Elements) (os : List Open) (ws : List Work) → ShowsAll (top ∷ rs) os ws → is_ended os ≡ true → ShowsPlan x (total ws) → built ws ≡ tree_of x
tree_built top rs x [] ws a e h = absurd cc
tree_built top rs x (o ∷ u ∷ os) ws a e h = absurd cc
tree_built top rs x (o ∷ []) [] a e h = absurd a
tree_built top rs x (o ∷ []) (w ∷ []) a e h = tree_of_plan x w.piece h
tree_built top [] x (o ∷ []) (w ∷ v ∷ ws) a e h = absurd a.1
tree_built top (r ∷ rs) x (o ∷ []) (w ∷ v ∷ ws) a e h = absurd a.1
