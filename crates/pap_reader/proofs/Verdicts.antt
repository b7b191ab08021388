-- The verdict on a tag, from what the reader's calls say of its marks.
use Rattle.std.proofs.Common.{◌≡◌, ℕ, Bool, true, false, ◌&&◌, inl, inr, Option, Some, None, Result, Ok, Err, List, [], ◌∷◌, ◌++◌, refl, sym, ap, subst, ◌∙◌, append_assoc, arith}
use Rattle.std.specs.Prelude.{if◌then◌else◌, nat_lt, MatchResult, option_and_then}
use Rattle.std.specs.List.{list_all}
use Rattle.std.proofs.lemmas.Bool.{cases_Bool, ltb-true}
use Rattle.pap_reader.specs.declared.element.Element.{Element}
use Rattle.pap_reader.specs.declared.element.Element.TheVariants as elements
use Rattle.pap_reader.specs.declared.fault.Which.{Which}
use Rattle.pap_reader.specs.declared.fault.Which.TheVariants as which
use Rattle.pap_reader.specs.declared.fault.ReadFault.{ReadFault}
use Rattle.pap_reader.specs.declared.fault.ReadFault.TheVariants as faults
use Rattle.pap_reader.specs.declared.reader.Reader.{Reader}
use Rattle.pap_reader.specs.declared.tags.Form.{Form}
use Rattle.pap_reader.specs.Table.{is_complete}
use Rattle.pap_reader.specs.Structure.{Shape, opens, closes, foreign}
use Rattle.pap_reader.specs.private.NestingDecisions.{Open, with_child, is_second, step, steps}
use Rattle.pap_reader.specs.Tags.{Attribute, Tag}
use Rattle.pap_reader.specs.Marks.{Mark, begins, ends, alien, element_of, marks_by, marks_of, shape}
use Rattle.pap_reader.specs.Attributes.{mark_is_right, is_right}
use Rattle.pap_reader.specs.Limits.{most, tested}
use Rattle.pap_reader.specs.private.CountDecisions.{deeper, depth_from, tally}
use Rattle.pap_reader.specs.private.VerdictDecisions.{IsFew, Work, build, builds, first_over, within, entered, verdict_on}
use Rattle.pap_reader.specs.private.ReaderViews.{Stands, Refuses, one_verdict, Took, Judges}
use Rattle.pap_reader.proofs.Structures.{same_refl}
use Rattle.pap_reader.proofs.ReaderSteps.{step_opens, closes_count, depth-one, few_close}

-- ---- nothing is over

no_over : (ss : List Shape) (ws : List Which) → IsFew ss ws → first_over ss ws ≡ None
no_over ss [] f = refl
no_over ss (w ∷ ws) f = elim (cases_Bool (nat_lt (most w) (tally w ss))) [
  | inl t ↦ let h = ltb-true (most w) (tally w ss) t in let g = f.0 in absurd (omega arith)
  | inr t ↦ ap (λ b. if b then Some w else first_over ss ws) t ∙ no_over ss ws f.1
]

and-true : (b : Bool) → (b && true) ≡ b
and-true true = refl
and-true false = refl

then-some : (o : Option (List Open)) → option_and_then (λ x. Some x) o ≡ o
then-some None = refl
then-some (Some x) = refl

-- ---- one mark

on_one : (at : ℕ) (before : List Shape) (os : List Open) (m : Mark) → verdict_on before os at (m ∷ []) ≡ one_verdict at before os (mark_is_right m) (shape m)
on_one at before os m =
    ap (λ b. entered at b (first_over (before ++ (shape m ∷ [])) tested) (option_and_then (λ x. Some x) (step before os (shape m)))) (and-true (mark_is_right m))
    ∙ ap (entered at (mark_is_right m) (first_over (before ++ (shape m ∷ [])) tested)) (then-some (step before os (shape m)))

ok_one : (at : ℕ) (before : List Shape) (os next : List Open) (r : Bool) (s : Shape) → step before os s ≡ Some next → r ≡ true → IsFew (before ++ (s ∷ [])) tested → one_verdict at before os r s ≡ Ok next
ok_one at before os next r s e f g =
    ap (entered at r (first_over (before ++ (s ∷ [])) tested)) e
    ∙ ap (λ b. if b then within (first_over (before ++ (s ∷ [])) tested) next else Err (faults.Attribute at)) f
    ∙ ap (λ o. within o next) (no_over (before ++ (s ∷ [])) tested g)

pub refuses_same : (f : ReadFault) (r r' : Result (List Open) ReadFault) → ((g : ReadFault) → r ≡ Err g → r' ≡ Err g) → Refuses f r → Refuses f r'
refuses_same faults.Memory r r' h k = tt
refuses_same (faults.Text at) r r' h k = h (faults.Text at) k
refuses_same (faults.Element at) r r' h k = h (faults.Element at) k
refuses_same (faults.Attribute at) r r' h k = h (faults.Attribute at) k
refuses_same (faults.Many w) r r' h k = h (faults.Many w) k

pub judges_one : (at : ℕ) (before : List Shape) (os : List Open) (ws : List Work) (m : Mark) (x : Reader) (u : Result (Unit {0}) ReadFault)
    → MatchResult u (λ _. Took x before os ws (shape m) m × (mark_is_right m ≡ true)) (λ f. Refuses f (one_verdict at before os (mark_is_right m) (shape m))) → Judges at before os ws (m ∷ []) x u
judges_one at before os ws m x (Ok u) h = (h.0.next, on_one at before os m ∙ ok_one at before os h.0.next (mark_is_right m) (shape m) h.0.stepped h.1 h.0.stands.few, h.0.stands)
judges_one at before os ws m x (Err f) h = subst (Refuses f) (sym (on_one at before os m)) h

pub judges_end : (at : ℕ) (before : List Shape) (os : List Open) (ws : List Work) (e : Element) (x : Reader) (u : Result (Unit {0}) ReadFault)
    → MatchResult u (λ _. Took x before os ws (closes e) (ends e)) (λ f. Refuses f (one_verdict at before os true (closes e))) → Judges at before os ws (ends e ∷ []) x u
judges_end at before os ws e x (Ok u) h = judges_one at before os ws (ends e) x (Ok u) (h, refl)
judges_end at before os ws e x (Err f) h = judges_one at before os ws (ends e) x (Err f) h

-- ---- an element that begins and ends in one tag

abbrev pair : Element → List Attribute → List Mark
pair e attributes = begins e attributes ∷ ends e ∷ []

abbrev steps_pair : List Shape → List Open → Element → Option (List Open)
steps_pair before os e = steps before os (opens e ∷ closes e ∷ [])

closing_fresh : (before : List Shape) (o : Open) (os next : List Open) (e : Element) (b : Bool) → step before (o ∷ os) (opens e) ≡ Some next → is_complete (Some e) [] ≡ b
    → step (before ++ (opens e ∷ [])) next (closes e) ≡ (if b then Some (with_child o e ∷ os) else None)
closing_fresh before o os next e b h f =
    ap (λ n. step (before ++ (opens e ∷ [])) n (closes e)) (sym (step_opens before o os next e h))
    ∙ ap (λ c. if c && is_complete (Some e) [] then Some (with_child o e ∷ os) else None) (same_refl e)
    ∙ ap (λ c. if c then Some (with_child o e ∷ os) else None) f

none_empty : (before : List Shape) (s : Shape) → step before [] s ≡ None
none_empty before (opens e) = elim (cases_Bool (is_second before (opens e))) [ inl t ↦ rw t refl | inr t ↦ rw t refl ]
none_empty before (closes e) = refl
none_empty before foreign = refl

no_some : (n : List Open) → None ≡ Some n → ⊥
no_some n e = absurd cc

no_stack : (before : List Shape) (e : Element) (n : List Open) → step before [] (opens e) ≡ Some n → ⊥
no_stack before e n h = no_some n (sym (none_empty before (opens e)) ∙ h)

pair_none : (before : List Shape) (os : List Open) (e : Element) (o : Option (List Open)) → step before os (opens e) ≡ o → is_complete (Some e) [] ≡ false
    → option_and_then (λ n. option_and_then (λ x. Some x) (step (before ++ (opens e ∷ [])) n (closes e))) o ≡ None
pair_none before os e None h f = refl
pair_none before [] e (Some n) h f = absurd (no_stack before e n h)
pair_none before (o ∷ os) e (Some n) h f = ap (λ z. option_and_then (λ x. Some x) z) (closing_fresh before o os n e false h f)

pub pair_incomplete : (at : ℕ) (before : List Shape) (os : List Open) (e : Element) (attributes : List Attribute) → is_complete (Some e) [] ≡ false → verdict_on before os at (pair e attributes) ≡ Err (faults.Element at)
pair_incomplete at before os e attributes f =
    ap (entered at (list_all mark_is_right (pair e attributes)) (first_over (before ++ (opens e ∷ closes e ∷ [])) tested)) (pair_none before os e (step before os (opens e)) refl f)

deeper_other : (d : ℕ) (e : Element) → is_complete (Some e) [] ≡ true → deeper d (closes e) ≡ d
deeper_other d elements.If f = absurd cc
deeper_other d e f = refl

same_amount : (ss : List Shape) (e : Element) → is_complete (Some e) [] ≡ true → (w : Which) → tally w (ss ++ (closes e ∷ [])) ≡ tally w ss
same_amount ss e f which.Bytes = refl
same_amount ss e f which.Depth = depth-one 0 ss (closes e) ∙ deeper_other (depth_from 0 ss) e f
same_amount ss e f which.Inputs = closes_count which.Inputs ss e
same_amount ss e f which.Outputs = closes_count which.Outputs ss e
same_amount ss e f which.Internals = closes_count which.Internals ss e
same_amount ss e f which.Constants = closes_count which.Constants ss e
same_amount ss e f which.Methods = closes_count which.Methods ss e
same_amount ss e f which.Statements = closes_count which.Statements ss e

same_over : (a b : List Shape) (ws : List Which) → ((w : Which) → tally w a ≡ tally w b) → first_over a ws ≡ first_over b ws
same_over a b [] h = refl
same_over a b (w ∷ ws) h = ap (λ n. if nat_lt (most w) n then Some w else first_over a ws) (h w) ∙ ap (λ o. if nat_lt (most w) (tally w b) then Some w else o) (same_over a b ws h)

pair_over : (before : List Shape) (e : Element) → is_complete (Some e) [] ≡ true → first_over (before ++ (opens e ∷ closes e ∷ [])) tested ≡ first_over (before ++ (opens e ∷ [])) tested
pair_over before e f =
    ap (λ ss. first_over ss tested) (sym (append_assoc before (opens e ∷ []) (closes e ∷ [])))
    ∙ same_over ((before ++ (opens e ∷ [])) ++ (closes e ∷ [])) (before ++ (opens e ∷ [])) tested (same_amount (before ++ (opens e ∷ [])) e f)

same_refusal : (at : ℕ) (r : Bool) (o : Option Which) (n m : List Open) (g : ReadFault) → (if r then within o n else Err (faults.Attribute at)) ≡ Err g → (if r then within o m else Err (faults.Attribute at)) ≡ Err g
same_refusal at true None n m g h = absurd cc
same_refusal at true (Some w) n m g h = h
same_refusal at false o n m g h = h

pair_refused_at : (at : ℕ) (before : List Shape) (os : List Open) (e : Element) (r : Bool) (over : Option Which) (o : Option (List Open)) (g : ReadFault) → step before os (opens e) ≡ o → is_complete (Some e) [] ≡ true
    → entered at r over o ≡ Err g → entered at r over (option_and_then (λ n. option_and_then (λ x. Some x) (step (before ++ (opens e ∷ [])) n (closes e))) o) ≡ Err g
pair_refused_at at before os e r over None g h f k = k
pair_refused_at at before [] e r over (Some n) g h f k = absurd (no_stack before e n h)
pair_refused_at at before (o ∷ os) e r over (Some n) g h f k =
    ap (λ z. entered at r over (option_and_then (λ x. Some x) z)) (closing_fresh before o os n e true h f)
    ∙ same_refusal at r over n (with_child o e ∷ os) g k

pub pair_refused : (at : ℕ) (before : List Shape) (os : List Open) (e : Element) (attributes : List Attribute) (g : ReadFault) → is_complete (Some e) [] ≡ true
    → one_verdict at before os (is_right e attributes) (opens e) ≡ Err g → verdict_on before os at (pair e attributes) ≡ Err g
pair_refused at before os e attributes g f h =
    ap (λ b. entered at b (first_over (before ++ (opens e ∷ closes e ∷ [])) tested) (steps_pair before os e)) (and-true (is_right e attributes))
    ∙ ap (λ o. entered at (is_right e attributes) o (steps_pair before os e)) (pair_over before e f)
    ∙ pair_refused_at at before os e (is_right e attributes) (first_over (before ++ (opens e ∷ [])) tested) (step before os (opens e)) g refl f h

pair_steps : (before : List Shape) (os n m : List Open) (e : Element) → step before os (opens e) ≡ Some n → step (before ++ (opens e ∷ [])) n (closes e) ≡ Some m → steps_pair before os e ≡ Some m
pair_steps before os n m e h k =
    ap (λ o. option_and_then (λ n. option_and_then (λ x. Some x) (step (before ++ (opens e ∷ [])) n (closes e))) o) h ∙ ap (λ o. option_and_then (λ x. Some x) o) k

regroup : (x : Reader) (before : List Shape) (e : Element) (os : List Open) (ws : List Work) → Stands x ((before ++ (opens e ∷ [])) ++ (closes e ∷ [])) os ws → Stands x (before ++ (opens e ∷ closes e ∷ [])) os ws
regroup x before e os ws h = subst (λ ss. Stands x ss os ws) (append_assoc before (opens e ∷ []) (closes e ∷ [])) h

no_err : (m : List Open) (g : ReadFault) → Ok m ≡ Err g → ⊥
no_err m g e = absurd cc

no_error : (at : ℕ) (before : List Shape) (os n : List Open) (e : Element) (g : ReadFault) → step before os (opens e) ≡ Some n → IsFew (before ++ (opens e ∷ [])) tested → is_complete (Some e) [] ≡ true
    → one_verdict at (before ++ (opens e ∷ [])) n true (closes e) ≡ Err g → ⊥
no_error at before [] n e g h f c k = no_stack before e n h
no_error at before (o ∷ os) n e g h f c k =
    no_err (with_child o e ∷ os) g (sym (ok_one at (before ++ (opens e ∷ [])) n (with_child o e ∷ os) true (closes e) (closing_fresh before o os n e true h c) refl (few_close (before ++ (opens e ∷ [])) e f)) ∙ k)

pub judges_pair : (at : ℕ) (before : List Shape) (os : List Open) (ws : List Work) (e : Element) (attributes : List Attribute) (y x : Reader) (u : Result (Unit {0}) ReadFault) (t : Took y before os ws (opens e) (begins e attributes))
    → is_right e attributes ≡ true → is_complete (Some e) [] ≡ true
    → MatchResult u (λ _. Took x (before ++ (opens e ∷ [])) t.next (build ws (begins e attributes)) (closes e) (ends e)) (λ f. Refuses f (one_verdict at (before ++ (opens e ∷ [])) t.next true (closes e)))
    → Judges at before os ws (pair e attributes) x u
judges_pair at before os ws e attributes y x (Ok u) t r f h =
    let few = subst (λ ss. IsFew ss tested) (append_assoc before (opens e ∷ []) (closes e ∷ [])) h.stands.few in (
      h.next,
      ap (entered at (list_all mark_is_right (pair e attributes)) (first_over (before ++ (opens e ∷ closes e ∷ [])) tested)) (pair_steps before os t.next h.next e t.stepped h.stepped)
          ∙ ap (λ b. if b then within (first_over (before ++ (opens e ∷ closes e ∷ [])) tested) h.next else Err (faults.Attribute at)) (and-true (is_right e attributes) ∙ r)
          ∙ ap (λ o. within o h.next) (no_over (before ++ (opens e ∷ closes e ∷ [])) tested few),
      regroup x before e h.next (builds ws (pair e attributes)) h.stands,
    )
judges_pair at before os ws e attributes y x (Err f) t r c h = refuses_same f (one_verdict at (before ++ (opens e ∷ [])) t.next true (closes e)) (verdict_on before os at (pair e attributes)) (λ g k. absurd (no_error at before os t.next e g t.stepped t.stands.few c k)) h

-- ---- tags

foreign_none : (before : List Shape) (os : List Open) → step before os foreign ≡ None
foreign_none before [] = refl
foreign_none before (o ∷ os) = refl

pub verdict_foreign : (at : ℕ) (before : List Shape) (os : List Open) → verdict_on before os at (alien ∷ []) ≡ Err (faults.Element at)
verdict_foreign at before os = ap (λ o. entered at true (first_over (before ++ (foreign ∷ [])) tested) (option_and_then (λ x. Some x) o)) (foreign_none before os)

-- a tag of an element, written in one of the forms
pub takes_form : (at : ℕ) (before : List Shape) (os : List Open) (ws : List Work) (t : Tag) (f : Form) (n : Option Element) (e : Element) (attributes : List Attribute) (x : Reader) (u : Result (Unit {0}) ReadFault)
    → n ≡ element_of t.name → n ≡ Some e → t.form ≡ f → attributes ≡ t.attributes
    → Judges at before os ws (marks_by f (Some e) attributes) x u → Judges at before os ws (marks_of t) x u
takes_form at before os ws t f n e attributes x u i j k l q =
    let a : marks_by f (Some e) attributes ≡ marks_of t =
    ap (λ z. marks_by z (Some e) attributes) (sym k) ∙ ap (λ z. marks_by t.form z attributes) (sym j ∙ i) ∙ ap (λ z. marks_by t.form (element_of t.name) z) l in
    subst (λ ms. Judges at before os ws ms x u) a q

-- a tag of no element
pub foreign_refused : (at : ℕ) (before : List Shape) (os : List Open) (t : Tag) (n : Option Element) → n ≡ element_of t.name → n ≡ None
    → verdict_on before os at (marks_of t) ≡ Err (faults.Element at)
foreign_refused at before os t n i j =
    ap (λ o. verdict_on before os at (marks_by t.form o t.attributes)) (sym i ∙ j) ∙ verdict_foreign at before os
