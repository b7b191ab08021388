-- A shape is entered exactly where it makes a front with the shapes before it.
use Rattle.std.proofs.Common.{◌≡◌, ℕ, ◌+◌, ◌≤◌, Bool, true, false, ◌&&◌, ◌||◌, inl, inr, Option, Some, None, List, [], ◌∷◌, ◌++◌, cond, refl, sym, ap, subst, ◌∙◌, append_assoc, arith}
use Rattle.std.specs.Prelude.{if◌then◌else◌, option_and_then, count_by}
use Rattle.std.specs.List.{list_any}
use Rattle.std.proofs.lemmas.Bool.{and_parts, and_from, cases_Bool}
use Rattle.std.proofs.lemmas.List.{append-nil}
use Rattle.pap_reader.specs.declared.element.Element.{Element}
use Rattle.pap_reader.specs.Table.{all_stand, is_complete}
use Rattle.pap_reader.specs.Structure.{Shape, none, opens_internals, IsDocument, BeginsDocument}
use Rattle.pap_reader.specs.private.NestingDecisions.{Open, enter, enters, is_second, step, steps, start, is_ended}
use Rattle.pap_reader.proofs.Structures.{Spelled, whole, enter_spelled}
use Rattle.pap_reader.proofs.Completion.{count_by-append, count_by-cons, Reached, document_read}

is_some : {A : Type 0} (a b : A) → Some a ≡ Some b → a ≡ b
is_some a b e = cc

pub no_some : {A : Type 0} (a : A) → None ≡ Some a → ⊥
no_some a e = absurd cc

-- ---- all of the shapes

through : (o : Option (List Open)) (a b : List Shape) (r : List Open) → ((x : List Open) → enters x a ≡ Some r → enters x (a ++ b) ≡ enters r b)
    → option_and_then (λ x. enters x a) o ≡ Some r → option_and_then (λ x. enters x (a ++ b)) o ≡ enters r b
through None a b r h e = absurd (no_some r e)
through (Some x) a b r h e = h x e

pub enters_then : (a b : List Shape) (os r : List Open) → enters os a ≡ Some r → enters os (a ++ b) ≡ enters r b
enters_then [] b os r e = ap (λ x. enters x b) (is_some os r e)
enters_then (s ∷ a) b os r e = through (enter os s) a b r (λ x. enters_then a b x r) e

through_front : (o : Option (List Open)) (a b : List Shape) (r : List Open) → ((x : List Open) → enters x (a ++ b) ≡ Some r → (q : List Open) × (enters x a ≡ Some q))
    → option_and_then (λ x. enters x (a ++ b)) o ≡ Some r → (q : List Open) × (option_and_then (λ x. enters x a) o ≡ Some q)
through_front None a b r h e = absurd (no_some r e)
through_front (Some x) a b r h e = h x e

pub enters_front : (a b : List Shape) (os r : List Open) → enters os (a ++ b) ≡ Some r → (q : List Open) × (enters os a ≡ Some q)
enters_front [] b os r e = (os, refl)
enters_front (s ∷ a) b os r e = through_front (enter os s) a b r (λ x. enters_front a b x r) e

pub enters_one : (os r : List Open) (s : Shape) → enter os s ≡ Some r → enters os (s ∷ []) ≡ Some r
enters_one os r s e = ap (λ o. option_and_then (λ x. Some x) o) e

one_enters : (o : Option (List Open)) (r : List Open) → option_and_then (λ x. Some x) o ≡ Some r → o ≡ Some r
one_enters None r e = e
one_enters (Some x) r e = e

-- ---- counts

pub count_none : {A : Type 0} (p : A → Bool) (ss : List A) → list_any p ss ≡ false → count_by p ss ≡ 0
count_none p [] e = refl
count_none p (s ∷ ss) e = elim (cases_Bool (p s)) [
  | inl t ↦ let h : true ≡ false = sym (ap (λ b. b || list_any p ss) t) ∙ e in absurd cc
  | inr t ↦ omega (arith, count_by-cons p s ss, ap {B = ℕ} (λ b. cond b 1 0) t, count_none p ss (sym (ap (λ b. b || list_any p ss) t) ∙ e))
]

pub count_some : {A : Type 0} (p : A → Bool) (ss : List A) → list_any p ss ≡ true → 1 ≤ count_by p ss
count_some p [] e = absurd cc
count_some p (s ∷ ss) e = elim (cases_Bool (p s)) [
  | inl t ↦ omega (arith, count_by-cons p s ss, ap {B = ℕ} (λ b. cond b 1 0) t)
  | inr t ↦ omega (arith, count_by-cons p s ss, ap {B = ℕ} (λ b. cond b 1 0) t, count_some p ss (sym (ap (λ b. b || list_any p ss) t) ∙ e))
]

-- ---- one step

not_both : (a b : Bool) → (a && b) ≡ false → a ≡ true → b ≡ false
not_both true b e h = e
not_both false b e h = absurd cc

one_more : (before : List Shape) (s : Shape) → count_by opens_internals (before ++ (s ∷ [])) ≡ count_by opens_internals before + cond (opens_internals s) 1 0
one_more before s = count_by-append opens_internals before (s ∷ []) ∙ omega (arith, count_by-cons opens_internals s [])

still_once : (before : List Shape) (s : Shape) → count_by opens_internals before ≤ 1 → is_second before s ≡ false → count_by opens_internals (before ++ (s ∷ [])) ≤ 1
still_once before s le e = elim (cases_Bool (opens_internals s)) [
  | inl t ↦
      let zero_before = count_none opens_internals before (not_both (opens_internals s) (list_any opens_internals before) e t) in
      omega (arith, le, zero_before, one_more before s, ap {B = ℕ} (λ b. cond b 1 0) t)
  | inr t ↦ omega (arith, le, one_more before s, ap {B = ℕ} (λ b. cond b 1 0) t)
]

pub step_reached : (before : List Shape) (os os' : List Open) (s : Shape) → Reached before os → step before os s ≡ Some os' → Reached (before ++ (s ∷ [])) os'
step_reached before os os' s h e = elim (cases_Bool (is_second before s)) [
  | inl t ↦ absurd (no_some os' (ap (λ b. if b then None else enter os s) (sym t) ∙ e))
  | inr t ↦
      let i : enter os s ≡ Some os' = ap (λ b. if b then None else enter os s) (sym t) ∙ e in
      record {
        read = enters_then before (s ∷ []) start os h.read ∙ enters_one os os' s i;
        spelled = enter_spelled os os' before s h.spelled i;
        once = still_once before s h.once t;
      }
]

pub front_front : (a b : List Shape) → BeginsDocument (a ++ b) → BeginsDocument a
front_front a b (m, d) = (b ++ m, subst IsDocument (append_assoc a b m) d)

pub step_refused : (before : List Shape) (os : List Open) (s : Shape) → Reached before os → step before os s ≡ None → BeginsDocument (before ++ (s ∷ [])) → ⊥
step_refused before os s h e (m, d) =
    let all = document_read ((before ++ (s ∷ [])) ++ m) d in
    let first = enters_front (before ++ (s ∷ [])) m start _ all in
    let here : enters os (s ∷ []) ≡ Some first.0 = sym (enters_then before (s ∷ []) start os h.read) ∙ first.1 in
    let goes = one_enters (enter os s) first.0 here in
    elim (cases_Bool (is_second before s)) [
      | inl t ↦
          let p = and_parts (opens_internals s) (list_any opens_internals before) t in
          let some = count_some opens_internals before p.1 in
          let two : count_by opens_internals (before ++ (s ∷ [])) ≡ count_by opens_internals before + 1 = omega (arith, one_more before s, ap {B = ℕ} (λ b. cond b 1 0) p.0) in
          let sum = count_by-append opens_internals (before ++ (s ∷ [])) m in
          let once = d.once in
          absurd (omega arith)
      | inr t ↦ no_some first.0 (sym e ∙ ap (λ b. if b then None else enter os s) t ∙ goes)
    ]

-- ---- all of a tag's shapes

through_reached : (o : Option (List Open)) (ss before : List Shape) (s : Shape) (os' : List Open) → ((x : List Open) → o ≡ Some x → steps (before ++ (s ∷ [])) x ss ≡ Some os' → Reached ((before ++ (s ∷ [])) ++ ss) os')
    → option_and_then (λ x. steps (before ++ (s ∷ [])) x ss) o ≡ Some os' → Reached ((before ++ (s ∷ [])) ++ ss) os'
through_reached None ss before s os' h e = absurd (no_some os' e)
through_reached (Some x) ss before s os' h e = h x refl e

pub steps_reached : (ss before : List Shape) (os os' : List Open) → Reached before os → steps before os ss ≡ Some os' → Reached (before ++ ss) os'
steps_reached [] before os os' h e = subst (λ b. Reached b os') (sym (append-nil before)) (subst (Reached before) (is_some os os' e) h)
steps_reached (s ∷ ss) before os os' h e =
    subst (λ b. Reached b os') (append_assoc before (s ∷ []) ss)
    (through_reached (step before os s) ss before s os' (λ x f g. steps_reached ss (before ++ (s ∷ [])) x os' (step_reached before os x s h f) g) e)

through_refused : (o : Option (List Open)) (ss before : List Shape) (s : Shape) → (o ≡ None → BeginsDocument (before ++ (s ∷ [])) → ⊥)
    → ((x : List Open) → o ≡ Some x → steps (before ++ (s ∷ [])) x ss ≡ None → BeginsDocument ((before ++ (s ∷ [])) ++ ss) → ⊥)
    → option_and_then (λ x. steps (before ++ (s ∷ [])) x ss) o ≡ None → BeginsDocument ((before ++ (s ∷ [])) ++ ss) → ⊥
through_refused None ss before s n h e f = n refl (front_front (before ++ (s ∷ [])) ss f)
through_refused (Some x) ss before s n h e f = h x refl e f

none_some : (os : List Open) → Some os ≡ None → ⊥
none_some os e = absurd cc

pub steps_refused : (ss before : List Shape) (os : List Open) → Reached before os → steps before os ss ≡ None → BeginsDocument (before ++ ss) → ⊥
steps_refused [] before os h e f = none_some os e
steps_refused (s ∷ ss) before os h e f =
    through_refused (step before os s) ss before s (λ n. step_refused before os s h n)
    (λ x g. steps_refused ss (before ++ (s ∷ [])) x (step_reached before os x s h g)) e
    (subst BeginsDocument (sym (append_assoc before (s ∷ []) ss)) f)

-- ---- the end

abbrev root_of : List Open → List Element
root_of [] = []
root_of (o ∷ os) = o.children

ended_spelled : (os : List Open) (ss : List Shape) → Spelled os ss → is_ended os ≡ true → count_by opens_internals ss ≤ 1 → IsDocument ss
ended_spelled (o ∷ []) ss (whole {kinds} n a) e le = record { kinds = kinds; nodes = n; root = and_from (all_stand None [] kinds) (is_complete None kinds) a e; once = le }
ended_spelled (o ∷ u ∷ us) ss h e le = absurd cc
ended_spelled [] ss h e le = absurd cc

pub ended_document : (ss : List Shape) (os : List Open) → Reached ss os → is_ended os ≡ true → IsDocument ss
ended_document ss os h e = ended_spelled os ss h.spelled e h.once

pub document_ended : (ss : List Shape) (os : List Open) → Reached ss os → IsDocument ss → is_ended os ≡ true
document_ended ss os h d =
    let same : record { inside = None; children = d.kinds } ∷ [] ≡ os = is_some _ _ (sym (document_read ss d) ∙ h.read) in
    let c : is_complete None d.kinds ≡ true = (and_parts (all_stand None [] d.kinds) (is_complete None d.kinds) d.root).1 in
    subst (λ x. is_ended x ≡ true) same c

pub reached_start : Reached [] start
reached_start = record { read = refl; spelled = whole none refl; once = omega arith }

-- the shapes of a front are read
pub front_read : (ss : List Shape) → BeginsDocument ss → (os : List Open) × (enters start ss ≡ Some os)
front_read ss (m, d) = enters_front ss m start _ (document_read (ss ++ m) d)
