-- What holds after clean tags, and what the verdict on the next one says.
use Rattle.std.proofs.Common.{◌≡◌, ◌≤◌, ◌<◌, Bool, true, false, ◌⊎◌, inl, inr, Option, Some, None, Result, Ok, Err, List, [], ◌∷◌, ◌++◌, length, map, refl, sym, ap, subst, ◌∙◌, append_assoc, arith}
use Rattle.std.specs.Prelude.{nat_lt, if◌then◌else◌}
use Rattle.std.specs.List.{list_all}
use Rattle.std.proofs.lemmas.Bool.{and_from, cases_Bool, ltb-true, ltb-false}
use Rattle.std.proofs.lemmas.List.{append-nil, length-append}
use Rattle.std.proofs.lemmas.List.Folds.{list_all-append}
use Rattle.pap_reader.specs.declared.fault.Which.{Which}
use Rattle.pap_reader.specs.declared.fault.Which.TheVariants as which
use Rattle.pap_reader.specs.declared.fault.ReadFault.{ReadFault}
use Rattle.pap_reader.specs.declared.fault.ReadFault.TheVariants as faults
use Rattle.pap_reader.specs.Structure.{Shape, BeginsDocument}
use Rattle.pap_reader.specs.private.NestingDecisions.{Open, start, steps, is_ended}
use Rattle.pap_reader.specs.Tokens.{PlacedTag}
use Rattle.pap_reader.specs.Marks.{Mark, marks_of, marks, shape, shapes}
use Rattle.pap_reader.specs.Attributes.{mark_is_right}
use Rattle.pap_reader.specs.Limits.{amount, most, tested, IsWithin, IsFirstOver}
use Rattle.pap_reader.specs.private.CountDecisions.{tally}
use Rattle.pap_reader.specs.private.VerdictDecisions.{IsFew, Work, builds, begun, built, first_over, within, entered, verdict}
use Rattle.pap_reader.specs.Elements.{HasTree}
use Rattle.pap_reader.specs.Faults.{Earns, IsClean}
use Rattle.pap_reader.proofs.Completion.{Reached, is_front}
use Rattle.pap_reader.proofs.Fronts.{steps_reached, steps_refused, ended_document, reached_start}
use Rattle.pap_reader.proofs.OpenIfs.{tallied}
use Rattle.pap_reader.proofs.Pieces.{says_some, said_whole, builds-append, saying}

-- ---- lists of tags

pub map-append : (ms ns : List Mark) → map shape (ms ++ ns) ≡ map shape ms ++ map shape ns
map-append [] ns = refl
map-append (m ∷ ms) ns = ap (λ x. shape m ∷ x) (map-append ms ns)

pub marks-append : (a b : List PlacedTag) → marks (a ++ b) ≡ marks a ++ marks b
marks-append [] b = refl
marks-append (t ∷ a) b = ap (λ x. marks_of t.tag ++ x) (marks-append a b) ∙ sym (append_assoc (marks_of t.tag) (marks a) (marks b))

pub marks-one : (a : List PlacedTag) (t : PlacedTag) → marks (a ++ (t ∷ [])) ≡ marks a ++ marks_of t.tag
marks-one a t = marks-append a (t ∷ []) ∙ ap (λ x. marks a ++ x) (append-nil (marks_of t.tag))

pub shapes-append : (a b : List PlacedTag) → shapes (a ++ b) ≡ shapes a ++ shapes b
shapes-append a b = ap (map shape) (marks-append a b) ∙ map-append (marks a) (marks b)

pub shapes-one : (a : List PlacedTag) (t : PlacedTag) → shapes (a ++ (t ∷ [])) ≡ shapes a ++ map shape (marks_of t.tag)
shapes-one a t = ap (map shape) (marks-one a t) ∙ map-append (marks a) (marks_of t.tag)

one_cut : (b c : List PlacedTag) (t u : PlacedTag) → t ∷ [] ≡ u ∷ (b ++ c) → u ∷ b ≡ t ∷ []
one_cut [] c t u e = let head : t ≡ u = cc in ap (λ z. z ∷ []) (sym head)
one_cut (v ∷ b) c t u e = absurd cc

-- where a list with one more at its end is cut
pub snoc_cut : (a b c : List PlacedTag) (t : PlacedTag) → a ++ (t ∷ []) ≡ b ++ c → (b ≡ a ++ (t ∷ [])) ⊎ ((d : List PlacedTag) × (a ≡ b ++ d) × (d ++ (t ∷ []) ≡ c))
snoc_cut a [] c t e = inr (a, refl, e)
snoc_cut [] (u ∷ b) c t e = inl (one_cut b c t u e)
snoc_cut (v ∷ a) (u ∷ b) c t e =
    let head : v ≡ u = cc in
    let tail : a ++ (t ∷ []) ≡ b ++ c = cc in
    elim (snoc_cut a b c t tail) [
      | inl f ↦ inl (ap (λ z. z ∷ b) (sym head) ∙ ap (λ z. v ∷ z) f)
      | inr f ↦ inr (f.0, ap (λ z. z ∷ a) head ∙ ap (λ z. u ∷ z) f.1, f.2)
    ]

-- ---- amounts

-- the first of the amounts that is beyond its limit
abbrev pub IsOver : List Shape → List Which → Which → Type 0
IsOver ss [] w = ⊥
IsOver ss (v ∷ vs) w = ((v ≡ w) × (most v < tally v ss)) ⊎ ((most v < tally v ss → ⊥) × IsOver ss vs w)

abbrev Tested : List Shape → List Which → Option Which → Type 0
Tested ss ws None = IsFew ss ws
Tested ss ws (Some w) = IsOver ss ws w

tested_more : (ss : List Shape) (v : Which) (vs : List Which) (o : Option Which) → tally v ss ≤ most v → Tested ss vs o → Tested ss (v ∷ vs) o
tested_more ss v vs None le h = (le, h)
tested_more ss v vs (Some w) le h = inr ((λ k. omega arith), h)

first_tested : (ss : List Shape) (ws : List Which) → Tested ss ws (first_over ss ws)
first_tested ss [] = tt
first_tested ss (w ∷ ws) = elim (cases_Bool (nat_lt (most w) (tally w ss))) [
  | inl t ↦ subst (λ b. Tested ss (w ∷ ws) (if b then Some w else first_over ss ws)) (sym t) (inl (refl, ltb-true (most w) (tally w ss) t))
  | inr t ↦ subst (λ b. Tested ss (w ∷ ws) (if b then Some w else first_over ss ws)) (sym t) (tested_more ss w ws (first_over ss ws) (let h = ltb-false (most w) (tally w ss) t in omega arith) (first_tested ss ws))
]

few_all : (ss : List Shape) → IsFew ss tested → (w : Which) → tally w ss ≤ most w
few_all ss h which.Bytes = omega arith
few_all ss h which.Inputs = h.0
few_all ss h which.Outputs = h.1.0
few_all ss h which.Internals = h.1.1.0
few_all ss h which.Constants = h.1.1.1.0
few_all ss h which.Methods = h.1.1.1.1.0
few_all ss h which.Statements = h.1.1.1.1.1.0
few_all ss h which.Depth = h.1.1.1.1.1.1.0

few_start : IsFew [] tested
few_start = (omega arith, (omega arith, (omega arith, (omega arith, (omega arith, (omega arith, (omega arith, tt)))))))

over_some : (ss : List Shape) (ws : List Which) (w : Which) → IsOver ss ws w → (v : Which) × (most v < tally v ss)
over_some ss [] w h = absurd h
over_some ss (v ∷ vs) w (inl h) = (v, h.1)
over_some ss (v ∷ vs) w (inr h) = over_some ss vs w h.1

-- ---- one tag

-- what holds after clean tags
pub record Held (before : List PlacedTag) (os : List Open) (ws : List Work) : Type 0 where
  pub reached : Reached (shapes before) os
  pub works : ws ≡ builds begun (marks before)
  pub right : list_all mark_is_right (marks before) ≡ true
  pub few : IsWithin before
  pub clean : IsClean before

-- what is counted after a tag is the amount
abbrev AreCounted : List PlacedTag → PlacedTag → Type 0
AreCounted before t = (w : Which) → tally w (shapes (before ++ (t ∷ []))) ≡ amount w (shapes (before ++ (t ∷ [])))

over_first : (before : List PlacedTag) (t : PlacedTag) → AreCounted before t → (ws : List Which) (w : Which) → IsOver (shapes before ++ map shape (marks_of t.tag)) ws w → IsFirstOver before t ws w
over_first before t same [] w h = h
over_first before t same (v ∷ vs) w (inl h) =
    inl (h.0, subst (λ n. most v < n) (same v) (subst (λ ss. most v < tally v ss) (sym (shapes-one before t)) h.1))
over_first before t same (v ∷ vs) w (inr h) =
    inr ((λ k. h.0 (subst (λ ss. most v < tally v ss) (shapes-one before t) (subst (λ n. most v < n) (sym (same v)) k))), over_first before t same vs w h.1)

both_ways : (b : Bool) → b ≡ true → b ≡ false → ⊥
both_ways b e f = absurd cc

no_over : (before : List PlacedTag) (t : PlacedTag) → AreCounted before t → (ws : List Which) (w : Which) → IsFew (shapes (before ++ (t ∷ []))) ws → IsFirstOver before t ws w → ⊥
no_over before t same [] w h k = k
no_over before t same (v ∷ vs) w h (inl k) = absurd (omega (arith, h.0, k.1, same v))
no_over before t same (v ∷ vs) w h (inr k) = no_over before t same vs w h.1 k.1

none_cut : (a b : List PlacedTag) → [] ≡ a ++ b → a ≡ []
none_cut [] b e = refl
none_cut (t ∷ a) b e = absurd cc

few_nothing : (w : Which) → amount w [] ≤ most w
few_nothing w = subst (λ n. n ≤ most w) (tallied [] start refl w) (few_all [] few_start w)

few_none : IsWithin []
few_none a b w e = subst (λ x. amount w (shapes x) ≤ most w) (sym (none_cut a b e)) (few_nothing w)

clean_none : IsClean []
clean_none [] b t f e h = absurd cc
clean_none (u ∷ a) b t f e h = absurd cc

-- What the tag's verdict says.
abbrev pub Judged : List PlacedTag → PlacedTag → Result (List Open) ReadFault → Type 0
Judged before t (Ok os) =
    Reached (shapes (before ++ (t ∷ []))) os
    × (list_all mark_is_right (marks_of t.tag) ≡ true) × IsFew (shapes (before ++ (t ∷ []))) tested
Judged before t (Err f) = Earns before t f

judged_within : (before : List PlacedTag) (t : PlacedTag) (os : List Open) (o : Option Which)
    → Reached (shapes (before ++ (t ∷ []))) os → list_all mark_is_right (marks_of t.tag) ≡ true
    → Tested (shapes before ++ map shape (marks_of t.tag)) tested o → Judged before t (within o os)
judged_within before t os None r h f = (r, h, subst (λ ss. IsFew ss tested) (sym (shapes-one before t)) f)
judged_within before t os (Some w) r h f = (
  (λ m. m (is_front (shapes (before ++ (t ∷ []))) os r.spelled r.once)),
  (λ g. both_ways (list_all mark_is_right (marks_of t.tag)) h g),
  over_first before t (tallied (shapes (before ++ (t ∷ []))) os r.read) tested w f,
)

judged_right : (before : List PlacedTag) (t : PlacedTag) (os : List Open) (b : Bool)
    → list_all mark_is_right (marks_of t.tag) ≡ b → Reached (shapes (before ++ (t ∷ []))) os
    → Judged before t (if b then within (first_over (shapes before ++ map shape (marks_of t.tag)) tested) os else Err (faults.Attribute t.at))
judged_right before t os true e r =
    judged_within before t os (first_over (shapes before ++ map shape (marks_of t.tag)) tested) r e
    (first_tested (shapes before ++ map shape (marks_of t.tag)) tested)
judged_right before t os false e r = (refl, (λ m. m (is_front (shapes (before ++ (t ∷ []))) os r.spelled r.once)), e)

judged_entered : (before : List PlacedTag) (t : PlacedTag) (os : List Open) (o : Option (List Open))
    → Reached (shapes before) os → steps (shapes before) os (map shape (marks_of t.tag)) ≡ o
    → Judged before t (entered t.at (list_all mark_is_right (marks_of t.tag)) (first_over (shapes before ++ map shape (marks_of t.tag)) tested) o)
judged_entered before t os None r e =
    (refl, (λ f. steps_refused (map shape (marks_of t.tag)) (shapes before) os r e (subst BeginsDocument (shapes-one before t) f)))
judged_entered before t os (Some os') r e =
    judged_right before t os' (list_all mark_is_right (marks_of t.tag)) refl
    (subst (λ ss. Reached ss os') (sym (shapes-one before t)) (steps_reached (map shape (marks_of t.tag)) (shapes before) os os' r e))

pub judged : (before : List PlacedTag) (t : PlacedTag) (os : List Open) → Reached (shapes before) os
    → Judged before t (verdict (shapes before) os t)
judged before t os r = judged_entered before t os (steps (shapes before) os (map shape (marks_of t.tag))) r refl

-- ---- one tag more

earns_not : (before : List PlacedTag) (t : PlacedTag) (os : List Open) (f : ReadFault) → Judged before t (Ok os) → Earns before t f → ⊥
earns_not before t os (faults.Text at) h e = e
earns_not before t os (faults.Element at) h e = e.1 (is_front (shapes (before ++ (t ∷ []))) os h.0.spelled h.0.once)
earns_not before t os (faults.Attribute at) h e = both_ways (list_all mark_is_right (marks_of t.tag)) h.1 e.2
earns_not before t os (faults.Many w) h e = no_over before t (tallied (shapes (before ++ (t ∷ []))) os h.0.read) tested w h.2 e.2
earns_not before t os faults.Memory h e = e

within_more : (before : List PlacedTag) (t : PlacedTag) → AreCounted before t → IsWithin before → IsFew (shapes (before ++ (t ∷ []))) tested → IsWithin (before ++ (t ∷ []))
within_more before t same h k a b w e = elim (snoc_cut before a b t e) [
  | inl f ↦ subst (λ x. amount w (shapes x) ≤ most w) (sym f) (subst (λ n. n ≤ most w) (same w) (few_all (shapes (before ++ (t ∷ []))) k w))
  | inr f ↦ h a f.0 w f.1
]

clean_at : (before a : List PlacedTag) (t u : PlacedTag) (b d : List PlacedTag) (f : ReadFault) → ((g : ReadFault) → Earns before t g → ⊥) → IsClean before → before ≡ a ++ d → d ++ (t ∷ []) ≡ u ∷ b → Earns a u f → ⊥
clean_at before a t u b [] f h k e g q =
    let same : t ≡ u = cc in
    let all : before ≡ a = e ∙ append-nil a in
    h f (subst (λ x. Earns x t f) (sym all) (subst (λ x. Earns a x f) (sym same) q))
clean_at before a t u b (v ∷ d) f h k e g q =
    let same : v ≡ u = cc in
    k a d u f (e ∙ ap (λ x. a ++ (x ∷ d)) same) q

too_long : (before b : List PlacedTag) (t u : PlacedTag) (a : List PlacedTag) → a ≡ before ++ (t ∷ []) → before ++ (t ∷ []) ≡ a ++ (u ∷ b) → ⊥
too_long before b t u a e f =
    let n : length (before ++ (t ∷ [])) ≡ length ((before ++ (t ∷ [])) ++ (u ∷ b)) = ap length (f ∙ ap (λ x. x ++ (u ∷ b)) e) in
    let m = length-append (before ++ (t ∷ [])) (u ∷ b) in
    absurd (omega arith)

clean_more : (before : List PlacedTag) (t : PlacedTag) → IsClean before → ((f : ReadFault) → Earns before t f → ⊥) → IsClean (before ++ (t ∷ []))
clean_more before t h k a b u f e q = elim (snoc_cut before a (u ∷ b) t e) [
  | inl g ↦ too_long before b t u a g e
  | inr g ↦ clean_at before a t u b g.0 f k h g.1 g.2 q
]

pub held_more : (before : List PlacedTag) (t : PlacedTag) (os os' : List Open) (ws : List Work) → Held before os ws → Judged before t (Ok os') → Held (before ++ (t ∷ [])) os' (builds ws (marks_of t.tag))
held_more before t os os' ws h j = record {
  reached = j.0;
  works = ap (λ x. builds x (marks_of t.tag)) h.works ∙ sym (builds-append (marks before) (marks_of t.tag) begun) ∙ ap (builds begun) (sym (marks-one before t));
  right = ap (list_all mark_is_right) (marks-one before t) ∙ list_all-append mark_is_right (marks before) (marks_of t.tag) ∙ and_from (list_all mark_is_right (marks before)) (list_all mark_is_right (marks_of t.tag)) h.right j.1;
  few = within_more before t (tallied (shapes (before ++ (t ∷ []))) os' j.0.read) h.few j.2;
  clean = clean_more before t h.clean (λ f. earns_not before t os' f j);
}

pub held_start : Held [] start begun
held_start = record { reached = reached_start; works = refl; right = refl; few = few_none; clean = clean_none }

-- ---- the end

pub tree_here : (before : List PlacedTag) (os : List Open) (ws : List Work) → Held before os ws → is_ended os ≡ true → HasTree before (built ws)
tree_here before os ws h e =
    let d = ended_document (shapes before) os h.reached e in
    let s = says_some d.nodes (marks before) refl in
    let w : ws ≡ saying s.0 = h.works ∙ said_whole (marks before) s.0 s.1 in
    record { document = d; right = h.right; piece = s.0; says = s.1; tree = sym (ap built w) }
