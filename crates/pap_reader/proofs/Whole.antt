-- A text's tree and its fault, from what the reader knows at each tag.
use Rattle.std.proofs.Common.{◌≡◌, ℕ, ◌-◌, ◌≤◌, ◌⊎◌, inl, inr, Bool, true, false, Result, Ok, Err, List, [], ◌∷◌, ◌++◌, length, refl, sym, subst}
use Rattle.std.specs.Prelude.{if◌then◌else◌, IfOk, IfErr}
use Rattle.pap_reader.specs.declared.fault.Which.TheVariants as which
use Rattle.pap_reader.specs.declared.fault.ReadFault.{ReadFault}
use Rattle.pap_reader.specs.declared.fault.ReadFault.TheVariants as faults
use Rattle.pap_reader.specs.declared.reader.Reader.{Reader}
use Rattle.pap_reader.specs.declared.elements.Elements.{Elements}
use Rattle.pap_reader.specs.private.NestingDecisions.{Open, start, is_ended}
use Rattle.pap_reader.specs.Tokens.{PlacedTag, Leads, Reads, IsAlien, placed}
use Rattle.pap_reader.specs.Marks.{shapes, marks_of}
use Rattle.pap_reader.specs.Trees.{ElementTree, tree_of}
use Rattle.pap_reader.specs.Limits.{most, tested, IsFirstOver}
use Rattle.pap_reader.specs.Elements.{HasTree, IsElements, StopsAt, IsRefusedText, IsFaultOrMemory}
use Rattle.pap_reader.specs.Faults.{Earns}
use Rattle.pap_reader.specs.private.VerdictDecisions.{Work, begun, built, builds, verdict, ending}
use Rattle.pap_reader.specs.private.ReaderViews.{Stands, Refuses, Judges, Gives}
use Rattle.pap_reader.specs.Tokens as tokens
use Rattle.pap_reader.proofs.Fronts.{document_ended}
use Rattle.pap_reader.proofs.TokenLemmas.{Reached}
use Rattle.pap_reader.proofs.Exact.{Held, Judged, judged, held_more, held_start, shapes-one, tree_here}

-- ---- from tag to tag

pub leads_more : {n : ℕ} {bytes left rest : List ℕ} {ts us : List PlacedTag} → Leads n bytes ts left → Leads n left us rest → Leads n bytes (ts ++ us) rest
leads_more tokens.nothing k = k
leads_more (tokens.passed p h) k = tokens.passed p (leads_more h k)
leads_more (tokens.tag t i h) k = tokens.tag t i (leads_more h k)

pub reads_more : {bytes left rest : List ℕ} {ts us : List PlacedTag} → Reads bytes ts left → Leads (length bytes) left us rest → Reads bytes (ts ++ us) rest
reads_more r h = record { unmarked = r.unmarked; mark = r.mark; body = r.body; declaration = r.declaration; leads = leads_more r.leads h }

-- what the loop knows behind some tags
pub record Going (x : Reader) (before : List PlacedTag) : Type 0 where
  pub os : List Open
  pub ws : List Work
  pub held : Held before os ws
  pub stands : Stands x (shapes before) os ws

pub going_start : (x : Reader) → Stands x [] start begun → Going x []
going_start x h = record { os = start; ws = begun; held = held_start; stands = h }

taken_ok : (before : List PlacedTag) (os next : List Open) (t : PlacedTag) → Judged before t (verdict (shapes before) os t) → verdict (shapes before) os t ≡ Ok next → Judged before t (Ok next)
taken_ok before os next t h e = subst (Judged before t) e h

pub going_more : (x y : Reader) (before : List PlacedTag) (t : PlacedTag) (u : Result (Unit {0}) ReadFault) (o : Unit {0}) (g : Going x before) → u ≡ Ok o
    → Judges t.at (shapes before) g.os g.ws (marks_of t.tag) y u → Going y (before ++ (t ∷ []))
going_more x y before t u o g e k =
    let j = subst (Judges t.at (shapes before) g.os g.ws (marks_of t.tag) y) e k in
    record {
      os = j.0;
      ws = builds g.ws (marks_of t.tag);
      held = held_more before t g.os j.0 g.ws g.held (taken_ok before g.os j.0 t (judged before t g.os g.held.reached) j.1);
      stands = subst (λ ss. Stands y ss j.0 (builds g.ws (marks_of t.tag))) (sym (shapes-one before t)) j.2;
    }

-- ---- refusals

no_bytes : (before : List PlacedTag) (t : PlacedTag) → IsFirstOver before t tested which.Bytes → ⊥
no_bytes before t (inl h) = let e = h.0 in absurd cc
no_bytes before t (inr (_, inl h)) = let e = h.0 in absurd cc
no_bytes before t (inr (_, inr (_, inl h))) = let e = h.0 in absurd cc
no_bytes before t (inr (_, inr (_, inr (_, inl h)))) = let e = h.0 in absurd cc
no_bytes before t (inr (_, inr (_, inr (_, inr (_, inl h))))) = let e = h.0 in absurd cc
no_bytes before t (inr (_, inr (_, inr (_, inr (_, inr (_, inl h)))))) = let e = h.0 in absurd cc
no_bytes before t (inr (_, inr (_, inr (_, inr (_, inr (_, inr (_, inl h))))))) = let e = h.0 in absurd cc
no_bytes before t (inr (_, inr (_, inr (_, inr (_, inr (_, inr (_, inr h))))))) = h.1

pub stop_no_bytes : (n : ℕ) (before : List PlacedTag) (rest : List ℕ) → StopsAt n before rest (faults.Many which.Bytes) → ⊥
stop_no_bytes n before rest (inl h) = let e = h.1 in absurd cc
stop_no_bytes n before rest (inr (inl h)) = let e = h.1 in absurd cc
stop_no_bytes n before rest (inr (inr h)) = no_bytes before (placed n rest h.0) h.3.2

pub wrong : (bytes : List ℕ) (f : ReadFault) → length bytes ≤ most which.Bytes → IsRefusedText bytes f → IsFaultOrMemory bytes f
wrong bytes (faults.Text at) le h = (le, h)
wrong bytes (faults.Element at) le h = (le, h)
wrong bytes (faults.Attribute at) le h = (le, h)
wrong bytes (faults.Many which.Bytes) le h = absurd (stop_no_bytes (length bytes) h.before h.rest h.stop)
wrong bytes (faults.Many which.Inputs) le h = (le, h)
wrong bytes (faults.Many which.Outputs) le h = (le, h)
wrong bytes (faults.Many which.Internals) le h = (le, h)
wrong bytes (faults.Many which.Constants) le h = (le, h)
wrong bytes (faults.Many which.Methods) le h = (le, h)
wrong bytes (faults.Many which.Statements) le h = (le, h)
wrong bytes (faults.Many which.Depth) le h = (le, h)
wrong bytes faults.Memory le h = tt

earned : (before : List PlacedTag) (os : List Open) (t : PlacedTag) (f : ReadFault) → Judged before t (verdict (shapes before) os t) → verdict (shapes before) os t ≡ Err f → Earns before t f
earned before os t f h e = subst (Judged before t) e h

refused_by : (before : List PlacedTag) (os : List Open) (t : PlacedTag) (f : ReadFault) → Judged before t (verdict (shapes before) os t) → Refuses f (verdict (shapes before) os t) → (f ≡ faults.Memory) ⊎ Earns before t f
refused_by before os t (faults.Text at) h k = inr (earned before os t (faults.Text at) h k)
refused_by before os t (faults.Element at) h k = inr (earned before os t (faults.Element at) h k)
refused_by before os t (faults.Attribute at) h k = inr (earned before os t (faults.Attribute at) h k)
refused_by before os t (faults.Many w) h k = inr (earned before os t (faults.Many w) h k)
refused_by before os t faults.Memory h k = inl refl

-- the tag was refused
pub wrong_tag : (x y : Reader) (bytes : List ℕ) (before : List PlacedTag) (t : PlacedTag) (u : Result (Unit {0}) ReadFault) (f : ReadFault) (g : Going x before) → length bytes ≤ most which.Bytes → Reached bytes before t → u ≡ Err f
    → Judges t.at (shapes before) g.os g.ws (marks_of t.tag) y u → IsFaultOrMemory bytes f
wrong_tag x y bytes before t u f g le r e k =
    let j : Refuses f (verdict (shapes before) g.os t) = subst (Judges t.at (shapes before) g.os g.ws (marks_of t.tag) y) e k in
    let here : t ≡ placed (length bytes) r.here t.tag = λ i. record { at = r.at i; tag = t.tag } in
    elim (refused_by before g.os t f (judged before t g.os g.held.reached) j) [
      | inl m ↦ subst (IsFaultOrMemory bytes) (sym m) tt
      | inr m ↦ wrong bytes f le (record {
        before = before;
        rest = r.here;
        read = r.read;
        clean = g.held.clean;
        stop = inr (inr (t.tag, r.next, r.is, subst (λ z. Earns before z f) here m));
      })
    ]

-- no token begins here
pub wrong_text : (x : Reader) (bytes left : List ℕ) (before : List PlacedTag) → Going x before → length bytes ≤ most which.Bytes → Reads bytes before left → (left ≡ [] → ⊥) → (left ≡ []) ⊎ IsAlien left
    → IsFaultOrMemory bytes (faults.Text (length bytes - length left))
wrong_text x bytes left before g le r s (inl e) = absurd (s e)
wrong_text x bytes left before g le r s (inr a) =
    (le, record { before = before; rest = left; read = r; clean = g.held.clean; stop = inr (inl (a, refl)) })

-- ---- the end

abbrev Ending : Type 0
Ending = Result ElementTree ReadFault

some_tree : (x y : ElementTree) → ◌≡◌ {A = Ending} (Ok x) (Ok y) → x ≡ y
some_tree x y e = cc

no_ok : (t : ElementTree) (f : ReadFault) → ◌≡◌ {A = Ending} (Err f) (Ok t) → ⊥
no_ok t f e = absurd cc

ended_ok : (n : ℕ) (os : List Open) (ws : List Work) (b : Bool) (x : ElementTree) → is_ended os ≡ b
    → ◌≡◌ {A = Ending} (if b then Ok (built ws) else Err (faults.Element n)) (Ok x) → (is_ended os ≡ true) × (built ws ≡ x)
ended_ok n os ws true x e k = (e, some_tree (built ws) x k)
ended_ok n os ws false x e k = absurd (no_ok x (faults.Element n) k)

pub read_whole : (x : Reader) (bytes left : List ℕ) (before : List PlacedTag) (e : Elements) (g : Going x before) → length bytes ≤ most which.Bytes → Reads bytes before left → left ≡ [] → Gives (Ok e) (ending (length bytes) g.os g.ws) → IsElements bytes (tree_of e)
read_whole x bytes left before e g le r n k =
    let a = ended_ok (length bytes) g.os g.ws (is_ended g.os) (tree_of e) refl k in
    record {
      text = record { tags = before; read = subst (Reads bytes before) n r; tree = subst (HasTree before) a.1 (tree_here before g.os g.ws g.held a.0) };
      short = le;
      few = g.held.few;
    }

both_ways : (b : Bool) → b ≡ true → b ≡ false → ⊥
both_ways b e f = absurd cc

abbrev at_err : ReadFault → Result ElementTree ReadFault
at_err f = Err f

fault_is : (n at : ℕ) → at_err (faults.Element n) ≡ at_err (faults.Element at) → faults.Element n ≡ faults.Element at
fault_is n at e = cc

refused_end : (n : ℕ) (os : List Open) (ws : List Work) (b : Bool) (f : ReadFault) → is_ended os ≡ b → Refuses f (if b then Ok (built ws) else Err (faults.Element n)) → (f ≡ faults.Memory) ⊎ ((f ≡ faults.Element n) × (is_ended os ≡ false))
refused_end n os ws b faults.Memory e k = inl refl
refused_end n os ws true (faults.Text at) e k = absurd cc
refused_end n os ws true (faults.Element at) e k = absurd cc
refused_end n os ws true (faults.Attribute at) e k = absurd cc
refused_end n os ws true (faults.Many w) e k = absurd cc
refused_end n os ws false (faults.Text at) e k = absurd cc
refused_end n os ws false (faults.Element at) e k = inr (sym (fault_is n at k), e)
refused_end n os ws false (faults.Attribute at) e k = absurd cc
refused_end n os ws false (faults.Many w) e k = absurd cc

pub wrong_end : (x : Reader) (bytes left : List ℕ) (before : List PlacedTag) (f : ReadFault) (g : Going x before) → length bytes ≤ most which.Bytes → Reads bytes before left → left ≡ [] → Gives (Err f) (ending (length bytes) g.os g.ws) → IsFaultOrMemory bytes f
wrong_end x bytes left before f g le r n k = elim (refused_end (length bytes) g.os g.ws (is_ended g.os) f refl k) [
  | inl m ↦ subst (IsFaultOrMemory bytes) (sym m) tt
  | inr m ↦ wrong bytes f le (record {
    before = before;
    rest = left;
    read = r;
    clean = g.held.clean;
    stop = inl (n, m.0, λ d. both_ways (is_ended g.os) (document_ended (shapes before) g.os g.held.reached d) m.1);
  })
]

pub ends : (x : Reader) (bytes left : List ℕ) (before : List PlacedTag) (u : Result Elements ReadFault) (g : Going x before) → length bytes ≤ most which.Bytes → Reads bytes before left → left ≡ [] → Gives u (ending (length bytes) g.os g.ws)
    → IfOk u (λ e. IsElements bytes (tree_of e)) × IfErr u (λ f. IsFaultOrMemory bytes f)
ends x bytes left before (Ok e) g le r n k = (read_whole x bytes left before e g le r n k, tt)
ends x bytes left before (Err f) g le r n k = (tt, wrong_end x bytes left before f g le r n k)
