-- A text has a tree or a fault.
use Rattle.std.proofs.Common.{◌≡◌, ℕ, zero, suc, ◌-◌, ◌≤◌, ◌⊎◌, inl, inr, Bool, true, false, Result, Ok, Err, List, [], ◌∷◌, ◌++◌, length, refl, subst, arith}
use Rattle.std.specs.Prelude.{nat_lt}
use Rattle.std.proofs.lemmas.Bool.{cases_Bool, ltb-true, ltb-false}
use Rattle.std.proofs.lemmas.List.{append-nil}
use Rattle.pap_reader.specs.declared.fault.Which.TheVariants as which
use Rattle.pap_reader.specs.declared.fault.ReadFault.{ReadFault}
use Rattle.pap_reader.specs.declared.fault.ReadFault.TheVariants as faults
use Rattle.pap_reader.specs.private.NestingDecisions.{Open, start, is_ended}
use Rattle.pap_reader.specs.Tags.{Tag, IsTag}
use Rattle.pap_reader.specs.Tokens.{PlacedTag, Reads, placed}
use Rattle.pap_reader.specs.Marks.{shapes, marks_of}
use Rattle.pap_reader.specs.Trees.{ElementTree}
use Rattle.pap_reader.specs.Limits.{most}
use Rattle.pap_reader.specs.private.VerdictDecisions.{Work, begun, built, builds, verdict}
use Rattle.pap_reader.specs.Tokens as tokens
use Rattle.pap_reader.specs.Skipped.{IsPassed}
use Rattle.pap_reader.specs.Elements.{IsElements, StopsAt, IsRefusedText, IsFault}
use Rattle.pap_reader.proofs.Fronts.{document_ended}
use Rattle.pap_reader.proofs.Exact.{Held, Judged, judged, held_more, held_start, tree_here}
use Rattle.pap_reader.proofs.Whole.{reads_more, stop_no_bytes}
use Rattle.pap_reader.proofs.Decided.{dec_passed, passed_shorter, dec_tag, tag_shorter, dec_mark, dec_declaration}

abbrev pub Known : List ℕ → Type 0
Known bytes = ((x : ElementTree) × IsElements bytes x) ⊎ ((f : ReadFault) × IsFault bytes f)

no_memory : (n : ℕ) (before : List PlacedTag) (rest : List ℕ) → StopsAt n before rest faults.Memory → ⊥
no_memory n before rest (inl h) = let e = h.1 in absurd cc
no_memory n before rest (inr (inl h)) = let e = h.1 in absurd cc
no_memory n before rest (inr (inr h)) = h.3

fault_of : (bytes : List ℕ) (f : ReadFault) → length bytes ≤ most which.Bytes → IsRefusedText bytes f → IsFault bytes f
fault_of bytes (faults.Text at) le h = (le, h)
fault_of bytes (faults.Element at) le h = (le, h)
fault_of bytes (faults.Attribute at) le h = (le, h)
fault_of bytes (faults.Many which.Bytes) le h = absurd (stop_no_bytes (length bytes) h.before h.rest h.stop)
fault_of bytes (faults.Many which.Inputs) le h = (le, h)
fault_of bytes (faults.Many which.Outputs) le h = (le, h)
fault_of bytes (faults.Many which.Internals) le h = (le, h)
fault_of bytes (faults.Many which.Constants) le h = (le, h)
fault_of bytes (faults.Many which.Methods) le h = (le, h)
fault_of bytes (faults.Many which.Statements) le h = (le, h)
fault_of bytes (faults.Many which.Depth) le h = (le, h)
fault_of bytes faults.Memory le h = absurd (no_memory (length bytes) h.before h.rest h.stop)

-- so far
pub record Far (bytes left : List ℕ) : Type 0 where
  pub before : List PlacedTag
  pub os : List Open
  pub ws : List Work
  pub read : Reads bytes before left
  pub held : Held before os ws

far_passed : (bytes left next : List ℕ) → Far bytes left → IsPassed left next → Far bytes next
far_passed bytes left next g p = record {
  before = g.before;
  os = g.os;
  ws = g.ws;
  read = subst (λ ts. Reads bytes ts next) (append-nil g.before) (reads_more g.read (tokens.passed p tokens.nothing));
  held = g.held;
}

both_ways : (b : Bool) → b ≡ true → b ≡ false → ⊥
both_ways b e f = absurd cc

known_end : (bytes left : List ℕ) (b : Bool) (g : Far bytes left) → length bytes ≤ most which.Bytes → left ≡ [] → is_ended g.os ≡ b → Known bytes
known_end bytes left true g le n e =
    inl (
      built g.ws,
      record {
        text = record { tags = g.before; read = subst (Reads bytes g.before) n g.read; tree = tree_here g.before g.os g.ws g.held e };
        short = le;
        few = g.held.few;
      },
    )
known_end bytes left false g le n e =
    inr (
      faults.Element (length bytes),
      fault_of bytes (faults.Element (length bytes)) le (record {
        before = g.before;
        rest = left;
        read = g.read;
        clean = g.held.clean;
        stop = inl (n, refl, λ d. both_ways (is_ended g.os) (document_ended (shapes g.before) g.os g.held.reached d) e);
      }),
    )

known_tag : (bytes left next : List ℕ) (t : Tag) (g : Far bytes left) (r : Result (List Open) ReadFault) → length bytes ≤ most which.Bytes → IsTag left t next → Judged g.before (placed (length bytes) left t) r → (Far bytes next → Known bytes) → Known bytes
known_tag bytes left next t g (Err f) le i j go =
    inr (f, fault_of bytes f le (record { before = g.before; rest = left; read = g.read; clean = g.held.clean; stop = inr (inr (t, next, i, j)) }))
known_tag bytes left next t g (Ok os) le i j go =
    let s = placed (length bytes) left t in
    go (record {
      before = g.before ++ (s ∷ []);
      os = os;
      ws = builds g.ws (marks_of s.tag);
      read = reads_more g.read (tokens.tag t i tokens.nothing);
      held = held_more g.before s g.os os g.ws g.held j;
    })

no_cons : (b : ℕ) (x : List ℕ) → b ∷ x ≡ [] → ⊥
no_cons b x e = absurd cc

from_here : (n : ℕ) (bytes left : List ℕ) → length left ≤ n → length bytes ≤ most which.Bytes → Far bytes left → Known bytes
from_here n bytes [] le short g = known_end bytes [] (is_ended g.os) g short refl refl
from_here zero bytes (b ∷ left) le short g = absurd (omega arith)
from_here (suc n) bytes (b ∷ left) le short g = elim (dec_passed (b ∷ left)) [
  | inl p ↦ from_here n bytes p.0 (let l = passed_shorter (b ∷ left) p.0 p.1 in omega arith) short (far_passed bytes (b ∷ left) p.0 g p.1)
  | inr no_pass ↦ elim (dec_tag (b ∷ left)) [
    | inl i ↦
        let s = placed (length bytes) (b ∷ left) i.0 in
        known_tag bytes (b ∷ left) i.1 i.0 g (verdict (shapes g.before) g.os s) short i.2 (judged g.before s g.os g.held.reached)
        (λ h. from_here n bytes i.1 (let l = tag_shorter (b ∷ left) i.0 i.1 i.2 in omega arith) short h)
    | inr no_tag ↦
        let at = length bytes - length (b ∷ left) in
        inr (
          faults.Text at,
          fault_of bytes (faults.Text at) short (record {
            before = g.before;
            rest = b ∷ left;
            read = g.read;
            clean = g.held.clean;
            stop = inr (inl (record { some = no_cons b left; no_tag = no_tag; not_passed = no_pass }, refl));
          }),
        )
  ]
]

pub always_one : (bytes : List ℕ) → Known bytes
always_one bytes = elim (cases_Bool (nat_lt (most which.Bytes) (length bytes))) [
  | inl t ↦ inr (faults.Many which.Bytes, ltb-true (most which.Bytes) (length bytes) t)
  | inr t ↦
      let m = dec_mark bytes in
      let d = dec_declaration m.0 in
      from_here (length d.0) bytes d.0 (omega arith) (let h = ltb-false (most which.Bytes) (length bytes) t in omega arith)
      (record { before = []; os = start; ws = begun; read = record { unmarked = m.0; mark = m.1; body = d.0; declaration = d.1; leads = tokens.nothing }; held = held_start })
]
