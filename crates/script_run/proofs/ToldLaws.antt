-- Which lines are told to be refused, with one more line.
use Rattle.std.proofs.Common.{◌≡◌, List, [], ◌∷◌, ◌++◌, ℕ, ◌+◌, ◌-◌, ◌^◌, ◌≤◌, Bool, true, false, ◌||◌, length, map, refl, sym, ap, ◌∙◌, subst, arith, length-append}
use Rattle.std.specs.Prelude.{min, nat_lt}
use Rattle.std.specs.List.{flat_map}
use Rattle.std.proofs.lemmas.List.{append-nil, map-append}
use Rattle.std.proofs.lemmas.List.Concat.{flat_map-append}
use Rattle.std.proofs.lemmas.List.Elements.{All-nil, All-push}
use Rattle.outside.specs.Causes.{Still}
use Rattle.outside.proofs.Laws.{Appends-nothing, Appends-then}
use Rattle.plain_words.specs.Lines.{IsOneLine}
use Rattle.script_run.specs.LineCounts.{AreCounted, counts_one, told_number}
use Rattle.script_run.specs.Notes.{AreNoted, AreToldTo, IsToldOf, NotesShown, Reason, Telling, reason_line}
use Rattle.script_run.specs.private.LineCounts.{IsReasonText, Notes, noted}
use Rattle.script_run.specs.declared.line_counts.LineCounts.{LineCounts}
use Rattle.script_run.proofs.KeepingLaws.{above, below}

or_true : (b : Bool) → b || true ≡ true
or_true true = refl
or_true false = refl

or_false : (b : Bool) → b || false ≡ b
or_false true = refl
or_false false = refl

-- before the first line
pub tells_none : {answered : ℕ} {counts : LineCounts} → AreCounted answered [] counts → counts_one counts ≡ false
tells_none {counts = counts} counted =
    let none : counts.refused ≡ min 0 (2 ^ 64 - 1) = counted.refused_is in
    below 0 counts.refused (omega (arith, none))

-- a line was refused where one was before, or this one is
pub tells_noted : {before now : ℕ} {was is : LineCounts} (lines : List ℕ) (number : ℕ) (refused : Bool) →
    AreCounted before lines was → AreCounted now (noted lines number refused) is →
    counts_one is ≡ (counts_one was || refused)
tells_noted {was = was} {is = is} lines number true first after =
    let counted : is.refused ≡ min (length (lines ++ number ∷ [])) (2 ^ 64 - 1) = after.refused_is in
    let more : length (lines ++ number ∷ []) ≡ length lines + 1 = length-append lines (number ∷ []) in
    above 0 is.refused (omega (arith, counted, more)) ∙ sym (or_true (counts_one was))
tells_noted {was = was} {is = is} lines number false first after =
    let same : is.refused ≡ was.refused = after.refused_is ∙ ap (λ v. told_number (length v)) (append-nil lines)
    ∙ sym first.refused_is in
    ap (λ n. nat_lt 0 n) same ∙ sym (or_false (counts_one was))

-- what is told of the refused lines, with one more answer
pub told_more : (answered : ℕ) (lines : List ℕ) (told : Telling) (refused mark : Bool) → refused ≡ mark →
    IsToldOf answered (noted lines answered refused) told → IsToldOf answered (noted lines answered mark) told
told_more answered lines told refused mark marked tells =
    subst (λ (v : Bool). IsToldOf answered (noted lines answered v) told) marked tells

-- ---- what is put to the notes

still_first : (a b c : ℕ) → a ≤ b → b ≤ c → Still a c → Still a b
still_first a b c p q still = omega arith

still_second : (a b c : ℕ) → a ≤ b → b ≤ c → Still a c → Still b c
still_second a b c p q still = omega arith

-- one text, and then another
pub noted_then : {a b c : NotesShown} (first more : List ℕ) → AreNoted a b first → AreNoted b c more → AreNoted a c (first ++ more)
noted_then {a = a} {b = b} {c = c} first more p q = record {
  later = omega (arith, p.later, q.later);
  put = λ still. Appends-then a.written b.written c.written first more
      (p.put (still_first a.faults b.faults c.faults p.later q.later still))
      (q.put (still_second a.faults b.faults c.faults p.later q.later still));
}

pub noted_nothing : (notes : NotesShown) → AreNoted notes notes []
noted_nothing notes = record { later = omega arith; put = λ still. Appends-nothing notes.written }

-- of no line nothing was put to them
pub told_nothing : {counts : LineCounts} (notes : NotesShown) → AreCounted 0 [] counts →
    IsToldOf 0 [] (record { counts = counts; before = notes; after = notes })
told_nothing notes none = record {
  counted = none;
  reasons = record {
    reasons = [];
    numbers = refl;
    lines = All-nil (λ (reason : Reason). IsOneLine reason.words);
    put = noted_nothing notes;
  };
}

-- one reason more
reasons_more : {first old new : NotesShown} (refused : List ℕ) (line number : ℕ) (words : List ℕ) → number ≡ told_number line →
    IsOneLine words → AreToldTo first old refused → AreNoted old new (reason_line (record { number = number; words = words })) →
    AreToldTo first new (refused ++ line ∷ [])
reasons_more {first = first} {new = new} refused line number words is one told put =
    let reason : Reason = record { number = number; words = words } in
    record {
      reasons = told.reasons ++ reason ∷ [];
      numbers = map-append (λ (r : Reason). r.number) told.reasons (reason ∷ [])
          ∙ ap (λ v. v ++ number ∷ []) told.numbers ∙ ap (λ n. map told_number refused ++ n ∷ []) is
          ∙ sym (map-append told_number refused (line ∷ []));
      lines = All-push (λ (r : Reason). IsOneLine r.words) told.reasons reason told.lines one;
      put = subst (λ v. AreNoted first new v) (sym (flat_map-append reason_line told.reasons (reason ∷ [])
          ∙ ap (λ v. flat_map reason_line told.reasons ++ v) (append-nil (reason_line reason))))
          (noted_then (flat_map reason_line told.reasons) (reason_line reason) told.put put);
    }

answered_more : (was is answered : ℕ) → was ≡ min answered (2 ^ 64 - 1) → is ≡ min (was + 1) (2 ^ 64 - 1) →
    is ≡ min (answered + 1) (2 ^ 64 - 1)
answered_more was is answered p q = omega (arith, p, q)

-- a line that isn't refused
pub note_none : (was is : LineCounts) (notes : NotesShown) → is.answered ≡ min (was.answered + 1) (2 ^ 64 - 1) →
    is.refused ≡ was.refused → Notes was notes is notes false
note_none was is notes p q = λ first answered refused told. record {
  counted = record {
    answered_is = answered_more was.answered is.answered answered told.counted.answered_is p;
    refused_is = q ∙ told.counted.refused_is ∙ ap (λ v. told_number (length v)) (sym (append-nil refused));
  };
  reasons = subst (λ v. AreToldTo first notes v) (sym (append-nil refused)) told.reasons;
}

-- a line that is, with its reason
pub note_some : (was is : LineCounts) (old new : NotesShown) (text : List ℕ) → is.answered ≡ min (was.answered + 1) (2 ^ 64 - 1) →
    is.refused ≡ min (was.refused + 1) (2 ^ 64 - 1) → IsReasonText is.answered text → AreNoted old new text →
    Notes was old is new true
note_some was is old new text p q reason put = λ first answered refused told.
    let number = answered_more was.answered is.answered answered told.counted.answered_is p in
    let counted : was.refused ≡ min (length refused) (2 ^ 64 - 1) = told.counted.refused_is in
    let more : length (refused ++ (answered + 1) ∷ []) ≡ length refused + 1 = length-append refused ((answered + 1) ∷ []) in
    record {
      counted = record {
        answered_is = number;
        refused_is = answered_more was.refused is.refused (length refused) counted q ∙ ap (λ n. told_number n) (sym more);
      };
      reasons = reasons_more refused (answered + 1) is.answered reason.words number reason.line told.reasons
          (subst (λ v. AreNoted old new v) reason.is put);
    }
