-- What was written of a text of two parts, one after the other, and of an answer.
use Rattle.std.proofs.Common.{◌≡◌, ℕ, ◌+◌, ◌<◌, List, ◌++◌, length, take, sym, ap, ◌∙◌, subst, append_assoc, arith}
use Rattle.std.proofs.Common.{length-append}
use Rattle.std.specs.Prelude.{Option, Result}
use Rattle.std.specs.Result.{ForErr}
use Rattle.std.proofs.Math.Seq.{take-append_seam, take-append-add}
use Rattle.outside.specs.Causes.{Caused}
use Rattle.outside.specs.Told.{Appends, AppendsFront, AppendsShort}
use Rattle.outside.proofs.Laws.{Appends-then}
use Rattle.script_lang.specs.declared.fault.LineFault.{LineFault}
use Rattle.plan_answers.specs.Answers.{Answer}
use Rattle.script_steps.specs.declared.stop.LineStop.{LineStop}
use Rattle.script_steps.specs.declared.stop.LineStop.TheVariants as stops
use Rattle.script_steps.specs.private.StepViews.{IsFrontWritten, IsLineRefusal, IsRefusalUnwritten}

-- a front of the first part is one of the whole
pub first_front : (old new : Option (List ℕ)) (first rest : List ℕ) → AppendsFront old new first
    → AppendsFront old new (first ++ rest)
first_front old new first rest f = record {
  front = f.front;
  rest = f.rest ++ rest;
  parts = ap (λ t. t ++ rest) f.parts ∙ append_assoc f.front f.rest rest;
  appended = f.appended;
}

-- and not the whole where there is a second part
pub first_prefix : (old new : Option (List ℕ)) (first rest : List ℕ) → 0 < length rest → AppendsFront old new first
    → AppendsShort old new (first ++ rest)
first_prefix old new first rest some f =
    let size : length first ≡ length f.front + length f.rest = ap length f.parts ∙ length-append f.front f.rest in
    let whole = length-append first rest in
    let text : take (length f.front) (first ++ rest) ≡ f.front =
    ap (λ t. take (length f.front) (t ++ rest)) f.parts
    ∙ ap (take (length f.front)) (append_assoc f.front f.rest rest)
    ∙ take-append_seam f.front (f.rest ++ rest) in
    record {
      count = length f.front;
      within = omega (arith, size, whole, some);
      appended = subst (λ t. Appends old new t) (sym text) f.appended;
    }

-- a part of the second, after the first
pub second_prefix : (old mid new : Option (List ℕ)) (first rest : List ℕ) → Appends old mid first
    → AppendsShort mid new rest → AppendsShort old new (first ++ rest)
second_prefix old mid new first rest a p =
    let whole = length-append first rest in
    let less = p.within in
    record {
      count = length first + p.count;
      within = omega (arith, whole, less);
      appended = subst (λ t. Appends old new t) (sym (take-append-add first rest p.count))
          (Appends-then old mid new first (take p.count rest) a p.appended);
    }

-- what was written of an answer is what was written of a line's refusal
pub refusal_unwritten : (old new : Option (List ℕ)) (why : LineFault) (answer : Answer) (stop : LineStop)
    → IsLineRefusal why answer → stop ≡ stops.Write → IsFrontWritten old new answer.text stop
    → IsRefusalUnwritten old new why stop
refusal_unwritten old new why answer stop is same u =
    subst (λ s. IsRefusalUnwritten old new why s) (sym same)
    (record { answer = answer; is = is; cut = subst (λ s. IsFrontWritten old new answer.text s) same u })

-- the files are no cause where this error doesn't come
pub never_file : {T : Type 0} (P : LineStop → Type 0) (result : Result T LineStop) (faults : ℕ) → (P stops.File → ⊥)
    → ForErr result P → Caused stops.File faults faults result
never_file P result faults never h = record { later = omega arith; rose = λ e. absurd (never (h stops.File e)) }
