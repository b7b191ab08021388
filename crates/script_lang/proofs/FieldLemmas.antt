-- The first fault of some fields.
use Rattle.std.proofs.Common.{◌≡◌, ◌∙◌, Bool, true, false, List, [], ◌∷◌, ◌++◌, refl, ap, append_assoc}
use Rattle.std.specs.Prelude.{IsTrue}
use Rattle.std.specs.List.{AllByRecursion}
use Rattle.std.specs.declared.alloc.AllocError.{AllocError}
use Rattle.std.proofs.lemmas.Bool.{false≢true}
use Rattle.payroll_records.specs.Tables.{Text}
use Rattle.script_lang.specs.Fields.{Field, IsGood, fault_of, employee, month, day, day_in, value, new_name}
use Rattle.script_lang.specs.Lines.{Verb, takes_words, fields_of, IsFirstFault}
use Rattle.script_lang.specs.private.Views.{BreaksIn, IsFaultOf}
use Rattle.script_lang.specs.declared.fault.LineFault.{LineFault}
use Rattle.script_lang.specs.declared.fault.LineFault.TheVariants as fault

-- the faults of fields are none of the others
is_of_word : LineFault → Bool
is_of_word fault.Employee = true
is_of_word fault.Month = true
is_of_word fault.Day = true
is_of_word (fault.Value n) = true
is_of_word (fault.Twice name) = true
is_of_word _ = false

fault_of_word : (f : Field) → is_of_word (fault_of f) ≡ true
unfolding is_of_word
fault_of_word (employee word) = refl
fault_of_word (month word) = refl
fault_of_word (day word) = refl
fault_of_word (day_in first second) = refl
fault_of_word (value n word) = refl
fault_of_word (new_name before word) = refl

first_of_word : (fields : List Field) (f : LineFault) → IsFirstFault fields f → is_of_word f ≡ true
first_of_word fields f h = ap is_of_word h.fault_is ∙ fault_of_word h.field

pub no_first_command : (fields : List Field) → IsFirstFault fields fault.Command → ⊥
unfolding is_of_word
no_first_command fields h = false≢true (first_of_word fields fault.Command h)

pub no_first_words : (fields : List Field) → IsFirstFault fields fault.Words → ⊥
unfolding is_of_word
no_first_words fields h = false≢true (first_of_word fields fault.Words h)

pub no_first_long : (fields : List Field) → IsFirstFault fields fault.LineLong → ⊥
unfolding is_of_word
no_first_long fields h = false≢true (first_of_word fields fault.LineLong h)

pub no_first_memory : (fields : List Field) (e : AllocError) → IsFirstFault fields (fault.Memory e) → ⊥
unfolding is_of_word
no_first_memory fields e h = false≢true (first_of_word fields (fault.Memory e) h)

pub first_here : (field : Field) (after : List Field) (f : LineFault) → (IsGood field → ⊥) → f ≡ fault_of field → IsFirstFault (field ∷ after) f
first_here field after f broken is = record { before = []; field = field; after = after; parts = refl; good = tt; broken = broken; fault_is = is }

pub first_later : (field : Field) (fields : List Field) (f : LineFault) → IsGood field → IsFirstFault fields f → IsFirstFault (field ∷ fields) f
first_later field fields f good h = record {
  before = field ∷ h.before;
  field = h.field;
  after = h.after;
  parts = ap (λ rest. field ∷ rest) h.parts;
  good = (good, h.good);
  broken = h.broken;
  fault_is = h.fault_is;
}

pub first_front : (fields more : List Field) (f : LineFault) → IsFirstFault fields f → IsFirstFault (fields ++ more) f
first_front fields more f h = record {
  before = h.before;
  field = h.field;
  after = h.after ++ more;
  parts = ap (λ front. front ++ more) h.parts ∙ append_assoc h.before (h.field ∷ h.after) more;
  good = h.good;
  broken = h.broken;
  fault_is = h.fault_is;
}

pub first_behind : (fields more : List Field) (f : LineFault) → AllByRecursion IsGood fields → IsFirstFault more f → IsFirstFault (fields ++ more) f
first_behind [] more f good h = h
first_behind (field ∷ fields) more f good h = first_later field (fields ++ more) f good.0 (first_behind fields more f good.1 h)

-- the same, where want of memory is free
pub breaks_of : (fields : List Field) (f : LineFault) → IsFirstFault fields f → BreaksIn fields f
breaks_of fields fault.Command h = h
breaks_of fields fault.Words h = h
breaks_of fields fault.Employee h = h
breaks_of fields fault.Month h = h
breaks_of fields fault.Day h = h
breaks_of fields (fault.Value n) h = h
breaks_of fields (fault.Twice name) h = h
breaks_of fields fault.LineLong h = h
breaks_of fields (fault.Memory e) h = tt

-- behind good fields
pub faulty_in : (verb : Verb) (rest : List Text) (fields : List Field) (f : LineFault) → IsTrue (takes_words verb rest) →
    ((g : LineFault) → IsFirstFault fields g → IsFirstFault (fields_of verb rest) g) → BreaksIn fields f → IsFaultOf verb rest f
faulty_in verb rest fields fault.Command t more h = (t, more _ h)
faulty_in verb rest fields fault.Words t more h = absurd (no_first_words fields h)
faulty_in verb rest fields fault.Employee t more h = (t, more _ h)
faulty_in verb rest fields fault.Month t more h = (t, more _ h)
faulty_in verb rest fields fault.Day t more h = (t, more _ h)
faulty_in verb rest fields (fault.Value n) t more h = (t, more _ h)
faulty_in verb rest fields (fault.Twice name) t more h = (t, more _ h)
faulty_in verb rest fields fault.LineLong t more h = (t, more _ h)
faulty_in verb rest fields (fault.Memory e) t more h = tt

pub faulty : (verb : Verb) (rest : List Text) (f : LineFault) → IsTrue (takes_words verb rest) → IsFirstFault (fields_of verb rest) f → IsFaultOf verb rest f
faulty verb rest f t h = faulty_in verb rest (fields_of verb rest) f t (λ g k. k) (breaks_of (fields_of verb rest) f h)
