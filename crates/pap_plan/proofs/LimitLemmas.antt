-- The limits of a range file have sound bounds.
use Rattle.std.proofs.Common.{◌≡◌, ℕ, suc, Bool, true, false, cond, List, [], ◌∷◌, codes, Some, None, Ok, Err, sym, subst}
use Rattle.std.specs.Prelude.{MatchBool}
use Rattle.std.specs.List.{All, find, flat_map}
use Rattle.std.specs.Str.{bytes_eq}
use Rattle.std.proofs.lemmas.List.Elements.{All-nil, All-cons, All-head, All-tail, All-append}
use Rattle.toml.specs.Data.{Data, string, integer, float, boolean, datetime, array, table, Members, no_members, member}
use Rattle.limits_file.specs.declared.limits.InputLimit.{InputLimit}
use Rattle.limits_file.specs.declared.limits.Limits.{Limits}
use Rattle.limits_file.specs.Faults.{Fault, bad_key}
use Rattle.limits_file.specs.Labels.{label_of}
use Rattle.limits_file.specs.Limits.{HasSoundBounds, limit_named}
use Rattle.limits_file.specs.Inputs.{InputSays}
use Rattle.limits_file.specs.Bindings.{BindingSays}
use Rattle.limits_file.specs.Walks.{AllOrFirstFault, KeysSay}
use Rattle.limits_file.specs.RangeFiles.{with_inputs, with_bindings, SectionSays, FileSays}

inputs_sound : (n : ℕ) (entries : Members) (said : List InputLimit) → AllOrFirstFault InputSays n entries (Ok said) → All HasSoundBounds said
inputs_sound n no_members said h = subst (All HasSoundBounds) (sym h) (All-nil HasSoundBounds)
inputs_sound n (member key value rest) [] h = absurd h
inputs_sound n (member key value rest) (first ∷ said) h = All-cons HasSoundBounds first said h.0.2.sound (inputs_sound (suc n) rest said h.1)

abbrev IsSound : Limits → Type 0
IsSound part = All HasSoundBounds part.inputs

no_answer : (part : Limits) (f : Fault) → Ok part ≡ Err f → ⊥
no_answer part f h = cc

section_sound : (n : ℕ) (key : List ℕ) (value : Data) (part : Limits) → SectionSays n key value (Ok part) → IsSound part
section_sound n key (table entries) part h = by_bind (bytes_eq key (codes "bind")) h
  where
    by_input : (b : Bool) → MatchBool b (KeysSay InputSays with_inputs entries (Ok part)) (Ok part ≡ Err (bad_key (label_of key))) → IsSound part
    by_input true k = subst IsSound (sym k.2) (inputs_sound 0 entries k.0 k.1)
    by_input false k = absurd (no_answer part (bad_key (label_of key)) k)

    by_bind : (b : Bool) → MatchBool b (KeysSay BindingSays with_bindings entries (Ok part))
        (MatchBool (bytes_eq key (codes "input")) (KeysSay InputSays with_inputs entries (Ok part)) (Ok part ≡ Err (bad_key (label_of key)))) → IsSound part
    by_bind true k = subst IsSound (sym k.2) (All-nil HasSoundBounds)
    by_bind false k = by_input (bytes_eq key (codes "input")) k
section_sound n key (string x) part h = absurd (no_answer part (bad_key (label_of key)) h)
section_sound n key (integer x) part h = absurd (no_answer part (bad_key (label_of key)) h)
section_sound n key (float x) part h = absurd (no_answer part (bad_key (label_of key)) h)
section_sound n key (boolean x) part h = absurd (no_answer part (bad_key (label_of key)) h)
section_sound n key (datetime x) part h = absurd (no_answer part (bad_key (label_of key)) h)
section_sound n key (array x) part h = absurd (no_answer part (bad_key (label_of key)) h)

sections_sound : (n : ℕ) (file : Members) (said : List Limits) → AllOrFirstFault SectionSays n file (Ok said) → All HasSoundBounds (flat_map (λ part. part.inputs) said)
sections_sound n no_members said h = subst (λ parts. All HasSoundBounds (flat_map (λ part. part.inputs) parts)) (sym h) (All-nil HasSoundBounds)
sections_sound n (member key value rest) [] h = absurd h
sections_sound n (member key value rest) (first ∷ said) h =
    All-append HasSoundBounds first.inputs (flat_map (λ part. part.inputs) said) (section_sound n key value first h.0) (sections_sound (suc n) rest said h.1)

pub file_sound : (bytes : List ℕ) (l : Limits) → FileSays bytes (Ok l) → All HasSoundBounds l.inputs
file_sound bytes l h = subst IsSound (sym h.2.2) (sections_sound 0 h.0 h.2.0 h.2.1)

some_same : (a b : InputLimit) → Some a ≡ Some b → a ≡ b
some_same a b e = cc

nothing_found : (a : InputLimit) → None ≡ Some a → ⊥
nothing_found a e = cc

-- what is found among limits that are all sound is sound
found_in : (x : List ℕ) (limits : List InputLimit) (limit : InputLimit) → find (λ l. bytes_eq l.name x) limits ≡ Some limit → All HasSoundBounds limits → HasSoundBounds limit
found_in x [] limit e h = absurd (nothing_found limit e)
found_in x (l ∷ limits) limit e h = by_test (bytes_eq l.name x) e (found_in x limits limit)
  where
    by_test : (b : Bool) → cond b (Some l) (find (λ m. bytes_eq m.name x) limits) ≡ Some limit
        → (find (λ m. bytes_eq m.name x) limits ≡ Some limit → All HasSoundBounds limits → HasSoundBounds limit) → HasSoundBounds limit
    by_test true k r = subst HasSoundBounds (some_same l limit k) (All-head HasSoundBounds l limits h)
    by_test false k r = r k (All-tail HasSoundBounds l limits h)

pub found_sound : (x : List ℕ) (l : Limits) (limit : InputLimit) → limit_named l x ≡ Some limit → All HasSoundBounds l.inputs → HasSoundBounds limit
found_sound x l limit e h = found_in x l.inputs limit e h
