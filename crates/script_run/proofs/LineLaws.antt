-- How the lines of a script grow with its bytes.
use Rattle.std.proofs.Common.{◌≡◌, List, [], ◌∷◌, ◌++◌, ℕ, ◌==◌, Bool, true, false, suc, ◌+◌, cond, length, length-take, take, drop, get_or, refl, sym, ap, ◌∙◌, subst, append_assoc, arith, ◌<◌}
use Rattle.std.specs.Prelude.{if◌then◌else◌, Some}
use Rattle.std.specs.List.{slice_split, onto_first}
use Rattle.std.specs.Str.Lines.{lines_of_parts, strip_carriage_return}
use Rattle.std.proofs.lemmas.List.{append-nil, get_or-take, take-append-drop, take_more}
use Rattle.std.proofs.lemmas.Bool.Decides.{nat_tests}
use Rattle.memchr.specs.Find.{IsFirstByte, is_byte}
use Rattle.script_run.specs.Transcripts.{lines_of, ended_parts, ended_lines}
use Rattle.script_run.specs.private.OpenLines.{HasNoLf}
use Rattle.script_run.specs.private.RunViews.{last_part, open_line}

fails : (b : Bool) → ¬ (b ≡ true) → b ≡ false
fails true h = absurd (h refl)
fails false h = refl

same_byte : (c : ℕ) → (c == 10) ≡ true → c ≡ 10
same_byte c test = grind (arith, nat_tests)

-- the parts between LFs
abbrev parts : List ℕ → List (List ℕ)
parts bytes = slice_split (λ b. b == 10) bytes

-- the byte goes onto the last part
abbrev onto_last : ℕ → List (List ℕ) → List (List ℕ)
onto_last c [] = []
onto_last c (part ∷ []) = (part ++ c ∷ []) ∷ []
onto_last c (part ∷ next ∷ more) = part ∷ onto_last c (next ∷ more)

-- a line that no LF ends counts where it isn't empty
abbrev pub last_lines : List ℕ → List (List ℕ)
last_lines line = if length line == 0 then [] else line ∷ []

-- there is a first part
record IsCons (all : List (List ℕ)) : Type 0 where
  pub first : List ℕ
  pub others : List (List ℕ)
  pub is : all ≡ first ∷ others

first_onto : (b : ℕ) (all : List (List ℕ)) → IsCons (onto_first b all)
first_onto b [] = record { first = b ∷ []; others = []; is = refl }
first_onto b (part ∷ all) = record { first = b ∷ part; others = all; is = refl }

some_part : (bytes : List ℕ) → IsCons (parts bytes)
some_part [] = record { first = []; others = []; is = refl }
some_part (b ∷ bytes) =
    elim (b == 10) as (λ t. IsCons (cond t ([] ∷ parts bytes) (onto_first b (parts bytes)))) [
      | true ↦ record { first = []; others = parts bytes; is = refl }
      | false ↦ first_onto b (parts bytes)
    ]

onto_first-append : (b : ℕ) (all : List (List ℕ)) (line : List ℕ) → IsCons all → onto_first b (all ++ line ∷ [])
    ≡ onto_first b all ++ line ∷ []
onto_first-append b all line some =
    ap (λ v. onto_first b (v ++ line ∷ [])) some.is ∙ ap (λ v. onto_first b v ++ line ∷ []) (sym some.is)

onto_last-cons : (c : ℕ) (part : List ℕ) (all : List (List ℕ)) → IsCons all → onto_last c (part ∷ all)
    ≡ part ∷ onto_last c all
onto_last-cons c part all some =
    ap (λ v. onto_last c (part ∷ v)) some.is ∙ ap (λ v. part ∷ onto_last c v) (sym some.is)

onto_both : (b c : ℕ) (first : List ℕ) (others : List (List ℕ)) → onto_first b (onto_last c (first ∷ others))
    ≡ onto_last c (onto_first b (first ∷ others))
onto_both b c first [] = refl
onto_both b c first (next ∷ more) = refl

onto_first-last : (b c : ℕ) (all : List (List ℕ)) → IsCons all → onto_first b (onto_last c all) ≡ onto_last c
    (onto_first b all)
onto_first-last b c all some =
    ap (λ v. onto_first b (onto_last c v)) some.is ∙ onto_both b c some.first some.others
    ∙ ap (λ v. onto_last c (onto_first b v)) (sym some.is)

-- an LF ends a part
parts-lf : (bytes : List ℕ) → parts (bytes ++ 10 ∷ []) ≡ parts bytes ++ [] ∷ []
parts-lf [] = refl
parts-lf (b ∷ bytes) =
    elim (b == 10) as (λ t. cond t ([] ∷ parts (bytes ++ 10 ∷ [])) (onto_first b (parts (bytes ++ 10 ∷ []))) ≡ cond t
    ([] ∷ parts bytes) (onto_first b (parts bytes)) ++ [] ∷ []) [
      | true ↦ ap (λ v. [] ∷ v) (parts-lf bytes)
      | false ↦ ap (λ v. onto_first b v) (parts-lf bytes) ∙ onto_first-append b (parts bytes) [] (some_part bytes)
    ]

-- any other byte goes onto the last part
parts-other : (bytes : List ℕ) (c : ℕ) → (c == 10) ≡ false → parts (bytes ++ c ∷ []) ≡ onto_last c (parts bytes)
parts-other [] c other = ap (λ (t : Bool). cond t ([] ∷ [] ∷ []) ((c ∷ []) ∷ [])) other
parts-other (b ∷ bytes) c other =
    elim (b == 10) as (λ t. cond t ([] ∷ parts (bytes ++ c ∷ [])) (onto_first b (parts (bytes ++ c ∷ [])))
    ≡ onto_last c (cond t ([] ∷ parts bytes) (onto_first b (parts bytes)))) [
      | true ↦ ap (λ v. [] ∷ v) (parts-other bytes c other) ∙ sym (onto_last-cons c [] (parts bytes)
          (some_part bytes))
      | false ↦ ap (λ v. onto_first b v) (parts-other bytes c other) ∙ onto_first-last b c (parts bytes)
          (some_part bytes)
    ]

ended_parts-more : (first : List ℕ) (others : List (List ℕ)) → ended_parts ((first ∷ others) ++ [] ∷ []) ≡ ended_parts
    (first ∷ others) ++ strip_carriage_return (last_part (first ∷ others)) ∷ []
ended_parts-more first [] = refl
ended_parts-more first (next ∷ more) = ap (λ v. strip_carriage_return first ∷ v) (ended_parts-more next more)

last_part-more : (first : List ℕ) (others : List (List ℕ)) → last_part ((first ∷ others) ++ [] ∷ []) ≡ []
last_part-more first [] = refl
last_part-more first (next ∷ more) = last_part-more next more

ended_parts-onto : (c : ℕ) (first : List ℕ) (others : List (List ℕ)) → ended_parts (onto_last c (first ∷ others))
    ≡ ended_parts (first ∷ others)
ended_parts-onto c first [] = refl
ended_parts-onto c first (next ∷ []) = refl
ended_parts-onto c first (next ∷ third ∷ more) = ap (λ v. strip_carriage_return first ∷ v) (ended_parts-onto c next
    (third ∷ more))

last_part-onto : (c : ℕ) (first : List ℕ) (others : List (List ℕ)) → last_part (onto_last c (first ∷ others))
    ≡ last_part (first ∷ others) ++ c ∷ []
last_part-onto c first [] = refl
last_part-onto c first (next ∷ []) = refl
last_part-onto c first (next ∷ third ∷ more) = last_part-onto c next (third ∷ more)

lines-parts : (first : List ℕ) (others : List (List ℕ)) → lines_of_parts (first ∷ others) ≡ ended_parts
    (first ∷ others) ++ last_lines (last_part (first ∷ others))
lines-parts first [] = refl
lines-parts first (next ∷ more) = ap (λ v. strip_carriage_return first ∷ v) (lines-parts next more)

-- a part before an LF is a line without a CR at its end
pub lines_after : (line rest : List ℕ) → lines_of_parts (line ∷ parts rest)
    ≡ strip_carriage_return line ∷ lines_of rest
lines_after line rest =
    let some = some_part rest in
    ap (λ v. lines_of_parts (line ∷ v)) some.is ∙ ap (λ v. strip_carriage_return line ∷ lines_of_parts v)
    (sym some.is)

-- an LF ends the line that is being read
pub ended_lines-lf : (bytes : List ℕ) → ended_lines (bytes ++ 10 ∷ []) ≡ ended_lines bytes ++ strip_carriage_return
    (open_line bytes) ∷ []
ended_lines-lf bytes =
    let some = some_part bytes in
    ap (λ v. ended_parts v) (parts-lf bytes) ∙ ap (λ v. ended_parts (v ++ [] ∷ [])) some.is
    ∙ ended_parts-more some.first some.others
    ∙ ap (λ v. ended_parts v ++ strip_carriage_return (last_part v) ∷ []) (sym some.is)

pub open_line-lf : (bytes : List ℕ) → open_line (bytes ++ 10 ∷ []) ≡ []
open_line-lf bytes =
    let some = some_part bytes in
    ap (λ v. last_part v) (parts-lf bytes) ∙ ap (λ v. last_part (v ++ [] ∷ [])) some.is
    ∙ last_part-more some.first some.others

-- any other byte goes onto that line
pub ended_lines-other : (bytes : List ℕ) (c : ℕ) → (c == 10) ≡ false → ended_lines (bytes ++ c ∷ [])
    ≡ ended_lines bytes
ended_lines-other bytes c other =
    let some = some_part bytes in
    ap (λ v. ended_parts v) (parts-other bytes c other) ∙ ap (λ v. ended_parts (onto_last c v)) some.is
    ∙ ended_parts-onto c some.first some.others
    ∙ ap (λ v. ended_parts v) (sym some.is)

pub open_line-other : (bytes : List ℕ) (c : ℕ) → (c == 10) ≡ false → open_line (bytes ++ c ∷ [])
    ≡ open_line bytes ++ c ∷ []
open_line-other bytes c other =
    let some = some_part bytes in
    ap (λ v. last_part v) (parts-other bytes c other) ∙ ap (λ v. last_part (onto_last c v)) some.is
    ∙ last_part-onto c some.first some.others
    ∙ ap (λ v. last_part v ++ c ∷ []) (sym some.is)

no_lf_first : (b : ℕ) (more : List ℕ) → HasNoLf (b ∷ more) → (b == 10) ≡ false
no_lf_first b more none = fails (b == 10) (none 0 (omega arith) (omega arith))

no_lf_rest : (b : ℕ) (more : List ℕ) → HasNoLf (b ∷ more) → HasNoLf more
no_lf_rest b more none = λ k low lt. none (suc k) (omega arith) (omega (arith, lt))

-- bytes without an LF go onto it
pub ended_lines-others : (bytes more : List ℕ) → HasNoLf more → ended_lines (bytes ++ more) ≡ ended_lines bytes
ended_lines-others bytes [] none = ap (λ v. ended_lines v) (append-nil bytes)
ended_lines-others bytes (b ∷ more) none =
    ap (λ v. ended_lines v) (sym (append_assoc bytes (b ∷ []) more))
    ∙ ended_lines-others (bytes ++ b ∷ []) more (no_lf_rest b more none)
    ∙ ended_lines-other bytes b (no_lf_first b more none)

pub open_line-others : (bytes more : List ℕ) → HasNoLf more → open_line (bytes ++ more) ≡ open_line bytes ++ more
open_line-others bytes [] none = ap (λ v. open_line v) (append-nil bytes) ∙ sym (append-nil (open_line bytes))
open_line-others bytes (b ∷ more) none =
    ap (λ v. open_line v) (sym (append_assoc bytes (b ∷ []) more))
    ∙ open_line-others (bytes ++ b ∷ []) more (no_lf_rest b more none)
    ∙ ap (λ v. v ++ more) (open_line-other bytes b (no_lf_first b more none))
    ∙ append_assoc (open_line bytes) (b ∷ []) more

-- such bytes and an LF end it
pub ended_lines-line : (bytes last : List ℕ) → HasNoLf last → ended_lines (bytes ++ (last ++ 10 ∷ []))
    ≡ ended_lines bytes ++ strip_carriage_return (open_line bytes ++ last) ∷ []
ended_lines-line bytes last none =
    ap (λ v. ended_lines v) (sym (append_assoc bytes last (10 ∷ []))) ∙ ended_lines-lf (bytes ++ last)
    ∙ ap (λ v. v ++ strip_carriage_return (open_line (bytes ++ last)) ∷ []) (ended_lines-others bytes last none)
    ∙ ap (λ v. ended_lines bytes ++ strip_carriage_return v ∷ []) (open_line-others bytes last none)

pub open_line-line : (bytes last : List ℕ) → open_line (bytes ++ (last ++ 10 ∷ [])) ≡ []
open_line-line bytes last =
    ap (λ v. open_line v) (sym (append_assoc bytes last (10 ∷ []))) ∙ open_line-lf (bytes ++ last)

-- the first LF of some bytes, and what stands before it
pub before_lf : (bytes : List ℕ) (at : ℕ) → IsFirstByte (is_byte 10) bytes (Some at) → HasNoLf (take at bytes)
before_lf bytes at found = λ k low lt passes.
    let before : k < at = omega (arith, lt, length-take at bytes) in
    found.0.before k low before (subst (λ v. (v == 10) ≡ true) (get_or-take at bytes k 0 before) passes)

pub around_lf : (bytes : List ℕ) (at : ℕ) → IsFirstByte (is_byte 10) bytes (Some at) →
    bytes ≡ (take at bytes ++ 10 ∷ []) ++ drop (at + 1) bytes
around_lf bytes at found =
    sym (take-append-drop (at + 1) bytes) ∙ ap (λ v. v ++ drop (at + 1) bytes) (take_more bytes at 0 found.0.high)
    ∙ ap (λ v. (take at bytes ++ v ∷ []) ++ drop (at + 1) bytes) (same_byte (get_or bytes at 0) found.1)

-- the lines of a script are those that an LF ends, and a last one
pub lines_of-parts : (script : List ℕ) → lines_of script ≡ ended_lines script ++ last_lines (open_line script)
lines_of-parts script =
    let some = some_part script in
    ap (λ v. lines_of_parts v) some.is ∙ lines-parts some.first some.others ∙ ap (λ v. ended_parts v ++ last_lines
    (last_part v)) (sym some.is)

-- these lines are a front of those
pub record Begins (front all : List (List ℕ)) : Type 0 where
  pub more : List (List ℕ)
  pub is : all ≡ front ++ more

begins_then : {a b c : List (List ℕ)} → Begins a b → Begins b c → Begins a c
begins_then {a} {b} {c} p q = record {
  more = p.more ++ q.more;
  is = q.is ∙ ap (λ v. v ++ q.more) p.is
      ∙ append_assoc a p.more q.more;
}

ended_lines-byte : (bytes : List ℕ) (c : ℕ) → Begins (ended_lines bytes) (ended_lines (bytes ++ c ∷ []))
ended_lines-byte bytes c =
    elim (c == 10) as (λ t. (c == 10) ≡ t → Begins (ended_lines bytes) (ended_lines (bytes ++ c ∷ []))) [
      | true ↦ λ lf. record {
        more = strip_carriage_return (open_line bytes) ∷ [];
        is = ap (λ v. ended_lines
            (bytes ++ v ∷ [])) (same_byte c lf) ∙ ended_lines-lf bytes;
      }
      | false ↦ λ other. record {
        more = [];
        is = ended_lines-other bytes c other
            ∙ sym (append-nil (ended_lines bytes));
      }
    ] refl

-- further bytes leave the lines that are ended
pub ended_lines-append : (bytes more : List ℕ) → Begins (ended_lines bytes) (ended_lines (bytes ++ more))
ended_lines-append bytes [] = record {
  more = [];
  is = ap (λ v. ended_lines v) (append-nil bytes)
      ∙ sym (append-nil (ended_lines bytes));
}
ended_lines-append bytes (b ∷ more) =
    subst (λ v. Begins (ended_lines bytes) (ended_lines v)) (append_assoc bytes (b ∷ []) more)
    (begins_then (ended_lines-byte bytes b) (ended_lines-append (bytes ++ b ∷ []) more))

-- the lines of a script begin with those that are ended so far
pub lines_of-append : (bytes more : List ℕ) → Begins (ended_lines bytes) (lines_of (bytes ++ more))
lines_of-append bytes more =
    begins_then (ended_lines-append bytes more) (record {
      more = last_lines (open_line (bytes ++ more));
      is =
          lines_of-parts (bytes ++ more);
    })

pub last_lines-some : (line : List ℕ) → 0 < length line → last_lines line ≡ line ∷ []
last_lines-some line some = let test : (length line == 0) ≡ false = grind (arith, nat_tests) in
    ap (λ (t : Bool). if t then [] else line ∷ []) test

pub last_lines-none : (line : List ℕ) → length line ≡ 0 → last_lines line ≡ []
last_lines-none line none = let test : (length line == 0) ≡ true = grind (arith, nat_tests) in
    ap (λ (t : Bool). if t then [] else line ∷ []) test
