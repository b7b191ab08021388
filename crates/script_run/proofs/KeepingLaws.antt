-- The line that is being read, of which at most n bytes are kept.
use Rattle.std.proofs.Common.{◌≡◌, ◌≢◌, List, [], ◌∷◌, ◌++◌, ℕ, ◌+◌, ◌-◌, ◌≤◌, ◌<◌, ◌==◌, Bool, true, false, length, take, refl, sym, ap, ◌∙◌, subst, arith, inl, inr, length-append, length-take}
use Rattle.std.specs.Prelude.{if◌then◌else◌, nat_lt, slice_index, Vec, vec_len}
use Rattle.std.specs.declared.alloc.Global.{Global}
use Rattle.std.specs.Str.Lines.{strip_carriage_return}
use Rattle.std.proofs.lemmas.List.{append-nil, take_all, take-append-le}
use Rattle.std.proofs.Math.Seq.{take-append-add}
use Rattle.std.proofs.lemmas.Bool.Decides.{nat_tests}
use Rattle.std.proofs.lemmas.Grind.{common_steps}
use Rattle.script_run.specs.Limits.{most_line}
use Rattle.script_run.specs.private.OpenLines.{Holds, HoldsEnd, SaysSame}
use Rattle.script_run.specs.declared.open_line.OpenLine.{OpenLine}

pub below : (a b : ℕ) → b ≤ a → nat_lt a b ≡ false
below a b le = grind (arith, nat_tests)

pub above : (a b : ℕ) → a < b → nat_lt a b ≡ true
above a b lt = grind (arith, nat_tests)

pub is_above : (a b : ℕ) → nat_lt a b ≡ true → a < b
is_above a b e = grind (arith, nat_tests)

pub is_below : (a b : ℕ) → nat_lt a b ≡ false → b ≤ a
is_below a b e = grind (arith, nat_tests)

-- ---- more bytes of a line

short_front : (n : ℕ) (line more : List ℕ) → length line ≤ n →
    line ++ take (n - length line) more ≡ take n (line ++ more)
short_front n line more le =
    let whole : length line + (n - length line) ≡ n = omega arith in
    sym (take-append-add line more (n - length line)) ∙ ap (λ v. take v (line ++ more)) whole

long_front : (n : ℕ) (kept line more : List ℕ) → kept ≡ take n line → n < length line →
    kept ++ take (n - length kept) more ≡ take n (line ++ more)
long_front n kept line more e lt =
    let none : n - length kept ≡ 0 = omega (arith, ap length e, length-take n line) in
    ap (λ v. kept ++ take v more) none ∙ append-nil kept ∙ e ∙ sym (take-append-le n line more (omega arith))

more_front : (n : ℕ) (kept line more : List ℕ) → kept ≡ take n line →
    kept ++ take (n - length kept) more ≡ take n (line ++ more)
more_front n kept line more e =
    elim (nat_lt n (length line)) as (λ t. nat_lt n (length line) ≡ t →
    kept ++ take (n - length kept) more ≡ take n (line ++ more)) [
      | true ↦ λ long. long_front n kept line more e (is_above n (length line) long)
      | false ↦ λ short.
          let le = is_below n (length line) short in
          subst (λ v. v ++ take (n - length v) more ≡ take n (line ++ more)) (sym (e ∙ take_all n line le))
          (short_front n line more le)
    ] refl

-- where there is room for them, the line is as long as it was said to be
fits_long : (n : ℕ) (kept line more : List ℕ) → kept ≡ take n line → length more ≤ n - length kept →
    nat_lt n (length line) ≡ nat_lt n (length (line ++ more))
fits_long n kept line more e fits =
    elim (nat_lt n (length line)) as (λ t. nat_lt n (length line) ≡ t → t ≡ nat_lt n (length (line ++ more))) [
      | true ↦ λ long.
          let lt = is_above n (length line) long in
          sym (above n (length (line ++ more)) (omega (arith, length-append line more)))
      | false ↦ λ short.
          let le = is_below n (length line) short in
          sym (below n (length (line ++ more)) (omega (arith, length-append line more, ap length e, length-take n line)))
    ] refl

pub keeps_all : (was is : OpenLine) (more : List ℕ) (room : ℕ) → room ≡ (most_line + 1) - length was.bytes.items →
    is.bytes.items ≡ was.bytes.items ++ more → is.long ≡ was.long → length more ≤ room →
    (line : List ℕ) → Holds was line → Holds is (line ++ more)
keeps_all was is more room left bytes long fits line holds = record {
  front = bytes ∙ ap (λ v. was.bytes.items ++ v) (sym (take_all room more fits))
      ∙ ap (λ v. was.bytes.items ++ take v more) left
      ∙ more_front (most_line + 1) was.bytes.items line more holds.front;
  long = long ∙ holds.long ∙ fits_long (most_line + 1) was.bytes.items line more holds.front (omega arith);
}

pub keeps_part : (was is : OpenLine) (more : List ℕ) (room : ℕ) → room ≡ (most_line + 1) - length was.bytes.items →
    is.bytes.items ≡ was.bytes.items ++ take room more → is.long ≡ true → room < length more →
    (line : List ℕ) → Holds was line → Holds is (line ++ more)
keeps_part was is more room left bytes long over line holds = record {
  front = bytes ∙ ap (λ v. was.bytes.items ++ take v more) left
      ∙ more_front (most_line + 1) was.bytes.items line more holds.front;
  long = long ∙ sym (above (most_line + 1) (length (line ++ more)) (omega
      (arith, length-append line more, ap length holds.front, length-take (most_line + 1) line, left, over)));
}

-- nothing is kept of an empty line alone
pub kept_none : (kept : OpenLine) (line : List ℕ) → Holds kept line → length kept.bytes.items ≡ 0 → length line ≡ 0
kept_none kept line holds none = omega (arith, ap (λ v. length v) holds.front, length-take (most_line + 1) line)

no_bytes : (line : List ℕ) → length line ≡ 0 → line ≡ []
no_bytes [] none = refl
no_bytes (b ∷ line) none = absurd (omega (arith, none))

some_bytes : (bytes : List ℕ) → bytes ≢ [] → 0 < length bytes
some_bytes [] some = absurd (some refl)
some_bytes (b ∷ bytes) some = omega arith

pub ends_whole_line : (kept : OpenLine) (last line : List ℕ) → length kept.bytes.items ≡ 0 → Holds kept line →
    HoldsEnd kept last (line ++ last)
ends_whole_line kept last line none holds = record {
  whole = λ e. ap (λ v. v ++ last) (sym (no_bytes line (kept_none kept line holds none)));
  begun = λ some. absurd (omega (arith, some_bytes kept.bytes.items some, none));
}

pub ends_begun_line : (was is : OpenLine) (last line : List ℕ) → 0 < length was.bytes.items → Holds was line →
    Holds is (line ++ last) → HoldsEnd is last (line ++ last)
ends_begun_line was is last line some held holds = record {
  whole = λ e. absurd (omega (
    arith,
    some,
    ap length held.front,
    length-take (most_line + 1) line,
    ap length e,
    ap length holds.front,
    length-take (most_line + 1) (line ++ last),
    length-append line last,
  ));
  begun = λ other. holds;
}

-- ---- what is answered of a line

-- a line that is kept whole
whole_line : (n : ℕ) (kept line : List ℕ) → kept ≡ take n line → false ≡ nat_lt n (length line) → kept ≡ line
whole_line n kept line e is = e ∙ take_all n line (is_below n (length line) (sym is))

kept_long : (n : ℕ) (kept line : List ℕ) → kept ≡ take n line → true ≡ nat_lt n (length line) → n ≤ length kept
kept_long n kept line e is =
    let more = is_above n (length line) (sym is) in
    omega (arith, ap (λ v. length v) e, length-take n line)

stripped : (line : List ℕ) → length line - 1 ≤ length (strip_carriage_return line)
stripped line =
    elim (slice_index line (length line - 1) == 13) as (λ t. length line - 1 ≤ length (if t then take
    (length line - 1) line else line)) [
      | true ↦ omega (arith, length-take (length line - 1) line)
      | false ↦ omega arith
    ]

stripped_long : (n : ℕ) (line : List ℕ) → true ≡ nat_lt (n + 1) (length line) →
    n < length (strip_carriage_return line)
stripped_long n line is =
    let more = is_above (n + 1) (length line) (sym is) in
    omega (arith, stripped line)

last_long : (n : ℕ) (line : List ℕ) → nat_lt (n + 1) (length line) ≡ true → n < length line
last_long n line is =
    let more = is_above (n + 1) (length line) is in
    omega arith

-- a line that is there whole
pub says_whole : (kept : OpenLine) (last said line : List ℕ) → HoldsEnd kept last line →
    length kept.bytes.items ≡ 0 → said ≡ strip_carriage_return last → SaysSame said (strip_carriage_return line)
says_whole kept last said line ends none is =
    inl (is ∙ ap (λ v. strip_carriage_return v) (ends.whole (no_bytes kept.bytes.items none)))

not_none : (bytes : List ℕ) → 0 < length bytes → bytes ≢ []
not_none bytes some e = absurd (omega (arith, some, ap length e))

-- one that is too long
pub says_long : (kept : OpenLine) (last said line : List ℕ) → HoldsEnd kept last line →
    0 < length kept.bytes.items → kept.long ≡ true → said ≡ kept.bytes.items →
    SaysSame said (strip_carriage_return line)
says_long kept last said line ends some long is =
    let holds = ends.begun (not_none kept.bytes.items some) in
    let over = sym long ∙ holds.long in
    inr (record {
      said_long = subst (λ v. most_line < length v) (sym is) (omega
          (arith, kept_long (most_line + 1) kept.bytes.items line holds.front over));
      line_long = stripped_long most_line line over;
    })

-- one whose end is kept too
pub says_kept : (kept : OpenLine) (last said line : List ℕ) → HoldsEnd kept last line →
    0 < length kept.bytes.items → kept.long ≡ false → said ≡ strip_carriage_return kept.bytes.items →
    SaysSame said (strip_carriage_return line)
says_kept kept last said line ends some short is =
    let holds = ends.begun (not_none kept.bytes.items some) in
    inl (is ∙ ap (λ v. strip_carriage_return v)
    (whole_line (most_line + 1) kept.bytes.items line holds.front (sym short ∙ holds.long)))

-- and one that no LF ends
pub says_last : (kept : OpenLine) (said line : List ℕ) → said ≡ kept.bytes.items → Holds kept line →
    SaysSame said line
says_last kept said line is holds =
    elim (nat_lt (most_line + 1) (length line)) as (λ t. nat_lt (most_line + 1) (length line) ≡ t →
    SaysSame said line) [
      | true ↦ λ long. inr (record {
        said_long = subst (λ v. most_line < length v) (sym is) (omega
            (arith, kept_long (most_line + 1) kept.bytes.items line holds.front (sym long)));
        line_long = last_long most_line line long;
      })
      | false ↦ λ short. inl (is ∙ whole_line (most_line + 1) kept.bytes.items line holds.front (sym short))
    ] refl

-- ---- whether there is anything of it

pub none_of : (line : List ℕ) (is_empty : Bool) → is_empty ≡ (length line == 0) → is_empty ≡ true → length line ≡ 0
none_of line is_empty is test = grind (arith, nat_tests)

pub some_of : (line : List ℕ) (is_empty : Bool) → is_empty ≡ (length line == 0) → is_empty ≡ false → 0 < length line
some_of line is_empty is test = grind (arith, nat_tests)

pub not_empty : (v : Vec ℕ Global) (r : Bool) → r ≡ (vec_len v == 0) → r ≡ false → 0 < length v.items
not_empty v r is test = grind (arith, common_steps)

pub empty : (v : Vec ℕ Global) (r : Bool) → r ≡ (vec_len v == 0) → r ≡ true → length v.items ≡ 0
empty v r is test = grind (arith, common_steps)
