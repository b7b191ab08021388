-- How the script of a sample grows line by line.
use Rattle.std.proofs.Common.{◌≡◌, ℕ, zero, suc, ◌+◌, ◌-◌, ◌≤◌, List, [], ◌∷◌, ◌++◌, map, refl, sym, ap, ap₂, ◌∙◌, append_assoc, arith, Bool, true, false, ◌&&◌, ◌<◌, ◌^◌, ◌/◌, ◌%◌, ◌*◌, ◌==◌, length-append, subst}
use Rattle.std.specs.Prelude.{All, codes, if◌then◌else◌, length, nat_lt, slice_index, take}
use Rattle.std.specs.Fmt.{decimal}
use Rattle.std.specs.Str.Parse.{AllDigits}
use Rattle.std.proofs.lemmas.Fmt.{decimal_is_IsNumeral, length-decimal-le}
use Rattle.std.proofs.lemmas.Str.Parse.{digit_from_value}
use Rattle.std.proofs.lemmas.List.Folds.{list_all-append}
use Rattle.std.proofs.lemmas.Bool.Decides.{nat_tests}
use Rattle.std.specs.List.{flat_map, list_all}
use Rattle.std.specs.Str.Lines.{lines_of_parts, strip_carriage_return}
use Rattle.std.proofs.lemmas.List.{append-nil, map-append, length-map}
use Rattle.std.proofs.lemmas.List.Elements.{All-nil, All-cons, All-head, All-tail, All-append}
use Rattle.std.proofs.lemmas.List.Splits.{slice_split_at}
use Rattle.outside.specs.Told.{FileMap}
use Rattle.payroll_records.specs.Days.{month_text, day_text}
use Rattle.script_steps.specs.Steps.{AreThere}
use Rattle.script_run.specs.Limits.{most_script}
use Rattle.script_run.specs.Transcripts.{lines_of}
use Rattle.script_run.proofs.LineLaws.{lines_after}
use Rattle.std.proofs.lemmas.Grind.{flat_map-append}
use Rattle.script_run.specs.Samples.{numbers, change_line, year_lines, sample_lines, script_of, add_line}

numbers_next : (n : ℕ) → 1 ≤ n → numbers n ≡ numbers (n - 1) ++ n ∷ []
numbers_next zero some = absurd (omega arith)
numbers_next (suc n) some = let same : suc n - 1 ≡ n = omega arith in ap (λ v. numbers v ++ suc n ∷ []) (sym same)

-- a line for each number
pub appended_line : (first now next : List ℕ) (line_of : ℕ → List ℕ) (n : ℕ) → 1 ≤ n → now ≡ first ++ script_of
    (map line_of (numbers (n - 1))) →
    next ≡ now ++ (line_of n ++ 10 ∷ []) → next ≡ first ++ script_of (map line_of (numbers ((n + 1) - 1)))
appended_line first now next line_of n some so_far is =
    let same : (n + 1) - 1 ≡ n = omega arith in
    let front = script_of (map line_of (numbers (n - 1))) in
    let more : script_of (map line_of (numbers ((n + 1) - 1))) ≡ front ++ (line_of n ++ 10 ∷ []) =
    ap (λ v. script_of (map line_of (numbers v))) same ∙ ap (λ v. script_of (map line_of v)) (numbers_next n some)
    ∙ ap (λ v. script_of v) (map-append line_of (numbers (n - 1)) (n ∷ []))
    ∙ flat_map-append (λ line. line ++ 10 ∷ []) (map line_of (numbers (n - 1))) (line_of n ∷ [])
    ∙ ap (λ v. front ++ v) (append-nil (line_of n ++ 10 ∷ [])) in
    is ∙ ap (λ v. v ++ (line_of n ++ 10 ∷ [])) so_far ∙ append_assoc first front (line_of n ++ 10 ∷ [])
    ∙ ap (λ v. first ++ v) (sym more)

-- some lines for each number
pub appended_lines : (first now next : List ℕ) (lines_of : ℕ → List (List ℕ)) (n : ℕ) → 1 ≤ n →
    now ≡ first ++ script_of (flat_map lines_of (numbers (n - 1))) →
    next ≡ now ++ script_of (lines_of n) → next ≡ first ++ script_of (flat_map lines_of (numbers ((n + 1) - 1)))
appended_lines first now next lines_of n some so_far is =
    let same : (n + 1) - 1 ≡ n = omega arith in
    let front = script_of (flat_map lines_of (numbers (n - 1))) in
    let more : script_of (flat_map lines_of (numbers ((n + 1) - 1))) ≡ front ++ script_of (lines_of n) =
    ap (λ v. script_of (flat_map lines_of (numbers v))) same ∙ ap (λ v. script_of (flat_map lines_of v))
    (numbers_next n some)
    ∙ ap (λ v. script_of v) (flat_map-append lines_of (numbers (n - 1)) (n ∷ []) ∙ ap (λ v. flat_map lines_of
    (numbers (n - 1)) ++ v) (append-nil (lines_of n)))
    ∙ flat_map-append (λ line. line ++ 10 ∷ []) (flat_map lines_of (numbers (n - 1))) (lines_of n) in
    is ∙ ap (λ v. v ++ script_of (lines_of n)) so_far ∙ append_assoc first front (script_of (lines_of n))
    ∙ ap (λ v. first ++ v) (sym more)

-- after the last number
pub appended_all : (first now : List ℕ) (lines : List ℕ → List (List ℕ)) (n most : ℕ) → n ≡ most + 1 →
    now ≡ first ++ script_of (lines (numbers (n - 1))) → now ≡ first ++ script_of (lines (numbers most))
appended_all first now lines n most end so_far = let same : n - 1 ≡ most = omega arith in so_far
    ∙ ap (λ v. first ++ script_of (lines (numbers v))) same

-- the parts of a sample's script
pub joined : (head first second last a b c : List ℕ) → a ≡ head ++ first → b ≡ a ++ second → c ≡ b ++ last →
    c ≡ head ++ (first ++ (second ++ last))
joined head first second last a b c p q r =
    r ∙ ap (λ v. v ++ last) (q ∙ ap (λ v. v ++ second) p ∙ append_assoc head first second)
    ∙ append_assoc head (first ++ second) last ∙ ap (λ v. head ++ v) (append_assoc first second last)

-- the script of a sample is its parts
pub sample_parts : (employees : ℕ) → script_of (sample_lines employees)
    ≡ codes "plan 2025-01-01 p2.xml l2.toml\n" ++ (script_of (flat_map year_lines (numbers employees)) ++ (script_of
    (map change_line (numbers employees)) ++ codes "report\n"))
sample_parts employees =
    let years = flat_map year_lines (numbers employees) in
    let changes = map change_line (numbers employees) in
    ap (λ v. codes "plan 2025-01-01 p2.xml l2.toml\n" ++ v)
    (flat_map-append (λ line. line ++ 10 ∷ []) years (changes ++ codes "report" ∷ [])
    ∙ ap (λ v. script_of years ++ v) (flat_map-append (λ line. line ++ 10 ∷ []) changes (codes "report" ∷ [])))

regrouped : (a b s c d e f g : List ℕ) →
    a ++ (b ++ (s ++ (c ++ (s ++ (d ++ (e ++ (f ++ g))))))) ≡ (((((((a ++ b) ++ s) ++ c) ++ s) ++ d) ++ e) ++ f) ++ g
regrouped a b s c d e f g = simp append_assoc

-- the record of an employee, word by word
pub record_words : (employee month : ℕ) (year number value : ℕ) → year ≡ 2025 → number ≡ month →
    value ≡ 100000 + 1000 * employee * month →
    codes "add E" ++ (decimal employee ++ (32 ∷ (month_text year number ++ (32 ∷ (month_text year number
    ++ (codes "-28 RE4=" ++ (decimal value ++ 10 ∷ []))))))) ≡ add_line employee month ++ 10 ∷ []
record_words employee month year number value y m v =
    rw (y, m, v)
    (regrouped (codes "add E") (decimal employee) (codes " ") (month_text 2025 month) (day_text 2025 month 28)
    (codes " RE4=") (decimal (100000 + 1000 * employee * month)) (10 ∷ []))

-- a byte that ends no line and is no CR
abbrev is_inner : ℕ → Bool
is_inner b = nat_lt 31 b

-- a line of such bytes
abbrev is_plain : List ℕ → Bool
is_plain line = list_all is_inner line

both_plain : (a b : List ℕ) → is_plain a ≡ true → is_plain b ≡ true → is_plain (a ++ b) ≡ true
both_plain a b p q = list_all-append is_inner a b ∙ ap (λ v. v && is_plain b) p ∙ q

inner_digit : (c : ℕ) → 48 ≤ c → is_inner c ≡ true
inner_digit c least = grind (arith, nat_tests)

plain_digits : (ds : List ℕ) → AllDigits 10 ds → is_plain ds ≡ true
plain_digits [] digits = refl
plain_digits (c ∷ cs) digits =
    ap (λ v. v && is_plain cs) (inner_digit c (omega (arith, digit_from_value c digits.0))) ∙ plain_digits cs digits.1

plain_decimal : (n : ℕ) → n < 2 ^ 64 → is_plain (decimal n) ≡ true
plain_decimal n fits = plain_digits (decimal n) (decimal_is_IsNumeral n fits).0.1

plain_month : (month : ℕ) → is_plain (month_text 2025 month) ≡ true
plain_month month =
    ap₂ (λ a b. a && (b && true)) (inner_digit (48 + month / 10) (omega arith))
    (inner_digit (48 + month % 10) (omega arith))

plain_day : (month : ℕ) → is_plain (day_text 2025 month 28) ≡ true
plain_day month =
    ap₂ (λ a b. a && (b && true)) (inner_digit (48 + month / 10) (omega arith))
    (inner_digit (48 + month % 10) (omega arith))

product_small : (employee month : ℕ) → employee ≤ 200 → month ≤ 12 → 1000 * employee * month ≤ 2400000
product_small employee month few most = grind arith

pub plain_add : (employee month : ℕ) → employee ≤ 200 → month ≤ 12 → is_plain (add_line employee month) ≡ true
plain_add employee month few most =
    let value = 100000 + 1000 * employee * month in
    let small : 1000 * employee * month ≤ 2400000 = product_small employee month few most in
    let head = codes "add E" ++ decimal employee in
    let to_month = (head ++ codes " ") ++ month_text 2025 month in
    let to_day = ((to_month ++ codes " ") ++ day_text 2025 month 28) ++ codes " RE4=" in
    let plain_head = both_plain (codes "add E") (decimal employee) refl (plain_decimal employee (omega arith)) in
    let plain_to_month = both_plain (head ++ codes " ") (month_text 2025 month) (both_plain head
    (codes " ") plain_head refl) (plain_month month) in
    let plain_to_day = both_plain ((to_month ++ codes " ") ++ day_text 2025 month 28) (codes " RE4=")
    (both_plain (to_month ++ codes " ") (day_text 2025 month 28) (both_plain to_month (codes " ") plain_to_month refl)
    (plain_day month)) refl in
    both_plain to_day (decimal value) plain_to_day (plain_decimal value (omega arith))

pub plain_change : (employee : ℕ) → employee ≤ 200 → is_plain (change_line employee) ≡ true
plain_change employee few =
    both_plain (codes "change E" ++ decimal employee) (codes " 2025-03 2025-03-28 RE4=50000")
    (both_plain (codes "change E") (decimal employee) refl (plain_decimal employee (omega arith))) refl

index_plain : (line : List ℕ) (k : ℕ) → is_plain line ≡ true → (slice_index line k == 13) ≡ false
index_plain [] k plain = refl
index_plain (b ∷ line) zero plain =
    elim (is_inner b) as (λ t. is_inner b ≡ t → (t && is_plain line) ≡ true → (b == 13) ≡ false) [
      | true ↦ λ inner _. grind (arith, nat_tests)
      | false ↦ λ _ no_line. cc
    ] refl plain
index_plain (b ∷ line) (suc k) plain =
    elim (is_inner b) as (λ t. (t && is_plain line) ≡ true → (slice_index line k == 13) ≡ false) [
      | true ↦ λ rest. index_plain line k rest
      | false ↦ λ no_line. cc
    ] plain

-- the lines of a script are those that it was made of
line_end : (line : List ℕ) → is_plain line ≡ true → strip_carriage_return line ≡ line
line_end line plain =
    ap (λ (t : Bool). if t then take (length line - 1) line else line) (index_plain line (length line - 1) plain)

inner_no_lf : (line : List ℕ) → is_plain line ≡ true → All (λ b. (b == 10) ≡ false) line
inner_no_lf [] plain = All-nil (λ b. (b == 10) ≡ false)
inner_no_lf (b ∷ line) plain =
    elim (is_inner b) as (λ t. is_inner b ≡ t → (t && is_plain line) ≡ true → All (λ v. (v == 10) ≡ false)
    (b ∷ line)) [
      | true ↦ λ inner rest. All-cons (λ v. (v == 10) ≡ false) b line (grind (arith, nat_tests))
          (inner_no_lf line rest)
      | false ↦ λ _ no_line. cc
    ] refl plain

one_more : (line rest : List ℕ) → is_plain line ≡ true → lines_of ((line ++ 10 ∷ []) ++ rest) ≡ line ∷ lines_of rest
one_more line rest plain =
    ap (λ v. lines_of v) (append_assoc line (10 ∷ []) rest)
    ∙ ap (λ v. lines_of_parts v) (slice_split_at (λ b. b == 10) line 10 rest (inner_no_lf line plain) refl)
    ∙ lines_after line rest ∙ ap (λ v. v ∷ lines_of rest) (line_end line plain)

pub lines_of-script : (lines : List (List ℕ)) → list_all is_plain lines ≡ true → lines_of (script_of lines) ≡ lines
lines_of-script [] plain = refl
lines_of-script (line ∷ lines) plain =
    elim (is_plain line) as (λ t. is_plain line ≡ t → (t && list_all is_plain lines) ≡ true →
    lines_of (script_of (line ∷ lines)) ≡ line ∷ lines) [
      | true ↦ λ this rest. one_more line (script_of lines) this ∙ ap (λ v. line ∷ v) (lines_of-script lines rest)
      | false ↦ λ _ no_lines. cc
    ] refl plain

plain_numbers : (line_of : ℕ → List ℕ) (n most : ℕ) → n ≤ most → ((k : ℕ) → k ≤ most → is_plain (line_of k) ≡ true) →
    list_all is_plain (map line_of (numbers n)) ≡ true
plain_numbers line_of zero most within each = refl
plain_numbers line_of (suc n) most within each =
    ap (λ v. list_all is_plain v) (map-append line_of (numbers n) (suc n ∷ []))
    ∙ list_all-append is_plain (map line_of (numbers n)) (line_of (suc n) ∷ [])
    ∙ ap (λ v. v && (is_plain (line_of (suc n)) && true)) (plain_numbers line_of n most (omega arith) each)
    ∙ ap (λ v. v && true) (each (suc n) within)

plain_years : (n : ℕ) → n ≤ 200 → list_all is_plain (flat_map year_lines (numbers n)) ≡ true
plain_years zero few = refl
plain_years (suc n) few =
    ap (λ v. list_all is_plain v) (flat_map-append year_lines (numbers n) (suc n ∷ []) ∙ ap (λ v. flat_map year_lines
    (numbers n) ++ v) (append-nil (year_lines (suc n))))
    ∙ list_all-append is_plain (flat_map year_lines (numbers n)) (year_lines (suc n))
    ∙ ap (λ v. v && list_all is_plain (year_lines (suc n))) (plain_years n (omega arith))
    ∙ plain_numbers (λ month. add_line (suc n) month) 12 12 (omega arith) (λ month most. plain_add
    (suc n) month few most)

-- the lines of the script of a sample
pub lines_of-sample : (employees : ℕ) → employees ≤ 200 → lines_of (script_of (sample_lines employees))
    ≡ sample_lines employees
lines_of-sample employees few =
    let years = flat_map year_lines (numbers employees) in
    let changes = map change_line (numbers employees) in
    lines_of-script (sample_lines employees)
    (list_all-append is_plain years (changes ++ codes "report" ∷ [])
    ∙ ap (λ v. v && list_all is_plain (changes ++ codes "report" ∷ [])) (plain_years employees few)
    ∙ list_all-append is_plain changes (codes "report" ∷ [])
    ∙ ap (λ v. v && true) (plain_numbers change_line employees 200 few (λ k within. plain_change k within)))

-- a script of short lines is short
short_script : (lines : List (List ℕ)) → All (λ line. length line ≤ 150) lines →
    length (script_of lines) ≤ 151 * length lines
short_script [] short = omega arith
short_script (line ∷ lines) short =
    let rest = short_script lines (All-tail (λ v. length v ≤ 150) line lines short) in
    let this = All-head (λ v. length v ≤ 150) line lines short in
    omega (arith, rest, this, length-append (line ++ 10 ∷ []) (script_of lines), length-append line (10 ∷ []))

both_short : (a b : List ℕ) (m n k : ℕ) → length a ≤ m → length b ≤ n → m + n ≤ k → length (a ++ b) ≤ k
both_short a b m n k p q fits = omega (arith, length-append a b)

short_number : (k n : ℕ) → 0 < k → n < 10 ^ k → n < 2 ^ 64 → length (decimal n) ≤ k
short_number k n some fits small = length-decimal-le k n some fits small

short_add : (employee month : ℕ) → employee ≤ 200 → month ≤ 12 → length (add_line employee month) ≤ 150
short_add employee month few most =
    let value = 100000 + 1000 * employee * month in
    let small : 1000 * employee * month ≤ 2400000 = product_small employee month few most in
    let head = codes "add E" ++ decimal employee in
    let to_month = (head ++ codes " ") ++ month_text 2025 month in
    let to_day = ((to_month ++ codes " ") ++ day_text 2025 month 28) ++ codes " RE4=" in
    let short_head = both_short (codes "add E") (decimal employee) 5 3 8 (omega arith) (short_number 3 employee
    (omega arith) (omega arith) (omega arith)) (omega arith) in
    let short_to_month = both_short (head ++ codes " ") (month_text 2025 month) 9 7 16 (both_short head
    (codes " ") 8 1 9 short_head (omega arith) (omega arith)) (omega arith) (omega arith) in
    let short_to_day = both_short ((to_month ++ codes " ") ++ day_text 2025 month 28) (codes " RE4=") 27 5 36
    (both_short (to_month ++ codes " ") (day_text 2025 month 28) 17 10 27 (both_short to_month
    (codes " ") 16 1 17 short_to_month (omega arith) (omega arith)) (omega arith) (omega arith))
    (omega arith) (omega arith) in
    both_short to_day (decimal value) 36 7 150 short_to_day (short_number 7 value (omega arith) (omega arith)
    (omega arith)) (omega arith)

short_change : (employee : ℕ) → employee ≤ 200 → length (change_line employee) ≤ 150
short_change employee few =
    both_short (codes "change E" ++ decimal employee) (codes " 2025-03 2025-03-28 RE4=50000") 11 40 150
    (both_short (codes "change E") (decimal employee) 8 3 11 (omega arith) (short_number 3 employee (omega arith)
    (omega arith) (omega arith)) (omega arith)) (omega arith) (omega arith)

-- what holds of each of these lines
pub each_number : (P : List ℕ → Type 0) (line_of : ℕ → List ℕ) (n most : ℕ) → n ≤ most → ((k : ℕ) → k ≤ most →
    P (line_of k)) → All P (map line_of (numbers n))
each_number P line_of zero most within each = All-nil P
each_number P line_of (suc n) most within each =
    subst (λ v. All P v) (sym (map-append line_of (numbers n) (suc n ∷ [])))
    (All-append P (map line_of (numbers n)) (line_of (suc n) ∷ []) (each_number P line_of n most (omega arith) each)
    (All-cons P (line_of (suc n)) [] (each (suc n) within) (All-nil P)))

year_after : (n : ℕ) → flat_map year_lines (numbers (suc n)) ≡ flat_map year_lines (numbers n) ++ year_lines (suc n)
year_after n = flat_map-append year_lines (numbers n) (suc n ∷ []) ∙ ap (λ v. flat_map year_lines (numbers n) ++ v)
    (append-nil (year_lines (suc n)))

pub each_year : (P : List ℕ → Type 0) (n : ℕ) → n ≤ 200 → ((employee month : ℕ) → employee ≤ 200 → month ≤ 12 →
    P (add_line employee month)) → All P (flat_map year_lines (numbers n))
each_year P zero few each = All-nil P
each_year P (suc n) few each =
    subst (λ v. All P v) (sym (year_after n))
    (All-append P (flat_map year_lines (numbers n)) (year_lines (suc n)) (each_year P n (omega arith) each)
    (each_number P (λ month. add_line (suc n) month) 12 12 (omega arith) (λ month most. each (suc n) month few most)))

-- what holds of each line of a sample
pub each_line : (P : List ℕ → Type 0) (employees : ℕ) → employees ≤ 200 → P (codes "plan 2025-01-01 p2.xml l2.toml") →
    ((employee month : ℕ) → employee ≤ 200 → month ≤ 12 → P (add_line employee month)) →
    ((employee : ℕ) → employee ≤ 200 → P (change_line employee)) → P (codes "report") → All P (sample_lines employees)
each_line P employees few plan adds changes report =
    let years = flat_map year_lines (numbers employees) in
    let corrections = map change_line (numbers employees) in
    All-cons P (codes "plan 2025-01-01 p2.xml l2.toml") (years ++ (corrections ++ codes "report" ∷ [])) plan
    (All-append P years (corrections ++ codes "report" ∷ []) (each_year P employees few adds)
    (All-append P corrections (codes "report" ∷ []) (each_number P change_line employees 200 few
    (λ k within. changes k within)) (All-cons P (codes "report") [] report (All-nil P))))

length-numbers : (n : ℕ) → length (numbers n) ≡ n
length-numbers zero = refl
length-numbers (suc n) = omega (arith, length-numbers n, length-append (numbers n) (suc n ∷ []))

length-year : (employee : ℕ) → length (year_lines employee) ≡ 12
length-year employee = refl

length-years : (n : ℕ) → length (flat_map year_lines (numbers n)) ≡ 12 * n
length-years zero = refl
length-years (suc n) =
    omega (
      arith,
      length-years n,
      ap (λ v. length v) (year_after n),
      length-append (flat_map year_lines (numbers n))
          (year_lines (suc n)),
      length-year (suc n),
    )

count_fits : (size lines employees : ℕ) → employees ≤ 200 → size ≤ 151 * lines → lines ≡ 13 * employees + 2 →
    size ≤ most_script
count_fits size lines employees few short count = omega arith

-- the number of a sample's lines
pub length-sample : (employees : ℕ) → length (sample_lines employees) ≡ 13 * employees + 2
length-sample employees =
    let years = flat_map year_lines (numbers employees) in
    let changes = map change_line (numbers employees) in
    omega (
      arith,
      length-append years (changes ++ codes "report" ∷ []),
      length-append changes
          (codes "report" ∷ []),
      length-years employees,
      length-numbers employees,
      length-map
          (numbers employees) change_line,
    )

pub short_sample : (employees : ℕ) → employees ≤ 200 → length (script_of (sample_lines employees)) ≤ most_script
short_sample employees few =
    let short = short_script (sample_lines employees) (each_line (λ v. length v ≤ 150) employees few (omega arith)
    (λ employee month e m. short_add employee month e m) (λ employee e. short_change employee e) (omega arith)) in
    count_fits (length (script_of (sample_lines employees))) (length (sample_lines employees)) employees few short
    (length-sample employees)

-- ---- the script as bytes

-- bytes that are a script whose lines name files that are there
pub there_in : (files : FileMap) (bytes script : List ℕ) (lines : List (List ℕ)) → bytes ≡ script → lines_of script ≡ lines →
    All (λ line. AreThere files line) lines → All (λ line. AreThere files line) (lines_of bytes)
there_in files bytes script lines same cut there =
    subst (λ ls. All (λ line. AreThere files line) ls) (sym (ap (λ b. lines_of b) same ∙ cut)) there
