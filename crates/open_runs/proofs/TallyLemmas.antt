-- What is counted row by row is what the definition says of all rows.
use Rattle.std.proofs.Common.{◌≡◌, ◌∙◌, ◌<◌, ◌≤◌, ℕ, ◌+◌, ◌-◌, ◌^◌, min, zero, suc, List, [], ◌∷◌, ◌++◌, Bool, true, false, not, ◌||◌, ◌&&◌, cond, if◌then◌else◌, length, map, take, drop, get_or, lit≤, refl, ap, sym, subst, arith, add-one, append_assoc, length-append}
use Rattle.std.specs.Prelude.{count_by, fold, set, nat_lt, Option, Some, None}
use Rattle.std.specs.List.{cons_option, filter_map, list_any}
use Rattle.std.specs.Option.{option_map}
use Rattle.std.proofs.lemmas.Bool.{ltb-true}
use Rattle.std.proofs.lemmas.Bool.Decides.{nat_tests}
use Rattle.std.proofs.lemmas.List.{append-nil, length-map, length-take, map-append, take-append-le, take_all}
use Rattle.std.proofs.lemmas.List.Elements.{filter_map-append}
use Rattle.std.proofs.lemmas.List.Sums.{count_by-le-length}
use Rattle.payroll_records.specs.declared.record.Key.{Key}
use Rattle.recalc_engine.specs.MonthRows.{KeyedRow}
use Rattle.open_runs.specs.declared.cause.Cause.{Cause}
use Rattle.open_runs.specs.declared.tally.CauseCount.{CauseCount}
use Rattle.open_runs.specs.OpenRuns.{Counted, OpenRun, cause_count, counted_of, firsts, has_cause, most_causes, open_cause, open_run, open_runs}
use Rattle.open_runs.specs.private.Tallies.{counted_row, counted_run, is_left_out, is_of, new_count, one_higher, one_more, raised_by, stands, tally_of, with_cause}
use Rattle.open_runs.proofs.CauseLemmas.{same_itself, same_turned}
use Rattle.open_runs.proofs.FirstLemmas.{any_firsts, count_next, firsts_next, new_run, none_counted as none_found}

-- there is room for one run more in 64 bits
abbrev IsFew : ℕ → Type 0
IsFew n = n < 2 ^ 64 - 1

-- ---- one cause

raise_at : (runs : List OpenRun) (first next : OpenRun) (b : Bool) → IsFew (length runs) →
    has_cause first.cause next ≡ b → count_by (has_cause first.cause) (runs ++ next ∷ []) ≡ count_by (has_cause first.cause) runs + cond b 1 0 →
    is_of next.cause (cause_count runs first) ≡ b →
    cause_count (runs ++ next ∷ []) first ≡ raised_by next.cause (cause_count runs first)
raise_at runs first next true few has count is =
    let within : count_by (has_cause first.cause) runs ≤ length runs = count_by-le-length (has_cause first.cause) runs in
    let e : count_by (has_cause first.cause) (runs ++ next ∷ []) ≡ one_higher (count_by (has_cause first.cause) runs) = omega (arith, count, within, few) in
    ap (λ n. record { cause = first.cause; count = n; first = first.key }) e
    ∙ ap (λ v. cond v (one_more (cause_count runs first)) (cause_count runs first)) (sym is)
raise_at runs first next false few has count is =
    let e : count_by (has_cause first.cause) (runs ++ next ∷ []) ≡ count_by (has_cause first.cause) runs = omega (arith, count) in
    ap (λ n. record { cause = first.cause; count = n; first = first.key }) e
    ∙ ap (λ v. cond v (one_more (cause_count runs first)) (cause_count runs first)) (sym is)

-- the count of a cause with one run more
raise_next : (runs : List OpenRun) (first next : OpenRun) → IsFew (length runs) →
    cause_count (runs ++ next ∷ []) first ≡ raised_by next.cause (cause_count runs first)
raise_next runs first next few =
    raise_at runs first next (has_cause first.cause next) few refl (count_next (has_cause first.cause) runs next)
    (same_turned first.cause next.cause)

raise_each : (runs some : List OpenRun) (next : OpenRun) → IsFew (length runs) →
    map (raised_by next.cause) (map (cause_count runs) some) ≡ map (cause_count (runs ++ next ∷ [])) some
raise_each runs [] next few = refl
raise_each runs (first ∷ some) next few =
    ap (λ v. v ∷ map (raised_by next.cause) (map (cause_count runs) some)) (sym (raise_next runs first next few))
    ∙ ap (λ v. cause_count (runs ++ next ∷ []) first ∷ v) (raise_each runs some next few)

-- ---- all causes

less : (a b : ℕ) → nat_lt a b ≡ true → a < b
less a b h = ltb-true a b h

not_less : (a b : ℕ) → nat_lt a b ≡ false → b ≤ a
not_less a b h = grind (arith, nat_tests)

is_less : (a b : ℕ) → a < b → nat_lt a b ≡ true
is_less a b h = grind (arith, nat_tests)

-- less than a bound is less than it where the greater is cut off there
below_min : (most n : ℕ) → nat_lt (min most n) most ≡ nat_lt n most
below_min most n = grind (arith, nat_tests)

is_not_less : (a b : ℕ) → b ≤ a → nat_lt a b ≡ false
is_not_less a b h = grind (arith, nat_tests)

-- the causes that are named
abbrev named : List OpenRun → List CauseCount
named runs = map (cause_count runs) (take most_causes (firsts runs))

stands_among : (cause : Cause) (runs some : List OpenRun) →
    stands cause (map (cause_count runs) some) ≡ list_any (has_cause cause) some
stands_among cause runs [] = refl
stands_among cause runs (run ∷ some) = ap (λ v. has_cause cause run || v) (stands_among cause runs some)

length_named : (runs : List OpenRun) → length (named runs) ≡ min most_causes (length (firsts runs))
length_named runs = length-map (take most_causes (firsts runs)) (cause_count runs) ∙ length-take most_causes (firsts runs)

all_named : (runs : List OpenRun) → length (firsts runs) ≤ most_causes → take most_causes (firsts runs) ≡ firsts runs
all_named runs few = take_all most_causes (firsts runs) few

-- the count of a run whose cause comes first
first_counted : (runs : List OpenRun) (next : OpenRun) → list_any (has_cause next.cause) runs ≡ false →
    cause_count (runs ++ next ∷ []) next ≡ new_count next.cause next.key
first_counted runs next new =
    ap (λ n. record { cause = next.cause; count = n; first = next.key })
    (count_next (has_cause next.cause) runs next
    ∙ (ap (λ v. v + cond (has_cause next.cause next) 1 0) (none_found (has_cause next.cause) runs new)
    ∙ ap (λ v. 0 + cond v 1 0) (same_itself next.cause)))

-- the causes with one run more, where there is room for it or not and its cause is found or not
abbrev AreNext : List OpenRun → OpenRun → Bool → Bool → Type 0
AreNext runs next room found =
    map (raised_by next.cause) (named runs) ++ (if found || not room then [] else new_count next.cause next.key ∷ [])
    ≡ map (cause_count (runs ++ next ∷ [])) (take most_causes (firsts runs ++ new_run found next))

raise_named : (runs : List OpenRun) (next : OpenRun) → IsFew (length runs) →
    map (raised_by next.cause) (named runs) ≡ map (cause_count (runs ++ next ∷ [])) (take most_causes (firsts runs))
raise_named runs next few = raise_each runs (take most_causes (firsts runs)) next few

add_found : (runs : List OpenRun) (next : OpenRun) (room : Bool) → IsFew (length runs) → AreNext runs next room true
add_found runs next room few =
    append-nil (map (raised_by next.cause) (named runs))
    ∙ (raise_named runs next few
    ∙ ap (λ v. map (cause_count (runs ++ next ∷ [])) (take most_causes v)) (sym (append-nil (firsts runs))))

add_full : (runs : List OpenRun) (next : OpenRun) → IsFew (length runs) → most_causes ≤ length (firsts runs) → AreNext runs next false false
add_full runs next few full =
    append-nil (map (raised_by next.cause) (named runs))
    ∙ (raise_named runs next few
    ∙ ap (λ v. map (cause_count (runs ++ next ∷ [])) v) (sym (take-append-le most_causes (firsts runs) (next ∷ []) full)))

add_new : (runs : List OpenRun) (next : OpenRun) → IsFew (length runs) → length (firsts runs) < most_causes →
    list_any (has_cause next.cause) runs ≡ false → AreNext runs next true false
add_new runs next few room new =
    let first : length (firsts runs) ≤ most_causes = omega arith in
    let more : length (firsts runs ++ next ∷ []) ≤ most_causes = omega (arith, length-append (firsts runs) (next ∷ [])) in
    let counted = cause_count (runs ++ next ∷ []) in
    ap (λ v. v ++ new_count next.cause next.key ∷ []) (raise_named runs next few ∙ ap (λ v. map counted v) (all_named runs first))
    ∙ (ap (λ v. map counted (firsts runs) ++ v ∷ []) (sym (first_counted runs next new))
    ∙ (sym (map-append counted (firsts runs) (next ∷ []))
    ∙ ap (λ v. map counted v) (sym (take_all most_causes (firsts runs ++ next ∷ []) more))))

add_by : (runs : List OpenRun) (next : OpenRun) (room found : Bool) → IsFew (length runs) → nat_lt (length (firsts runs)) most_causes ≡ room →
    list_any (has_cause next.cause) runs ≡ found → AreNext runs next room found
add_by runs next room true few has is = add_found runs next room few
add_by runs next true false few has is = add_new runs next few (less (length (firsts runs)) most_causes has) is
add_by runs next false false few has is = add_full runs next few (not_less (length (firsts runs)) most_causes has)

or_true : (a : Bool) → a || true ≡ true
or_true true = refl
or_true false = refl

-- what stands among those that are named, where all are named
stands_found : (runs : List OpenRun) (cause : Cause) → length (firsts runs) ≤ most_causes →
    stands cause (named runs) ≡ list_any (has_cause cause) runs
stands_found runs cause few =
    stands_among cause runs (take most_causes (firsts runs))
    ∙ (ap (λ v. list_any (has_cause cause) v) (all_named runs few) ∙ any_firsts cause runs)

-- there is room among those that are named where there is among the first runs
room_named : (runs : List OpenRun) → nat_lt (length (named runs)) most_causes ≡ nat_lt (length (firsts runs)) most_causes
room_named runs = ap (λ n. nat_lt n most_causes) (length_named runs) ∙ below_min most_causes (length (firsts runs))

kept_out : (runs : List OpenRun) (cause : Cause) (room : Bool) → nat_lt (length (firsts runs)) most_causes ≡ room →
    (stands cause (named runs) || not room) ≡ (list_any (has_cause cause) runs || not room)
kept_out runs cause true has =
    let below = less (length (firsts runs)) most_causes has in
    let few : length (firsts runs) ≤ most_causes = omega arith in
    ap (λ v. v || false) (stands_found runs cause few)
kept_out runs cause false has = or_true (stands cause (named runs)) ∙ sym (or_true (list_any (has_cause cause) runs))

-- the causes with one run more
causes_next : (runs : List OpenRun) (next : OpenRun) → IsFew (length runs) →
    with_cause (named runs) next.cause next.key ≡ named (runs ++ next ∷ [])
causes_next runs next few =
    let room = nat_lt (length (firsts runs)) most_causes in
    let raised = map (raised_by next.cause) (named runs) in
    let add = λ (v : Bool). raised ++ (if v then [] else new_count next.cause next.key ∷ []) in
    ap (λ v. add (stands next.cause (named runs) || not v)) (room_named runs)
    ∙ (ap add (kept_out runs next.cause room refl)
    ∙ (add_by runs next room (list_any (has_cause next.cause) runs) few refl refl
    ∙ ap (λ v. map (cause_count (runs ++ next ∷ [])) (take most_causes v)) (sym (firsts_next runs next))))

-- ---- whether there are other causes

and_false : (a : Bool) → a && false ≡ false
and_false true = refl
and_false false = refl

one_at_most : (found : Bool) → cond found 0 1 ≤ 1
one_at_most true = lit≤ tt
one_at_most false = lit≤ tt

just_full : (n : ℕ) (found : Bool) → n ≡ most_causes → (not found && true) ≡ nat_lt most_causes (n + cond found 0 1)
just_full n true is = ap (λ v. nat_lt most_causes (v + 0)) (sym is)
just_full n false is = ap (λ v. nat_lt most_causes (v + 1)) (sym is)

others_at : (runs : List OpenRun) (cause : Cause) (room beyond : Bool) → nat_lt (length (firsts runs)) most_causes ≡ room →
    nat_lt most_causes (length (firsts runs)) ≡ beyond →
    (beyond || (not (stands cause (named runs)) && not room))
    ≡ nat_lt most_causes (length (firsts runs) + cond (list_any (has_cause cause) runs) 0 1)
others_at runs cause room true has is =
    let past = less most_causes (length (firsts runs)) is in
    sym (is_less most_causes (length (firsts runs) + cond (list_any (has_cause cause) runs) 0 1) (omega arith))
others_at runs cause true false has is =
    let below = less (length (firsts runs)) most_causes has in
    let one = one_at_most (list_any (has_cause cause) runs) in
    and_false (not (stands cause (named runs)))
    ∙ sym (is_not_less most_causes (length (firsts runs) + cond (list_any (has_cause cause) runs) 0 1) (omega arith))
others_at runs cause false false has is =
    let above = not_less (length (firsts runs)) most_causes has in
    let below = not_less most_causes (length (firsts runs)) is in
    ap (λ v. not v && true) (stands_found runs cause below)
    ∙ just_full (length (firsts runs)) (list_any (has_cause cause) runs) (omega arith)

length_new : (found : Bool) (next : OpenRun) → length (new_run found next) ≡ cond found 0 1
length_new true next = refl
length_new false next = refl

-- whether there are others with one run more
others_next : (runs : List OpenRun) (next : OpenRun) →
    (nat_lt most_causes (length (firsts runs)) || is_left_out next.cause (named runs))
    ≡ nat_lt most_causes (length (firsts (runs ++ next ∷ [])))
others_next runs next =
    let found = list_any (has_cause next.cause) runs in
    let beyond = nat_lt most_causes (length (firsts runs)) in
    ap (λ v. beyond || (not (stands next.cause (named runs)) && not v)) (room_named runs)
    ∙ (others_at runs next.cause (nat_lt (length (firsts runs)) most_causes) beyond refl refl
    ∙ ap (λ n. nat_lt most_causes n) (ap (λ n. length (firsts runs) + n) (sym (length_new found next))
    ∙ (sym (length-append (firsts runs) (new_run found next)) ∙ ap (λ v. length v) (sym (firsts_next runs next)))))

-- ---- rows

-- what is said of so many runs, of which these have no amounts
abbrev counted_open : ℕ → List OpenRun → Counted
counted_open runs open_ones = record {
  runs = runs;
  without = length open_ones;
  causes = named open_ones;
  others = nat_lt most_causes (length (firsts open_ones));
}

higher : (n : ℕ) → IsFew n → one_higher n ≡ n + 1
higher n few = omega (arith, few)

one_row_more : (rows : List KeyedRow) (row : KeyedRow) → IsFew (length rows) → one_higher (length rows) ≡ length (rows ++ row ∷ [])
one_row_more rows row few = higher (length rows) few ∙ sym (length-append rows (row ∷ []))

-- the run of a row in this state, in a list
abbrev open_row : Key → Option Cause → List OpenRun
open_row key None = []
open_row key (Some cause) = record { key = key; cause = cause } ∷ []

row_open : (key : Key) (state : Option Cause) →
    filter_map (λ (s : Option Cause). option_map (λ cause. record { key = key; cause = cause }) s) (state ∷ []) ≡ open_row key state
row_open key None = refl
row_open key (Some cause) = refl

open_next : (rows : List KeyedRow) (row : KeyedRow) (state : Option Cause) → open_cause row.state ≡ state →
    open_runs (rows ++ row ∷ []) ≡ open_runs rows ++ open_row row.key state
open_next rows row state is =
    filter_map-append open_run rows (row ∷ [])
    ∙ ap (λ v. open_runs rows ++ v) (row_open row.key (open_cause row.state) ∙ ap (λ v. open_row row.key v) is)

abbrev counts : ℕ → ℕ → List CauseCount → Bool → Counted
counts runs without causes others = record { runs = runs; without = without; causes = causes; others = others }

same_counts : (r w r' w' : ℕ) (c c' : List CauseCount) (o o' : Bool) → r ≡ r' → w ≡ w' → c ≡ c' → o ≡ o' →
    counts r w c o ≡ counts r' w' c' o'
same_counts r w r' w' c c' o o' a b d e = cc

at_end : (rows : List KeyedRow) (row : KeyedRow) (state : Option Cause) → IsFew (length rows) → length (open_runs rows) ≤ length rows →
    open_cause row.state ≡ state →
    counted_run (counted_of rows) row.key state ≡ counted_of (rows ++ row ∷ [])
at_end rows row None few within is =
    let e : open_runs (rows ++ row ∷ []) ≡ open_runs rows = open_next rows row None is ∙ append-nil (open_runs rows) in
    ap (λ n. counted_open n (open_runs rows)) (one_row_more rows row few)
    ∙ ap (λ v. counted_open (length (rows ++ row ∷ [])) v) (sym e)
at_end rows row (Some cause) few within is =
    let xs = open_runs rows in
    let next : OpenRun = record { key = row.key; cause = cause } in
    let some : IsFew (length (open_runs rows)) = omega arith in
    same_counts (one_higher (length rows)) (one_higher (length xs)) (length (rows ++ row ∷ [])) (length (xs ++ next ∷ []))
    (with_cause (named xs) cause row.key) (named (xs ++ next ∷ []))
    (nat_lt most_causes (length (firsts xs)) || is_left_out cause (named xs)) (nat_lt most_causes (length (firsts (xs ++ next ∷ []))))
    (one_row_more rows row few) (higher (length xs) some ∙ sym (length-append xs (next ∷ [])))
    (causes_next xs next some) (others_next xs next)
    ∙ ap (λ v. counted_open (length (rows ++ row ∷ [])) v) (sym (open_next rows row (Some cause) is))

fewer_cons : (row : KeyedRow) (rows : List KeyedRow) (state : Option OpenRun) → open_run row ≡ state →
    length (open_runs rows) ≤ length rows → length (open_runs (row ∷ rows)) ≤ length (row ∷ rows)
fewer_cons row rows None is h =
    let more : length (open_runs rows) ≤ suc (length rows) = omega (arith, h) in
    subst (λ v. length (cons_option v (open_runs rows)) ≤ suc (length rows)) (sym is) more
fewer_cons row rows (Some run) is h =
    let more : suc (length (open_runs rows)) ≤ suc (length rows) = omega (arith, h) in
    subst (λ v. length (cons_option v (open_runs rows)) ≤ suc (length rows)) (sym is) more

-- no more runs have no amounts than there are
fewer : (rows : List KeyedRow) → length (open_runs rows) ≤ length rows
fewer [] = lit≤ tt
fewer (row ∷ rows) = fewer_cons row rows (open_run row) refl (fewer rows)

from_done : (done rest : List KeyedRow) → IsFew (length (done ++ rest)) →
    fold counted_row (counted_of done) rest ≡ counted_of (done ++ rest)
from_done done [] few = ap (λ v. counted_of v) (sym (append-nil done))
from_done done (row ∷ rest) few =
    let whole : (done ++ row ∷ []) ++ rest ≡ done ++ row ∷ rest = append_assoc done (row ∷ []) rest in
    let some : IsFew (length done) = omega (arith, length-append done (row ∷ rest)) in
    let more : IsFew (length ((done ++ row ∷ []) ++ rest)) = subst (λ v. IsFew (length v)) (sym whole) few in
    ap (λ v. fold counted_row v rest) (at_end done row (open_cause row.state) some (fewer done) refl)
    ∙ (from_done (done ++ row ∷ []) rest more ∙ ap (λ v. counted_of v) whole)

-- what is counted row by row is what is said of all
pub counted_all : (rows : List KeyedRow) → length rows < 2 ^ 64 - 1 → tally_of rows ≡ counted_of rows
counted_all rows few = from_done [] rows few

-- ---- loops

-- with the rows that are left it is what all rows come to
abbrev pub IsUnderway : List KeyedRow → List KeyedRow → Counted → Type 0
IsUnderway rows rest so_far = fold counted_row so_far rest ≡ tally_of rows

-- where none is left, it is that
pub none_left : (rows rest : List KeyedRow) (so_far : Counted) → rest ≡ [] → IsUnderway rows rest so_far → so_far ≡ tally_of rows
none_left rows rest so_far none h = sym (ap (λ r. fold counted_row so_far r) none) ∙ h

or_false : (b : Bool) → b || false ≡ b
or_false true = refl
or_false false = refl

or_both : (a b c : Bool) → a || (b || c) ≡ (a || b) || c
or_both true b c = refl
or_both false b c = refl

set_at : {X : Type 0} (f : X → X) (xs : List X) (i : ℕ) (d : X) → i < length xs →
    set (map f (take i xs) ++ drop i xs) i (f (get_or xs i d)) ≡ map f (take (suc i) xs) ++ drop (suc i) xs
set_at f [] i d lt = absurd (omega arith)
set_at f (x ∷ xs) zero d lt = refl
set_at f (x ∷ xs) (suc i) d lt = ap (λ v. f x ∷ v) (set_at f xs i d (omega arith))

get_at : {X : Type 0} (f : X → X) (xs : List X) (i : ℕ) (d : X) → i < length xs →
    get_or (map f (take i xs) ++ drop i xs) i d ≡ get_or xs i d
get_at f [] i d lt = absurd (omega arith)
get_at f (x ∷ xs) zero d lt = refl
get_at f (x ∷ xs) (suc i) d lt = get_at f xs i d (omega arith)

any_at : {X : Type 0} (p : X → Bool) (xs : List X) (i : ℕ) (d : X) → i < length xs →
    list_any p (take (suc i) xs) ≡ (list_any p (take i xs) || p (get_or xs i d))
any_at p [] i d lt = absurd (omega arith)
any_at p (x ∷ xs) zero d lt = or_false (p x)
any_at p (x ∷ xs) (suc i) d lt = ap (λ v. p x || v) (any_at p xs i d (omega arith)) ∙ or_both (p x) _ _

-- the element at which a list is changed, where those before it are changed already
pub at_next : {X : Type 0} (f : X → X) (xs now : List X) (i : ℕ) (x : X) → i < length xs →
    now ≡ map f (take i xs) ++ drop i xs → x ≡ get_or now i x → x ≡ get_or xs i x
at_next f xs now i x lt is at = at ∙ (ap (λ v. get_or v i x) is ∙ get_at f xs i x lt)

-- the elements so far were changed, and the next one is
pub set_next : {X : Type 0} (f : X → X) (xs now : List X) (i : ℕ) (x next : X) → i < length xs →
    now ≡ map f (take i xs) ++ drop i xs → x ≡ get_or xs i x → next ≡ f x →
    set now i next ≡ map f (take (i + 1) xs) ++ drop (i + 1) xs
set_next f xs now i x next lt is at changed =
    rw add-one (ap (λ v. set now i v) (changed ∙ ap (λ v. f v) at)
    ∙ (ap (λ v. set v i (f (get_or xs i x))) is ∙ set_at f xs i x lt))

-- one of the elements so far passes, or the next one does
pub any_next : {X : Type 0} (p : X → Bool) (xs : List X) (i : ℕ) (x : X) (so_far : Bool) → i < length xs →
    so_far ≡ list_any p (take i xs) → x ≡ get_or xs i x → (so_far || p x) ≡ list_any p (take (i + 1) xs)
any_next p xs i x so_far lt is at =
    rw add-one (ap (λ v. v || p x) is ∙ (ap (λ v. list_any p (take i xs) || p v) at ∙ sym (any_at p xs i x lt)))
