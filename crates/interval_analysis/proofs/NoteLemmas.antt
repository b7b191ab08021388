-- Ranges by number: what is noted of their changes, and what takes them back.
use Rattle.std.proofs.Common.{◌≡◌, ℕ, zero, suc, ◌+◌, ◌<◌, ◌≤◌, List, [], ◌∷◌, ◌++◌, length, take, drop, set, get_or, Option, Some, None, refl, sym, ap, ◌∙◌, subst, arith, add-one, append_assoc}
use Rattle.std.proofs.Math.Seq.{drop-cons}
use Rattle.std.specs.Prelude.{slice_get}
use Rattle.std.proofs.lemmas.List.{length-set, set-set, set_past, append-nil, take_more, drop-append-le}
use Rattle.interval_num.specs.Intervals.{Interval, IsKeptInterval}
use Rattle.interval_analysis.specs.declared.branches.Change.{Change}
use Rattle.interval_analysis.specs.declared.variables.Variables.{Variables}
use Rattle.interval_analysis.specs.private.Changes.{AreKept, changed}
use Rattle.interval_analysis.specs.private.Notes.{IsNoted, IsTold, AreOwn, taken_back, range_there, own_ranges, numbered}

-- ---- one range

pub within_of : {X : Type 0} (rs : List X) (n : ℕ) (v : X) → slice_get rs n ≡ Some v → n < length rs
within_of [] n v h = absurd (cc)
within_of (r ∷ rs) zero v h = omega arith
within_of (r ∷ rs) (suc n) v h = let less = within_of rs n v h in omega (arith, less)

pub past_of : (rs : List Interval) (n : ℕ) → slice_get rs n ≡ None → length rs ≤ n
past_of [] n h = omega arith
past_of (r ∷ rs) zero h = absurd (cc)
past_of (r ∷ rs) (suc n) h = let more = past_of rs n h in omega (arith, more)

pub set_own : (rs : List Interval) (n : ℕ) (v : Interval) → slice_get rs n ≡ Some v → set rs n v ≡ rs
set_own [] n v h = refl
set_own (r ∷ rs) zero v h = let same : r ≡ v = cc in ap (λ a. a ∷ rs) (sym same)
set_own (r ∷ rs) (suc n) v h = ap (λ l. r ∷ l) (set_own rs n v h)

-- two settings, in either order
pub set_both : (rs : List Interval) (n m : ℕ) (v w : Interval) → (n ≡ m → v ≡ w) → set (set rs n v) m w ≡ set (set rs m w) n v
set_both [] n m v w h = refl
set_both (r ∷ rs) zero zero v w h = ap (λ a. a ∷ rs) (sym (h refl))
set_both (r ∷ rs) zero (suc m) v w h = refl
set_both (r ∷ rs) (suc n) zero v w h = refl
set_both (r ∷ rs) (suc n) (suc m) v w h = ap (λ l. r ∷ l) (set_both rs n m v w (λ same. h (ap suc same)))

pub kept_set : (rs : List Interval) (n : ℕ) (a : Interval) → AreKept rs → IsKeptInterval a → AreKept (set rs n a)
kept_set [] n a h k = tt
kept_set (r ∷ rs) zero a h k = (k, h.1)
kept_set (r ∷ rs) (suc n) a h k = (h.0, kept_set rs n a h.1 k)

-- ---- ranges that variables have

same_value : (rs : List Interval) (n m : ℕ) (v w : Interval) → slice_get rs n ≡ Some v → slice_get rs m ≡ Some w → n ≡ m → v ≡ w
same_value rs n m v w h k same =
    let there : Some v ≡ Some w = sym h ∙ ap (slice_get rs) same ∙ k in
    cc

-- a variable's own range may be put first or last
pub own_first : (rs xs : List Interval) (n : ℕ) (v : Interval) (cs : List Change) → slice_get rs n ≡ Some v → changed (set xs n v) (own_ranges rs cs) ≡ set (changed xs (own_ranges rs cs)) n v
own_first rs xs n v [] h = refl
own_first rs xs n v (c ∷ cs) h = by (λ ys. own_first rs ys n v cs h) (slice_get rs c.number) refl
  where
    by : ((ys : List Interval) → changed (set ys n v) (own_ranges rs cs) ≡ set (changed ys (own_ranges rs cs)) n v) → (o : Option Interval) → slice_get rs c.number ≡ o
        → changed (set xs n v) (range_there c.number o ++ own_ranges rs cs) ≡ set (changed xs (range_there c.number o ++ own_ranges rs cs)) n v
    by on None e = on xs
    by on (Some w) e =
        ap (λ ys. changed ys (own_ranges rs cs)) (set_both xs n c.number v w (same_value rs n c.number v w h e))
        ∙ on (set xs c.number w)

-- own ranges change nothing
pub own_stay : (rs : List Interval) (cs : List Change) → changed rs (own_ranges rs cs) ≡ rs
own_stay rs [] = refl
own_stay rs (c ∷ cs) = by (own_stay rs cs) (slice_get rs c.number) refl
  where
    by : changed rs (own_ranges rs cs) ≡ rs → (o : Option Interval) → slice_get rs c.number ≡ o → changed rs (range_there c.number o ++ own_ranges rs cs) ≡ rs
    by on None e = on
    by on (Some v) e = ap (λ ys. changed ys (own_ranges rs cs)) (set_own rs c.number v e) ∙ on

pub own_own : (rs : List Interval) (cs : List Change) → AreOwn rs (own_ranges rs cs)
own_own rs [] = tt
own_own rs (c ∷ cs) = by (own_own rs cs) (slice_get rs c.number) refl
  where
    by : AreOwn rs (own_ranges rs cs) → (o : Option Interval) → slice_get rs c.number ≡ o → AreOwn rs (range_there c.number o ++ own_ranges rs cs)
    by on None e = on
    by on (Some v) e = (e, on)

pub own_same : (rs : List Interval) (cs : List Change) → AreOwn rs cs → own_ranges rs cs ≡ cs
own_same rs [] h = refl
own_same rs (c ∷ cs) h =
    ap (λ o. range_there c.number o ++ own_ranges rs cs) h.0
    ∙ ap (λ l. c ∷ l) (own_same rs cs h.1)

-- ---- notes

pub length-taken_back : (rs : List Interval) (cs : List Change) → length (taken_back rs cs) ≡ length rs
length-taken_back rs [] = refl
length-taken_back rs (c ∷ cs) = length-set (taken_back rs cs) c.number c.range ∙ length-taken_back rs cs

pub taken_back-append : (rs : List Interval) (cs ds : List Change) → taken_back rs (cs ++ ds) ≡ taken_back (taken_back rs ds) cs
taken_back-append rs [] ds = refl
taken_back-append rs (c ∷ cs) ds = ap (λ ys. set ys c.number c.range) (taken_back-append rs cs ds)

-- what was taken back is made again by the ranges that the variables had
pub made_again : (rs : List Interval) (cs : List Change) → changed (taken_back rs cs) (own_ranges rs cs) ≡ rs
made_again rs [] = refl
made_again rs (c ∷ cs) = by (made_again rs cs) (slice_get rs c.number) refl
  where
    before : List Interval
    before = taken_back rs cs

    by : changed before (own_ranges rs cs) ≡ rs → (o : Option Interval) → slice_get rs c.number ≡ o → changed (set before c.number c.range) (range_there c.number o ++ own_ranges rs cs) ≡ rs
    by on None e =
        let past = past_of rs c.number e in
        let count = length-taken_back rs cs in
        ap (λ ys. changed ys (own_ranges rs cs)) (set_past before c.number c.range (omega (arith, past, count)))
        ∙ on
    by on (Some v) e =
        ap (λ ys. changed ys (own_ranges rs cs)) (set-set before c.number c.range v)
        ∙ own_first rs before c.number v cs e
        ∙ ap (λ ys. set ys c.number v) on
        ∙ set_own rs c.number v e

pub told_noted : (rs : List Interval) (cs : List Change) → IsTold (taken_back rs cs) rs (own_ranges rs cs)
told_noted rs cs = record { whole = made_again rs cs; own = own_own rs cs }

pub noted_none : (v : Variables) → IsNoted v v
noted_none v = record { more = []; grown = sym (append-nil v.notes.items); back = refl }

pub noted_then : (a b c : Variables) → IsNoted a b → IsNoted b c → IsNoted a c
noted_then a b c h k = record {
  more = h.more ++ k.more;
  grown = k.grown ∙ ap (λ l. l ++ k.more) h.grown ∙ append_assoc a.notes.items h.more k.more;
  back = taken_back-append c.ranges.items h.more k.more ∙ ap (λ ys. taken_back ys h.more) k.back ∙ h.back;
}

pub noted_put : (was now : Variables) (n : ℕ) (a r : Interval) → slice_get was.ranges.items n ≡ Some r → now.ranges.items ≡ set was.ranges.items n a → now.notes.items ≡ was.notes.items ++ (record { number = n; range = r } ∷ []) → IsNoted was now
noted_put was now n a r there ranges notes = record {
  more = record { number = n; range = r } ∷ [];
  grown = notes;
  back = ap (λ ys. set ys n r) ranges ∙ set-set was.ranges.items n a r ∙ set_own was.ranges.items n r there;
}

pub noted_length : (was now : Variables) → IsNoted was now → length now.ranges.items ≡ length was.ranges.items
noted_length was now h = sym (length-taken_back now.ranges.items h.more) ∙ ap length h.back

front_of : {X : Type 0} (xs ys : List X) → take (length xs) (xs ++ ys) ≡ xs
front_of [] ys = refl
front_of (x ∷ xs) ys = ap (λ l. x ∷ l) (front_of xs ys)

rest_of : {X : Type 0} (xs ys : List X) → drop (length xs) (xs ++ ys) ≡ ys
rest_of [] ys = refl
rest_of (x ∷ xs) ys = rest_of xs ys

-- what is noted since is taken back
pub since : (was now : Variables) (mark : ℕ) → mark ≡ length was.notes.items → IsNoted was now → taken_back now.ranges.items (drop mark now.notes.items) ≡ was.ranges.items
since was now mark e h =
    ap (λ n. taken_back now.ranges.items (drop n now.notes.items)) e
    ∙ ap (λ l. taken_back now.ranges.items (drop (length was.notes.items) l)) h.grown
    ∙ ap (taken_back now.ranges.items) (rest_of was.notes.items h.more)
    ∙ h.back

pub notes_before : (was now : Variables) (mark : ℕ) → mark ≡ length was.notes.items → IsNoted was now → take mark now.notes.items ≡ was.notes.items
notes_before was now mark e h =
    ap (λ n. take n now.notes.items) e
    ∙ ap (take (length was.notes.items)) h.grown
    ∙ front_of was.notes.items h.more

-- with as many notes as before, and the ranges as they were
pub noted_same : (was now : Variables) → now.ranges.items ≡ was.ranges.items → now.notes.items ≡ was.notes.items → IsNoted was now
noted_same was now ranges notes = record { more = []; grown = notes ∙ sym (append-nil was.notes.items); back = ranges }

-- ---- all ranges

set_mid : (front : List Interval) (x r : Interval) (xs : List Interval) → set (front ++ (x ∷ xs)) (length front) r ≡ (front ++ (r ∷ [])) ++ xs
set_mid [] x r xs = refl
set_mid (f ∷ fs) x r xs = ap (λ l. f ∷ l) (set_mid fs x r xs)

longer : (front : List Interval) (r : Interval) → suc (length front) ≡ length (front ++ (r ∷ []))
longer [] r = refl
longer (f ∷ fs) r = ap suc (longer fs r)

all_from : (front xs rs : List Interval) → length xs ≡ length rs → changed (front ++ xs) (numbered (length front) rs) ≡ front ++ rs
all_from front [] [] e = refl
all_from front [] (r ∷ rs) e = absurd (omega (arith, e))
all_from front (x ∷ xs) [] e = absurd (omega (arith, e))
all_from front (x ∷ xs) (r ∷ rs) e =
    ap (λ ys. changed ys (numbered (suc (length front)) rs)) (set_mid front x r xs)
    ∙ ap (λ n. changed ((front ++ (r ∷ [])) ++ xs) (numbered n rs)) (longer front r)
    ∙ all_from (front ++ (r ∷ [])) xs rs (omega (arith, e))
    ∙ append_assoc front (r ∷ []) rs

mid_there : (front : List Interval) (r : Interval) (rs : List Interval) → slice_get (front ++ (r ∷ rs)) (length front) ≡ Some r
mid_there [] r rs = refl
mid_there (f ∷ fs) r rs = mid_there fs r rs

own_from : (front rs : List Interval) → AreOwn (front ++ rs) (numbered (length front) rs)
own_from front [] = tt
own_from front (r ∷ rs) = (
  mid_there front r rs,
  subst (λ n. AreOwn (front ++ (r ∷ rs)) (numbered n rs)) (sym (longer front r))
      (subst (λ ys. AreOwn ys (numbered (length (front ++ (r ∷ []))) rs)) (append_assoc front (r ∷ []) rs) (own_from (front ++ (r ∷ [])) rs)),
)

pub told_all : (was now : List Interval) → length was ≡ length now → IsTold was now (numbered 0 now)
told_all was now e = record { whole = all_from [] was now e; own = own_from [] now }

-- ---- turns of loops

pub drop_there : (cs : List Change) (i : ℕ) (c : Change) → i < length cs → c ≡ get_or cs i c → drop i cs ≡ c ∷ drop (i + 1) cs
drop_there cs i c l is = drop-cons cs i c l ∙ ap (λ x. x ∷ drop (suc i) cs) (sym is) ∙ rw add-one refl

pub own_more : (rs : List Interval) (cs : List Change) (i : ℕ) (c : Change) (o : Option Interval) → i < length cs → c ≡ get_or cs i c → slice_get rs c.number ≡ o → own_ranges rs (drop i cs) ≡ range_there c.number o ++ own_ranges rs (drop (i + 1) cs)
own_more rs cs i c o l is e = ap (own_ranges rs) (drop_there cs i c l is) ∙ ap (λ p. range_there c.number p ++ own_ranges rs (drop (i + 1) cs)) e

pub kept_none : (rs : List Interval) → AreKept (take 0 rs)
kept_none rs = tt

kept_append : (rs ss : List Interval) → AreKept rs → AreKept ss → AreKept (rs ++ ss)
kept_append [] ss h k = k
kept_append (r ∷ rs) ss h k = (h.0, kept_append rs ss h.1 k)

pub kept_more : (rs : List Interval) (i : ℕ) (r : Interval) → i < length rs → r ≡ get_or rs i r → AreKept (take i rs) → IsKeptInterval r → AreKept (take (i + 1) rs)
kept_more rs i r l is h k =
    subst AreKept (sym (take_more rs i r l ∙ ap (λ x. take i rs ++ (x ∷ [])) (sym is))) (kept_append (take i rs) (r ∷ []) h (k, tt))

-- the last note is taken back
pub taken_last : (rs : List Interval) (mark : ℕ) (cs front : List Change) (c : Change) → cs ≡ front ++ (c ∷ []) → mark ≤ length front → taken_back (set rs c.number c.range) (drop mark front) ≡ taken_back rs (drop mark cs)
taken_last rs mark cs front c is l =
    sym (ap (λ l. taken_back rs (drop mark l)) is
    ∙ ap (taken_back rs) (drop-append-le mark front (c ∷ []) l)
    ∙ taken_back-append rs (drop mark front) (c ∷ []))
