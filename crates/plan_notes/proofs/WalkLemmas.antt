-- Starts among marks, counted from the first on.
use Rattle.std.proofs.Common.{◌≡◌, ℕ, zero, suc, ◌+◌, ◌-◌, ◌≤◌, Bool, true, false, cond, not, ◌||◌, Some, None, List, [], ◌∷◌, drop, refl, sym, ap, subst, ◌∙◌, arith}
use Rattle.std.specs.Prelude.{filter, find, slice_get, option_map}
use Rattle.std.specs.List.{list_any, after_first, prefix_len}
use Rattle.std.proofs.lemmas.List.{drop-drop}
use Rattle.plan_notes.specs.declared.tag.Mark.{Mark}
use Rattle.plan_notes.specs.declared.tag.Starts.{Starts}
use Rattle.plan_notes.specs.Walks.{is_start, start_byte, behind_start, behind_starts}

-- what stands behind the first that passes: where that is the one in front, and where it isn't
pub after_here : (p : Mark → Bool) (m : Mark) (ms : List Mark) → p m ≡ true → after_first p (m ∷ ms) ≡ ms
after_here p m ms e = ap (λ b. drop (cond (not b) (1 + prefix_len (λ x. not (p x)) ms) 0 + 1) (m ∷ ms)) e

one_more : (m : Mark) (ms : List Mark) (n : ℕ) → drop (1 + n + 1) (m ∷ ms) ≡ drop (n + 1) ms
one_more m ms n = let e : suc (n + 1)
    ≡ 1 + n + 1 = omega arith in subst (λ k. drop k (m ∷ ms) ≡ drop (n + 1) ms) e refl

pub after_later : (p : Mark → Bool) (m : Mark) (ms : List Mark) → p m ≡ false → after_first p (m ∷ ms)
    ≡ after_first p ms
after_later p m ms e =
    ap (λ b. drop (cond (not b) (1 + prefix_len (λ x. not (p x)) ms) 0 + 1) (m ∷ ms)) e
    ∙ one_more m ms (prefix_len (λ x. not (p x)) ms)

-- what stands behind the first that passes, or all where none does
abbrev pub behind : (Mark → Bool) → List Mark → List Mark
behind p ms = cond (list_any p ms) (after_first p ms) ms

behind_any : (p : Mark → Bool) (ms : List Mark) (b : Bool) → list_any p ms ≡ b → behind p ms
    ≡ cond b (after_first p ms) ms
behind_any p ms b e = ap (λ x. cond x (after_first p ms) ms) e

-- ---- the first start

find_first : (p : Mark → Bool) (ms : List Mark) → find p ms ≡ slice_get (filter p ms) 0
find_first p [] = refl
find_first p (m ∷ ms) =
    elim (p m) as (λ b. cond b (Some m) (find p ms) ≡ slice_get (cond b (m ∷ filter p ms) (filter p ms)) 0) [
      | true ↦ refl
      | false ↦ find_first p ms
    ]

filter_pass : (p : Mark → Bool) (m : Mark) (ms : List Mark) → p m ≡ true → filter p (m ∷ ms) ≡ m ∷ filter p ms
filter_pass p m ms e = ap (λ b. cond b (m ∷ filter p ms) (filter p ms)) e

filter_fail : (p : Mark → Bool) (m : Mark) (ms : List Mark) → p m ≡ false → filter p (m ∷ ms) ≡ filter p ms
filter_fail p m ms e = ap (λ b. cond b (m ∷ filter p ms) (filter p ms)) e

any_pass : (p : Mark → Bool) (m : Mark) (ms : List Mark) → p m ≡ true → list_any p (m ∷ ms) ≡ true
any_pass p m ms e = ap (λ b. b || list_any p ms) e

any_fail : (p : Mark → Bool) (m : Mark) (ms : List Mark) → p m ≡ false → list_any p (m ∷ ms) ≡ list_any p ms
any_fail p m ms e = ap (λ b. b || list_any p ms) e

filter_behind_by : (p : Mark → Bool) (m : Mark) (ms : List Mark) (b c : Bool) → p m ≡ b → list_any p ms ≡ c
    → filter p (behind p ms) ≡ drop 1 (filter p ms) → filter p (behind p (m ∷ ms)) ≡ drop 1 (filter p (m ∷ ms))
filter_behind_by p m ms true c e f known =
    ap (filter p) (behind_any p (m ∷ ms) true (any_pass p m ms e) ∙ after_here p m ms e)
    ∙ sym (ap (drop 1) (filter_pass p m ms e))
filter_behind_by p m ms false true e f known =
    ap (filter p) (behind_any p (m ∷ ms) true (any_fail p m ms e ∙ f) ∙ after_later p m ms e
    ∙ sym (behind_any p ms true f))
    ∙ known ∙ sym (ap (drop 1) (filter_fail p m ms e))
filter_behind_by p m ms false false e f known =
    ap (filter p) (behind_any p (m ∷ ms) false (any_fail p m ms e ∙ f)) ∙ filter_fail p m ms e
    ∙ ap (filter p) (sym (behind_any p ms false f)) ∙ known ∙ sym (ap (drop 1) (filter_fail p m ms e))

filter_behind : (p : Mark → Bool) (ms : List Mark) → filter p (behind p ms) ≡ drop 1 (filter p ms)
filter_behind p [] = refl
filter_behind p (m ∷ ms) = filter_behind_by p m ms (p m) (list_any p ms) refl refl (filter_behind p ms)

-- ---- so many starts

filter_behind_all : (starts : Starts) (count : ℕ) (ms : List Mark)
    → filter (is_start starts) (behind_starts starts count ms) ≡ drop count (filter (is_start starts) ms)
filter_behind_all starts zero ms = refl
filter_behind_all starts (suc count) ms =
    let next : count + 1 ≡ suc count = omega arith in
    filter_behind (is_start starts) (behind_starts starts count ms) ∙ ap (drop 1) (filter_behind_all starts count ms)
    ∙ drop-drop 1 count (filter (is_start starts) ms)
    ∙ ap (λ n. drop n (filter (is_start starts) ms)) next

get_behind : (n : ℕ) (ms : List Mark) → slice_get (drop n ms) 0 ≡ slice_get ms n
get_behind zero ms = refl
get_behind (suc n) [] = refl
get_behind (suc n) (m ∷ ms) = get_behind n ms

-- the numbered start is the first behind so many
pub found_start : (starts : Starts) (number : ℕ) (ms : List Mark)
    → find (is_start starts) (behind_starts starts number ms) ≡ slice_get (filter (is_start starts) ms) number
found_start starts number ms =
    find_first (is_start starts) (behind_starts starts number ms)
    ∙ ap (λ xs. slice_get xs 0) (filter_behind_all starts number ms)
    ∙ get_behind number (filter (is_start starts) ms)

-- and its byte
pub found_at : (starts : Starts) (number : ℕ) (ms : List Mark)
    → option_map (λ (m : Mark). m.at) (find (is_start starts) (behind_starts starts number ms))
    ≡ start_byte starts number ms
found_at starts number ms = ap (option_map (λ (m : Mark). m.at)) (found_start starts number ms)

-- ---- none that passes

none_any_by : (p : Mark → Bool) (m : Mark) (ms : List Mark) (b : Bool) → p m ≡ b → find p (m ∷ ms) ≡ None
    → (find p ms ≡ None → list_any p ms ≡ false) → list_any p (m ∷ ms) ≡ false
none_any_by p m ms true e none known =
    let some : Some m ≡ None = sym (ap (λ b. cond b (Some m) (find p ms)) e) ∙ none in cc
none_any_by p m ms false e none known = any_fail p m ms e
    ∙ known (sym (ap (λ b. cond b (Some m) (find p ms)) e) ∙ none)

none_any : (p : Mark → Bool) (ms : List Mark) → find p ms ≡ None → list_any p ms ≡ false
none_any p [] none = refl
none_any p (m ∷ ms) none = none_any_by p m ms (p m) refl none (none_any p ms)

stays : (p : Mark → Bool) (ms : List Mark) → find p ms ≡ None → behind p ms ≡ ms
stays p ms none = behind_any p ms false (none_any p ms none)

stays_all : (starts : Starts) (i more number : ℕ) (ms : List Mark) → number ≡ i + more
    → find (is_start starts) (behind_starts starts i ms) ≡ None → behind_starts starts number ms
    ≡ behind_starts starts i ms
stays_all starts i zero number ms e none =
    let same : number ≡ i = omega (arith, e) in ap (λ n. behind_starts starts n ms) same
stays_all starts i (suc more) number ms e none =
    let next : number ≡ suc (i + more) = omega (arith, e) in
    ap (λ n. behind_starts starts n ms) next
    ∙ ap (behind_start starts) (stays_all starts i more (i + more) ms refl none)
    ∙ stays (is_start starts) (behind_starts starts i ms) none

-- where none is left, there is no later one, and the walk stays
pub none_at : (starts : Starts) (i number : ℕ) (ms : List Mark) → i ≤ number
    → find (is_start starts) (behind_starts starts i ms) ≡ None → start_byte starts number ms ≡ None
none_at starts i number ms up none =
    let more : number ≡ i + (number - i) = omega arith in
    sym (found_at starts number ms)
    ∙ ap (λ left. option_map (λ (m : Mark). m.at) (find (is_start starts) left))
    (stays_all starts i (number - i) number ms more none)
    ∙ ap (option_map (λ (m : Mark). m.at)) none

pub stays_at : (starts : Starts) (i number : ℕ) (ms : List Mark) → i ≤ number
    → find (is_start starts) (behind_starts starts i ms) ≡ None
    → behind_start starts (behind_starts starts i ms) ≡ behind_starts starts number ms
stays_at starts i number ms up none =
    let more : number ≡ i + (number - i) = omega arith in
    stays (is_start starts) (behind_starts starts i ms) none
    ∙ sym (stays_all starts i (number - i) number ms more none)

pub one_start_more : (starts : Starts) (i : ℕ) (ms : List Mark) → behind_start starts (behind_starts starts i ms)
    ≡ behind_starts starts (i + 1) ms
one_start_more starts i ms =
    let next : suc i ≡ i + 1 = omega arith in ap (λ n. behind_starts starts n ms) next

-- ---- the search for the next

-- what stands ahead of the whole stands in what is left of it
pub record Ahead (p : Mark → Bool) (whole left : List Mark) : Type 0 where
  pub found : find p left ≡ find p whole
  pub any : list_any p left ≡ list_any p whole
  pub after : after_first p left ≡ after_first p whole

pub ahead_start : (p : Mark → Bool) (whole : List Mark) → Ahead p whole whole
ahead_start p whole = record { found = refl; any = refl; after = refl }

pub ahead_more : (p : Mark → Bool) (whole left : List Mark) (m : Mark) (ms : List Mark) → Ahead p whole left → left
    ≡ m ∷ ms → p m ≡ false → Ahead p whole ms
ahead_more p whole left m ms a is e = record {
  found = sym (ap (find p) is ∙ ap (λ b. cond b (Some m) (find p ms)) e) ∙ a.found;
  any = sym (ap (list_any p) is ∙ any_fail p m ms e) ∙ a.any;
  after = sym (ap (after_first p) is ∙ after_later p m ms e) ∙ a.after;
}

pub ahead_found : (p : Mark → Bool) (whole left : List Mark) (m : Mark) (ms : List Mark) → Ahead p whole left → left
    ≡ m ∷ ms → p m ≡ true → Some m ≡ find p whole
ahead_found p whole left m ms a is e = sym (ap (find p) is ∙ ap (λ b. cond b (Some m) (find p ms)) e) ∙ a.found

pub ahead_behind : (p : Mark → Bool) (whole left : List Mark) (m : Mark) (ms : List Mark) → Ahead p whole left → left
    ≡ m ∷ ms → p m ≡ true → ms ≡ behind p whole
ahead_behind p whole left m ms a is e =
    sym (behind_any p whole true (sym a.any ∙ ap (list_any p) is ∙ any_pass p m ms e) ∙ sym a.after
    ∙ ap (after_first p) is ∙ after_here p m ms e)

pub ahead_none : (p : Mark → Bool) (whole left : List Mark) → Ahead p whole left → left ≡ [] → None ≡ find p whole
ahead_none p whole left a is = sym (ap (find p) is) ∙ a.found

pub ahead_stays : (p : Mark → Bool) (whole left : List Mark) → Ahead p whole left → left ≡ [] → whole ≡ behind p whole
ahead_stays p whole left a is = sym (behind_any p whole false (sym a.any ∙ ap (list_any p) is))
