-- The texts of further causes, one behind the other.
use Rattle.std.proofs.Common.{◌≡◌, ◌∙◌, ◌<◌, ◌≤◌, ◌==◌, ℕ, ◌+◌, ◌-◌, List, [], ◌∷◌, ◌++◌, Bool, true, false, if◌then◌else◌, length, take, drop, get_or, ap, refl, sym, arith, append_assoc}
use Rattle.std.specs.Prelude.{codes, OnOk, Result, Ok, Err}
use Rattle.std.specs.List.{flat_map}
use Rattle.std.proofs.lemmas.Grind.{flat_map-append}
use Rattle.std.proofs.lemmas.Bool.Decides.{Decides-eqb}
use Rattle.std.proofs.lemmas.List.{append-nil, take_all, take_more}
use Rattle.recalc_engine.specs.Contents.{Contents}
use Rattle.open_runs.specs.declared.tally.CauseCount.{CauseCount}
use Rattle.open_runs.specs.OpenRuns.{Counted, cause_part, causes_part, counted_line, counts_part, other_part, others_part}

parts_more : {X : Type 0} (f : X → List ℕ) (xs : List X) (i : ℕ) (x : X) → x ≡ get_or xs i x → i < length xs →
    flat_map f (take (i + 1) xs) ≡ flat_map f (take i xs) ++ f x
parts_more f xs i x is lt =
    ap (flat_map f) (take_more xs i x lt)
    ∙ flat_map-append f (take i xs) (get_or xs i x ∷ [])
    ∙ ap (λ t. flat_map f (take i xs) ++ t) (append-nil (f (get_or xs i x)))
    ∙ ap (λ y. flat_map f (take i xs) ++ f y) (sym is)

-- a text with one part more
pub text_with : {X : Type 0} (f : X → List ℕ) (xs : List X) (i : ℕ) (x : X) (first before after : List ℕ) →
    x ≡ get_or xs i x → i < length xs → after ≡ before ++ f x → before ≡ first ++ flat_map f (take i xs) →
    after ≡ first ++ flat_map f (take (i + 1) xs)
text_with f xs i x first before after is lt e b =
    e ∙ ap (λ z. z ++ f x) b ∙ append_assoc first (flat_map f (take i xs)) (f x)
    ∙ ap (λ z. first ++ z) (sym (parts_more f xs i x is lt))

-- ---- the causes

-- the first cause and the others
pub causes_split : (book : Contents) (causes : List CauseCount) (first : CauseCount) → 1 ≤ length causes →
    first ≡ get_or causes 0 first →
    causes_part book causes
    ≡ codes ": " ++ (cause_part book first ++ flat_map (other_part book) (take (length causes - 1) (drop 1 causes)))
causes_split book [] first some is = absurd (omega (arith, some))
causes_split book (cause ∷ causes) first some is =
    let whole : take (length (cause ∷ causes) - 1) causes ≡ causes = take_all (length (cause ∷ causes) - 1) causes (omega arith) in
    ap (λ v. codes ": " ++ (cause_part book v ++ flat_map (other_part book) causes)) (sym is)
    ∙ ap (λ v. codes ": " ++ (cause_part book first ++ flat_map (other_part book) v)) (sym whole)

-- a text with three parts more, the last of which may fail
pub with_parts : {T E : Type 0} (r : Result T E) (old sign_end part_end new sign part rest whole : List ℕ) →
    sign_end ≡ old ++ sign → part_end ≡ sign_end ++ part → whole ≡ sign ++ (part ++ rest) →
    OnOk r (new ≡ part_end ++ rest) → OnOk r (new ≡ old ++ whole)
with_parts (Ok x) old sign_end part_end new sign part rest whole a b is h =
    h ∙ (ap (λ v. v ++ rest) (b ∙ ap (λ v. v ++ part) a)
    ∙ (append_assoc (old ++ sign) part rest ∙ (append_assoc old sign (part ++ rest) ∙ ap (λ v. old ++ v) (sym is))))
with_parts (Err e) old sign_end part_end new sign part rest whole a b is h = h

-- ---- the line

said_at : (n : ℕ) (text : List ℕ) (b : Bool) → (n == 0) ≡ b → (n ≡ 0 → ⊥) → (if n == 0 then [] else text) ≡ text
said_at n text true is some = absurd (some ((Decides-eqb n 0).0 is))
said_at n text false is some = ap (λ v. if v then [] else text) is

-- the whole line, part by part
pub whole_line : (book : Contents) (counted : Counted) (none counts causes line : List ℕ) → (counted.without ≡ 0 → ⊥) → none ≡ [] →
    counts ≡ none ++ counts_part counted.without counted.runs → causes ≡ counts ++ causes_part book counted.causes →
    line ≡ causes ++ (others_part counted.others ++ 10 ∷ []) → line ≡ counted_line book counted
whole_line book counted none counts causes line some a b c d =
    let first = counts_part counted.without counted.runs in
    let second = causes_part book counted.causes in
    let last = others_part counted.others ++ 10 ∷ [] in
    d ∙ (ap (λ v. v ++ last) (c ∙ ap (λ v. v ++ second) (b ∙ ap (λ v. v ++ first) a))
    ∙ (append_assoc first second last
    ∙ sym (said_at counted.without (first ++ (second ++ last)) (counted.without == 0) refl some)))
