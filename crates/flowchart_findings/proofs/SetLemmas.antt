-- A set of names, as one after the other is put into it.
use Rattle.std.proofs.Common.{◌≡◌, ℕ, ◌+◌, ◌<◌, List, [], ◌∷◌, ◌++◌, length, take, get_or, Bool, true, false, cond, refl, sym, ap, ◌∙◌}
use Rattle.std.specs.Prelude.{◌||◌}
use Rattle.std.specs.Bool.{one_answer}
use Rattle.std.specs.BTreeSet.{BTreeSet}
use Rattle.std.specs.Cmp.Lexicographic.{slice_cmp}
use Rattle.std.specs.List.{list_any}
use Rattle.std.specs.Ordering.{is_eq, nat_cmp}
use Rattle.std.specs.Str.{bytes_eq}
use Rattle.std.proofs.lemmas.List.{take_more}
use Rattle.std.proofs.lemmas.List.Folds.{list_any-append}
use Rattle.std.proofs.lemmas.Map.Text.{is_eq-slice_cmp}
use Rattle.std.proofs.lemmas.Slice.Eq.{bytes_eq-Decides}
use Rattle.flowchart_findings.specs.private.SetViews.{has_in, HasNames}

eq_flips : (a b : List ℕ) → bytes_eq a b ≡ bytes_eq b a
eq_flips a b = one_answer (bytes_eq a b) (bytes_eq b a) (bytes_eq-Decides a b)
    (λ e. sym ((bytes_eq-Decides b a).0 e), λ e. (bytes_eq-Decides b a).1 (sym e))

either : (a b : Bool) → cond a true b ≡ (b || (a || false))
either true true = refl
either true false = refl
either false true = refl
either false false = refl

-- one more name
pub one_name : (names : List (List ℕ)) (i : ℕ) (x : List ℕ) (s t : BTreeSet (List ℕ)) → x ≡ get_or names i x → i < length names
    → ((q : List ℕ) → has_in t q ≡ cond (is_eq (slice_cmp nat_cmp x q)) true (has_in s q))
    → HasNames (take i names) s → HasNames (take (i + 1) names) t
one_name names i x s t is lt updated so_far q =
    updated q
    ∙ ap (λ b. cond b true (has_in s q)) (is_eq-slice_cmp x q ∙ eq_flips x q)
    ∙ ap (λ b. cond (bytes_eq q x) true b) (so_far q)
    ∙ either (bytes_eq q x) (list_any (bytes_eq q) (take i names))
    ∙ sym (list_any-append (bytes_eq q) (take i names) (x ∷ []))
    ∙ ap (λ l. list_any (bytes_eq q) (take i names ++ (l ∷ []))) is
    ∙ ap (list_any (bytes_eq q)) (sym (take_more names i x lt))
