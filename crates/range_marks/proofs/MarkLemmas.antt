-- Marks that are made one after the other.
use Rattle.std.proofs.Common.{◌≡◌, ℕ, zero, suc, ◌+◌, ◌<◌, ◌≤◌, List, [], ◌∷◌, ◌++◌, length, map, drop, get_or, refl, sym, ap, ◌∙◌, arith, append_assoc}
use Rattle.std.specs.Prelude.{Option, option_map, slice_get}
use Rattle.std.proofs.lemmas.List.{append-nil, drop_more}
use Rattle.pap_tree.specs.Flowchart.{Flowchart}
use Rattle.statement_list.specs.Statements.{Listed}
use Rattle.flowchart_methods.specs.Marks.{Marked}
use Rattle.range_marks.specs.RangeMarks.{WalkFindings, range_mark, statement_marks, method_marks, method_name_at}

-- the rest of a list from an item on
from_item : {A : Type 0} (xs : List A) (i : ℕ) (x : A) → x ≡ get_or xs i x → i < length xs → drop i xs ≡ x ∷ drop (i + 1) xs
from_item xs i x is lt = drop_more xs i x lt ∙ ap (λ y. y ∷ drop (i + 1) xs) (sym is)

-- nothing is left behind a list
none_left : {A : Type 0} (xs : List A) (i : ℕ) → length xs ≤ i → drop i xs ≡ []
none_left [] zero le = refl
none_left [] (suc i) le = refl
none_left (x ∷ xs) zero le = absurd (omega arith)
none_left (x ∷ xs) (suc i) le = none_left xs i (omega arith)

pub one_statement : (w : WalkFindings) (m : List ℕ) (ss : List Listed) (n : ℕ) (s : Listed) (mark : Marked) (out out' whole : List Marked)
    → s ≡ get_or ss n s → n < length ss → mark ≡ range_mark w (m, n) s.form → out ++ statement_marks w m n (drop n ss) ≡ whole
    → out' ≡ out ++ (mark ∷ []) → out' ++ statement_marks w m (n + 1) (drop (n + 1) ss) ≡ whole
one_statement w m ss n s mark out out' whole is lt of so_far added =
    let rest = statement_marks w m (n + 1) (drop (n + 1) ss) in
    ap (λ l. l ++ rest) (added ∙ ap (λ k. out ++ (k ∷ [])) of)
    ∙ append_assoc out (range_mark w (m, n) s.form ∷ []) rest
    ∙ ap (λ l. out ++ statement_marks w m n l) (sym (from_item ss n s is lt))
    ∙ so_far

pub all_statements : (w : WalkFindings) (m : List ℕ) (ss : List Listed) (n : ℕ) (out whole : List Marked) → length ss ≤ n
    → out ++ statement_marks w m n (drop n ss) ≡ whole → out ≡ whole
all_statements w m ss n out whole all so_far =
    sym (ap (λ l. out ++ statement_marks w m n l) (none_left ss n all) ∙ append-nil out) ∙ so_far

pub one_method : (w : WalkFindings) (f : Flowchart) (sss : List (List Listed)) (n : ℕ) (ss : List Listed) (marks : List Marked)
    (out out' whole : List (List Marked)) → ss ≡ get_or sss n ss → n < length sss → marks ≡ statement_marks w (method_name_at f n) 0 ss
    → out ++ method_marks w f n (drop n sss) ≡ whole → out' ≡ out ++ (marks ∷ []) → out' ++ method_marks w f (n + 1) (drop (n + 1) sss) ≡ whole
one_method w f sss n ss marks out out' whole is lt of so_far added =
    let rest = method_marks w f (n + 1) (drop (n + 1) sss) in
    ap (λ l. l ++ rest) (added ∙ ap (λ k. out ++ (k ∷ [])) of)
    ∙ append_assoc out (statement_marks w (method_name_at f n) 0 ss ∷ []) rest
    ∙ ap (λ l. out ++ method_marks w f n l) (sym (from_item sss n ss is lt))
    ∙ so_far

pub all_methods : (w : WalkFindings) (f : Flowchart) (sss : List (List Listed)) (n : ℕ) (out whole : List (List Marked)) → length sss ≤ n
    → out ++ method_marks w f n (drop n sss) ≡ whole → out ≡ whole
all_methods w f sss n out whole all so_far =
    sym (ap (λ l. out ++ method_marks w f n l) (none_left sss n all) ∙ append-nil out) ∙ so_far

-- the item of a list of which something is taken
pub item_of : {A B : Type 0} (g : A → B) (xs : List A) (n : ℕ) → slice_get (map g xs) n ≡ option_map g (slice_get xs n)
item_of g [] n = refl
item_of g (x ∷ xs) zero = refl
item_of g (x ∷ xs) (suc n) = item_of g xs n
