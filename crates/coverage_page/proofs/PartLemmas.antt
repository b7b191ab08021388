-- Parts of a page one behind the other.
use Rattle.std.proofs.Common.{◌≡◌, ℕ, ◌+◌, ◌<◌, Bool, true, false, List, [], ◌∷◌, ◌++◌, length, take, get_or, refl, sym, ap, ◌∙◌, append_assoc, arith}
use Rattle.std.specs.Prelude.{codes, if◌then◌else◌}
use Rattle.std.specs.List.{flat_map}
use Rattle.std.proofs.lemmas.List.{append-nil}
use Rattle.coverage_text.specs.CoverageItems.{CoverageItem}
use Rattle.coverage_text.proofs.Laws.{one_more}
use Rattle.coverage_page.specs.CoverageParts.{item_entry, tested_entry, list_text, entry_list}

-- one more item behind those so far, where nothing stands before them
pub one_more_alone : {X : Type 0} (of : X → List ℕ) (xs : List X) (i : ℕ) (x : X) (now next : List ℕ) → x ≡ get_or xs i x
    → i < length xs → now ≡ flat_map of (take i xs) → next ≡ now ++ of x → next ≡ flat_map of (take (i + 1) xs)
one_more_alone of xs i x now next is lt so_far added = one_more of xs i x [] now next is lt so_far added

pub three_parts : (a b c old x y z : List ℕ) → x ≡ old ++ a → y ≡ x ++ b → z ≡ y ++ c → z ≡ old ++ (a ++ (b ++ c))
three_parts a b c old x y z one two three =
    three ∙ ap (λ l. l ++ c) (two ∙ ap (λ l. l ++ b) one) ∙ ap (λ l. l ++ c) (append_assoc old a b)
    ∙ append_assoc old (a ++ b) c ∙ ap (λ l. old ++ l) (append_assoc a b c)

pub four_parts : (a b c d old w x y z : List ℕ) → w ≡ old ++ a → x ≡ w ++ b → y ≡ x ++ c → z ≡ y ++ d
    → z ≡ old ++ (a ++ (b ++ (c ++ d)))
four_parts a b c d old w x y z one two three four =
    three_parts b c d w x y z two three four ∙ ap (λ l. l ++ (b ++ (c ++ d))) one ∙ append_assoc old a (b ++ (c ++ d))

pub five_parts : (a b c d e old v w x y z : List ℕ) → v ≡ old ++ a → w ≡ v ++ b → x ≡ w ++ c → y ≡ x ++ d → z ≡ y ++ e
    → z ≡ old ++ (a ++ (b ++ (c ++ (d ++ e))))
five_parts a b c d e old v w x y z one two three four five =
    four_parts b c d e v w x y z two three four five ∙ ap (λ l. l ++ (b ++ (c ++ (d ++ e)))) one
    ∙ append_assoc old a (b ++ (c ++ (d ++ e)))

-- the entry of an item that passes a test, and nothing of one that doesn't
pub entry_told : (test : CoverageItem → Bool) (name : List ℕ) (i : CoverageItem) (passes : Bool) (old new : List ℕ) → passes ≡ test i
    → passes ≡ true → new ≡ old ++ item_entry name i → new ≡ old ++ tested_entry test name i
entry_told test name i passes old new is passed told =
    told ∙ ap (λ b. old ++ (if b then item_entry name i else [])) (sym passed ∙ is)

pub none_told : (test : CoverageItem → Bool) (name : List ℕ) (i : CoverageItem) (passes : Bool) (old : List ℕ) → passes ≡ test i
    → passes ≡ false → old ≡ old ++ tested_entry test name i
none_told test name i passes old is failed =
    sym (append-nil old) ∙ ap (λ b. old ++ (if b then item_entry name i else [])) (sym failed ∙ is)

-- a list without entries
pub no_entries : (entries : List ℕ) → length entries ≡ 0 → codes "<p>Nothing.</p>\n" ≡ entry_list entries
no_entries [] none = refl
no_entries (byte ∷ entries) none = absurd (omega (arith, none))

-- a list with some
pub some_entries : (entries : List ℕ) → ¬ (length entries ≡ 0) → list_text entries ≡ entry_list entries
some_entries [] some = absurd (some refl)
some_entries (byte ∷ entries) some = refl
