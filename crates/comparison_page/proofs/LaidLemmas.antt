-- Bytes that are laid one after the other.
use Rattle.std.proofs.Common.{◌≡◌, ℕ, zero, suc, ◌+◌, ◌<◌, List, [], ◌∷◌, ◌++◌, length, drop, get_or, refl, sym, ap, ◌∙◌, arith, add-one, append_assoc}
use Rattle.std.proofs.lemmas.List.{append-nil}
use Rattle.comparison_page.specs.Texts.{laid_byte, next_column, laid}

laid_at-suc : (sign column : ℕ) (text : List ℕ) (i d : ℕ) → i < length text
    → laid sign column (drop i text)
    ≡ laid_byte sign column (get_or text i d) ++ laid sign (next_column column (get_or text i d)) (drop (suc i) text)
laid_at-suc sign column [] i d lt = absurd (omega arith)
laid_at-suc sign column (b ∷ text) zero d lt = refl
laid_at-suc sign column (b ∷ text) (suc i) d lt = laid_at-suc sign column text i d (omega arith)

-- one byte more
pub laid_more : (sign column column' : ℕ) (text : List ℕ) (i : ℕ) (out out' whole : List ℕ)
    → i < length text → out ++ laid sign column (drop i text) ≡ whole
    → out' ≡ out ++ laid_byte sign column (get_or text i 0) → column' ≡ next_column column (get_or text i 0)
    → out' ++ laid sign column' (drop (i + 1) text) ≡ whole
laid_more sign column column' text i out out' whole lt so_far now next =
    let at = laid_at-suc sign column text i 0 lt in
    let byte = get_or text i 0 in
    let rest = drop (suc i) text in
    rw add-one
    (ap (λ l. l ++ laid sign column' rest) now
    ∙ append_assoc out (laid_byte sign column byte) (laid sign column' rest)
    ∙ ap (λ n. out ++ (laid_byte sign column byte ++ laid sign n rest)) next
    ∙ ap (λ l. out ++ l) (sym at)
    ∙ so_far)

-- all bytes
pub laid_all : (sign column : ℕ) (text : List ℕ) (i : ℕ) (out whole : List ℕ) → drop i text ≡ []
    → out ++ laid sign column (drop i text) ≡ whole → out ≡ whole
laid_all sign column text i out whole none so_far =
    sym (ap (λ l. out ++ laid sign column l) none ∙ append-nil out) ∙ so_far
