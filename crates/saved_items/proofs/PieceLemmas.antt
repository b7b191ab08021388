-- Pieces that are written one after the other.
use Rattle.std.proofs.Common.{◌≡◌, ℕ, ◌+◌, ◌<◌, List, [], ◌∷◌, ◌++◌, length, take, get_or, map, sym, ap, ◌∙◌, append_assoc, arith}
use Rattle.std.specs.Prelude.{codes}
use Rattle.std.specs.List.{join_with_byte}
use Rattle.std.proofs.lemmas.List.{append-nil, take_more, get_or-map}
use Rattle.std.proofs.lemmas.List.Concat.{flat_map-append}
use Rattle.scaled_decimal.specs.Decimals.{Decimal}
use Rattle.scaled_decimal.specs.PlainTexts.{plain_text}
use Rattle.payroll_records.specs.NamedValues.{name_of}
use Rattle.payroll_records.specs.Tables.{Text}
use Rattle.payroll_records.specs.declared.values.NamedValue.{NamedValue}
use Rattle.saved_items.specs.SavedBooks.{value_word}
use Rattle.saved_items.specs.private.SavedBooks.{values_text}

pub five_pieces : (a v w x y z : List ℕ) {b c d e f : List ℕ} → b ≡ a ++ v → c ≡ b ++ w → d ≡ c ++ x → e ≡ d ++ y →
    f ≡ e ++ z → f ≡ a ++ (v ++ (w ++ (x ++ (y ++ z))))
five_pieces a v w x y z one two three four five =
    five ∙ ap (λ t. t ++ z) (four ∙ ap (λ t. t ++ y) (three ∙ ap (λ t. t ++ x) (two ∙ ap (λ t. t ++ w) one)))
    ∙ append_assoc (((a ++ v) ++ w) ++ x) y z ∙ append_assoc ((a ++ v) ++ w) x (y ++ z)
    ∙ append_assoc (a ++ v) w (x ++ (y ++ z)) ∙ append_assoc a v (w ++ (x ++ (y ++ z)))

-- words behind a word are value words with a space before each
pub join_values : (w : Text) (vs : List NamedValue) → join_with_byte 32 (w ∷ map value_word vs) ≡ w ++ values_text vs
join_values w [] = sym (append-nil w)
join_values w (v ∷ vs) = ap (λ t. w ++ (32 ∷ t)) (join_values (value_word v) vs)

one_value : (v : NamedValue) → values_text (v ∷ []) ≡ codes " " ++ value_word v
one_value v = append-nil (codes " " ++ value_word v)

-- one more value
pub values_more : (before out : Text) (vs : List NamedValue) (at : ℕ) (name : Text) (number : Decimal) →
    at < length vs → name ≡ get_or (map name_of vs) at name → number ≡ get_or (map (λ v. v.value) vs) at number →
    out ≡ (before ++ values_text (take at vs)) ++ (codes " " ++ (name ++ (codes "=" ++ plain_text number))) →
    out ≡ before ++ values_text (take (at + 1) vs)
values_more before out [] at name number lt n x e = absurd (omega (arith, lt))
values_more before out (w ∷ ws) at name number lt n x e =
    let vs = w ∷ ws in
    let v = get_or vs at w in
    let named : name ≡ v.name = n ∙ get_or-map name_of vs at w name lt in
    let valued : number ≡ v.value = x ∙ get_or-map (λ (u : NamedValue). u.value) vs at w number lt in
    e ∙ ap (λ t. (before ++ values_text (take at vs)) ++ (codes " " ++ (t ++ (codes "=" ++ plain_text number)))) named
    ∙ ap (λ (t : Decimal). (before ++ values_text (take at vs)) ++
    (codes " " ++ (v.name ++ (codes "=" ++ plain_text t)))) valued
    ∙ append_assoc before (values_text (take at vs)) (codes " " ++ value_word v)
    ∙ ap (λ t. before ++ (values_text (take at vs) ++ t)) (sym (one_value v))
    ∙ ap (λ t. before ++ t) (sym (flat_map-append (λ (u : NamedValue). codes " " ++ value_word u) (take at vs)
    (v ∷ [])))
    ∙ ap (λ t. before ++ values_text t) (sym (take_more vs at w lt))
