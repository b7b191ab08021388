-- What an input carries over, binding by binding.
use Rattle.std.proofs.Common.{◌≡◌, ℕ, zero, suc, Bool, true, false, ◌+◌, ◌<◌, List, [], ◌∷◌, ◌++◌, length, map, take, get_or, refl, sym, ap, ◌∙◌, append_assoc}
use Rattle.std.specs.Prelude.{filter, if◌then◌else◌, unwrap_or, slice_get}
use Rattle.std.specs.List.{flat_map}
use Rattle.std.specs.Option.{option_map_or}
use Rattle.std.specs.Str.{bytes_eq}
use Rattle.std.proofs.lemmas.List.{append-nil, take_more}
use Rattle.std.proofs.lemmas.List.Elements.{filter-append}
use Rattle.std.proofs.lemmas.List.Concat.{flat_map-append}
use Rattle.limits_file.specs.declared.limits.Binding.{Binding}
use Rattle.flowchart_page.specs.Ranges.{carry_text, carries_text}

of_one : (is_own : Bool) (b : Binding) (old new : List ℕ) → new ≡ (if is_own then old ++ carry_text b.carry else old)
    → new ≡ old ++ flat_map (λ (x : Binding). carry_text x.carry) (if is_own then b ∷ [] else [])
of_one true b old new is = is ∙ ap (λ l. old ++ l) (sym (append-nil (carry_text b.carry)))
of_one false b old new is = is ∙ sym (append-nil old)

-- a binding of the input, and one of another
pub carry_pushed : (b : Binding) (name old new : List ℕ) → bytes_eq b.input name ≡ true → new ≡ old ++ carry_text b.carry
    → new ≡ old ++ carries_text (b ∷ []) name
carry_pushed b name old new own is =
    of_one (bytes_eq b.input name) b old new
    (is ∙ ap (λ c. if c then old ++ carry_text b.carry else old) (sym own))

pub carry_none : (b : Binding) (name old : List ℕ) → bytes_eq b.input name ≡ false → old ≡ old ++ carries_text (b ∷ []) name
carry_none b name old other =
    of_one (bytes_eq b.input name) b old old (ap (λ c. if c then old ++ carry_text b.carry else old) (sym other))

carries-append : (xs ys : List Binding) (name : List ℕ)
    → carries_text (xs ++ ys) name ≡ carries_text xs name ++ carries_text ys name
carries-append xs ys name =
    let is_own = λ (b : Binding). bytes_eq b.input name in
    let text = λ (b : Binding). carry_text b.carry in
    ap (flat_map text) (filter-append is_own xs ys) ∙ flat_map-append text (filter is_own xs) (filter is_own ys)

-- one binding more
pub carries_more : (bindings : List Binding) (i : ℕ) (b : Binding) (name old text new : List ℕ) → i < length bindings
    → b ≡ get_or bindings i b → text ≡ old ++ carries_text (take i bindings) name
    → new ≡ text ++ carries_text (b ∷ []) name → new ≡ old ++ carries_text (take (i + 1) bindings) name
carries_more bindings i b name old text new some at so_far written =
    let before = take i bindings in
    written
    ∙ ap (λ l. l ++ carries_text (b ∷ []) name) so_far
    ∙ append_assoc old (carries_text before name) (carries_text (b ∷ []) name)
    ∙ ap (λ l. old ++ l) (sym (carries-append before (b ∷ []) name))
    ∙ ap (λ x. old ++ carries_text (before ++ x ∷ []) name) at
    ∙ ap (λ l. old ++ carries_text l name) (sym (take_more bindings i b some))

-- the text of a number
pub text_of : {A : Type 0} (g : A → List ℕ) (texts : List A) (number : ℕ)
    → unwrap_or (slice_get (map g texts) number) [] ≡ option_map_or g (slice_get texts number) []
text_of g [] number = refl
text_of g (x ∷ xs) zero = refl
text_of g (x ∷ xs) (suc number) = text_of g xs number
