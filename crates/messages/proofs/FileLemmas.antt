-- Files by their names.
use Rattle.std.proofs.Common.{◌≡◌, ℕ, zero, suc, ◌<◌, Bool, true, false, ◌||◌, List, [], ◌∷◌, length, get_or, refl, ap, ◌∙◌, arith, ◌⊎◌, inl, inr}
use Rattle.std.specs.Prelude.{Contains, String, bytes_eq, string_bytes}
use Rattle.std.specs.declared.alloc.Global.{Global}
use Rattle.std.proofs.lemmas.Slice.Eq.{bytes_eq-Decides}
use Rattle.messages.specs.Fields.{file_names}
use Rattle.messages.specs.private.Cuts.{has_name}

one_of_both : (a b : Bool) → (a || b) ≡ true → (a ≡ true) ⊎ (b ≡ true)
one_of_both true b is = inl refl
one_of_both false b is = inr is

or_true : (a : Bool) → (a || true) ≡ true
or_true true = refl
or_true false = refl

-- a file that has this name is one of these
pub name_known : (files : List (String Global)) (name : List ℕ) → has_name files name ≡ true → Contains (file_names files) name
name_known [] name is = cc
name_known (file ∷ files) name is =
    elim (one_of_both (bytes_eq (string_bytes file) name) (has_name files name) is) [
      | inl first ↦ (zero, omega arith, (bytes_eq-Decides (string_bytes file) name).0 first)
      | inr further ↦ let known = name_known files name further in (suc known.0, omega (arith, known.1), known.2)
    ]

named : (files : List (String Global)) (name : List ℕ) (at : ℕ) → at < length (file_names files)
    → get_or (file_names files) at name ≡ name → has_name files name ≡ true
named [] name at within is = absurd (omega arith)
named (file ∷ files) name zero within is =
    ap (λ b. b || has_name files name) ((bytes_eq-Decides (string_bytes file) name).1 is)
named (file ∷ files) name (suc at) within is =
    ap (λ b. bytes_eq (string_bytes file) name || b) (named files name at (omega arith) is)
    ∙ or_true (bytes_eq (string_bytes file) name)

-- where none has it, it isn't one of these
pub name_unknown : (files : List (String Global)) (name : List ℕ) → has_name files name ≡ false
    → ¬ (Contains (file_names files) name)
name_unknown files name none = λ known. let is = named files name known.0 known.1 known.2 in cc
