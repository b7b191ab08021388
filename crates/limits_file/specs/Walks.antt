-- A table is read key by key, in byte order of its keys.
use Rattle.std.specs.Prelude.{◌≡◌, ℕ, suc, ◌⊎◌, List, [], ◌∷◌, Result, Ok, Err}
use Rattle.toml.specs.Data.{Data, Members, no_members, member}
use Rattle.limits_file.specs.Faults.{Fault}

-- Says n key value answer: the key with its value, which n keys stand before, says this
module _ {A : Type 0} (Says : ℕ → List ℕ → Data → Result A Fault → Type 0) where
  -- what all of the keys say, in their order, or the fault of the first that has one
  abbrev pub AllOrFirstFault : ℕ → Members → Result (List A) Fault → Type 0
  AllOrFirstFault n no_members (Ok said) = said ≡ []
  AllOrFirstFault n no_members (Err fault) = ⊥
  AllOrFirstFault n (member key value rest) (Ok []) = ⊥
  AllOrFirstFault n (member key value rest) (Ok (first ∷ said)) =
      Says n key value (Ok first) × AllOrFirstFault (suc n) rest (Ok said)
  AllOrFirstFault n (member key value rest) (Err fault) =
      Says n key value (Err fault)
      ⊎ ((first : A) × Says n key value (Ok first) × AllOrFirstFault (suc n) rest (Err fault))

  -- what all keys of a table say, put together, or the fault of the first that has one
  abbrev pub KeysSay : {B : Type 0} → (List A → B) → Members → Result B Fault → Type 0
  KeysSay together entries (Ok whole) =
      (said : List A) × AllOrFirstFault 0 entries (Ok said) × (whole ≡ together said)
  KeysSay together entries (Err fault) = AllOrFirstFault 0 entries (Err fault)
