-- Where a fault of a range file's entries stands: a line of the file that names the entry, or the key of it.
use Rattle.std.specs.Prelude.{◌≡◌, ℕ, ◌-◌, ◌⊎◌, List, ◌++◌, Bool, codes, not, drop, get_or, true, Option, IfSome}
use Rattle.std.specs.List.{take_while}
use Rattle.range_faults.specs.declared.fault.EntryFault.{EntryFault}
use Rattle.range_faults.specs.declared.fault.EntryFault.TheVariants as faults
use Rattle.plain_words.specs.declared.bounds.BoundKey.{BoundKey}
use Rattle.plain_words.specs.declared.bounds.BoundKey.TheVariants as bounds
use Rattle.plain_words.specs.Lines.{EndsWith}
use Rattle.plain_words.specs.Positions.{is_line_feed}

-- the byte doesn't end a line
abbrev pub is_no_line_feed : ℕ → Bool
is_no_line_feed byte = not (is_line_feed byte)

-- a line of a text begins at this byte: at the first, and right behind each line feed
abbrev pub IsLineStart : List ℕ → ℕ → Type 0
IsLineStart text at = (at ≡ 0) ⊎ (is_line_feed (get_or text (at - 1) 0) ≡ true)

-- the text from a byte up to the end of its line
abbrev pub line_from : List ℕ → ℕ → List ℕ
line_from text at = take_while is_no_line_feed (drop at text)

-- the text has this word in it
pub record HasWord (text word : List ℕ) : Type 0 where
  pub rest : List ℕ
  pub ends : EndsWith (word ++ rest) text

-- a line that has this word in it begins at this byte
pub record IsLineWith (text word : List ℕ) (at : ℕ) : Type 0 where
  pub starts : IsLineStart text at
  pub has : HasWord (line_from text at) word

-- the keys of an input's entry that its bounds have
abbrev pub bound_key_name : BoundKey → List ℕ
bound_key_name bounds.Low = codes "low"
bound_key_name bounds.High = codes "high"
bound_key_name bounds.Places = codes "places"

-- a line begins at this byte that has one of these keys, or the name of the entry
abbrev pub IsAtBound : List ℕ → List ℕ → ℕ → Type 0
IsAtBound file entry at =
    ((key : BoundKey) × IsLineWith file (bound_key_name key) at) ⊎ IsLineWith file entry at

-- a byte at which a fault stands in a range file: a line begins there with the key or the entry that the fault names; of bounds also
-- one of their keys
abbrev pub IsByteOfFault : List ℕ → EntryFault → ℕ → Type 0
IsByteOfFault file (faults.NoSection key) at = IsLineWith file key at
IsByteOfFault file (faults.Entry section entry) at = IsLineWith file entry at
IsByteOfFault file (faults.Key section entry key) at = IsLineWith file key at ⊎ IsLineWith file entry at
IsByteOfFault file (faults.Bounds entry) at = IsAtBound file entry at
