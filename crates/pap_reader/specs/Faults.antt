-- What is wrong with a tag, after the tags before it.
use Rattle.std.specs.Prelude.{◌≡◌, ◌∷◌, ◌++◌, false, List, []}
use Rattle.std.specs.List.{list_all}
use Rattle.pap_reader.specs.declared.fault.ReadFault.{ReadFault}
use Rattle.pap_reader.specs.declared.fault.ReadFault.TheVariants as faults
use Rattle.pap_reader.specs.Structure.{BeginsDocument}
use Rattle.pap_reader.specs.Tokens.{PlacedTag}
use Rattle.pap_reader.specs.Marks.{marks_of, shapes}
use Rattle.pap_reader.specs.Attributes.{mark_is_right}
use Rattle.pap_reader.specs.Limits.{tested, IsFirstOver}

-- It may not stand there: no text begins with the tags before it and with it, attributes aside.
abbrev pub IsMisplaced : List PlacedTag → PlacedTag → Type 0
IsMisplaced before t = BeginsDocument (shapes (before ++ (t ∷ []))) → ⊥

-- One of its attributes is missing, stands twice, is too long, or is not of its form.
abbrev pub IsIllFormed : PlacedTag → Type 0
IsIllFormed t = list_all mark_is_right (marks_of t.tag) ≡ false

-- The refusal that the tag earns: the first cause that it has. Where no token begins there is no tag (`IsAlien`).
abbrev pub Earns : List PlacedTag → PlacedTag → ReadFault → Type 0
Earns before t (faults.Text at) = ⊥
Earns before t (faults.Element at) = (at ≡ t.at) × IsMisplaced before t
Earns before t (faults.Attribute at) = (at ≡ t.at) × (IsMisplaced before t → ⊥) × IsIllFormed t
Earns before t (faults.Many w) =
    (IsMisplaced before t → ⊥) × (IsIllFormed t → ⊥) × IsFirstOver before t tested w
Earns before t faults.Memory = ⊥

-- None of the tags earns a refusal.
abbrev pub IsClean : List PlacedTag → Type 0
IsClean ts = (a b : List PlacedTag) (t : PlacedTag) (f : ReadFault) → ts ≡ a ++ (t ∷ b) → Earns a t f → ⊥
