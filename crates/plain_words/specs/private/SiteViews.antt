-- What is declared among the elements that were read of a plan's file.
use Rattle.std.specs.Prelude.{ℕ, List, Bool}
use Rattle.std.specs.List.{list_any}
use Rattle.std.specs.Str.{bytes_eq}
use Rattle.pap_reader.specs.declared.elements.Elements.{Elements}

abbrev pub declares_input : Elements → List ℕ → Bool
declares_input elements name = list_any (λ d. bytes_eq name d.name) elements.inputs.items
