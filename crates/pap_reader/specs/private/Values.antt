-- What private contracts cite beside the definitions of Values.
use Rattle.std.specs.Prelude.{ℕ, List}
use Rattle.pap_reader.specs.Values.{Quoted}

-- No value with this quote can be read here.
abbrev pub NoValue : ℕ → List ℕ → Type 0
NoValue q bytes = (value rest : List ℕ) → Quoted q bytes value rest → ⊥
