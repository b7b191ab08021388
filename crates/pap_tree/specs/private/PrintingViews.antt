-- What private calls say of the bytes that they write to.
use Rattle.std.specs.Prelude.{◌≡◌, ℕ, List, ◌++◌}
use Rattle.std.proofs.Common.{Vec, Global}

-- a text is written behind what was there
abbrev pub Gains : Vec ℕ Global → Vec ℕ Global → List ℕ → Type 0
Gains old new text = new.items ≡ old.items ++ text
