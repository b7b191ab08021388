-- Comments, as texts.
use Rattle.std.specs.Prelude.{ℕ, List, map, String, string_bytes}
use Rattle.std.specs.declared.alloc.Global.{Global}

abbrev pub texts_of : List (String Global) → List (List ℕ)
texts_of comments = map (λ comment. string_bytes comment) comments
