-- The limit of a ledger.
use Rattle.std.specs.Prelude.{ℕ}

-- a ledger has at most so many entries
abbrev pub most_entries : ℕ
most_entries = 2000000
