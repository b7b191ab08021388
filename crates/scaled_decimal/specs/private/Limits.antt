-- What private contracts cite beside the definitions of Limits.
use Rattle.std.specs.Prelude.{ℕ}

-- the most places with their point, and the longest plain text: a sign, 39 digits of 128 bits, and those places
abbrev pub longest_places : ℕ
longest_places = 31

abbrev pub longest_text : ℕ
longest_text = 71
