-- The form of an employee's text (docs/PROFILE.md, "Employees").
use Rattle.std.specs.Prelude.{ℕ, Bool, ◌&&◌, ◌||◌, ◌==◌, nat_lt, nat_le, List, length}
use Rattle.std.specs.List.{list_all}
use Rattle.pap_tree.specs.Names.{is_word}

-- a byte that may stand in an employee's text: a letter, a digit, `_`, `-` or `.`
abbrev pub is_employee_byte : ℕ → Bool
is_employee_byte b = is_word b || (b == 45) || (b == 46)

-- an employee's text: 1 to 32 of these bytes
abbrev pub is_employee : List ℕ → Bool
is_employee bs = nat_lt 0 (length bs) && nat_le (length bs) 32 && list_all is_employee_byte bs
