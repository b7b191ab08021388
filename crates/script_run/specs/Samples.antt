-- The script of a sample: a book of so many employees for a year, as a list of lines.
use Rattle.std.specs.Prelude.{ℕ, zero, suc, ◌+◌, ◌*◌, List, [], ◌∷◌, ◌++◌, map, codes}
use Rattle.std.specs.List.{flat_map}
use Rattle.std.specs.Fmt.{decimal}
use Rattle.payroll_records.specs.Days.{month_text, day_text}

-- the numbers from 1 to n
abbrev pub numbers : ℕ → List ℕ
numbers zero = []
numbers (suc n) = numbers n ++ suc n ∷ []

-- the record of an employee for a month of 2025, on its 28th day
abbrev pub add_line : ℕ → ℕ → List ℕ
add_line employee month =
    codes "add E" ++ decimal employee ++ codes " " ++ month_text 2025 month ++ codes " " ++ day_text 2025 month 28
    ++ codes " RE4=" ++ decimal (100000 + 1000 * employee * month)

-- the correction of an employee's March
abbrev pub change_line : ℕ → List ℕ
change_line employee = codes "change E" ++ decimal employee ++ codes " 2025-03 2025-03-28 RE4=50000"

-- an employee's twelve records
abbrev pub year_lines : ℕ → List (List ℕ)
year_lines employee = map (λ month. add_line employee month) (numbers 12)

-- a plan, the records of each employee, a correction of each employee's March, and a report
abbrev pub sample_lines : ℕ → List (List ℕ)
sample_lines employees =
    codes "plan 2025-01-01 p2.xml l2.toml" ∷ flat_map year_lines (numbers employees)
    ++ (map change_line (numbers employees) ++ codes "report" ∷ [])

-- the lines as a script: each with an LF
abbrev pub script_of : List (List ℕ) → List ℕ
script_of lines = flat_map (λ line. line ++ 10 ∷ []) lines
