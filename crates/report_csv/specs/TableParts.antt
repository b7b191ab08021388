-- A table that is taken apart by employee.
use Rattle.std.specs.Prelude.{◌≡◌, ℕ, List, [], ◌∷◌}
use Rattle.std.specs.List.{AllByRecursion}
use Rattle.std.specs.declared.cmp.Ordering.TheVariants.{Less}
use Rattle.std.specs.Ordering.{nat_cmp}
use Rattle.std.specs.Cmp.Lexicographic.{slice_cmp}
use Rattle.payroll_records.specs.declared.record.Record.{Record}

-- each record of a table stands in the one part or in the other, in the order of the table
pub data IsDivided : List Record → List Record → List Record → Type 0 where
  all : IsDivided [] [] []
  in_first : {rs first rest : List Record} (r : Record)
      → IsDivided rs first rest → IsDivided (r ∷ rs) (r ∷ first) rest
  in_rest : {rs first rest : List Record} (r : Record)
      → IsDivided rs first rest → IsDivided (r ∷ rs) first (r ∷ rest)

-- an employee comes before another, in the order of their bytes
abbrev pub ComesBefore : List ℕ → List ℕ → Type 0
ComesBefore a b = slice_cmp nat_cmp a b ≡ Less

-- each employee of the first records comes before each of the rest
abbrev pub AllComeBefore : List Record → List Record → Type 0
AllComeBefore first rest =
    AllByRecursion (λ r. AllByRecursion (λ s. ComesBefore r.employee s.employee) rest) first

-- the parts of a table: the employees of a part come before those of all parts behind it
pub data AreParts : List Record → List (List Record) → Type 0 where
  none : AreParts [] []
  one_more : {table first rest : List Record} {parts : List (List Record)}
      → IsDivided table first rest → AllComeBefore first rest → AreParts rest parts
      → AreParts table (first ∷ parts)
