-- The lines of answers (docs/USE.md).
use Rattle.std.specs.Prelude.{ℕ, List, [], ◌∷◌, ◌++◌, codes}
use Rattle.std.specs.Fmt.{decimal as number}
use Rattle.scaled_decimal.specs.Decimals.{decimal}
use Rattle.scaled_decimal.specs.PlainTexts.{plain_text}
use Rattle.interval_walk.specs.Ranges.{NamedRange, Ranges}

-- a text, a space, and what follows
abbrev pub spaced : List ℕ → List ℕ → List ℕ
spaced text after = text ++ (32 ∷ after)

-- the text as a line
abbrev pub line : List ℕ → List ℕ
line text = text ++ (10 ∷ [])

-- the bound on the steps of an accepted flowchart: accepted steps B
abbrev pub bound_line : ℕ → List ℕ
bound_line bound = line (codes "accepted steps " ++ number bound)

-- an output with its range: NAME LO HI SLO SHI, the ends as plain decimals at the greatest scale, then the
-- least and the greatest scale
abbrev pub range_line : NamedRange → List ℕ
range_line o =
    line (spaced o.name
    (spaced (plain_text (decimal o.range.lo o.range.s_hi))
    (spaced (plain_text (decimal o.range.hi o.range.s_hi))
    (spaced (number o.range.s_lo) (number o.range.s_hi)))))

-- a line for each output's range
abbrev pub range_lines : Ranges → List ℕ
range_lines [] = []
range_lines (o ∷ os) = range_line o ++ range_lines os

-- a refusal, the first word and then its detail: refused GROUP NAME DETAIL
abbrev pub refusal_line : List ℕ → List ℕ
refusal_line detail = line (codes "refused " ++ detail)
