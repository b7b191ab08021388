-- Where a tag stops being read, as the code has it.
use Rattle.std.specs.Prelude.{ℕ, List, MatchOption}
use Rattle.plain_words.specs.declared.stops.TagStop.{TagStop}
use Rattle.plain_words.specs.Strays.{StopsInValue}

-- it stops in that value, or in none
abbrev pub StopsAs : List ℕ → TagStop → Type 0
StopsAs tag stop =
    MatchOption stop.value
    ((quote : ℕ) (text left : List ℕ) → StopsInValue tag quote text left → ⊥)
    (λ front. StopsInValue tag front.quote front.text.now stop.left.now)
