-- What is known of the statements of a method, as a drawing shows it.
use Rattle.std.specs.Prelude.{ℕ, ◌==◌, Bool, true, false, if◌then◌else◌, Option, Some, None, List, [], ◌∷◌, ◌++◌, length, codes, unwrap_or, option_map, slice_get}
use Rattle.std.specs.List.{flat_map}
use Rattle.std.specs.Fmt.{decimal as number}
use Rattle.flowchart_methods.specs.declared.kind.MarkKind.{MarkKind}
use Rattle.flowchart_methods.specs.declared.kind.MarkKind.TheVariants.{Nothing, Run, Told, Came, Missed, Dead, Failing}
use Rattle.flowchart_methods.specs.declared.kind.ExitKind.{ExitKind}
use Rattle.flowchart_methods.specs.declared.kind.ExitKind.TheVariants as exits

-- of a statement: what kind of thing is known of it, what is told of it line by line, and what is known of the exits behind it, where
-- it is a test
pub record Marked : Type 0 where
  pub kind : MarkKind
  pub lines : List (List ℕ)
  pub yes : ExitKind
  pub no : ExitKind

-- of a statement of which nothing is known
abbrev pub unmarked : Marked
unmarked = record { kind = Nothing; lines = []; yes = exits.Open; no = exits.Open }

-- of the statement of a number
abbrev pub mark_at : List Marked → ℕ → Marked
mark_at marks number = unwrap_or (slice_get marks number) unmarked

-- of the statements of the method of a number
abbrev pub marks_at : List (List Marked) → ℕ → List Marked
marks_at marks method = unwrap_or (slice_get marks method) []

-- a run took the exit
abbrev pub is_taken : ExitKind → Bool
is_taken exits.Taken = true
is_taken _ = false

-- runs came to its test, and none of them took it
abbrev pub is_missed : ExitKind → Bool
is_missed exits.Missed = true
is_missed _ = false

-- no run within the ranges takes it
abbrev pub is_dead : ExitKind → Bool
is_dead exits.Dead = true
is_dead _ = false

-- which of the ways behind a test are so, as they are read aloud
abbrev pub way_words : List ℕ → Bool → Bool → List ℕ
way_words what true true = codes "; ways " ++ (what ++ codes ": yes, no")
way_words what true false = codes "; way " ++ (what ++ codes ": yes")
way_words what false true = codes "; way " ++ (what ++ codes ": no")
way_words what false false = []

-- how many runs took the exit, where they are counted
abbrev pub runs_counted : ExitKind → Option ℕ
runs_counted (exits.Counted count) = Some count
runs_counted _ = None

-- a number of runs
abbrev pub runs_text : ℕ → List ℕ
runs_text count = number count ++ (if count == 1 then codes " run" else codes " runs")

-- how many runs took a way behind a test, as it is read aloud
abbrev pub counted_way : List ℕ → Option ℕ → List ℕ
counted_way way (Some count) = codes "; " ++ (way ++ (codes ": " ++ runs_text count))
counted_way way None = []

-- what is known of the ways behind a test, as it is read aloud
abbrev pub exit_words : ExitKind → ExitKind → List ℕ
exit_words holds fails =
    way_words (codes "taken") (is_taken holds) (is_taken fails)
    ++ (counted_way (codes "yes") (runs_counted holds)
    ++ (counted_way (codes "no") (runs_counted fails)
    ++ (way_words (codes "missed") (is_missed holds) (is_missed fails)
    ++ way_words (codes "never taken") (is_dead holds) (is_dead fails))))

-- a line of what is told of a statement, as it is read aloud
abbrev pub spoken_line : List ℕ → List ℕ
spoken_line line = codes "; " ++ line

-- all of them
abbrev pub spoken_lines : List (List ℕ) → List ℕ
spoken_lines lines = flat_map spoken_line lines

-- what is told of a statement and of the ways behind it, as it is read aloud
abbrev pub told_words : Marked → List ℕ
told_words m = spoken_lines m.lines ++ exit_words m.yes m.no

-- the words before it, by the kind of thing that is known, and whether something is told
abbrev pub kind_words : MarkKind → Bool → Option (List ℕ)
kind_words Nothing tells = None
kind_words (Run first) tells = Some (codes "executed")
kind_words Told true = Some (codes "within the ranges")
kind_words Told false = None
kind_words Came tells = Some (codes "covered")
kind_words Missed tells = Some (codes "missed")
kind_words Dead tells = Some (codes "dead")
kind_words Failing tells = Some (codes "may fail")

-- there are some
abbrev pub has_some : List ℕ → Bool
has_some [] = false
has_some (byte ∷ bytes) = true

-- what is known of a statement, as it is read aloud behind its text; nothing where nothing is
abbrev pub mark_words : Marked → Option (List ℕ)
mark_words m = option_map (λ lead. lead ++ told_words m) (kind_words m.kind (has_some (told_words m)))
