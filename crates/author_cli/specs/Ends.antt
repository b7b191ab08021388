-- How a call ends.
use Rattle.std.specs.Prelude.{ℕ, List, Option, Some, None, option_map, Result, Ok, Err, String, string_bytes}
use Rattle.std.specs.declared.alloc.Global.{Global}
use Rattle.author_cli.specs.declared.stop.Stop.{Stop}
use Rattle.author_cli.specs.declared.stop.Stop.TheVariants as stops

-- all was written, with the reason why a plan is refused, that two differ, or that a run fails, where that is so, or why the call
-- stopped
abbrev pub Ended : Type 0
Ended = Result (Option (String Global)) Stop

-- the words of a reason
abbrev pub words_of : Option (String Global) → Option (List ℕ)
words_of reason = option_map (λ words. string_bytes words) reason

-- the number with which the program ends
abbrev pub exit_number : Ended → ℕ
exit_number (Ok None) = 0
exit_number (Ok (Some reason)) = 1
exit_number (Err stops.Words) = 2
exit_number (Err stops.File) = 3
exit_number (Err stops.Write) = 5
exit_number (Err stops.Memory) = 6
