-- What private functions look for among the names that the code has.
use Rattle.std.specs.Prelude.{ℕ, not, Bool, List, Option}
use Rattle.std.specs.List.{find, list_any}
use Rattle.std.specs.Option.{option_map}
use Rattle.std.specs.Str.{bytes_eq}
use Rattle.pap_tree.specs.declared.declaration.Declared.{Declared}
use Rattle.limits_file.specs.declared.limits.InputLimit.{InputLimit}
use Rattle.limits_file.specs.declared.limits.Limits.{Limits}
use Rattle.pap_plan.specs.Bindings.{has_limit}

-- whether one of these has the name
abbrev pub declares : List Declared → List ℕ → Bool
declares ds x = list_any (λ d. bytes_eq x d.name) ds

-- the first input without a limit among these
abbrev pub without_limit : List Declared → Limits → Option (List ℕ)
without_limit inputs limits = option_map (λ d. d.name) (find (λ d. not (has_limit limits d.name)) inputs)

-- the first limit of no input among these
abbrev pub without_input : List Declared → List InputLimit → Option (List ℕ)
without_input inputs limits = option_map (λ l. l.name) (find (λ l. not (declares inputs l.name)) limits)
