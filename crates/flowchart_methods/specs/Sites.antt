-- What a refusal names of the methods.
use Rattle.std.specs.Prelude.{ℕ, Bool, false, List, Option, Some, None, if◌then◌else◌}
use Rattle.std.specs.Str.{bytes_eq}
use Rattle.flowchart_methods.specs.declared.site.Site.{Site}
use Rattle.flowchart_methods.specs.declared.site.Site.TheVariants.{Statement, Method}

-- whether the method of this name is named, or one of its statements
abbrev pub is_in : Site → List ℕ → Bool
is_in (Statement method number) name = bytes_eq method name
is_in (Method method) name = bytes_eq method name
is_in _ name = false

-- a statement by its method's name and its number there
pub record NamedStatement : Type 0 where
  pub method : List ℕ
  pub number : ℕ

-- the statement that is named, where one is
abbrev pub named_statement : Site → Option NamedStatement
named_statement (Statement method number) = Some (record { method = method; number = number })
named_statement _ = None

-- the number of this statement, where it is one of the method of this name
abbrev pub number_in : Option NamedStatement → List ℕ → Option ℕ
number_in (Some s) name = if bytes_eq s.method name then Some s.number else None
number_in None name = None
