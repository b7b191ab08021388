-- Words that give values: NAME=VALUE. Source: docs/PROFILE.md, "Scripts".
use Rattle.std.specs.Prelude.{◌≡◌, ℕ, List, ◌++◌, codes, IsTrue}
use Rattle.std.specs.List.{AllZip}
use Rattle.std.specs.List.Sorted.{IsPermutation}
use Rattle.scaled_decimal.specs.NumberTexts.{Spells}
use Rattle.scaled_decimal.specs.Limits.{IsKept}
use Rattle.pap_tree.specs.Names.{is_name}
use Rattle.payroll_records.specs.NamedValues.{AreValues}
use Rattle.payroll_records.specs.declared.values.NamedValue.{NamedValue}

-- NAME=VALUE: a name, `=`, and a text that spells a kept decimal. A name has no `=`, so the word is split at the first.
pub record IsValueWord (word : List ℕ) (v : NamedValue) : Type 0 where
  pub text : List ℕ
  pub split : word ≡ v.name ++ (codes "=" ++ text)
  pub named : IsTrue (is_name v.name)
  pub spelled : Spells text v.value
  pub kept : IsKept v.value

-- each word gives a value; these are the values in order of their names, which differ, 256 at most
pub record AreValueWords (words : List (List ℕ)) (values : List NamedValue) : Type 0 where
  pub given : List NamedValue
  pub give : AllZip IsValueWord words given
  pub same : IsPermutation given values
  pub are : AreValues values
