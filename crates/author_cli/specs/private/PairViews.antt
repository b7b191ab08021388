-- Parts of the comparison of two plans with their range files.
use Rattle.std.specs.Prelude.{ℕ, List}
use Rattle.outside.specs.Told.{FileMap}
use Rattle.plain_words.specs.Places.{PlanFiles, files_of}
use Rattle.plan_answers.specs.Fronts.{AreFronts}
use Rattle.author_cli.specs.declared.compared_pairs.PairBytes.{PairBytes}
use Rattle.author_cli.specs.declared.compared_pairs.PlanPair.{PlanPair}

-- a plan and its range file as they are named
abbrev pub files_of_pair : PlanPair → PlanFiles
files_of_pair pair = files_of pair.plan pair.limits

-- the four files are there, and these are their first bytes: of each at most one byte more than its limit
pub record AreFourFronts (files : FileMap) (old old_limits new new_limits : List ℕ) (read : PairBytes) : Type 0 where
  pub first : AreFronts files old old_limits read.old.items read.old_limits.items
  pub second : AreFronts files new new_limits read.new.items read.new_limits.items
