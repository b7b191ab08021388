-- The answer of a comparison on what is read of four files is that on their bytes.
use Rattle.std.proofs.Common.{◌≡◌, ℕ, ◌<◌, List, take, inl, inr, refl, sym, subst, arith}
use Rattle.std.specs.Prelude.{Option, Some, IsSome}
use Rattle.std.specs.Option.{ForSome}
use Rattle.outside.specs.Told.{FileMap}
use Rattle.plan_answers.specs.Fronts.{AreFronts, IsMissing}
use Rattle.plan_answers.proofs.Laws.{whole}
use Rattle.range_comparison.specs.Changes.{range_changes}
use Rattle.plain_words.specs.Places.{PlanFiles}
use Rattle.author_cli.specs.Words.{Medium, with_limits, compared}
use Rattle.author_cli.specs.Answers.{Answer, file_of, Answers}
use Rattle.author_cli.specs.CallClauses.{IsMissingOfPairs}
use Rattle.author_cli.specs.Compared.{TellsComparison, IsComparedWithin, IsRefusedPair, IsComparedPairs}
use Rattle.author_cli.specs.declared.compared_pairs.PairBytes.{PairBytes}
use Rattle.author_cli.specs.private.PairViews.{AreFourFronts}
use Rattle.author_cli.proofs.FrontLemmas.{refusal_front, bound_front}
use Rattle.author_cli.proofs.TellsLemmas.{front}

module _ (n m : ℕ) (more_plan : 1048576 < n) (more_limits : 262144 < m) where
  -- what is read of both files of a pair
  abbrev fronts : PlanFiles → PlanFiles
  fronts files = record { plan = front n files.plan; ranges = front m files.ranges }

  within_front : (medium : Medium) (old new : PlanFiles) (text : List ℕ) (reason : Option (List ℕ))
      → IsComparedWithin medium (fronts old) (fronts new) text reason → IsComparedWithin medium old new text reason
  within_front medium old new text reason h = record {
    old_plan = h.old_plan;
    new_plan = h.new_plan;
    old_ranges = h.old_ranges;
    new_ranges = h.new_ranges;
    old_bound = bound_front n m more_plan more_limits old.plan.bytes old.ranges.bytes h.old_plan h.old_ranges h.old_bound;
    new_bound = bound_front n m more_plan more_limits new.plan.bytes new.ranges.bytes h.new_plan h.new_ranges h.new_bound;
    tells = subst (λ b. TellsComparison medium old.plan (record { name = new.plan.name; bytes = b }) h.old_plan h.new_plan
        (Some (range_changes h.old_ranges h.new_ranges)) text reason)
        (whole 1048576 n new.plan.bytes more_plan h.new_bound.suited.named.file.ordered.typed.text.read.short)
        (subst (λ b. TellsComparison medium (record { name = old.plan.name; bytes = b }) (front n new.plan) h.old_plan h.new_plan
        (Some (range_changes h.old_ranges h.new_ranges)) text reason)
        (whole 1048576 n old.plan.bytes more_plan h.old_bound.suited.named.file.ordered.typed.text.read.short) h.tells);
  }

  refused_pair_front : (files : PlanFiles) (text : List ℕ) (reason : Option (List ℕ)) → IsRefusedPair (fronts files) text reason
      → IsRefusedPair files text reason
  refused_pair_front files text reason h =
      (h.0, refusal_front n m more_plan more_limits h.0 files.plan files.ranges text reason h.1)

  pairs_front : (medium : Medium) (old new : PlanFiles) (text : List ℕ) (reason : Option (List ℕ))
      → IsComparedPairs medium (fronts old) (fronts new) text reason → IsComparedPairs medium old new text reason
  pairs_front medium old new text reason (inl h) = inl (within_front medium old new text reason h)
  pairs_front medium old new text reason (inr (inl h)) = inr (inl (refused_pair_front old text reason h))
  pairs_front medium old new text reason (inr (inr h)) = inr (inr (refused_pair_front new text reason h))

-- ---- of files that are there

-- what is read of files that tell this
pub four_fronts : {told : Option FileMap} (files : FileMap) (old old_limits new new_limits : List ℕ) (read : PairBytes)
    → AreFronts files old old_limits read.old.items read.old_limits.items
    → ForSome told (λ map. AreFronts map new new_limits read.new.items read.new_limits.items) → told ≡ Some files
    → AreFourFronts files old old_limits new new_limits read
four_fronts files old old_limits new new_limits read first second told = record { first = first; second = second files told }

-- a file of the second pair isn't there
pub second_missing : {told told' : Option FileMap} (old old_limits new new_limits old_front limits_front : List ℕ)
    (missing : Option (List ℕ))
    → ForSome told (λ files. AreFronts files old old_limits old_front limits_front) → told' ≡ told
    → IsMissing told' new new_limits missing → IsMissingOfPairs told old old_limits new new_limits missing
second_missing old old_limits new new_limits old_front limits_front missing read same is = inr (
  subst (λ t. IsMissing t new new_limits missing) same is,
  λ files told.
      let both = read files told in
      (subst (λ o. IsSome o) (sym both.plan_there) refl, subst (λ o. IsSome o) (sym both.limits_there) refl),
)

-- the two files of a name, as they are named and read
abbrev pub pair_of : (plan plan_bytes limits limits_bytes : List ℕ) → PlanFiles
pair_of plan plan_bytes limits limits_bytes = record { plan = file_of plan plan_bytes; ranges = file_of limits limits_bytes }

pub pairs_of : (files : FileMap) (medium : Medium) (old old_limits new new_limits : List ℕ) (read : PairBytes) (a : Answer)
    → AreFourFronts files old old_limits new new_limits read
    → IsComparedPairs medium
    (record { plan = file_of old read.old.items; ranges = file_of old_limits read.old_limits.items })
    (record { plan = file_of new read.new.items; ranges = file_of new_limits read.new_limits.items }) a.text a.reason
    → Answers (compared medium (with_limits old old_limits new new_limits)) files a
pairs_of files medium old old_limits new new_limits read a are h =
    let p = are.first in
    let q = are.second in
    let new_pair = pair_of new read.new.items new_limits read.new_limits.items in
    let old_plan = subst (λ b. IsComparedPairs medium (pair_of old b old_limits read.old_limits.items) new_pair a.text a.reason)
    p.plan_read h in
    let old_pair = subst (λ b. IsComparedPairs medium (pair_of old (take 1048577 p.plan_bytes) old_limits b) new_pair a.text a.reason)
    p.limits_read old_plan in
    let first = pair_of old (take 1048577 p.plan_bytes) old_limits (take 262145 p.limits_bytes) in
    let new_plan = subst (λ b. IsComparedPairs medium first (pair_of new b new_limits read.new_limits.items) a.text a.reason)
    q.plan_read old_pair in
    let all = subst (λ b. IsComparedPairs medium first (pair_of new (take 1048577 q.plan_bytes) new_limits b) a.text a.reason)
    q.limits_read new_plan in
    record {
      old_bytes = p.plan_bytes;
      old_limits_bytes = p.limits_bytes;
      new_bytes = q.plan_bytes;
      new_limits_bytes = q.limits_bytes;
      old_there = p.plan_there;
      old_limits_there = p.limits_there;
      new_there = q.plan_there;
      new_limits_there = q.limits_there;
      is = pairs_front 1048577 262145 (omega arith) (omega arith) medium
          (pair_of old p.plan_bytes old_limits p.limits_bytes) (pair_of new q.plan_bytes new_limits q.limits_bytes) a.text a.reason all;
    }
