-- The answer for what runs cover on what is read of three files is that on their bytes.
use Rattle.std.proofs.Common.{◌≡◌, ℕ, ◌<◌, List, take, inl, inr, refl, sym, subst, arith}
use Rattle.std.specs.Prelude.{Option, Some, IsSome}
use Rattle.std.specs.Option.{ForSome}
use Rattle.outside.specs.Told.{FileMap, IsToldFront}
use Rattle.payroll_records.specs.declared.table.TableFault.{TableFault}
use Rattle.payroll_records.specs.declared.table.TableFault.TheVariants as tables
use Rattle.payroll_records.specs.Tables.{IsTableFault}
use Rattle.pap_plan.specs.Acceptance.{IsAccepted}
use Rattle.plan_answers.specs.Fronts.{AreFronts}
use Rattle.plan_answers.proofs.Laws.{whole, longer, front_there, accepted_whole}
use Rattle.plain_words.specs.Places.{NamedText}
use Rattle.table_coverage.specs.TableCoverages.{CoverFiles}
use Rattle.author_cli.specs.declared.covered.CoverBytes.{CoverBytes}
use Rattle.author_cli.specs.Words.{Medium, covered}
use Rattle.author_cli.specs.Answers.{Answer, file_of, Answers}
use Rattle.author_cli.specs.CallClauses.{IsMissingOfThree}
use Rattle.author_cli.specs.Covered.{IsCoverTold, IsRefusedTable, IsFullTable, IsCoverAnswer}
use Rattle.author_cli.specs.private.CoveredViews.{AreThreeFronts}
use Rattle.author_cli.proofs.FrontLemmas.{refusal_front}
use Rattle.author_cli.proofs.TellsLemmas.{front}

module _ (n m k : ℕ) (more_plan : 1048576 < n) (more_limits : 262144 < m) (more_table : 33554432 < k) where
  fault_front : (table : List ℕ) (fault : TableFault) → IsTableFault (take k table) fault → IsTableFault table fault
  fault_front table tables.TableLong h = longer 33554432 k table h
  fault_front table tables.Header h =
      subst (λ b. IsTableFault b tables.Header) (whole 33554432 k table more_table h.0) h
  fault_front table (tables.Width row) h =
      subst (λ b. IsTableFault b (tables.Width row)) (whole 33554432 k table more_table h.short) h
  fault_front table (tables.Employee row) h =
      subst (λ b. IsTableFault b (tables.Employee row)) (whole 33554432 k table more_table h.short) h
  fault_front table (tables.Month row) h =
      subst (λ b. IsTableFault b (tables.Month row)) (whole 33554432 k table more_table h.short) h
  fault_front table (tables.Day row) h =
      subst (λ b. IsTableFault b (tables.Day row)) (whole 33554432 k table more_table h.short) h
  fault_front table (tables.Value row name) h =
      subst (λ b. IsTableFault b (tables.Value row name)) (whole 33554432 k table more_table h.short) h
  fault_front table (tables.Repeat row) h =
      subst (λ b. IsTableFault b (tables.Repeat row)) (whole 33554432 k table more_table h.short) h
  fault_front table (tables.Memory error) h = absurd h

  -- what holds of texts that are read whole
  whole_files : (P : CoverFiles → Type 0) (plan limits table : List ℕ) → take n plan ≡ plan → take m limits ≡ limits
      → take k table ≡ table → P (record { plan = take n plan; limits = take m limits; table = take k table })
      → P (record { plan = plan; limits = limits; table = table })
  whole_files P plan limits table p l t h =
      subst (λ b. P (record { plan = plan; limits = limits; table = b })) t
      (subst (λ b. P (record { plan = plan; limits = b; table = take k table })) l
      (subst (λ b. P (record { plan = b; limits = take m limits; table = take k table })) p h))

  covered_front : (medium : Medium) (least : Option ℕ) (plan limits : NamedText) (table text : List ℕ) (reason : Option (List ℕ))
      → IsCoverAnswer medium least (front n plan) (front m limits) (take k table) text reason
      → IsCoverAnswer medium least plan limits table text reason
  covered_front medium least plan limits table text reason (inl h) =
      let has = h.covered.has in
      let w = accepted_whole n m more_plan more_limits plan.bytes limits.bytes h.covered.meaning has.accepted in
      inl (whole_files (λ files. IsCoverTold medium least files text reason) plan.bytes limits.bytes table w.0 w.1
      (whole 33554432 k table more_table has.read.short) h)
  covered_front medium least plan limits table text reason (inr (inr (inl h))) =
      let w = accepted_whole n m more_plan more_limits plan.bytes limits.bytes h.refused.meaning h.refused.accepted in
      inr (inr (inl (record {
        fault = h.fault;
        refused = record {
          meaning = h.refused.meaning;
          accepted = subst (λ l. IsAccepted plan.bytes l h.refused.meaning) w.1
              (subst (λ p. IsAccepted p (take m limits.bytes) h.refused.meaning) w.0 h.refused.accepted);
          refused = fault_front table h.fault h.refused.refused;
        };
        tells = h.tells;
      })))
  covered_front medium least plan limits table text reason (inr (inr (inr h))) =
      let has = h.many.has in
      let w = accepted_whole n m more_plan more_limits plan.bytes limits.bytes h.many.meaning has.accepted in
      inr (inr (inr (whole_files (λ files. IsFullTable files text reason) plan.bytes limits.bytes table w.0 w.1
      (whole 33554432 k table more_table has.read.short) h)))
  covered_front medium least plan limits table text reason (inr (inl h)) =
      inr (inl (h.0, refusal_front n m more_plan more_limits h.0 plan limits text reason h.1))

-- ---- of files that are there

-- what is read of files that tell this
pub three_fronts : (first : Option FileMap) (files : FileMap) (plan limits table : List ℕ) (read : CoverBytes)
    → AreFronts files plan limits read.plan.items read.limits.items
    → IsToldFront first table 33554433 read.table.items → first ≡ Some files → AreThreeFronts files plan limits table read
three_fronts first files plan limits table read both told is =
    let t = front_there (files table) 33554433 read.table.items
    (subst (λ x. IsToldFront x table 33554433 read.table.items) is told) in
    record { both = both; table_bytes = t.0; table_there = t.1; table_read = t.2 }

-- the third file isn't there
pub third_missing : {told : Option FileMap} (plan limits table plan_front limits_front : List ℕ) (missing : Option (List ℕ))
    → ForSome told (λ files. AreFronts files plan limits plan_front limits_front) → missing ≡ Some table
    → IsMissingOfThree told plan limits table missing
third_missing plan limits table plan_front limits_front missing read is = inr (
  is,
  λ files told.
      let both = read files told in
      (subst (λ o. IsSome o) (sym both.plan_there) refl, subst (λ o. IsSome o) (sym both.limits_there) refl),
)

pub covered_of : (files : FileMap) (medium : Medium) (least : Option ℕ) (plan limits table : List ℕ) (read : CoverBytes) (a : Answer)
    → AreThreeFronts files plan limits table read
    → IsCoverAnswer medium least (file_of plan read.plan.items) (file_of limits read.limits.items) read.table.items a.text a.reason
    → Answers (covered medium plan limits table least) files a
covered_of files medium least plan limits table read a are h =
    let both = are.both in
    let of_plan = subst (λ b. IsCoverAnswer medium least (file_of plan b) (file_of limits read.limits.items) read.table.items a.text a.reason)
    both.plan_read h in
    let of_limits = subst (λ b. IsCoverAnswer medium least (file_of plan (take 1048577 both.plan_bytes)) (file_of limits b) read.table.items a.text a.reason)
    both.limits_read of_plan in
    record {
      plan_bytes = both.plan_bytes;
      limits_bytes = both.limits_bytes;
      table_bytes = are.table_bytes;
      plan_there = both.plan_there;
      limits_there = both.limits_there;
      table_there = are.table_there;
      is = covered_front 1048577 262145 33554433 (omega arith) (omega arith) (omega arith) medium least
          (file_of plan both.plan_bytes) (file_of limits both.limits_bytes) are.table_bytes a.text a.reason
          (subst (λ b. IsCoverAnswer medium least (file_of plan (take 1048577 both.plan_bytes))
          (file_of limits (take 262145 both.limits_bytes)) b a.text a.reason) are.table_read of_limits);
    }
