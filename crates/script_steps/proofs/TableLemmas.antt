-- A table that was read, as the step of a line.
use Rattle.std.proofs.Common.{◌≡◌, ℕ, List, refl, ap, arith, inr}
use Rattle.std.specs.Prelude.{Result, Ok, Err, IfOk, OnErr}
use Rattle.std.specs.declared.alloc.AllocError.{AllocError}
use Rattle.payroll_records.specs.declared.record.Record.{Record}
use Rattle.payroll_records.specs.declared.table.TableFault.{TableFault}
use Rattle.payroll_records.specs.declared.table.TableFault.TheVariants as tables
use Rattle.payroll_records.specs.Tables.{IsTable, IsTableFaultOrMemory, TableSays}
use Rattle.recalc_engine.specs.EditAnswers as edits
use Rattle.plan_answers.specs.Answers.{Answer, refusal}
use Rattle.script_steps.specs.declared.reply.LineReply.{LineReply}
use Rattle.script_steps.specs.private.Replies.{reply_of}
use Rattle.plan_answers.proofs.Laws.{if_ok_map, on_err_map}
use Rattle.script_steps.specs.LineTexts.{ok_line, table_detail}
use Rattle.script_steps.specs.Standings.{Standing, StaysOrSteps}
use Rattle.script_steps.specs.LineSteps.{IsEditStep, IsTableStep}
use Rattle.script_steps.specs.private.StepViews.{IsMade, IsLost, IsWant, IsTableRefusal}
use Rattle.script_steps.proofs.MadeLemmas.{made_map, lost_map, stays_map}

module _ (from : Standing) (table : List ℕ) (before now : ℕ) where
  -- the runs of the table were added, or not
  loaded : (records : List Record) → IsTable table records → (to : Standing) (a : Answer)
      → IsEditStep ok_line from (edits.load records) to a → IsTableStep from table to a
  loaded records t to a h = record { said = Ok records; says = t; is = h }

  pub table_made : (records : List Record) (to : Standing) (reply : Result LineReply AllocError) → IsTable table records
      → IfOk reply (λ r. IsMade (IsEditStep ok_line from (edits.load records)) to before now (reply_of r))
      → IfOk reply (λ r. IsMade (IsTableStep from table) to before now (reply_of r))
  table_made records to reply t =
      if_ok_map reply _ _ (λ r. made_map (IsEditStep ok_line from (edits.load records)) (IsTableStep from table) to
      before now (reply_of r) (loaded records t))

  pub table_lost : (records : List Record) (reply : Result LineReply AllocError) → IsTable table records
      → OnErr reply (IsLost (IsEditStep ok_line from (edits.load records)) before now)
      → OnErr reply (IsWant (IsTableStep from table) before now)
  table_lost records reply t =
      on_err_map reply _ _ (λ l. inr (lost_map (IsEditStep ok_line from (edits.load records)) (IsTableStep from table)
      before now (loaded records t) l))

  pub table_left : (records : List Record) (to : Standing) (reply : Result LineReply AllocError) → IsTable table records
      → OnErr reply (StaysOrSteps (IsEditStep ok_line from (edits.load records)) from to)
      → OnErr reply (StaysOrSteps (IsTableStep from table) from to)
  table_left records to reply t =
      on_err_map reply _ _
      (stays_map (IsEditStep ok_line from (edits.load records)) (IsTableStep from table) from to (loaded records t))

-- a table that is refused
refused_says : (table : List ℕ) (why : TableFault) (a : Answer) → IsTableFaultOrMemory table why → IsTableRefusal why a
    → TableSays table (Err why) × (a ≡ refusal (table_detail why))
refused_says table (tables.Memory e) a h is = absurd is
refused_says table tables.TableLong a h is = (h, is)
refused_says table tables.Header a h is = (h, is)
refused_says table (tables.Width row) a h is = (h, is)
refused_says table (tables.Employee row) a h is = (h, is)
refused_says table (tables.Month row) a h is = (h, is)
refused_says table (tables.Day row) a h is = (h, is)
refused_says table (tables.Value row name) a h is = (h, is)
refused_says table (tables.Repeat row) a h is = (h, is)

pub table_refused : (from : Standing) (table : List ℕ) (steps : ℕ) (why : TableFault)
    (reply : Result LineReply AllocError) → IsTableFaultOrMemory table why → IfOk reply (λ r. IsTableRefusal why (reply_of r))
    → IfOk reply (λ r. IsMade (IsTableStep from table) from steps steps (reply_of r))
table_refused from table steps why reply h = if_ok_map reply _ _ (λ r is. made (reply_of r) is)
  where
    made : (a : Answer) → IsTableRefusal why a → IsMade (IsTableStep from table) from steps steps a
    made a is =
        let s = refused_says table why a h is in
        let none : a.steps ≡ 0 = ap (λ (x : Answer). x.steps) s.1 in
        record { is = record { said = Err why; says = s.0; is = (refl, s.1) }; counted = omega (arith, none) }
