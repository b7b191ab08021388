use Rattle.std.proofs.Common.{◌≡◌, ◌≢◌, true, false, rules}
use Rattle.std.specs.Prelude.{is_none, string_bytes}
use Rattle.pap_plan.specs.declared.refusal.PlanRefusal.TheVariants as refusals
use Rattle.plan_answers.proofs.Laws.{its_plan}
use Rattle.flowchart_page.specs.private.VerdictViews.{is_excused}
use Rattle.flowchart_page.proofs.VerdictLemmas.{found_in_order, judged_in_order, found_refused, judged_refused, line_kept}
use Rattle.flowchart_page.proofs.verdict.judge.Goals as goal

pub reason_of-requires : goal.reason_of-requires
reason_of-requires c =
    its_plan c.args.plan.bytes.now c.file_or_none-ranges.result.bytes.now c.in-Err.refusal c.in-Err.ensures.refused

pub returns-then-is_excused : goal.returns-then-is_excused
returns-then-is_excused c =
    let excused : is_excused (is_none c.args.limits) c.in-Err.refusal ≡ true = search rules in
    let known : c.in-Err.refusal ≢ refusals.Memory = search rules in
    record {
      found = found_in_order c.args.plan c.file_or_none-ranges.result c.args.limits c.in-Err.refusal
          c.file_or_none-ranges.ensures
          excused known c.in-Err.ensures.refused;
      judged = judged_in_order c.args.plan c.file_or_none-ranges.result c.args.limits c.in-Err.refusal
          c.file_or_none-ranges.ensures
          excused known c.in-Err.ensures.refused;
      line = tt;
      plan = tt;
    }

pub returns-in_ok-reason-in-Err : goal.returns-in_ok-reason-in-Err
returns-in_ok-reason-in-Err c =
    let other : is_excused (is_none c.args.limits) c.in-Err.refusal ≡ false = search rules in
    let known : c.in-Err.refusal ≢ refusals.Memory = search rules in
    record {
      found = found_refused c.args.plan c.file_or_none-ranges.result c.args.limits c.in-Err.refusal _
          c.file_or_none-ranges.ensures
          other known c.in-Err.ensures.refused c.in_ok-reason-in-Err.ensures.refusal;
      judged = judged_refused c.args.plan c.file_or_none-ranges.result c.args.limits c.in-Err.refusal
          (string_bytes c.in_ok-reason-in-Err.reason.words) c.file_or_none-ranges.ensures other known
          c.in-Err.ensures.refused
          c.in_ok-reason-in-Err.ensures.says;
      line = line_kept c.args.plan.bytes.now c.in-Err.refusal c.in_ok-reason-in-Err.reason.refusal
          c.in_ok-reason-in-Err.reason.line.items c.in_ok-reason-in-Err.ensures.refusal
          c.in_ok-reason-in-Err.ensures.line;
      plan = tt;
    }
