-- A line whose answer isn't written.
use Rattle.std.proofs.Common.{◌≡◌, ◌≢◌, ℕ, ◌+◌, List, [], refl, ap, subst, arith}
use Rattle.std.specs.Prelude.{Option, None, is_some, Result, Ok, Err, if◌then◌else◌}
use Rattle.outside.specs.Told.{FileMap}
use Rattle.script_lang.specs.Commands as asked
use Rattle.script_lang.specs.Commands.{Asked}
use Rattle.script_lang.specs.Lines.{IsLine, IsLineFaultOrMemory}
use Rattle.script_lang.specs.declared.fault.LineFault.{LineFault}
use Rattle.plan_answers.specs.Answers.{Answer}
use Rattle.script_steps.specs.declared.reply.LineReply.{LineReply}
use Rattle.script_steps.specs.declared.unwritten.Refusal.{Refusal}
use Rattle.script_steps.specs.declared.stop.LineStop.{LineStop}
use Rattle.script_steps.specs.declared.stop.LineStop.TheVariants as stops
use Rattle.script_steps.specs.LineSteps.{report_answer}
use Rattle.script_steps.specs.Shown.{OutsideShown, shown}
use Rattle.script_steps.specs.Standings.{Standing, Doing}
use Rattle.script_steps.specs.Unwritten.{IsAnsweredUnwritten, refusal_text}
use Rattle.script_steps.specs.private.Replies.{reply_of}
use Rattle.script_steps.specs.private.StepViews.{IsMade, IsUnmade, IsLineRefusal, ToldDoes}
use Rattle.script_steps.proofs.MadeLemmas.{fault_step, fault_steps}

module _ (told told' : Option FileMap) (failed failed' : Option (List ℕ)) (before now : ℕ) (from to : Standing) (line : List ℕ) where
  -- the reply was made, and what was handed out is its refusal
  pub made_unwritten : (what : Asked) (reply : LineReply) (refusal : Option Refusal) → IsLine line what
      → IsMade (ToldDoes told from (Ok what)) to before now (reply_of reply)
      → is_some refusal ≡ is_some reply.wrong
      → refusal_text refusal ≡ (if is_some reply.wrong then reply.text.items else [])
      → IsAnsweredUnwritten (shown told failed None before) (shown told' failed' None now) from to line refusal
  made_unwritten what reply refusal says made mark text = record {
    answered = record {
      answer = reply_of reply;
      appended = tt;
      counted = made.counted;
      marked = mark;
      is = λ files e. record { said = Ok what; says = says; does = made.is files e };
    };
    text = text;
  }

module _ (told : Option FileMap) (failed : Option (List ℕ)) (steps : ℕ) (from : Standing) (line : List ℕ) where
  -- the line is refused
  pub fault_unwritten : (why : LineFault) (reply : LineReply) (refusal : Option Refusal) → IsLineFaultOrMemory line why
      → IsLineRefusal why (reply_of reply)
      → is_some refusal ≡ is_some reply.wrong
      → refusal_text refusal ≡ (if is_some reply.wrong then reply.text.items else [])
      → IsAnsweredUnwritten (shown told failed None steps) (shown told failed None steps) from from line refusal
  fault_unwritten why reply refusal h is mark text =
      let none = fault_steps line why (reply_of reply) h is in
      record {
        answered = record {
          answer = reply_of reply;
          appended = tt;
          counted = omega (arith, none);
          marked = mark;
          is = λ files e. fault_step line from files why (reply_of reply) h is;
        };
        text = text;
      }

  -- the report
  pub report_unwritten : IsLine line asked.report
      → IsAnsweredUnwritten (shown told failed None steps) (shown told failed None steps) from from line None
  report_unwritten says = record {
    answered = record {
      answer = report_answer from;
      appended = tt;
      counted = omega arith;
      marked = refl;
      is = λ files e. record { said = Ok asked.report; says = says; does = (refl, refl) };
    };
    text = refl;
  }

-- no sink failed where there is none
pub never_write : {T : Type 0} (told : Option FileMap) (Step : Doing) (what : Asked) (before now : ℕ) (failed : Option (List ℕ))
    (stop : LineStop) (result : Result T LineStop) → IsUnmade told Step what before now failed stop → result ≡ Err stop
    → result ≢ Err stops.Write
never_write told Step what before now failed stop result u is e =
    let same : stop ≡ stops.Write = cc (is, e) in
    subst (λ s. IsUnmade told Step what before now failed s) same u
