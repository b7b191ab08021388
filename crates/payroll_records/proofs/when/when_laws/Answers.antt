use Rattle.std.proofs.Common.{subst}
use Rattle.payroll_records.specs.Whens.{IsWhenText, when_text}
use Rattle.payroll_records.proofs.SpellingLemmas.{whens_once, when_written}
use Rattle.payroll_records.proofs.when.when_laws.Goals as goal

pub returns : goal.returns
returns c = λ a b. (
  λ h. whens_once (when_text a) a b (when_written a) h,
  λ e. subst (IsWhenText (when_text a)) e (when_written a),
)
