use Rattle.std.proofs.Common.{◌≡◌, ◌+◌, ◌*◌, ℕ, rules, arith}
use Rattle.payroll_records.specs.Days.{day_text}
use Rattle.payroll_records.proofs.SpellingLemmas.{day_read, day_found, day_there}
use Rattle.payroll_records.proofs.day.Day.read.Goals as goal

year_of : goal.After-new → ℕ
year_of c = c.in_ok-century.century * 100 + c.in_ok-year.year

written : (c : goal.After-new) → c.args.text.now ≡ day_text (year_of c) c.in_ok-month.month c.in_ok-day.day
unfolding year_of
written c =
    day_read c.args.text.now c.in_ok-century.century c.in_ok-year.year c.in_ok-month.month c.in_ok-day.day (omega arith)
    (search rules) (search rules) (search rules) (search rules) (search rules) (search rules) (search rules)

pub returns-clause-exact : goal.returns-clause-exact
unfolding year_of
returns-clause-exact c = (
  λ some. (year_of c, c.in_ok-month.month, c.in_ok-day.day, record { exists = c.new.ensures.exact.0 some; written = written c }),
  λ h. c.new.ensures.exact.1 (day_there c.args.text.now _ _ _ (written c) h),
)

pub returns-clause-value : goal.returns-clause-value
unfolding year_of
returns-clause-value c = day_found c.args.text.now c.new.result _ _ _ (written c) c.new.ensures.value
