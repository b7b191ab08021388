-- A request, as the form that it stands for.
use Rattle.std.specs.Prelude.{ℕ, List, ◌∷◌, codes}
use Rattle.author_cli.specs.declared.words.Request.{Request}
use Rattle.author_cli.specs.declared.words.Request.TheVariants as requests
use Rattle.author_cli.specs.declared.words.Medium.{Medium as WordMedium}
use Rattle.author_cli.specs.declared.words.Medium.TheVariants as media
use Rattle.author_cli.specs.declared.words.NamedPlans.{NamedPlans as WordPlans}
use Rattle.author_cli.specs.declared.words.NamedPlans.TheVariants as plans
use Rattle.author_cli.specs.Words.{Medium, as_text, as_page, NamedPlans, two_plans, with_limits, Form, chart, chart_within, ranges, compared, traced, drawn, example, linted, covered}

abbrev pub medium_of : WordMedium → Medium
medium_of media.Text = as_text
medium_of media.Page = as_page

abbrev pub plans_of : WordPlans → NamedPlans
plans_of (plans.TwoPlans old new) = two_plans old.now new.now
plans_of (plans.WithLimits old old_limits new new_limits) = with_limits old.now old_limits.now new.now new_limits.now

abbrev pub form_of : Request → Form
form_of (requests.Chart plan) = chart plan.now
form_of (requests.ChartWithin plan limits) = chart_within plan.now limits.now
form_of (requests.Ranges plan) = ranges plan.now
form_of (requests.Compare medium named) = compared (medium_of medium) (plans_of named)
form_of (requests.Trace plan limits values) = traced plan.now limits.now values
form_of (requests.Draw plan limits values) = drawn plan.now limits.now values
form_of (requests.Example plan limits) = example plan.now limits.now
form_of (requests.Lint plan limits) = linted plan.now limits.now
form_of (requests.Cover medium plan limits table least) = covered (medium_of medium) plan.now limits.now table.now least

-- `text`, a command, two names and some words
abbrev pub text_words : List ℕ → List ℕ → List ℕ → List (List ℕ) → List (List ℕ)
text_words command first second rest = codes "text" ∷ command ∷ first ∷ second ∷ rest
