use Rattle.pap_tree.specs.Flowchart.{body_of}
use Rattle.plan_answers.proofs.PlaceLemmas.{searched_past}
use Rattle.plan_answers.proofs.places.expression_at.Goals as goal

pub returns-in-Executes : goal.returns-in-Executes
returns-in-Executes c = c.in-Executes.ensures.is

pub returns-in-Left : goal.returns-in-Left
returns-in-Left c = searched_past (body_of c.args.body.now) c.args.number _ c.in-Left.ensures
