use Rattle.std.proofs.Common.{refl}
use Rattle.flowchart_markup.proofs.page.template_laws.Goals as goal

pub returns-clause-shown : goal.returns-clause-shown
returns-clause-shown c = refl
