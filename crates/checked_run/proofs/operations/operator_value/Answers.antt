use Rattle.checked_run.proofs.operations.operator_value.Goals as goal

pub returns-in-Less : goal.returns-in-Less
returns-in-Less c = c.compared.ensures c.args.kind
