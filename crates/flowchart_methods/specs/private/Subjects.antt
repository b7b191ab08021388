-- The method that is drawn.
use Rattle.flowchart_methods.specs.declared.statement.Subject.{Subject}
use Rattle.flowchart_methods.specs.Captions.{Beside}

-- what stands beside its statements
abbrev pub beside_subject : Subject → Beside
beside_subject s = record { conditions = s.conditions.now; marks = s.marks.now }
