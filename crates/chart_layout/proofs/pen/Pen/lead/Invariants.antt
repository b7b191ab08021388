use Rattle.std.proofs.Common.{◌≡◌, ◌++◌, take}
use Rattle.chart_layout.specs.Leads.{leads}
use Rattle.chart_layout.proofs.pen.Pen.lead.Given as goal

abbrev pub invariant-loop-exit : goal.invariant-loop-exit
invariant-loop-exit l =
    (l.self.parts ≡ l.fn.self.parts) × (l.self.leads.items ≡ l.fn.self.leads.items ++ leads (take l.exit-index l.exits) l.entry)
