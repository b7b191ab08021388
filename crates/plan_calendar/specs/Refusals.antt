-- The plan that a refusal hands back.
use Rattle.plan_calendar.specs.declared.calendar.PutRefusal.{PutRefusal}
use Rattle.plan_calendar.specs.declared.calendar.PutRefusal.TheVariants.{Full, Memory}

-- the plan that a refusal hands back
abbrev pub refused_plan : {P : Type 0} → PutRefusal P → P
refused_plan (Full p) = p
refused_plan (Memory p) = p
