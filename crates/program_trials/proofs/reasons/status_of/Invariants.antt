use Rattle.program_trials.proofs.reasons.status_of.Given as goal

abbrev pub ghosts-noted : goal.ghosts-noted
ghosts-noted a = record { name = a.blank.name; parts = a.blank.parts }
