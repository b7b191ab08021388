use Rattle.run_trace.proofs.text.write_head.Given as goal

abbrev pub ghosts-finish : goal.ghosts-finish
ghosts-finish a = record { name = a.blank.name; parts = a.blank.parts }
