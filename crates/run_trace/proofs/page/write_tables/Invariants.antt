use Rattle.run_trace.proofs.page.write_tables.Given as goal

abbrev pub ghosts-finish : goal.ghosts-finish
ghosts-finish a = record { name = a.blank.name; parts = a.blank.parts }
