use Rattle.library_tests.proofs.threads.turn_limits.answer_so.Given as goal

abbrev pub ghosts-answer_at : goal.ghosts-answer_at
ghosts-answer_at g a = record { table = a.table.shared.table_id }
