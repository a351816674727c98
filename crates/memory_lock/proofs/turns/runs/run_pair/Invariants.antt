use Rattle.memory_lock.proofs.turns.runs.run_pair.Given as goal

-- the table that the brand of the call names: the one that open_table has made
abbrev pub ghosts-run_at_table : goal.ghosts-run_at_table
ghosts-run_at_table g a = record { table = a.table.shared.table_id }
