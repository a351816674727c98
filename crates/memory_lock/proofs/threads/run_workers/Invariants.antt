use Rattle.memory_lock.proofs.threads.run_workers.Given as goal

-- the memory that the run begins with
abbrev pub ghosts-run_from : goal.ghosts-run_from
ghosts-run_from g a = record { start = a.memory }
