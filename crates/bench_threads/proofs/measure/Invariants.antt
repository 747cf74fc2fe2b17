use Rattle.bench_threads.proofs.measure.Given as goal

-- the history that was just opened
abbrev pub ghosts-serve_writes : goal.ghosts-serve_writes
ghosts-serve_writes g a = record { book = a.opened }
