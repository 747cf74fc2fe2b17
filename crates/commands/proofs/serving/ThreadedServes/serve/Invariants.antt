use Rattle.commands.proofs.serving.ThreadedServes.serve.Given as goal

-- the history that was just opened
abbrev pub ghosts-serve_file : goal.ghosts-serve_file
ghosts-serve_file g a = record { book = a.opened }
