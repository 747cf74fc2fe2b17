use Rattle.initiator.proofs.MadeRead.{bodies_are_right, made_is_read, made_is_so_long}
use Rattle.initiator.proofs.laws.made_commands_are_read.Goals as goal

pub returns-clause-read : goal.returns-clause-read
returns-clause-read c = made_is_read

pub returns-clause-bodies : goal.returns-clause-bodies
returns-clause-bodies c = bodies_are_right

pub returns-clause-count : goal.returns-clause-count
returns-clause-count c = made_is_so_long
