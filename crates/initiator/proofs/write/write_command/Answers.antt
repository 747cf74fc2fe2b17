use Rattle.std.proofs.Common.{rules}
use Rattle.initiator.proofs.Made.{made_bytes}
use Rattle.initiator.proofs.write.write_command.Goals as goal

pub returns-clause-bytes : goal.returns-clause-bytes
returns-clause-bytes c = made_bytes c.args.fields.now c.args.body.now _ (search rules)
