use Rattle.std.proofs.Common.{◌∙◌, ap, subst}
use Rattle.std.proofs.lemmas.Result.{IfOk-weaker}
use Rattle.rmap.specs.Command.{IsHeader, bytes_of}
use Rattle.job_packets.proofs.requests.command_bytes.Goals as goal

pub returns-clause-bytes : goal.returns-clause-bytes
returns-clause-bytes c =
    IfOk-weaker c.write_command.result _ _ (λ made is. is ∙ ap bytes_of (c.fields_with-fields.ensures.same c.args.body.now)) c.write_command.ensures.bytes

pub returns-clause-header : goal.returns-clause-header
returns-clause-header c =
    IfOk-weaker c.write_command.result _ _ (λ made is. subst IsHeader (c.fields_with-fields.ensures.same c.args.body.now) is) c.write_command.ensures.header
