use Rattle.std.proofs.Common.{◌+◌, ◌*◌, ◌/◌, ◌∙◌, ℕ, List, ap, length, refl}
use Rattle.initiator.specs.declared.write.CommandFields.{CommandFields}
use Rattle.job_packets.proofs.Instructions.{instruction_is, same_command}
use Rattle.job_packets.proofs.requests.fields_with.Goals as goal

pub returns-clause-same : goal.returns-clause-same
returns-clause-same c = λ body.
    let items = c.as_slice-reply_address.ensures.value in
    let instruction = instruction_is _ _ _ c.command.ensures.kind c.command.ensures.code c.command.ensures.words
    ∙ ap (λ (bytes : List ℕ). 64 + 4 * c.args.request.code + length bytes / 4) items in
    let fields : CommandFields = record {
      target = c.args.header.now.target;
      instruction = c.command.result;
      key = c.args.header.now.key;
      reply_address = c.as_slice-reply_address.result;
      initiator = c.args.header.now.initiator;
      transaction = c.args.request.transaction;
      extended = c.args.request.extended;
      address = c.args.request.address;
      length = c.args.request.count;
    } in
    same_command c.args.header.now c.args.request fields body refl instruction refl items refl refl refl refl refl
