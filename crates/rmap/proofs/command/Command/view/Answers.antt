use Rattle.std.proofs.Common.{rules, ap, Result, Ok}
use Rattle.rmap.specs.Command.{CommandValue}
use Rattle.rmap.specs.declared.discard.Discard.{Discard}
use Rattle.rmap.specs.declared.discard.Discard.TheVariants.{HeaderCrc}
use Rattle.rmap.proofs.Cuts.{IsCut, is_header, is_command, discard_of-crc, right_crc, not_discarded, only_command, refused}
use Rattle.rmap.proofs.Readings.{command_of-is}
use Rattle.rmap.proofs.command.Command.view.Goals as goal

pub returns-then-tail-crc-clause-command : goal.returns-then-tail-crc-clause-command
returns-then-tail-crc-clause-command c =
    let bytes = c.args.packet.now.bytes in
    let n = c.reply_address_len-address.result in
    let parts : CommandValue = record { front = c.in_ok-front.front.now; reply_address = c.split_at.result.0.now; tail = c.in_ok-tail.tail.now; body = c.in_ok-tail.body.now; end = c.args.packet.now.end } in
    let cut : IsCut bytes n parts = record { front = search rules; reply_address = search rules; tail = search rules; body = search rules; long = search rules } in
    discard_of-crc bytes n parts cut (search rules) (search rules) (search rules) (search rules)

pub invariant_of-result : goal.invariant_of-result
invariant_of-result c =
    let bytes = c.args.packet.now.bytes in
    let n = c.reply_address_len-address.result in
    let parts : CommandValue = record { front = c.in_ok-front.front.now; reply_address = c.split_at.result.0.now; tail = c.in_ok-tail.tail.now; body = c.in_ok-tail.body.now; end = c.end.result } in
    let cut : IsCut bytes n parts = record { front = search rules; reply_address = search rules; tail = search rules; body = search rules; long = search rules } in
    is_header bytes n parts cut (search rules) (search rules) (search rules) (search rules)

pub returns-clause-command : goal.returns-clause-command
returns-clause-command c =
    let bytes = c.args.packet.now.bytes in
    let n = c.reply_address_len-address.result in
    let parts : CommandValue = record { front = c.in_ok-front.front.now; reply_address = c.split_at.result.0.now; tail = c.in_ok-tail.tail.now; body = c.in_ok-tail.body.now; end = c.end.result } in
    let cut : IsCut bytes n parts = record { front = search rules; reply_address = search rules; tail = search rules; body = search rules; long = search rules } in
    is_command bytes n parts cut (is_header bytes n parts cut (search rules) (search rules) (search rules) (search rules))

pub returns-then-tail-crc-clause-only : goal.returns-then-tail-crc-clause-only
returns-then-tail-crc-clause-only c = λ parts command end.
    absurd (refused c.args.packet.now.bytes HeaderCrc (returns-then-tail-crc-clause-command c) parts command)

pub returns-clause-crc : goal.returns-clause-crc
returns-clause-crc c =
    let bytes = c.args.packet.now.bytes in
    let n = c.reply_address_len-address.result in
    let parts : CommandValue = record { front = c.in_ok-front.front.now; reply_address = c.split_at.result.0.now; tail = c.in_ok-tail.tail.now; body = c.in_ok-tail.body.now; end = c.end.result } in
    let cut : IsCut bytes n parts = record { front = search rules; reply_address = search rules; tail = search rules; body = search rules; long = search rules } in
    right_crc bytes n parts cut c.crc.result (rw c.bytes-bytes.ensures.bytes at c.crc.ensures.remainder) (search rules)

pub returns-clause-kept : goal.returns-clause-kept
returns-clause-kept c = not_discarded c.args.packet.now.bytes _ (returns-clause-command c)

pub returns-clause-only : goal.returns-clause-only
returns-clause-only c = λ parts command end.
    let ok : CommandValue → Result CommandValue Discard = λ p. Ok p in
    ap ok (only_command c.args.packet.now.bytes _ parts (returns-clause-command c) command (search rules))

pub returns-clause-found : goal.returns-clause-found
returns-clause-found c = command_of-is c.args.packet.now _ (returns-clause-command c) (search rules)
