use Rattle.std.proofs.Common.{rules, sym, subst}
use Rattle.spw.specs.Cargo.{Cargo}
use Rattle.rmap.specs.Command.{CommandValue, IsHeader}
use Rattle.rmap.proofs.Cuts.{IsCut}
use Rattle.rmap.proofs.Readings.{cut_is, header_in}
use Rattle.rmap.proofs.command.Command.of_bytes.Goals as goal

pub returns : goal.returns
returns c =
    let p : Cargo = record { bytes = c.args.bytes.now; end = c.args.end } in
    let n = c.reply_address_len-address.result in
    let parts : CommandValue = record { front = c.unwrap.result.0.now; reply_address = c.split_at.result.0.now; tail = c.unwrap-2.result.0.now; body = c.unwrap-2.result.1.now; end = c.args.end } in
    let cut : IsCut p.bytes n parts = record { front = search rules; reply_address = search rules; tail = search rules; body = search rules; long = search rules } in
    cut_is p n parts cut (search rules) (search rules)

pub invariant_of-result : goal.invariant_of-result
invariant_of-result c =
    let p : Cargo = record { bytes = c.args.bytes.now; end = c.args.end } in
    subst IsHeader (sym (returns c)) (header_in p (search rules))
