use Rattle.std.proofs.Common.{◌≢◌, get_or, refl, rules, lit<}
use Rattle.policy_table.proofs.Numerals.{reads_hex}
use Rattle.policy_table.proofs.fields.byte_of.Goals as goal

pub returns : goal.returns
returns c =
    let front : get_or c.args.word.now 0 0 ≢ 43 = search rules in
    rw c.ok.ensures.value (reads_hex 2 8 c.args.word.now c.from_str_radix.result (search rules) front (lit< tt) refl c.from_str_radix.ensures.value)
