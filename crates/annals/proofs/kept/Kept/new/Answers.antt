use Rattle.std.proofs.Common.{arith}
use Rattle.annals.proofs.Counts.{fresh_kept}
use Rattle.annals.proofs.kept.Kept.new.Goals as goal

pub invariant_of-result : goal.invariant_of-result
invariant_of-result g c =
    let h = c.requires.bank in
    let range = c.range-first.ensures in
    let chain = c.in_ok-chain.ensures in (
      omega (arith, c.requires.number.1, chain.number),
      fresh_kept c.args.bank c.in_ok-chain.chain h.first h.size h.journal h.ports (c.range-first.result.0, c.range-first.result.1) h.fresh range.first range.size chain.memory chain.entries,
    )
