use Rattle.std.proofs.Common.{sym, ◌∙◌}
use Rattle.std.proofs.lemmas.List.FromFn.{length-map-range_with_len}
use Rattle.bank.specs.Records.{first_share}
use Rattle.std.proofs.lemmas.List.{map_more}
use Rattle.node_parts.specs.declared.config.BankConfig.{BankConfig}
use Rattle.node_parts.specs.Nodes.{bank_of}
use Rattle.node_parts.proofs.Makings.{distributed_shares}
use Rattle.node_parts.proofs.banks.make_banks.Goals as goal

pub distribute-requires : goal.distribute-requires
distribute-requires c =
    rw (c.in_ok-bank.ensures.shares) (length-map-range_with_len first_share 0 c.args.config.now.ports ∙ sym c.loop-bank.invariant.1.count)

pub loop-bank-preserved : goal.loop-bank-preserved
loop-bank-preserved c =
    let banks = c.args.config.now.banks.now in
    let i = c.loop-bank.bank-index in
    let none : BankConfig = record { base = 0; size = 0; room = 0 } in
    let more = map_more (bank_of c.args.config.now.ports) banks i none c.loop-bank-test.true in
    (c.in_ok-push.ensures.items ∙ rw (c.loop-bank.invariant.0, c.in_ok-bank.ensures.bank) (sym more), distributed_shares _ _ _ _ _ c.loop-bank.invariant.1 c.in_ok-distribute.ensures c.in_ok-bank.ensures.shares)
