use Rattle.std.proofs.Common.{◌≡◌, ◌∙◌, arith, length, rules, sym}
use Rattle.std.specs.Prelude.{replicate}
use Rattle.std.proofs.lemmas.List.FromFn.{map-range_with_len_more}
use base.Stored.{gnil}
use Rattle.bank.specs.Records.{first_share}
use Rattle.node_parts.specs.Nodes.{first_pass}
use Rattle.single_node.proofs.Making.{later, taken}
use Rattle.single_node.proofs.node.first_ports.Goals as goal

pub loop-port-preserved : goal.loop-port-preserved
loop-port-preserved c =
    let banks = c.args.config.now.banks.now in
    let ports = c.args.config.now.ports in
    let port = c.loop-port.port in
    let shares : c.take-shares.result.items ≡ replicate (length banks) (first_share port) =
    taken c.loop-port.by_port.items (length banks) ports port c.from.result c.take-shares.result.items c.index_mut.result.now c.loop-port.invariant.count c.loop-port-test.true c.from.ensures c.take-shares.ensures.shares c.index_mut.ensures.value c.loop-port.invariant.rest in
    record {
      count = search rules;
      ports = λ factory programs sizes.
          let more = map-range_with_len_more (first_pass c.args.config.now.address banks factory gnil) 0 port port (omega arith) in
          c.in_ok-push.ensures.items ∙ rw (c.loop-port.invariant.ports factory programs sizes, c.new-in-loop-port.ensures, c.new-context.ensures, c.requires.windows, c.list.ensures.list, programs, shares, c.in_ok-staging.ensures, ← sizes) (sym more);
      rest = later c.loop-port.by_port.items (length banks) ports port c.from.result _ c.from.ensures c.loop-port.invariant.rest;
    }
