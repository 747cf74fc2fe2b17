use Rattle.quotas.specs.Alone.{further, here, serves}
use Rattle.test_laws.proofs.alone.served_alone.Goals as goal

pub loop-turn-init : goal.loop-turn-init
loop-turn-init c = record { first = _; fresh = c.in_ok-node.ensures.fresh; way = here }

pub loop-turn-preserved : goal.loop-turn-preserved
loop-turn-preserved c =
    let was = c.loop-turn.invariant in
    record { first = was.first; fresh = was.fresh; way = further was.way (serves _ _ _ _ c.serve-served.ensures.serves) }

pub returns : goal.returns
returns c =
    let received = c.loop-turn.invariant in record {
      received = received;
      quotas = λ map key limit count few matches. c.quotas_hold_alone.ensures c.args.config.now c.args.factory received.first _ received.way map key limit count received.fresh few matches;
    }
