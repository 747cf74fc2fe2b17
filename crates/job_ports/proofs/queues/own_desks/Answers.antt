use Rattle.std.proofs.Common.{◌≡◌, ◌≤◌, ◌∙◌, ap, ap₂, length, map, subst, sym, arith}
use Rattle.std.specs.Prelude.{vec_items}
use Rattle.bank.specs.Records.{extent_of}
use Rattle.node_parts.specs.Nodes.{are_within, range_of}
use Rattle.ports.specs.Serves.{AreServed}
use Rattle.job_config.specs.OwnNodes.{fit}
use Rattle.job_ports.specs.Queues.{IsOwnDesk}
use Rattle.job_ports.proofs.Desking.{desk_fresh, own_desk}
use Rattle.job_ports.proofs.Ending.{desk_served}
use Rattle.job_ports.proofs.Lawful.{few_ports}
use Rattle.job_ports.proofs.Starting.{extents_count, fresh_extents, sets_own}
use Rattle.job_ports.proofs.queues.own_desks.Goals as goal

pub set_all-requires-clause-within : goal.set_all-requires-clause-within
set_all-requires-clause-within g c = ap are_within c.banks.ensures.banks ∙ c.banks.ensures.within

pub set_all-requires-clause-fit : goal.set_all-requires-clause-fit
set_all-requires-clause-fit g c = ap₂ fit c.banks.ensures.banks c.contents.ensures.contents ∙ c.contents.ensures.fit

pub set_all-requires-clause-banks : goal.set_all-requires-clause-banks
set_all-requires-clause-banks g c =
    ap (λ l. map extent_of l) c.in-Ok.ensures.banks ∙ fresh_extents c.config-config.result.ports c.config-config.result.banks.now
    ∙ ap (λ l. map range_of l) (c.config-config.ensures.banks_are ∙ sym c.banks.ensures.banks)

pub returns-clause-own : goal.returns-clause-own
returns-clause-own g c =
    let small : c.config-config.result.ports ≤ 32 = few_ports c.config-config.result c.in-Ok.ensures.limits in
    let many : c.in_ok-node.node ≡ length c.config-config.result.banks.now
    = c.in_ok-node.ensures ∙ extents_count _ _ c.set_all.ensures.extents ∙ ap (λ l. length l) (c.banks.ensures.banks ∙ sym c.config-config.ensures.banks_are) in
    own_desk c.args.own.now c.args.program c.publishes.result.now c.config-config.result c.in-Ok.cells c.set_all.new.known c.args.arrivals _ _ _ _ c.requires.sizes c.publishes.ensures.publishes (omega (arith, small, c.config-config.ensures.ports_are)) c.in-Ok.ensures.cells
    c.config-config.ensures (sets_own _ _ _ _ _ _ c.banks.ensures.banks c.contents.ensures.contents c.front-known.ensures c.in_ok-set_all.ensures.sets)
    (desk_fresh c.args.program c.publishes.result.now c.in-Ok.cells.home c.set_all.new.known c.config-config.ensures c.requires.count many c.in_ok-ports.ensures c.in-Ok.ensures.passes c.in_ok-workers.ensures)

pub returns-clause-served : goal.returns-clause-served
returns-clause-served g c =
    let own : IsOwnDesk c.args.own.now c.args.program c.args.arrivals c.in_ok-node.node c.in-Ok.cells (vec_items c.in_ok-ports.ports) (vec_items c.in_ok-ports.put_passes) (vec_items c.in_ok-workers.workers)
    = returns-clause-own g c in
    subst (λ n. AreServed c.in_ok-node.node n (vec_items c.in_ok-ports.ports) (vec_items c.in_ok-workers.workers)) (sym (c.in_ok-workers.workers.ok.0 ∙ own.desk.workers_count)) (desk_served own.desk)
