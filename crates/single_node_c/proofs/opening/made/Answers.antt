use Rattle.std.proofs.Common.{◌≡◌, rules, Err}
use Rattle.single_node_c.proofs.Faults.{config_unopened, refused_unopened}
use Rattle.single_node_c.proofs.opening.made.Goals as goal

pub returns-in_err-factory-clause-fault : goal.returns-in_err-factory-clause-fault
returns-in_err-factory-clause-fault c =
    let reported : c.from_residual.result ≡ Err c.in_err-factory.field-0.0 = search rules in
    refused_unopened c.args.ports c.args.banks.now c.args.maps.now c.args.image.now c.in_err-factory.field-0.0
    c.in_err-factory.ensures.unfit c.from_residual.result reported

pub returns-clause-fault : goal.returns-clause-fault
returns-clause-fault c =
    config_unopened c.args.ports c.args.banks.now c.args.maps.now c.args.image.now c.in_ok-factory.factory
    c.in_ok-factory.ensures.maps c.in_ok-factory.ensures.program c.fresh.result c.fresh.ensures.fault
