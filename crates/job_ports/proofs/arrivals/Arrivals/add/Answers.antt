use Rattle.std.proofs.Common.{◌<◌, length, ap, arith, rules}
use Rattle.std.specs.Vec.{vec_items}
use Rattle.std.proofs.lemmas.List.{length-map}
use Rattle.job_ports.proofs.Tables.{grown_at}
use Rattle.job_ports.proofs.arrivals.Arrivals.add.Goals as goal

pub returns : goal.returns
returns c =
    let all = c.self.inside.packets.items in
    let below : c.from.result < length all = omega (arith, c.requires, c.from.ensures, ap (λ t. length t) c.self.view_is, length-map all vec_items) in
    grown_at vec_items all c.args.self.now c.from.result c.args.port c.index_mut-own.result.now c.push.new.self c.args.packet
    (search rules) (search rules) below (search rules) (search rules)
