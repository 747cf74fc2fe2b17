use Rattle.policy_table.proofs.PortTables.{alike}
use Rattle.policy_table.proofs.port_tables.unnamed_ports_are_alike.Goals as goal

pub returns : goal.returns
returns c = alike
