use Rattle.job_node_file.proofs.Joined.{four}
use Rattle.job_node_file.proofs.quotas.add_c_quotas.Goals as goal

pub returns : goal.returns
returns c = four _ _ _ _ _ _ _ _ _ c.in_ok-writeln.ensures.bytes c.in_ok-add_quotas_head.ensures c.in_ok-add_rows.ensures c.in_ok-push_str.ensures.bytes
