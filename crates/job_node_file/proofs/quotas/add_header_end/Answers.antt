use Rattle.job_node_file.proofs.Joined.{three}
use Rattle.job_node_file.proofs.quotas.add_header_end.Goals as goal

pub returns : goal.returns
returns c = three _ _ _ _ _ _ _ c.in_ok-writeln.ensures.bytes c.in_ok-add_c_asked.ensures c.in_ok-push_str.ensures.bytes
