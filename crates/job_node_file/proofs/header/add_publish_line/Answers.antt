use Rattle.job_node_file.specs.Headers.{publish_line}
use Rattle.job_node_file.proofs.header.add_publish_line.Goals as goal

pub returns : goal.returns
unfolding publish_line
returns c = c.write.ensures.bytes
