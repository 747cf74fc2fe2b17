use Rattle.job_node_file.specs.Headers.{content_line}
use Rattle.job_node_file.proofs.header.add_content_line.Goals as goal

pub returns : goal.returns
unfolding content_line
returns c = c.write.ensures.bytes
