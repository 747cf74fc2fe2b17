use Rattle.job_node_file.specs.Headers.{numbers_of}
use Rattle.job_node_file.proofs.header.add_numbers.Goals as goal

pub returns : goal.returns
unfolding numbers_of
returns c = c.write.ensures.bytes
