use Rattle.job_node_file.specs.Headers.{slot_row}
use Rattle.job_node_file.proofs.header.add_slot_row.Goals as goal

pub returns : goal.returns
unfolding slot_row
returns c = c.write.ensures.bytes
