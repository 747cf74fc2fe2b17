use Rattle.absdom_num.proofs.Growing.{alu_grows, negate_grows, move_signed_grows, byte_swap_grows}
use Rattle.absdom_num.proofs.laws.results_grow.Goals as goal

pub returns : goal.returns
returns c = record {
  alu = alu_grows;
  negate = negate_grows;
  move_signed = move_signed_grows;
  byte_swap = byte_swap_grows;
}
