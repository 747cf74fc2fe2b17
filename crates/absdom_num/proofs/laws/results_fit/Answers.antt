use Rattle.absdom_num.proofs.Fits.{alu_fits}
use Rattle.absdom_num.proofs.Unary.{negate_fits, move_signed_fits, byte_swap_fits}
use Rattle.absdom_num.proofs.laws.results_fit.Goals as goal

pub returns : goal.returns
returns c = record {
  alu = alu_fits;
  negate = negate_fits;
  move_signed = move_signed_fits;
  byte_swap = byte_swap_fits;
}
