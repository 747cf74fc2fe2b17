use Rattle.std.proofs.Common.{List, arith, subst, sym}
use Rattle.charts.specs.Pieces.{IsPiece}
use Rattle.charts.specs.declared.lines.ChartLine.{ChartLine}
use Rattle.charts.proofs.Joining.{joined, rest_by}
use Rattle.charts.proofs.pieces.+is_in_pieces.Goals as goal

pub groups-init : goal.groups-init
groups-init t c = record { few = omega arith; back = λ h. h }

pub returns-then-is_empty : goal.returns-then-is_empty
returns-then-is_empty t c = rest_by c.is_piece-then-is_empty.result c.args.asked.now c.args.all c.args.old.now c.args.new.now c.args.lines.now c.groups.rest c.groups.following.now c.groups.invariant c.is_piece-then-is_empty.ensures

pub groups-smaller : goal.groups-smaller
groups-smaller t c = omega (arith, c.split_at.ensures.back_len, c.run_of.ensures.some)

pub groups-preserved : goal.groups-preserved
groups-preserved t c = record {
  few = omega (arith, c.split_at.ensures.back_len, c.groups.invariant.few);
  back = λ other.
      c.groups.invariant.back
      (subst (λ (lines : List ChartLine). IsPiece c.groups.rest c.args.all c.args.old.now c.args.new.now lines) (sym c.split_at.ensures.by_index.0)
      (joined c.groups.rest _ _ c.cut.result.0 c.cut.result.1 c.args.all c.args.old.now c.args.new.now c.split_at.result.0.now c.split_at.result.1.now c.cut.ensures c.if-not-is_in_pieces.ensures other));
}
