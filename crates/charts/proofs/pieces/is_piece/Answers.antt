use Rattle.std.proofs.Common.{Bool, subst}
use Rattle.std.specs.Prelude.{MatchBool}
use Rattle.regions.specs.Questions.{IsFound}
use Rattle.charts.specs.Lines.{IsReportedWrongly, is_reported}
use Rattle.charts.specs.Pieces.{IsPiece}
use Rattle.charts.proofs.Deciding.{turned_twice}
use Rattle.charts.proofs.Joining.{piece_by}
use Rattle.charts.proofs.Reporting.{reported_settled}
use Rattle.charts.proofs.pieces.is_piece.Goals as goal

pub search_in-requires-clause-settled : goal.search_in-requires-clause-settled
search_in-requires-clause-settled c = reported_settled c.args.asked.now c.args.all c.args.old.now c.args.new.now c.args.lines.now

pub returns : goal.returns
returns c =
    let asked = c.args.asked.now in
    let all = c.args.all in
    let old = c.args.old.now in
    let new = c.args.new.now in
    let lines = c.args.lines.now in
    subst (λ (t : Bool). MatchBool t (IsPiece asked all old new lines) (Unit {0})) (turned_twice _ _ c.is_none.ensures)
    (piece_by c.search_in.result asked all old new lines (IsFound (λ p. IsReportedWrongly (is_reported asked all old new p) old new lines p)) c.if-not-lie_within.ensures c.search_in.ensures)
