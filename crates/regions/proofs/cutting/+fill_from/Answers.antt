use Rattle.std.proofs.Common.{◌≡◌, ◌<◌, ◌+◌, ◌-◌, ◌*◌, ℕ, List, length, subst, sym, arith}
use Rattle.regions.specs.Cells.{IsFilled}
use Rattle.regions.specs.Questions.{IsCutTo}
use Rattle.regions.specs.declared.cutting.Cell.{Cell}
use Rattle.regions.proofs.Filling.{both_filled, cell_filled, none_filled}
use Rattle.regions.proofs.Searching.{apart_cut, begun, last_inside, rank, rank_some, step, within_cut}
use Rattle.regions.proofs.cutting.+fill_from.Goals as goal

pub returns-in_ok-push : goal.returns-in_ok-push
returns-in_ok-push g t c =
    let tests = g.Q.PointQuestion.tests c.args.question.now in
    let holds = g.Q.PointQuestion.holds c.args.question.now in
    let fails = g.Q.PointQuestion.fails c.args.question.now in
    subst (λ (cs : List Cell). IsFilled tests holds fails c.args.region.now c.args.cells.now.items cs) (sym c.in_ok-push.ensures.items)
    (c.cuts.invariant.back _ (cell_filled tests c.cuts.at holds fails (record { region = c.cuts.part; point = c.in-Some.point }) c.cuts.cells.items c.cuts.invariant.cut c.in_default-shape.ensures c.in-Some.ensures c.if-not-ask.ensures))

pub returns-else-not-ask : goal.returns-else-not-ask
returns-else-not-ask g t c =
    let tests = g.Q.PointQuestion.tests c.args.question.now in
    let holds = g.Q.PointQuestion.holds c.args.question.now in
    let fails = g.Q.PointQuestion.fails c.args.question.now in
    c.cuts.invariant.back _ (none_filled tests c.cuts.at holds fails c.cuts.part c.in-Some.point c.cuts.cells.items c.requires.settled c.cuts.invariant.cut c.in_default-shape.ensures c.in-Some.ensures c.if-not-ask.ensures)

pub cuts-preserved-then-is_within : goal.cuts-preserved-then-is_within
cuts-preserved-then-is_within g t c = record {
  sides_left = c.cuts.invariant.sides_left;
  further = omega (arith, c.cuts.invariant.further);
  cut = within_cut (g.Q.PointQuestion.tests c.args.question.now) c.cuts.at c.cuts.part c.in-Some-shape.next c.in-Some-shape.ensures c.if-is_within.ensures c.cuts.invariant.cut;
  under_way = λ some. absurd (omega (arith, some, c.if-sides-eq0.true));
  back = c.cuts.invariant.back;
}

pub cuts-preserved-then-not-may_meet : goal.cuts-preserved-then-not-may_meet
cuts-preserved-then-not-may_meet g t c = record {
  sides_left = c.cuts.invariant.sides_left;
  further = omega (arith, c.cuts.invariant.further);
  cut = apart_cut (g.Q.PointQuestion.tests c.args.question.now) c.cuts.at c.cuts.part c.in-Some-shape.next c.in-Some-shape.ensures c.if-not-may_meet.ensures c.cuts.invariant.cut;
  under_way = λ some. absurd (omega (arith, some, c.if-sides-eq0.true));
  back = c.cuts.invariant.back;
}

pub cuts-preserved-then-sides-eq0 : goal.cuts-preserved-then-sides-eq0
cuts-preserved-then-sides-eq0 g t c = record {
  sides_left = omega arith;
  further = c.cuts.invariant.further;
  cut = c.cuts.invariant.cut;
  under_way = begun (g.Q.PointQuestion.tests c.args.question.now) c.cuts.at c.in-Some-shape.next c.cuts.part c.in-Some-shape.ensures;
  back = c.cuts.invariant.back;
}

pub fill_from-requires : goal.fill_from-requires
fill_from-requires g t c κs within =
    let is_step = step (g.Q.PointQuestion.tests c.args.question.now) c.cuts.at c.cuts.part c.cuts.cutter c.cuts.sides c.side_of.result c.cut.result.0 c.cut.result.1 (omega (arith, c.if-sides-eq0.false)) c.side_of.ensures c.cuts.invariant.under_way c.cut.ensures c.cuts.invariant.cut in
    let falls : length (g.Q.PointQuestion.tests c.args.question.now) - (c.cuts.at + 1) < t = omega (arith, c.decreases, c.cuts.invariant.further, is_step.there) in
    (falls, (within, (c.requires.few, (omega arith, (c.requires.settled, (is_step.out_cut, λ some. absurd (omega (arith, some))))))))

pub cuts-preserved-then-sides-eq1 : goal.cuts-preserved-then-sides-eq1
cuts-preserved-then-sides-eq1 g t c =
    let tests = g.Q.PointQuestion.tests c.args.question.now in
    let holds = g.Q.PointQuestion.holds c.args.question.now in
    let fails = g.Q.PointQuestion.fails c.args.question.now in
    let is_step = step tests c.cuts.at c.cuts.part c.cuts.cutter c.cuts.sides c.side_of.result c.cut.result.0 c.cut.result.1 (omega (arith, c.if-sides-eq0.false)) c.side_of.ensures c.cuts.invariant.under_way c.cut.ensures c.cuts.invariant.cut in
    let none : c.cuts.sides - 1 ≡ 0 = omega (arith, c.if-sides-eq1.true) in
    record {
      sides_left = omega arith;
      further = omega (arith, c.cuts.invariant.further);
      cut = last_inside tests c.cuts.at c.cuts.cutter c.cut.result.0 (subst (λ (n : ℕ). IsCutTo tests c.cuts.at c.cuts.cutter n c.cut.result.0) none is_step.in_to) is_step.in_cut;
      under_way = λ some. absurd (omega (arith, some));
      back = λ new h. c.cuts.invariant.back new (both_filled tests holds fails c.cuts.part c.cuts.cutter c.side_of.result c.cut.result.0 c.cut.result.1 c.cuts.cells.items c.fill_from.new.cells.items new c.cut.ensures c.in_ok-fill_from.ensures h);
    }

pub cuts-preserved : goal.cuts-preserved
cuts-preserved g t c =
    let tests = g.Q.PointQuestion.tests c.args.question.now in
    let holds = g.Q.PointQuestion.holds c.args.question.now in
    let fails = g.Q.PointQuestion.fails c.args.question.now in
    let is_step = step tests c.cuts.at c.cuts.part c.cuts.cutter c.cuts.sides c.side_of.result c.cut.result.0 c.cut.result.1 (omega (arith, c.if-sides-eq0.false)) c.side_of.ensures c.cuts.invariant.under_way c.cut.ensures c.cuts.invariant.cut in
    record {
      sides_left = omega (arith, c.cuts.invariant.sides_left);
      further = c.cuts.invariant.further;
      cut = is_step.in_cut;
      under_way = λ some. is_step.in_to;
      back = λ new h. c.cuts.invariant.back new (both_filled tests holds fails c.cuts.part c.cuts.cutter c.side_of.result c.cut.result.0 c.cut.result.1 c.cuts.cells.items c.fill_from.new.cells.items new c.cut.ensures c.in_ok-fill_from.ensures h);
    }

pub cuts-smaller : goal.cuts-smaller
cuts-smaller g t c =
    let falls : 10 * (length (g.Q.PointQuestion.tests c.args.question.now) - c.cuts.at) + rank (c.cuts.sides - 1) < 10 * (length (g.Q.PointQuestion.tests c.args.question.now) - c.cuts.at) + rank c.cuts.sides =
    omega (arith, rank_some c.cuts.sides (omega (arith, c.if-sides-eq0.false)), rank_some (c.cuts.sides - 1) (omega (arith, c.if-sides-eq0.false, c.if-sides-eq1.false))) in
    falls
